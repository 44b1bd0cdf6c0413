use Rattle.std.proofs.Common.{◌≡◌, ◌≤◌, ◌+◌, ◌&&◌, [], ◌∷◌, ◌++◌, true, false, sym, ap, subst, arith}
use Rattle.std.specs.Prelude.{string_bytes}
use Rattle.cqe_base.specs.Formula.{nodes}
use Rattle.cqe_base.specs.Entailment.{are_sentences_of}
use Rattle.cqe_base.specs.History.{log, user_at, signed_nodes}
use Rattle.cqe_base.specs.Censor.{guarded, probes_against}
use Rattle.entailment.specs.Logs.{log_nodes, sentence_nodes}
use Rattle.entailment.specs.GroundSentences.{sentence_of, IsGroundOver}
use Rattle.dossier.specs.Logs.{past_schema, past_user, past_history}
use Rattle.dossier.specs.Items.{implied_probes}
use Rattle.dossier.specs.Written.{AreBlocks}
use Rattle.dossier.specs.Adding.{AreUnspent, Grows}
use Rattle.dossier.proofs.Pushed.{grows-then, blocks-append, unspent-append, query-parts}
use Rattle.dossier.proofs.SamePasts.{same-then, at-same, at-old}
use Rattle.dossier.proofs.writing.push_parts.Goals as goal

-- ---- what the blocks are written with

pub push_implied-requires-clause-unspent : goal.push_implied-requires-clause-unspent
push_implied-requires-clause-unspent c =
    let past = c.args.past.now in
    let told = log (past_user past) (past_history past) in
    let goals = guarded (user_at (past_user past) (past_history past)) in
    let query = sentence_of c.args.query.now in
    let all = subst (AreUnspent (past_schema past) c.args.budget) (query-parts (past_user past).method goals told query) c.requires.unspent in
    (unspent-append (past_schema past) c.args.budget (implied_probes (past_user past).method told query)
    (probes_against (told ++ (query, true) ∷ []) goals ++ probes_against (told ++ (query, false) ∷ []) goals) all).0

pub push_each-requires-clause-premise : goal.push_each-requires-clause-premise
push_each-requires-clause-premise c =
    let query = sentence_of c.args.query.now in
    at-same (λ s u h. are_sentences_of s ((query, true) ∷ []) ≡ true) c.args.past.now c.push_implied.new.past c.push_implied.ensures.same
    (ap (λ b. b && true) c.requires.sentence)

pub push_each-requires-clause-grounded : goal.push_each-requires-clause-grounded
push_each-requires-clause-grounded c =
    at-same (λ s u h. IsGroundOver s c.args.query.now) c.args.past.now c.push_implied.new.past c.push_implied.ensures.same c.requires.grounded

pub push_each-requires-clause-room : goal.push_each-requires-clause-room
push_each-requires-clause-room c =
    let past = c.args.past.now in
    let schema = past_schema past in
    let query = sentence_of c.args.query.now in
    let one : sentence_nodes schema ((query, true) ∷ []) ≡ nodes schema query = omega arith in
    let small : log_nodes schema (log (past_user past) (past_history past)) + signed_nodes schema query true ≤ 60000 = c.requires.fits.log_nodes true in
    at-same (λ s u h. log_nodes s (log u h) + sentence_nodes s ((query, true) ∷ []) ≤ 60000) past c.push_implied.new.past c.push_implied.ensures.same
    (omega (arith, one, small))

pub push_each-requires-clause-unspent : goal.push_each-requires-clause-unspent
push_each-requires-clause-unspent c =
    let past = c.args.past.now in
    let told = log (past_user past) (past_history past) in
    let goals = guarded (user_at (past_user past) (past_history past)) in
    let query = sentence_of c.args.query.now in
    let all = subst (AreUnspent (past_schema past) c.args.budget) (query-parts (past_user past).method goals told query) c.requires.unspent in
    let others = (unspent-append (past_schema past) c.args.budget (implied_probes (past_user past).method told query)
    (probes_against (told ++ (query, true) ∷ []) goals ++ probes_against (told ++ (query, false) ∷ []) goals) all).1 in
    at-same (λ s u h. AreUnspent s c.args.budget (probes_against (log u h ++ (query, true) ∷ []) (guarded (user_at u h))))
    past c.push_implied.new.past c.push_implied.ensures.same
    (unspent-append (past_schema past) c.args.budget (probes_against (told ++ (query, true) ∷ []) goals)
    (probes_against (told ++ (query, false) ∷ []) goals) others).0

pub push_each-requires-2-clause-premise : goal.push_each-requires-2-clause-premise
push_each-requires-2-clause-premise c =
    let query = sentence_of c.args.query.now in
    at-same (λ s u h. are_sentences_of s ((query, false) ∷ []) ≡ true) c.args.past.now c.push_each.new.past
    (same-then c.args.past.now c.push_implied.new.past c.push_each.new.past c.push_implied.ensures.same c.push_each.ensures.same)
    (ap (λ b. b && true) c.requires.sentence)

pub push_each-requires-2-clause-grounded : goal.push_each-requires-2-clause-grounded
push_each-requires-2-clause-grounded c =
    at-same (λ s u h. IsGroundOver s c.args.query.now) c.args.past.now c.push_each.new.past
    (same-then c.args.past.now c.push_implied.new.past c.push_each.new.past c.push_implied.ensures.same c.push_each.ensures.same)
    c.requires.grounded

pub push_each-requires-2-clause-room : goal.push_each-requires-2-clause-room
push_each-requires-2-clause-room c =
    let past = c.args.past.now in
    let schema = past_schema past in
    let query = sentence_of c.args.query.now in
    let one : sentence_nodes schema ((query, false) ∷ []) ≡ nodes schema query = omega arith in
    let small : log_nodes schema (log (past_user past) (past_history past)) + signed_nodes schema query true ≤ 60000 = c.requires.fits.log_nodes true in
    at-same (λ s u h. log_nodes s (log u h) + sentence_nodes s ((query, false) ∷ []) ≤ 60000) past c.push_each.new.past
    (same-then c.args.past.now c.push_implied.new.past c.push_each.new.past c.push_implied.ensures.same c.push_each.ensures.same)
    (omega (arith, one, small))

pub push_each-requires-2-clause-unspent : goal.push_each-requires-2-clause-unspent
push_each-requires-2-clause-unspent c =
    let past = c.args.past.now in
    let told = log (past_user past) (past_history past) in
    let goals = guarded (user_at (past_user past) (past_history past)) in
    let query = sentence_of c.args.query.now in
    let all = subst (AreUnspent (past_schema past) c.args.budget) (query-parts (past_user past).method goals told query) c.requires.unspent in
    let others = (unspent-append (past_schema past) c.args.budget (implied_probes (past_user past).method told query)
    (probes_against (told ++ (query, true) ∷ []) goals ++ probes_against (told ++ (query, false) ∷ []) goals) all).1 in
    at-same (λ s u h. AreUnspent s c.args.budget (probes_against (log u h ++ (query, false) ∷ []) (guarded (user_at u h))))
    past c.push_each.new.past
    (same-then c.args.past.now c.push_implied.new.past c.push_each.new.past c.push_implied.ensures.same c.push_each.ensures.same)
    (unspent-append (past_schema past) c.args.budget (probes_against (told ++ (query, true) ∷ []) goals)
    (probes_against (told ++ (query, false) ∷ []) goals) others).1

-- ---- what is written

pub returns-clause-blocks : goal.returns-clause-blocks
returns-clause-blocks c =
    let past = c.args.past.now in
    let schema = past_schema past in
    let told = log (past_user past) (past_history past) in
    let goals = guarded (user_at (past_user past) (past_history past)) in
    let query = sentence_of c.args.query.now in
    let implied = implied_probes (past_user past).method told query in
    let asserted = probes_against (told ++ (query, true) ∷ []) goals in
    let negated = probes_against (told ++ (query, false) ∷ []) goals in
    let start = string_bytes c.args.text.now in
    let one = string_bytes c.push_implied.new.text in
    let two = string_bytes c.push_each.new.text in
    let end = string_bytes c.push_each-2.new.text in
    let second : Grows (AreBlocks schema asserted) one two =
    at-old (λ s u h. Grows (AreBlocks s (probes_against (log u h ++ (query, true) ∷ []) (guarded (user_at u h)))) one two)
    past c.push_implied.new.past c.push_implied.ensures.same c.in_ok-push_each.ensures.blocks in
    let third : Grows (AreBlocks schema negated) two end =
    at-old (λ s u h. Grows (AreBlocks s (probes_against (log u h ++ (query, false) ∷ []) (guarded (user_at u h)))) two end)
    past c.push_each.new.past
    (same-then c.args.past.now c.push_implied.new.past c.push_each.new.past c.push_implied.ensures.same c.push_each.ensures.same)
    c.in_ok-push_each-2.ensures.blocks in
    subst (λ ps. Grows (AreBlocks schema ps) start end) (sym (query-parts (past_user past).method goals told query))
    (grows-then (AreBlocks schema implied) (AreBlocks schema (asserted ++ negated)) (AreBlocks schema (implied ++ (asserted ++ negated))) start one end
    c.in_ok-push_implied.ensures.blocks
    (grows-then (AreBlocks schema asserted) (AreBlocks schema negated) (AreBlocks schema (asserted ++ negated)) one two end second third
    (blocks-append schema asserted negated))
    (blocks-append schema implied (asserted ++ negated)))

-- ---- the items are as they were

pub returns-in_err-push_each-clause-same : goal.returns-in_err-push_each-clause-same
returns-in_err-push_each-clause-same c =
    same-then c.args.past.now c.push_implied.new.past c.push_each.new.past c.push_implied.ensures.same c.push_each.ensures.same

pub returns-in_err-push_each-2-clause-same : goal.returns-in_err-push_each-2-clause-same
returns-in_err-push_each-2-clause-same c =
    same-then c.args.past.now c.push_each.new.past c.push_each-2.new.past
    (same-then c.args.past.now c.push_implied.new.past c.push_each.new.past c.push_implied.ensures.same c.push_each.ensures.same)
    c.push_each-2.ensures.same

pub returns-clause-same : goal.returns-clause-same
returns-clause-same c =
    same-then c.args.past.now c.push_each.new.past c.push_each-2.new.past
    (same-then c.args.past.now c.push_implied.new.past c.push_each.new.past c.push_implied.ensures.same c.push_each.ensures.same)
    c.push_each-2.ensures.same
