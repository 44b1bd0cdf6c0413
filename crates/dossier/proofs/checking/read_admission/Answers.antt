use Rattle.std.proofs.Common.{◌≡◌, ◌≤◌, ◌+◌, [], ◌++◌, map, refl, sym, ap, subst, ◌∙◌, arith, rules, tests, length, Ok}
use Rattle.std.specs.Prelude.{nat_le}
use Rattle.std.specs.List.{list_all}
use Rattle.std.specs.Prelude.{All}
use Rattle.std.proofs.lemmas.Result.{err_from_is_err_and}
use Rattle.cqe_base.specs.Formula.{nodes, is_sentence_of}
use Rattle.cqe_base.specs.History.{answered_query_of, log, known, user_at, is_history_of}
use Rattle.cqe_base.specs.Censor.{guarded, probes_against}
use Rattle.entailment.specs.Logs.{log_nodes}
use Rattle.entailment.specs.GroundSentences.{sentence_of, IsGroundOver}
use Rattle.dossier.specs.Checked.{admission, admitting, item}
use Rattle.dossier.specs.Reading.{field_said}
use Rattle.dossier.specs.Logs.{past_schema, past_user, past_history}
use Rattle.dossier.proofs.ItemLines.{line-missing, line-says, admission-form, admission-untrue}
use Rattle.dossier.proofs.Probing.{admission-probes, admission-reads, admission-refused}
use Rattle.dossier.proofs.checking.read_admission.Goals as goal

-- ---- what the blocks are read with

pub read_each-requires-clause-user : goal.read_each-requires-clause-user
read_each-requires-clause-user c = c.requires.kept.limits.sentences

pub read_each-requires-clause-history : goal.read_each-requires-clause-history
read_each-requires-clause-history c =
    ap (λ es. is_history_of (past_schema c.args.past.now) (map answered_query_of es)) c.as_slice.ensures.value
    ∙ ap (is_history_of (past_schema c.args.past.now)) c.requires.none

pub read_each-requires-clause-view : goal.read_each-requires-clause-view
read_each-requires-clause-view c = (
  c.requires.kept.view.0,
  c.requires.kept.view.1 ∙ sym (ap (λ es. log (past_user c.args.past.now) (map answered_query_of es)) c.as_slice.ensures.value),
)

-- the log is what the user knows, of at most 40,000 nodes
pub read_each-requires-clause-all_nodes : goal.read_each-requires-clause-all_nodes
read_each-requires-clause-all_nodes c =
    let schema = past_schema c.args.past.now in
    let user = past_user c.args.past.now in
    let fits = c.law_limits.ensures.probes schema user c.requires.kept.limits in
    let same : log_nodes schema (log user (map answered_query_of c.as_slice.result.now)) ≡ log_nodes schema (known user) =
    ap (λ es. log_nodes schema (log user (map answered_query_of es))) c.as_slice.ensures.value
    ∙ ap (λ es. log_nodes schema (log user es)) c.requires.none ∙ ap (log_nodes schema) (c.law_logs.ensures.empty user) in
    let small : log_nodes schema (known user) ≤ 40000 = fits.known_nodes in
    omega arith

pub read_each-requires-clause-goals : goal.read_each-requires-clause-goals
read_each-requires-clause-goals c =
    let schema = past_schema c.args.past.now in
    let user = past_user c.args.past.now in
    let fits = c.law_limits.ensures.probes schema user c.requires.kept.limits in
    ap (list_all (is_sentence_of schema))
    (c.sentences.ensures.sentences ∙ c.requires.kept.guarded_now
    ∙ ap (λ es. guarded (user_at user es)) c.requires.none ∙ ap guarded (c.law_added_secrets.ensures.empty user))
    ∙ fits.guarded_sentences

pub read_each-requires-clause-goal_nodes : goal.read_each-requires-clause-goal_nodes
read_each-requires-clause-goal_nodes c =
    let schema = past_schema c.args.past.now in
    let user = past_user c.args.past.now in
    let fits = c.law_limits.ensures.probes schema user c.requires.kept.limits in
    ap (list_all (λ goal. nat_le (nodes schema goal) 40000))
    (c.sentences.ensures.sentences ∙ c.requires.kept.guarded_now
    ∙ ap (λ es. guarded (user_at user es)) c.requires.none ∙ ap guarded (c.law_added_secrets.ensures.empty user))
    ∙ fits.guarded_nodes

pub read_each-requires-clause-grounded_goals : goal.read_each-requires-clause-grounded_goals
read_each-requires-clause-grounded_goals c =
    subst (λ schema. All (IsGroundOver schema) c.sentences.result.now) c.requires.kept.guards_schema c.sentences.ensures.grounded

-- ---- what is read

pub returns-in_err-field-clause-reads : goal.returns-in_err-field-clause-reads
returns-in_err-field-clause-reads c name =
    let p = err_from_is_err_and c.from_residual.result c.from_residual.ensures.1 in
    rw (p.1, p.2)
    (line-missing (past_schema c.args.past.now) c.args.world.now name (past_user c.args.past.now) {X = Unit {0}} admission c.args.lines.now c.take_line.new.self
    (λ _. Ok (item [])) _ refl c.in_err-field.ensures.takes)

pub returns-then-not-is_alone-clause-reads : goal.returns-then-not-is_alone-clause-reads
returns-then-not-is_alone-clause-reads c name =
    line-says (past_schema c.args.past.now) c.args.world.now name (past_user c.args.past.now) admission c.args.lines.now c.take_line.new.self
    c.in_ok-field.field _ c.in_ok-field.ensures.takes
    (admission-form (past_schema c.args.past.now) c.args.world.now name (past_user c.args.past.now) (field_said c.in_ok-field.field)
    (search (rules, tests)))

-- what he knows isn't true
pub returns-then-not-knows_truth_by-clause-reads : goal.returns-then-not-knows_truth_by-clause-reads
returns-then-not-knows_truth_by-clause-reads c name =
    line-says (past_schema c.args.past.now) c.args.world.now name (past_user c.args.past.now) admission c.args.lines.now c.take_line.new.self
    c.in_ok-field.field _ c.in_ok-field.ensures.takes
    (admission-untrue (past_schema c.args.past.now) c.args.world.now name (past_user c.args.past.now) (field_said c.in_ok-field.field)
    (search (rules, tests)) (search (rules, tests)))

pub returns-in_err-read_each-clause-reads : goal.returns-in_err-read_each-clause-reads
returns-in_err-read_each-clause-reads c name =
    let p = err_from_is_err_and c.from_residual-in_err-read_each.result c.from_residual-in_err-read_each.ensures.1 in
    let schema = past_schema c.args.past.now in
    let user = past_user c.args.past.now in
    let told = map answered_query_of c.as_slice.result.now in
    let same : told ≡ past_history c.args.past.now = ap (map answered_query_of) c.as_slice.ensures.value in
    let are = c.sentences.ensures.sentences ∙ c.requires.kept.guarded_now ∙ ap (λ es. guarded (user_at user es)) (sym same) in
    rw (p.1, p.2)
    (admission-refused schema c.args.world.now name user c.args.lines.now c.take_line.new.self c.read_each.new.lines c.in_ok-field.field
    c.in_ok-field.ensures.takes (search (rules, tests)) (search (rules, tests)) (length c.sentences.result.now)
    (probes_against (log user told ++ []) (map sentence_of c.sentences.result.now) ++ [])
    (admission-probes c.law_logs.ensures.empty c.law_added_secrets.ensures.empty user told (map sentence_of c.sentences.result.now)
    (same ∙ c.requires.none) are) _
    (c.in_err-read_each.ensures.reads c.args.world.now name user [] admitting [] [] refl))

pub returns-clause-reads : goal.returns-clause-reads
returns-clause-reads c name =
    let schema = past_schema c.args.past.now in
    let user = past_user c.args.past.now in
    let told = map answered_query_of c.as_slice.result.now in
    let same : told ≡ past_history c.args.past.now = ap (map answered_query_of) c.as_slice.ensures.value in
    let are = c.sentences.ensures.sentences ∙ c.requires.kept.guarded_now ∙ ap (λ es. guarded (user_at user es)) (sym same) in
    admission-reads schema c.args.world.now name user c.args.lines.now c.take_line.new.self c.read_each.new.lines c.in_ok-field.field
    c.in_ok-field.ensures.takes (search (rules, tests)) (search (rules, tests)) (length c.sentences.result.now)
    (probes_against (log user told ++ []) (map sentence_of c.sentences.result.now) ++ [])
    (admission-probes c.law_logs.ensures.empty c.law_added_secrets.ensures.empty user told (map sentence_of c.sentences.result.now)
    (same ∙ c.requires.none) are) _
    (c.in_ok-read_each.ensures.reads c.args.world.now name user [] admitting [] [] refl)

-- the view is as it was
pub returns-in_err-read_each-clause-kept : goal.returns-in_err-read_each-clause-kept
returns-in_err-read_each-clause-kept c = rw c.read_each.ensures.same c.requires.kept

pub returns-clause-kept : goal.returns-clause-kept
returns-clause-kept c = rw c.read_each.ensures.same c.requires.kept
