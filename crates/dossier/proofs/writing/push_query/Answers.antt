use Rattle.std.proofs.Common.{◌≡◌, ◌≤◌, true, sym, subst, arith}
use Rattle.std.specs.Prelude.{string_bytes}
use Rattle.cqe_base.specs.Formula.{formula_of, nodes, is_sentence_of}
use Rattle.cqe_base.specs.History.{log, user_at}
use Rattle.cqe_base.specs.Censor.{probes}
use Rattle.cqe_base.specs.Limits.{FitsLog}
use Rattle.dossier.specs.Logs.{past_schema, past_user, past_history}
use Rattle.dossier.specs.Written.{AreBlocks}
use Rattle.dossier.specs.Adding.{AreUnspent, Grows}
use Rattle.dossier.proofs.writing.push_query.Goals as goal

pub new-requires-clause-small : goal.new-requires-clause-small
new-requires-clause-small c = let small : nodes (past_schema c.args.past.now) (formula_of c.args.query) ≤ 20000 = c.requires.fits.query_nodes in omega arith

pub push_parts-requires-clause-sentence : goal.push_parts-requires-clause-sentence
push_parts-requires-clause-sentence c =
    subst (λ s. is_sentence_of (past_schema c.args.past.now) (formula_of s) ≡ true) (sym c.in_ok-ground.ensures.same) c.requires.sentence

pub push_parts-requires-clause-fits : goal.push_parts-requires-clause-fits
push_parts-requires-clause-fits c =
    let past = c.args.past.now in
    subst (λ s. FitsLog (past_schema past) (past_user past) (past_history past) (formula_of s)) (sym c.in_ok-ground.ensures.same) c.requires.fits

pub push_parts-requires-clause-budget : goal.push_parts-requires-clause-budget
push_parts-requires-clause-budget c = c.requires.kept.limits.budget

pub push_parts-requires-clause-unspent : goal.push_parts-requires-clause-unspent
push_parts-requires-clause-unspent c =
    let past = c.args.past.now in
    subst (λ s. AreUnspent (past_schema past) (past_user past).budget
    (probes (user_at (past_user past) (past_history past)) (log (past_user past) (past_history past)) (formula_of s)))
    (sym c.in_ok-ground.ensures.same) c.requires.unspent

pub returns-clause-blocks : goal.returns-clause-blocks
returns-clause-blocks c =
    let past = c.args.past.now in
    subst (λ s. Grows (AreBlocks (past_schema past)
    (probes (user_at (past_user past) (past_history past)) (log (past_user past) (past_history past)) (formula_of s)))
    (string_bytes c.args.text.now) (string_bytes c.push_parts.new.text)) c.in_ok-ground.ensures.same c.in_ok-push_parts.ensures.blocks
