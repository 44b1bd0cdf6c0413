use Rattle.std.proofs.Common.{[], refl, sym, subst, ◌∙◌}
use Rattle.std.specs.Prelude.{string_bytes, OnOk}
use Rattle.cqe_base.specs.Formula.{formula_of}
use Rattle.dossier.specs.Logs.{past_schema, past_user, past_history}
use Rattle.dossier.specs.Written.{AreBlocks, item_probes}
use Rattle.dossier.specs.Adding.{Grows}
use Rattle.dossier.proofs.Pushed.{grows-none}
use Rattle.dossier.proofs.Sayings.{undecided-is, decided-is, asked-probes}
use Rattle.dossier.proofs.writing.push_probes.Goals as goal

-- an undecided ask shows nothing
pub returns-then-is_undecided-clause-blocks : goal.returns-then-is_undecided-clause-blocks
returns-then-is_undecided-clause-blocks c =
    let past = c.args.past.now in
    let mark = undecided-is c.args.mark (sym c.is_undecided.ensures ∙ c.if-is_undecided.true) in
    grows-none (AreBlocks (past_schema past)
    (item_probes (past_schema past) (past_user past) (past_history past) c.args.mark (formula_of c.args.query))) (string_bytes c.args.text.now)
    (subst (λ m. AreBlocks (past_schema past) (item_probes (past_schema past) (past_user past) (past_history past) m (formula_of c.args.query)) [])
    (sym mark) refl)

pub push_query-requires-clause-unspent : goal.push_query-requires-clause-unspent
push_query-requires-clause-unspent c = c.requires.unspent (decided-is c.args.mark (sym c.is_undecided.ensures ∙ c.if-is_undecided.false))

pub returns-clause-blocks : goal.returns-clause-blocks
returns-clause-blocks c =
    let past = c.args.past.now in
    subst (λ ps. OnOk c.push_query.result (Grows (AreBlocks (past_schema past) ps) (string_bytes c.args.text.now) (string_bytes c.push_query.new.text)))
    (sym (asked-probes (past_schema past) (past_user past) (past_history past) c.args.mark (formula_of c.args.query) c.requires.asked
    (decided-is c.args.mark (sym c.is_undecided.ensures ∙ c.if-is_undecided.false)))) c.push_query.ensures.blocks
