use Rattle.std.proofs.Common.{sym, ap, ◌∙◌}
use Rattle.cqe_base.specs.Formula.{formula_of}
use Rattle.user_desk.specs.Causes.{is_beyond}
use Rattle.dossier.specs.Logs.{past_schema, past_user, past_history}
use Rattle.dossier.proofs.Asks.{full-beyond, large-beyond, secret-beyond}
use Rattle.dossier.proofs.past.Past.is_beyond.Goals as goal

pub returns-then-is_full : goal.returns-then-is_full
returns-then-is_full c =
    let self = c.args.self.now in
    sym (full-beyond (past_schema self) (past_user self) (past_history self) c.args.purpose c.args.length (formula_of c.args.sentence.now)
    (sym c.is_full.ensures ∙ c.if-is_full.true))

pub returns-in-Asking : goal.returns-in-Asking
returns-in-Asking c =
    let self = c.args.self.now in
    let query = formula_of c.args.sentence.now in
    c.is_too_large.ensures
    ∙ sym (large-beyond (past_schema self) (past_user self) (past_history self) c.args.length query (sym c.is_full.ensures ∙ c.if-is_full.false))
    ∙ ap (λ p. is_beyond (past_schema self) (past_user self) (past_history self) p c.args.length query) (sym c.in-Asking.is)

pub returns-in-Protecting : goal.returns-in-Protecting
returns-in-Protecting c =
    let self = c.args.self.now in
    let query = formula_of c.args.sentence.now in
    c.has_no_room.ensures
    ∙ sym (secret-beyond (past_schema self) (past_user self) (past_history self) c.args.length query (sym c.is_full.ensures ∙ c.if-is_full.false))
    ∙ ap (λ p. is_beyond (past_schema self) (past_user self) (past_history self) p c.args.length query) (sym c.in-Protecting.is)
