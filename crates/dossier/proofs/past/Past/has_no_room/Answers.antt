use Rattle.std.proofs.Common.{sym, ap, ◌∙◌}
use Rattle.std.specs.Prelude.{◌||◌}
use Rattle.std.proofs.lemmas.Bool.{or_left}
use Rattle.cqe_base.specs.Formula.{formula_of}
use Rattle.cqe_base.specs.Run.{is_too_large_secret, has_all_secrets}
use Rattle.dossier.specs.Logs.{past_schema, past_user, past_history}
use Rattle.dossier.proofs.past.Past.has_no_room.Goals as goal

pub returns-then-is_too_large_secret : goal.returns-then-is_too_large_secret
returns-then-is_too_large_secret c =
    let self = c.args.self.now in
    c.if-is_too_large_secret.true
    ∙ sym (or_left (is_too_large_secret (past_schema self) (past_user self) (past_history self) (formula_of c.args.secret.now)) _
    (sym c.is_too_large_secret.ensures ∙ c.if-is_too_large_secret.true))

pub returns-else-is_too_large_secret : goal.returns-else-is_too_large_secret
returns-else-is_too_large_secret c =
    let self = c.args.self.now in
    c.has_all_secrets.ensures
    ∙ ap (λ b. b || has_all_secrets (past_user self) (past_history self)) (sym (sym c.is_too_large_secret.ensures ∙ c.if-is_too_large_secret.false))
