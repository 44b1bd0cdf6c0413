use Rattle.std.proofs.Common.{string_bytes, sym, ◌∙◌}
use Rattle.cqe_base.specs.History.{profile_of}
use Rattle.user_desk.specs.Desks.{desk_history, desk_standing}
use Rattle.audit_print.proofs.Auditing.{of_closed, of_sealed}
use Rattle.audit_print.proofs.report.report_on.Goals as goal

pub returns-in-Closed : goal.returns-in-Closed
returns-in-Closed g c =
    of_closed c.args.schema.now (string_bytes c.args.user.now.name) (profile_of c.args.user.now) (desk_standing c.args.desk.now)
    (desk_history c.args.desk.now) _ _ (sym c.standing.ensures ∙ c.in-Closed.is) c.refused.ensures

pub returns-in-Sealed : goal.returns-in-Sealed
returns-in-Sealed g c =
    of_sealed c.args.schema.now (string_bytes c.args.user.now.name) (profile_of c.args.user.now) (desk_standing c.args.desk.now)
    (desk_history c.args.desk.now) _ _ (sym c.standing.ensures ∙ c.in-Sealed.is) c.refused-in-Sealed.ensures
