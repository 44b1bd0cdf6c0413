use Rattle.std.proofs.Common.{ap, sym, subst, ◌∙◌}
use Rattle.user_desk.specs.Desks.{desk_standing}
use Rattle.audit_engine.specs.Printed.{end_of, EndsBy}
use Rattle.audit_engine.proofs.Telling.{done_served, ends_by}
use Rattle.audit_engine.proofs.print.print_desk.Goals as goal

pub returns-in-Ok-clause-served : goal.returns-in-Ok-clause-served
returns-in-Ok-clause-served g c = λ is.
    done_served (desk_standing c.args.desk.now) (ap end_of (sym c.standing.ensures) ∙ sym c.end_of.ensures ∙ is)

pub returns-in-Ok-clause-ends_by : goal.returns-in-Ok-clause-ends_by
returns-in-Ok-clause-ends_by g c =
    subst (EndsBy (desk_standing c.args.desk.now)) (ap end_of (sym c.standing.ensures) ∙ sym c.end_of.ensures)
    (ends_by (desk_standing c.args.desk.now))
