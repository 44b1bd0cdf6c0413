use Rattle.std.proofs.Common.{refl, sym, ap, subst}
use Rattle.desk_crew.specs.Crew.{journal_seated}
use Rattle.desk_crew.specs.Side.{IsShut}
use Rattle.desk_crew.proofs.opening.shut.Goals as goal

pub returns-in-Ok-clause-journal : goal.returns-in-Ok-clause-journal
returns-in-Ok-clause-journal g c = ap journal_seated (sym c.in-Ok.is)

pub returns-in-Ok-clause-shut : goal.returns-in-Ok-clause-shut
returns-in-Ok-clause-shut g c = subst (λ p. IsShut g.D.Disk p c.close_desk-disk.result.0) (sym c.in-Ok.is) c.close_desk-disk.ensures.closed

pub returns-in-Err-clause-journal : goal.returns-in-Err-clause-journal
returns-in-Err-clause-journal g c = ap journal_seated (sym c.in-Err.is)

pub returns-in-Err-clause-shut : goal.returns-in-Err-clause-shut
returns-in-Err-clause-shut g c = subst (λ p. IsShut g.D.Disk p c.in-Err.closed.disk) (sym c.in-Err.is) refl
