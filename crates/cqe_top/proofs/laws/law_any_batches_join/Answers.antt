use Rattle.cqe_top.proofs.Calls.{any_batches_join}
use Rattle.cqe_top.proofs.laws.law_any_batches_join.Goals as goal

pub returns : goal.returns
returns g c = λ directory policy world header user. any_batches_join g.F.Shelf g.F.D.Disk directory policy world header user
