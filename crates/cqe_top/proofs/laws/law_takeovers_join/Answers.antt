use Rattle.cqe_top.proofs.Calls.{any_calls_join}
use Rattle.cqe_top.proofs.Takeovers.{takeovers_join}
use Rattle.cqe_top.proofs.laws.law_takeovers_join.Goals as goal

pub returns : goal.returns
returns g c = λ files policy world header.
    takeovers_join g.F.Shelf g.F.D.Disk g.S.Source g.K.Sink g.E.Sink g.L.Links files policy world header g.met.F.D.Disk.only_now
    (any_calls_join g.F.Shelf g.F.D.Disk g.S.Source g.K.Sink g.E.Sink g.L.Links files policy world header g.met.F.D.Disk.only_now)
