use Rattle.cqe_top.proofs.Takeovers.{standbys_keep}
use Rattle.cqe_top.proofs.laws.law_standbys_keep.Goals as goal

pub returns : goal.returns
returns g c = λ files policy world header.
    standbys_keep g.F.Shelf g.F.D.Disk g.S.Source g.K.Sink g.E.Sink g.L.Links files policy world header g.met.F.D.Disk.only_now
