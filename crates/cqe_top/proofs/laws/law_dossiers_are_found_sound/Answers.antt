use Rattle.cqe_top.specs.Around.{scene_around, complaints_around}
use Rattle.cqe_top.proofs.Dossiers.{written_is_found}
use Rattle.cqe_top.proofs.laws.law_dossiers_are_found_sound.Goals as goal

pub returns : goal.returns
returns g c = λ first second.
    written_is_found (scene_around g.F.Shelf g.F.D.Disk g.S.Source g.K.Sink g.E.Sink g.L.Links first)
    (complaints_around g.F.Shelf g.F.D.Disk g.S.Source g.K.Sink g.E.Sink g.L.Links first)
    (scene_around g.F.Shelf g.F.D.Disk g.S.Source g.K.Sink g.E.Sink g.L.Links second)
    (complaints_around g.F.Shelf g.F.D.Disk g.S.Source g.K.Sink g.E.Sink g.L.Links second)
