use Rattle.cqe_top.specs.Scene.{input_of, output_of, links_of}
use Rattle.cqe_top.proofs.Lives.{calls_are_parts}
use Rattle.cqe_top.proofs.laws.law_calls_are_parts.Goals as goal

pub returns : goal.returns
returns g c = λ call.
    calls_are_parts g.F.Shelf g.F.D.Disk call.shelf call.shelf' (input_of g.S.Source call.source call.source')
    (output_of g.K.Sink call.sink call.sink') (links_of g.L.Links call.links call.links') (output_of g.E.Sink call.complaints call.complaints')
    g.met.F.D.Disk.only_now
