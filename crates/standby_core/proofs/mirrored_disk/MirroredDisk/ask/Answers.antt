use Rattle.std.proofs.Common.{Some, sym, subst}
use Rattle.outside.specs.Disk.{HearsAtMost}
use Rattle.standby_core.specs.MirroredDisks.{heard_by}
use Rattle.standby_core.proofs.mirrored_disk.MirroredDisk.ask.Goals as goal

pub returns-in-Some-clause-heard : goal.returns-in-Some-clause-heard
returns-in-Some-clause-heard g c =
    subst (λ m. HearsAtMost c.args.number (c.args.kind, c.args.text.now) (heard_by g.C.Dial.tells g.C.Dial.exchanged m)
    (heard_by g.C.Dial.tells g.C.Dial.exchanged (Some c.tell.new.self))) (sym c.in-Some.is) c.tell.ensures.heard
