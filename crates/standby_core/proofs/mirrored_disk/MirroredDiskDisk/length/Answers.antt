use Rattle.std.proofs.Common.{ap}
use Rattle.standby_core.specs.MirroredDisks.{inner_of, mirror_of, faults_by, origin_with}
use Rattle.standby_core.proofs.Causes.{cause_beside}
use Rattle.standby_core.proofs.mirrored_disk.MirroredDiskDisk.length.Goals as goal

pub returns-clause-cause : goal.returns-clause-cause
returns-clause-cause g c =
    cause_beside (g.D.Disk.faults (inner_of c.args.self.now)) (g.D.Disk.faults c.length.new.self) (faults_by g.C.Dial.faults (mirror_of c.args.self.now))
    c.length.result c.length.ensures.cause

pub returns-clause-origin : goal.returns-clause-origin
returns-clause-origin g c = ap (origin_with g.C.Dial.name g.C.Dial.address (mirror_of c.args.self.now)) c.length.ensures.origin
