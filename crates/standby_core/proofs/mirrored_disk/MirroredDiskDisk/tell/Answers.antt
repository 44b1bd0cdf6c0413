use Rattle.std.proofs.Common.{◌+◌, sym, ap, subst, ◌∙◌}
use Rattle.outside.specs.Disk.{Elapses}
use Rattle.outside.specs.Faults.{HasCause}
use Rattle.outside.proofs.Moments.{elapses_none}
use Rattle.standby_core.specs.MirroredDisks.{inner_of, mirror_of, faults_by, origin_with}
use Rattle.standby_core.proofs.Causes.{cause_behind}
use Rattle.standby_core.proofs.mirrored_disk.MirroredDiskDisk.tell.Goals as goal

pub returns-clause-time : goal.returns-clause-time
returns-clause-time g c =
    let disk = inner_of c.args.self.now in
    subst (λ d. Elapses (g.D.Disk.moment disk) (g.D.Disk.moment d) (g.D.Disk.image_since disk) (g.D.Disk.image_since d)) (sym c.ask.ensures.inner)
    (elapses_none (g.D.Disk.moment disk) (g.D.Disk.image_since disk) (g.D.Disk.image disk)
    (λ t d le is. g.met.D.Disk.counts_now disk t d le is) (λ d is. g.met.D.Disk.only_now disk d is))

pub returns-clause-moments : goal.returns-clause-moments
returns-clause-moments g c d is =
    let disk = inner_of c.args.self.now in
    g.met.D.Disk.only_now disk d (subst (λ e. g.D.Disk.image_since e (g.D.Disk.moment disk) d) c.ask.ensures.inner is)

pub returns-clause-cause : goal.returns-clause-cause
returns-clause-cause g c =
    let disk = inner_of c.args.self.now in
    let before = faults_by g.C.Dial.faults (mirror_of c.args.self.now) in
    let now = faults_by g.C.Dial.faults (mirror_of c.ask.new.self) in
    subst (λ d. HasCause (g.D.Disk.faults disk + before) (g.D.Disk.faults d + now) c.ask.result) (sym c.ask.ensures.inner)
    (cause_behind (g.D.Disk.faults disk) before now c.ask.result c.ask.ensures.cause)

pub returns-clause-origin : goal.returns-clause-origin
returns-clause-origin g c =
    c.ask.ensures.origin (g.D.Disk.origin (inner_of c.ask.new.self))
    ∙ ap (λ d. origin_with g.C.Dial.name g.C.Dial.address (mirror_of c.args.self.now) (g.D.Disk.origin d)) c.ask.ensures.inner
