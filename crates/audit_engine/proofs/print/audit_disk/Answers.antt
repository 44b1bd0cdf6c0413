use Rattle.std.proofs.Common.{string_bytes, sym, subst}
use Rattle.outside.specs.Disk.{Only}
use Rattle.outside.specs.Faults.{Rose}
use Rattle.cqe_base.specs.History.{profile_of}
use Rattle.log_journal.specs.Opening.{header_bytes}
use Rattle.user_desk.specs.Desks.{desk_standing, desk_history, desk_disk}
use Rattle.user_desk.specs.Causes.{IsStanding}
use Rattle.audit_engine.proofs.Telling.{ends_so, judges_so, disk_refused}
use Rattle.audit_engine.proofs.print.audit_disk.Goals as goal

pub returns-in-Ok-open_desk-clause-ends : goal.returns-in-Ok-open_desk-clause-ends
returns-in-Ok-open_desk-clause-ends g c = λ told sink_told.
    let registry = c.args.registry.now in
    let desk = c.in-Ok-open_desk.desk in
    ends_so registry.schema.now registry.world.now registry.header.now (string_bytes c.args.user.now.name) (profile_of c.args.user.now)
    (g.D.Disk.reads c.args.disk) (g.D.Disk.faults c.args.disk) (g.D.Disk.faults c.close.result)
    c.law_openings.ensures.decided c.law_openings.ensures.unrefused g.D.Disk.tells told (desk_history desk) c.args.json (g.K.Sink.written c.args.sink.now)
    (g.K.Sink.written c.print_desk-end.new.sink)
    c.print_desk-end.result (desk_standing desk)
    (subst (λ d. IsStanding registry.schema.now registry.world.now (profile_of c.args.user.now) g.D.Disk.tells (header_bytes registry.header.now)
    (g.D.Disk.reads c.args.disk) (desk_history desk)
    (g.D.Disk.faults c.args.disk) (g.D.Disk.faults d) (desk_standing desk)) (sym c.close.ensures) c.in-Ok-open_desk.ensures.standing)
    (c.print_desk-end.ensures.printed sink_told)

pub returns-in-Ok-open_desk-clause-judged : goal.returns-in-Ok-open_desk-clause-judged
returns-in-Ok-open_desk-clause-judged g c = λ told.
    let registry = c.args.registry.now in
    let desk = c.in-Ok-open_desk.desk in
    judges_so registry.schema.now registry.world.now registry.header.now (string_bytes c.args.user.now.name) (profile_of c.args.user.now)
    (g.D.Disk.reads c.args.disk) (g.D.Disk.faults c.args.disk) (g.D.Disk.faults c.close.result)
    c.law_openings.ensures.decided c.law_openings.ensures.unrefused g.D.Disk.tells told (desk_history desk) c.print_desk-end.result (desk_standing desk)
    (subst (λ d. IsStanding registry.schema.now registry.world.now (profile_of c.args.user.now) g.D.Disk.tells (header_bytes registry.header.now)
    (g.D.Disk.reads c.args.disk) (desk_history desk)
    (g.D.Disk.faults c.args.disk) (g.D.Disk.faults d) (desk_standing desk)) (sym c.close.ensures) c.in-Ok-open_desk.ensures.standing)
    c.print_desk-end.ensures.ends_by

pub returns-in-Ok-open_desk-clause-moments : goal.returns-in-Ok-open_desk-clause-moments
returns-in-Ok-open_desk-clause-moments g c c' here =
    c.in-Ok-open_desk.ensures.moments c' (subst (λ d. g.D.Disk.image_since d (g.D.Disk.moment c.args.disk) c') c.close.ensures here)

pub returns-in_default-clause-moments : goal.returns-in_default-clause-moments
returns-in_default-clause-moments g c c' here = g.met.D.Disk.only_now c.args.disk c' here

pub returns-in-Ok-open_desk-clause-durable : goal.returns-in-Ok-open_desk-clause-durable
returns-in-Ok-open_desk-clause-durable g c = λ done.
    subst (λ d. Only (g.D.Disk.reads c.args.disk) (g.D.Disk.image d)) (sym c.close.ensures)
    (c.in-Ok-open_desk.ensures.durable (c.print_desk-end.ensures.served done))

pub returns-in-Ok-open_desk-clause-journal_cause : goal.returns-in-Ok-open_desk-clause-journal_cause
returns-in-Ok-open_desk-clause-journal_cause g c = λ is.
    let registry = c.args.registry.now in
    let desk = c.in-Ok-open_desk.desk in
    subst (λ d. Rose (g.D.Disk.faults c.args.disk) (g.D.Disk.faults d)) (sym c.close.ensures)
    (disk_refused registry.schema.now registry.world.now (profile_of c.args.user.now) g.D.Disk.tells (header_bytes registry.header.now)
    (g.D.Disk.reads c.args.disk) (g.D.Disk.faults c.args.disk) (g.D.Disk.faults (desk_disk desk)) (desk_history desk) (desk_standing desk)
    c.print_desk-end.result c.in-Ok-open_desk.ensures.standing c.print_desk-end.ensures.ends_by is)
