use Rattle.std.proofs.Common.{map, string_bytes, sym, subst}
use Rattle.outside.specs.Disk.{Only}
use Rattle.cqe_base.specs.History.{profile_of}
use Rattle.log_journal.specs.Opening.{header_bytes, recorded}
use Rattle.log_journal.specs.Records.{IsJournal}
use Rattle.dossier_engine.proofs.Causes.{records_whole, refused_cause}
use Rattle.dossier_engine.proofs.Telling.{ends_so, refused_so, judges_so, refused_judges}
use Rattle.dossier_engine.proofs.show.show_disk.Goals as goal

pub returns-in-Ok-clause-ends : goal.returns-in-Ok-clause-ends
returns-in-Ok-clause-ends g c = λ told sink_told.
    let registry = c.args.registry.now in
    let bytes = g.D.Disk.reads c.args.disk in
    ends_so registry.schema.now registry.world.now registry.header.now (string_bytes c.args.user.now.name) (profile_of c.args.user.now) bytes
    (g.D.Disk.faults c.args.disk) (g.D.Disk.faults c.close.result) c.law_openings.ensures.decided c.law_openings.ensures.unrefused g.D.Disk.tells told
    (map recorded c.deref.result.now)
    (λ is. subst (λ l. IsJournal (header_bytes registry.header.now) (map recorded l) bytes) (sym c.deref.ensures.value) (c.in-Ok.ensures.opened is))
    c.show_records-end.result (g.K.Sink.written c.args.sink.now) (g.K.Sink.written c.show_records-end.new.sink)
    (c.show_records-end.ensures.shown sink_told)

pub returns-in-Ok-clause-judged : goal.returns-in-Ok-clause-judged
returns-in-Ok-clause-judged g c = λ told.
    let registry = c.args.registry.now in
    let bytes = g.D.Disk.reads c.args.disk in
    judges_so registry.schema.now registry.world.now registry.header.now (string_bytes c.args.user.now.name) (profile_of c.args.user.now) bytes
    (g.D.Disk.faults c.args.disk) (g.D.Disk.faults c.close.result) c.law_openings.ensures.decided c.law_openings.ensures.unrefused g.D.Disk.tells told
    (map recorded c.deref.result.now)
    (λ is. subst (λ l. IsJournal (header_bytes registry.header.now) (map recorded l) bytes) (sym c.deref.ensures.value) (c.in-Ok.ensures.opened is))
    c.show_records-end.result c.show_records-end.ensures.judged

pub returns-in-Err-clause-judged : goal.returns-in-Err-clause-judged
returns-in-Err-clause-judged g c = λ told.
    let registry = c.args.registry.now in
    refused_judges registry.schema.now registry.world.now registry.header.now (string_bytes c.args.user.now.name) (profile_of c.args.user.now)
    (g.D.Disk.reads c.args.disk) (g.D.Disk.faults c.args.disk) (g.D.Disk.faults c.in-Err.refused.disk) c.law_openings.ensures.decided
    c.law_openings.ensures.unrefused g.D.Disk.tells told c.in-Err.refused.why c.in-Err.ensures.refused
    c.show_refused-end.result c.show_refused-end.ensures.judged

pub returns-in-Ok-clause-moments : goal.returns-in-Ok-clause-moments
returns-in-Ok-clause-moments g c c' here =
    c.in-Ok.ensures.moments c' (subst (λ d. g.D.Disk.image_since d (g.D.Disk.moment c.args.disk) c') c.close.ensures here)

pub returns-in-Ok-clause-durable : goal.returns-in-Ok-clause-durable
returns-in-Ok-clause-durable g c = λ done. subst (λ d. Only (g.D.Disk.reads c.args.disk) (g.D.Disk.image d)) (sym c.close.ensures) c.in-Ok.ensures.durable

pub returns-in-Err-clause-ends : goal.returns-in-Err-clause-ends
returns-in-Err-clause-ends g c = λ told sink_told.
    let registry = c.args.registry.now in
    refused_so registry.schema.now registry.world.now registry.header.now (string_bytes c.args.user.now.name) (profile_of c.args.user.now)
    (g.D.Disk.reads c.args.disk) (g.D.Disk.faults c.args.disk) (g.D.Disk.faults c.in-Err.refused.disk) c.law_openings.ensures.decided
    c.law_openings.ensures.unrefused g.D.Disk.tells told c.in-Err.refused.why c.in-Err.ensures.refused
    c.show_refused-end.result (g.K.Sink.written c.args.sink.now) (g.K.Sink.written c.show_refused-end.new.sink)
    (c.show_refused-end.ensures.shown sink_told)

pub returns-in-Err-clause-durable : goal.returns-in-Err-clause-durable
returns-in-Err-clause-durable g c = λ done. absurd (c.show_refused-end.ensures.undone done)

pub returns-in-Ok-clause-journal_cause : goal.returns-in-Ok-clause-journal_cause
returns-in-Ok-clause-journal_cause g c = λ is.
    let registry = c.args.registry.now in
    absurd (records_whole registry.schema.now registry.world.now (string_bytes c.args.user.now.name) (profile_of c.args.user.now)
    (map recorded c.deref.result.now) c.show_records-end.result c.show_records-end.ensures.judged is)

pub returns-in-Err-clause-journal_cause : goal.returns-in-Err-clause-journal_cause
returns-in-Err-clause-journal_cause g c = λ is.
    refused_cause g.D.Disk.tells (header_bytes c.args.registry.now.header.now) (g.D.Disk.reads c.args.disk) (g.D.Disk.faults c.args.disk)
    (g.D.Disk.faults c.in-Err.refused.disk) c.in-Err.refused.why c.in-Err.ensures.refused c.show_refused-end.result
    c.show_refused-end.ensures.judged is
