use Rattle.std.proofs.Common.{◌≡◌, ◌^◌, ◌∙◌, ap, sym, map, false, codes}
use Rattle.std.specs.List.{list_any}
use Rattle.std.specs.Prelude.{is_some}
use Rattle.outside.specs.MemoryDisk.{memory_bytes, memory_moment, IsMemoryImage, IsMemoryImageSince}
use Rattle.outside.specs.MemoryShelves.{disk_named, disk_faults_of}
use Rattle.outside.specs.MemoryStreams.{sink_written, source_left}
use Rattle.cqe_base.specs.Schema.{has_duplicate}
use Rattle.log_journal.specs.Opening.{header_bytes}
use Rattle.desk_crew.specs.Crew.{named_user}
use Rattle.desk_crew.specs.Shelved.{journals_by}
use Rattle.selfrun_engine.proofs.Workloads.{batch_names_are, all_empty}
use Rattle.selfrun_engine.proofs.Undisturbed.{batch_undisturbed}
use Rattle.selfrun_engine.proofs.run.answers.Goals as goal

pub run_batch-requires-clause-names : goal.run_batch-requires-clause-names
run_batch-requires-clause-names g c κs within =
    ap has_duplicate (ap (λ users. map (λ user. user.name) (map named_user users)) c.as_slice-users.ensures.value
    ∙ batch_names_are c.args.policy.now.users.items) ∙ c.requires.names

pub returns-in-Done-run_batch : goal.returns-in-Done-run_batch
returns-in-Done-run_batch g c = λ items read named.
    let policy = c.args.policy.now in
    let users = policy.users.items in
    let same = c.as_slice-users.ensures.value in
    let header = header_bytes c.args.header.now in
    let made = disk_named c.run_init.new.shelf in
    let journals = journals_by memory_bytes IsMemoryImage memory_moment IsMemoryImageSince (λ d. 2 ^ 64) (codes "journals") made
    (disk_named c.run_batch.new.shelf)
    (disk_faults_of c.run_init.new.shelf)
    (disk_faults_of c.run_batch.new.shelf) in
    let none : list_any is_some c.in-Done-run_batch.refusals.items ≡ false =
    ap (list_any is_some) (sym c.deref.ensures.value) ∙ sym c.has_refusal.ensures ∙ c.if-has_refusal.false in
    batch_undisturbed policy.schema c.args.world.now header journals (map named_user users) items c.args.script.items (source_left c.new-source.result)
    (source_left c.run_batch.new.source)
    (sink_written c.new-output.result) (sink_written c.run_batch.new.sink)
    (map named_user c.as_slice-users.result.now) c.in-Done-run_batch.refusals.items c.in-Done-run_batch.is_broken
    c.new-source.ensures.left read c.new-output.ensures.empty c.if-is_broken.false (ap (map named_user) same) none
    (all_empty _ header (codes "journals") (disk_named c.new-shelf.result) made users c.as_slice-users.result.now same c.new-shelf.ensures.no_disks
    (c.in-Done.ensures.ends tt)) named
    (c.in-Done-run_batch.ensures.ends tt tt tt)
