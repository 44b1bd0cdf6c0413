-- What is told of an end: its report, and the status of that. `Complaints` has the text of each
-- report. Where a report may tell a fault stands here too.
use Rattle.std.specs.Prelude.{◌≡◌, ◌⊎◌, ℕ, Bool, true, List, Option, Vec, is_some, if◌then◌else◌}
use Rattle.std.specs.List.{list_any}
use Rattle.std.specs.declared.alloc.Global.{Global}
use Rattle.cqe_base.specs.declared.user.User.{User}
use Rattle.log_journal.specs.declared.header.OpenError.TheVariants as open_error
use Rattle.user_desk.specs.declared.standing.DeskError.{DeskError}
use Rattle.desk_crew.specs.Refusals.{is_disk_fault, SomeFaulted}
use Rattle.audit_engine.specs.declared.end.AuditEnd.TheVariants as audit_end
use Rattle.batch_engine.specs.declared.run.BatchEnd.TheVariants as batch_end
use Rattle.case_engine.specs.declared.case.CaseEnd.TheVariants as case_end
use Rattle.dossier_engine.specs.declared.end.CheckEnd.TheVariants as check_end
use Rattle.dossier_engine.specs.declared.end.DossierEnd.TheVariants as dossier_end
use Rattle.outside.specs.Shelf.{SomeRose}
use Rattle.init_engine.specs.declared.end.InitEnd.TheVariants as init_end
use Rattle.migrate_engine.specs.declared.end.MigrateEnd.TheVariants as migrate_end
use Rattle.selfrun_engine.specs.declared.end.SelfrunEnd.TheVariants as selfrun_end
use Rattle.serve_engine.specs.declared.run.ServeEnd.TheVariants as serve_end
use Rattle.standby_engine.specs.declared.run.CopyEnd.TheVariants as copy_end
use Rattle.cqe_top.specs.declared.end.FilesEnd.TheVariants as files_end
use Rattle.cqe_top.specs.declared.end.CommandEnd.{CommandEnd}
use Rattle.cqe_top.specs.declared.end.CommandEnd.TheVariants as command_end
use Rattle.cqe_top.specs.declared.report.Report.{Report}
use Rattle.cqe_top.specs.declared.report.Report.TheVariants.{Done, Usage, Policy, Facts, Script}
use Rattle.cqe_top.specs.declared.report.Report.TheVariants.{Dossier}
use Rattle.cqe_top.specs.declared.report.Report.TheVariants.{ReadFault, WriteFault}
use Rattle.cqe_top.specs.declared.report.Report.TheVariants.{Missing, ShelfFault}
use Rattle.cqe_top.specs.declared.report.Report.TheVariants.{Journal, JournalAt, Journals, TargetAt}
use Rattle.cqe_top.specs.declared.report.Report.TheVariants.{DiskFault, LinksFault, Memory}
use Rattle.cqe_top.specs.Scene.{Scene, HasRisen}

-- the status of a report
abbrev pub status_of : Report → ℕ
status_of Done = 0
status_of Usage = 2
status_of (Policy why) = 3
status_of (Facts why) = 4
status_of (Script refusal) = 5
status_of ReadFault = 6
status_of WriteFault = 7
status_of (Missing name) = 8
status_of ShelfFault = 9
status_of (Journal name why) = 10
status_of (JournalAt users number why) = 10
status_of (TargetAt users number) = 10
status_of (Journals users refusals) = 10
status_of DiskFault = 11
status_of LinksFault = 12
status_of Memory = 13
status_of (Dossier why) = 14

-- ---- what is told of each end

-- whether one of the refusals is there
abbrev pub has_refusal : List (Option DeskError) → Bool
has_refusal refusals = list_any is_some refusals

-- the report of asks that were all answered: a refused journal comes before an append that failed
abbrev pub answers_report : Vec User Global → Vec (Option DeskError) Global → Bool → Report
answers_report users refusals is_broken =
    if has_refusal refusals.items then Journals users refusals
    else if is_broken then DiskFault
    else Done

-- the report of a standby that came to its end: so it is, and behind both comes want of memory for
-- a record
abbrev pub copies_report : Vec User Global → Vec (Option DeskError) Global → Bool → Bool
    → Report
copies_report users refusals is_broken is_wanting =
    if has_refusal refusals.items then Journals users refusals
    else if is_broken then DiskFault
    else if is_wanting then Memory
    else Done

-- the report of an end
abbrev pub report_of : CommandEnd → Report
report_of command_end.Usage = Usage
report_of command_end.Memory = Memory
report_of (command_end.Files (files_end.Missing name)) = Missing name
report_of (command_end.Files (files_end.ShelfFault kind)) = ShelfFault
report_of (command_end.Files (files_end.Policy why)) = Policy why
report_of (command_end.Files (files_end.Facts why)) = Facts why
report_of (command_end.Files files_end.Memory) = Memory
report_of (command_end.Case case_end.Done) = Done
report_of (command_end.Case (case_end.Script refusal)) = Script refusal
report_of (command_end.Case case_end.ReadFault) = ReadFault
report_of (command_end.Case case_end.WriteFault) = WriteFault
report_of (command_end.Case case_end.Memory) = Memory
report_of (command_end.Init users init_end.Done) = Done
report_of (command_end.Init users (init_end.Refused user why)) = JournalAt users user why
report_of (command_end.Init users init_end.DiskFault) = DiskFault
report_of (command_end.Init users init_end.ShelfFault) = ShelfFault
report_of (command_end.Init users init_end.Memory) = Memory
report_of (command_end.Batch users (batch_end.Done refusals broken)) =
    answers_report users refusals broken
report_of (command_end.Batch users (batch_end.Script refusal)) = Script refusal
report_of (command_end.Batch users batch_end.ReadFault) = ReadFault
report_of (command_end.Batch users batch_end.WriteFault) = WriteFault
report_of (command_end.Batch users batch_end.ShelfFault) = ShelfFault
report_of (command_end.Batch users batch_end.Memory) = Memory
report_of command_end.Nobody = Usage
report_of (command_end.Audit name audit_end.Done) = Done
report_of (command_end.Audit name (audit_end.Refused why)) = Journal name why
report_of (command_end.Audit name audit_end.WriteFault) = WriteFault
report_of (command_end.Audit name audit_end.ShelfFault) = ShelfFault
report_of (command_end.Audit name audit_end.Memory) = Memory
report_of (command_end.Selfrun selfrun_end.Done) = Done
report_of (command_end.Selfrun selfrun_end.WriteFault) = WriteFault
report_of (command_end.Selfrun selfrun_end.Memory) = Memory
report_of (command_end.Serve users (serve_end.Done refusals broken)) =
    answers_report users refusals broken
report_of (command_end.Serve users serve_end.LinksFault) = LinksFault
report_of (command_end.Serve users serve_end.ShelfFault) = ShelfFault
report_of (command_end.Serve users serve_end.Memory) = Memory
report_of (command_end.Standby users (copy_end.Done refusals broken wanting)) =
    copies_report users refusals broken wanting
report_of (command_end.Standby users copy_end.LinksFault) = LinksFault
report_of (command_end.Standby users copy_end.ShelfFault) = ShelfFault
report_of (command_end.Standby users copy_end.Memory) = Memory
report_of (command_end.Migrate users migrate_end.Done) = Done
report_of (command_end.Migrate users (migrate_end.Refused user why)) = JournalAt users user why
report_of (command_end.Migrate users (migrate_end.NotEmpty user)) = TargetAt users user
report_of (command_end.Migrate users migrate_end.DiskFault) = DiskFault
report_of (command_end.Migrate users migrate_end.ShelfFault) = ShelfFault
report_of (command_end.Migrate users migrate_end.Memory) = Memory
report_of (command_end.Dossier name dossier_end.Done) = Done
report_of (command_end.Dossier name (dossier_end.Refused why)) = Journal name why
report_of (command_end.Dossier name dossier_end.WriteFault) = WriteFault
report_of (command_end.Dossier name dossier_end.ShelfFault) = ShelfFault
report_of (command_end.Dossier name dossier_end.Memory) = Memory
report_of (command_end.Check check_end.Done) = Done
report_of (command_end.Check (check_end.Refused why)) = Dossier why
report_of (command_end.Check check_end.ReadFault) = ReadFault
report_of (command_end.Check check_end.WriteFault) = WriteFault
report_of (command_end.Check check_end.Memory) = Memory

-- what is told is that all was done, or that memory was wanting
abbrev pub IsDoneUnlessMemory : CommandEnd → Type 0
IsDoneUnlessMemory end = (report_of end ≡ Done) ⊎ (report_of end ≡ Memory)

-- what is told is that a journal is refused for a fault of its disk
abbrev pub IsDiskRefusal : Report → Type 0
IsDiskRefusal (Journal name why) = is_disk_fault why ≡ true
IsDiskRefusal (JournalAt users number why) = why ≡ open_error.DiskFault
IsDiskRefusal (Journals users refusals) = SomeFaulted refusals.items
IsDiskRefusal report = ⊥

-- a fault is told only where its count rose in the call
pub record FaultsHaveCauses (s : Scene) (end : CommandEnd) : Type 0 where
  pub read : report_of end ≡ ReadFault → HasRisen s.input.faults
  pub write : report_of end ≡ WriteFault → HasRisen s.output.faults
  pub shelf : report_of end ≡ ShelfFault → HasRisen s.shelf.faults
  pub disk : report_of end ≡ DiskFault → SomeRose s.shelf.disk_faults s.shelf.disk_faults'
  pub journal : IsDiskRefusal (report_of end) → SomeRose s.shelf.disk_faults s.shelf.disk_faults'
  pub links : report_of end ≡ LinksFault → HasRisen s.links.faults
