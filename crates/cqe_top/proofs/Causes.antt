-- A fault that is told has its cause: for each end, from the clauses of its engine.
use Rattle.std.proofs.Common.{◌≡◌, ℕ, List, Bool, true, false, refl, sym, subst}
use Rattle.std.specs.Prelude.{Vec, Option, None, if◌then◌else◌}
use Rattle.std.specs.declared.alloc.Global.{Global}
use Rattle.std.specs.Borrow.{Bor}
use Rattle.cqe_base.specs.declared.user.User.{User}
use Rattle.user_desk.specs.declared.standing.DeskError.{DeskError}
use Rattle.log_journal.specs.declared.header.OpenError.{OpenError}
use Rattle.log_journal.specs.declared.header.OpenError.TheVariants as open_error
use Rattle.desk_crew.specs.Refusals.{is_disk_fault, SomeFaulted}
use Rattle.audit_engine.specs.Ends as auditing
use Rattle.audit_engine.specs.declared.end.AuditEnd.{AuditEnd}
use Rattle.audit_engine.specs.declared.end.AuditEnd.TheVariants as audit_end
use Rattle.batch_engine.specs.Batch as batch
use Rattle.batch_engine.specs.declared.run.BatchEnd.{BatchEnd}
use Rattle.batch_engine.specs.declared.run.BatchEnd.TheVariants as batch_end
use Rattle.case_engine.specs.declared.case.CaseEnd.{CaseEnd}
use Rattle.case_engine.specs.declared.case.CaseEnd.TheVariants as case_end
use Rattle.dossier_engine.specs.Ends as dossiers
use Rattle.dossier_engine.specs.declared.end.CheckEnd.{CheckEnd}
use Rattle.dossier_engine.specs.declared.end.CheckEnd.TheVariants as check_end
use Rattle.dossier_engine.specs.declared.end.DossierEnd.{DossierEnd}
use Rattle.dossier_engine.specs.declared.end.DossierEnd.TheVariants as dossier_end
use Rattle.outside.specs.Shelf.{SomeRose}
use Rattle.init_engine.specs.declared.end.InitEnd.{InitEnd}
use Rattle.init_engine.specs.declared.end.InitEnd.TheVariants as init_end
use Rattle.migrate_engine.specs.declared.end.MigrateEnd.{MigrateEnd}
use Rattle.migrate_engine.specs.declared.end.MigrateEnd.TheVariants as migrate_end
use Rattle.selfrun_engine.specs.declared.end.SelfrunEnd.{SelfrunEnd}
use Rattle.selfrun_engine.specs.declared.end.SelfrunEnd.TheVariants as selfrun_end
use Rattle.serve_engine.specs.Serving as serving
use Rattle.serve_engine.specs.declared.run.ServeEnd.{ServeEnd}
use Rattle.serve_engine.specs.declared.run.ServeEnd.TheVariants as serve_end
use Rattle.standby_engine.specs.Standing as standing
use Rattle.standby_engine.specs.declared.run.CopyEnd.{CopyEnd}
use Rattle.standby_engine.specs.declared.run.CopyEnd.TheVariants as copy_end
use Rattle.command_words.specs.Readings.{Reading}
use Rattle.cqe_top.specs.declared.end.CommandEnd.{CommandEnd}
use Rattle.cqe_top.specs.declared.end.CommandEnd.TheVariants as ends
use Rattle.cqe_top.specs.declared.end.FilesEnd.{FilesEnd}
use Rattle.cqe_top.specs.declared.end.FilesEnd.TheVariants as files_end
use Rattle.cqe_top.specs.declared.report.Report.{Report}
use Rattle.cqe_top.specs.declared.report.Report.TheVariants as report
use Rattle.cqe_top.specs.Mirrored.{with_exchange_faults}
use Rattle.cqe_top.specs.Promise.{OfReading, Does, Always}
use Rattle.cqe_top.specs.Reports.{report_of, answers_report, copies_report, has_refusal, IsDiskRefusal, FaultsHaveCauses}
use Rattle.cqe_top.specs.Scene.{Scene, HasRisen}
use Rattle.cqe_top.specs.Steps.{IsShelfFault}

module _ (s : Scene) where
  -- the fault of which a report tells rose
  abbrev pub CauseOf : Report → Type 0
  CauseOf report.ReadFault = HasRisen s.input.faults
  CauseOf report.WriteFault = HasRisen s.output.faults
  CauseOf report.ShelfFault = HasRisen s.shelf.faults
  CauseOf report.DiskFault = SomeRose s.shelf.disk_faults s.shelf.disk_faults'
  CauseOf report.LinksFault = HasRisen s.links.faults
  CauseOf (report.Journal name why) = is_disk_fault why ≡ true → SomeRose s.shelf.disk_faults s.shelf.disk_faults'
  CauseOf (report.JournalAt users number why) = why ≡ open_error.DiskFault → SomeRose s.shelf.disk_faults s.shelf.disk_faults'
  CauseOf (report.Journals users refusals) = SomeFaulted refusals.items → SomeRose s.shelf.disk_faults s.shelf.disk_faults'
  CauseOf report = Unit {0}

  refused_so : (told : Report) → CauseOf told → IsDiskRefusal told → SomeRose s.shelf.disk_faults s.shelf.disk_faults'
  refused_so (report.Journal name why) cause is = cause is
  refused_so (report.JournalAt users number why) cause is = cause is
  refused_so (report.Journals users refusals) cause is = cause is
  refused_so report.Done cause is = absurd is
  refused_so report.Usage cause is = absurd is
  refused_so (report.Policy why) cause is = absurd is
  refused_so (report.Facts why) cause is = absurd is
  refused_so (report.Script refusal) cause is = absurd is
  refused_so (report.Dossier why) cause is = absurd is
  refused_so report.ReadFault cause is = absurd is
  refused_so report.WriteFault cause is = absurd is
  refused_so (report.Missing name) cause is = absurd is
  refused_so report.ShelfFault cause is = absurd is
  refused_so (report.TargetAt users number) cause is = absurd is
  refused_so report.DiskFault cause is = absurd is
  refused_so report.LinksFault cause is = absurd is
  refused_so report.Memory cause is = absurd is

  pub has_cause : (end : CommandEnd) → CauseOf (report_of end) → FaultsHaveCauses s end
  has_cause end cause = record {
    read = λ is. subst CauseOf is cause;
    write = λ is. subst CauseOf is cause;
    shelf = λ is. subst CauseOf is cause;
    disk = λ is. subst CauseOf is cause;
    journal = λ is. refused_so (report_of end) cause is;
    links = λ is. subst CauseOf is cause;
  }

  pub files_cause : (end : FilesEnd) → (IsShelfFault end → HasRisen s.shelf.faults) → FaultsHaveCauses s (ends.Files end)
  files_cause (files_end.Missing name) shelf = has_cause _ tt
  files_cause (files_end.ShelfFault kind) shelf = has_cause _ (shelf tt)
  files_cause (files_end.Policy why) shelf = has_cause _ tt
  files_cause (files_end.Facts why) shelf = has_cause _ tt
  files_cause files_end.Memory shelf = has_cause _ tt

  pub case_cause : (end : CaseEnd) → (end ≡ case_end.ReadFault → HasRisen s.input.faults)
      → (end ≡ case_end.WriteFault → HasRisen s.output.faults) → FaultsHaveCauses s (ends.Case end)
  case_cause case_end.Done read write = has_cause _ tt
  case_cause (case_end.Script refusal) read write = has_cause _ tt
  case_cause case_end.ReadFault read write = has_cause _ (read refl)
  case_cause case_end.WriteFault read write = has_cause _ (write refl)
  case_cause case_end.Memory read write = has_cause _ tt

  pub init_cause : (users : Vec User Global) (end : InitEnd) → (end ≡ init_end.ShelfFault → HasRisen s.shelf.faults)
      → (end ≡ init_end.DiskFault → SomeRose s.shelf.disk_faults s.shelf.disk_faults')
      → ((user : ℕ) (why : OpenError) → end ≡ init_end.Refused user why → why ≡ open_error.DiskFault → SomeRose s.shelf.disk_faults s.shelf.disk_faults')
      → FaultsHaveCauses s (ends.Init users end)
  init_cause users init_end.Done shelf disk refused = has_cause _ tt
  init_cause users (init_end.Refused user why) shelf disk refused = has_cause _ (refused user why refl)
  init_cause users init_end.DiskFault shelf disk refused = has_cause _ (disk refl)
  init_cause users init_end.ShelfFault shelf disk refused = has_cause _ (shelf refl)
  init_cause users init_end.Memory shelf disk refused = has_cause _ tt

  pub migrate_cause : (users : Vec User Global) (end : MigrateEnd) → (end ≡ migrate_end.ShelfFault → HasRisen s.shelf.faults)
      → (end ≡ migrate_end.DiskFault → SomeRose s.shelf.disk_faults s.shelf.disk_faults')
      → ((user : ℕ) (why : OpenError) → end ≡ migrate_end.Refused user why → why ≡ open_error.DiskFault → SomeRose s.shelf.disk_faults s.shelf.disk_faults')
      → FaultsHaveCauses s (ends.Migrate users end)
  migrate_cause users migrate_end.Done shelf disk refused = has_cause _ tt
  migrate_cause users (migrate_end.Refused user why) shelf disk refused = has_cause _ (refused user why refl)
  migrate_cause users (migrate_end.NotEmpty user) shelf disk refused = has_cause _ tt
  migrate_cause users migrate_end.DiskFault shelf disk refused = has_cause _ (disk refl)
  migrate_cause users migrate_end.ShelfFault shelf disk refused = has_cause _ (shelf refl)
  migrate_cause users migrate_end.Memory shelf disk refused = has_cause _ tt

  -- asks that were answered to their end
  answers_cause : (users : Vec User Global) (refusals : Vec (Option DeskError) Global) (is_refused is_broken : Bool) → has_refusal refusals.items ≡ is_refused
      → (is_broken ≡ true → SomeRose s.shelf.disk_faults s.shelf.disk_faults')
      → (SomeFaulted refusals.items → SomeRose s.shelf.disk_faults s.shelf.disk_faults') → CauseOf (answers_report users refusals is_broken)
  answers_cause users refusals true is_broken is disk journal =
      subst (λ b. CauseOf (if b then report.Journals users refusals else if is_broken then report.DiskFault else report.Done)) (sym is) journal
  answers_cause users refusals false true is disk journal =
      subst (λ b. CauseOf (if b then report.Journals users refusals else report.DiskFault)) (sym is) (disk refl)
  answers_cause users refusals false false is disk journal = subst (λ b. CauseOf (if b then report.Journals users refusals else report.Done)) (sym is) tt

  -- and frames that were answered to the end
  copies_cause : (users : Vec User Global) (refusals : Vec (Option DeskError) Global) (is_refused is_broken is_wanting : Bool)
      → has_refusal refusals.items ≡ is_refused → (is_broken ≡ true → SomeRose s.shelf.disk_faults s.shelf.disk_faults')
      → (SomeFaulted refusals.items → SomeRose s.shelf.disk_faults s.shelf.disk_faults')
      → CauseOf (copies_report users refusals is_broken is_wanting)
  copies_cause users refusals true is_broken is_wanting is disk journal =
      subst (λ b. CauseOf (if b then report.Journals users refusals else if is_broken then report.DiskFault
      else if is_wanting then report.Memory else report.Done)) (sym is) journal
  copies_cause users refusals false true is_wanting is disk journal =
      subst (λ b. CauseOf (if b then report.Journals users refusals else report.DiskFault)) (sym is) (disk refl)
  copies_cause users refusals false false true is disk journal =
      subst (λ b. CauseOf (if b then report.Journals users refusals else report.Memory)) (sym is) tt
  copies_cause users refusals false false false is disk journal =
      subst (λ b. CauseOf (if b then report.Journals users refusals else report.Done)) (sym is) tt

  pub batch_cause : (users : Vec User Global) (end : BatchEnd) → (end ≡ batch_end.ReadFault → HasRisen s.input.faults)
      → (end ≡ batch_end.WriteFault → HasRisen s.output.faults)
      → (end ≡ batch_end.ShelfFault → HasRisen s.shelf.faults) → (batch.IsBroken end → SomeRose s.shelf.disk_faults s.shelf.disk_faults')
      → (batch.IsDiskRefusal end → SomeRose s.shelf.disk_faults s.shelf.disk_faults') → FaultsHaveCauses s (ends.Batch users end)
  batch_cause users (batch_end.Done refusals is_broken) read write shelf disk journal =
      has_cause _ (answers_cause users refusals (has_refusal refusals.items) is_broken refl disk journal)
  batch_cause users (batch_end.Script refusal) read write shelf disk journal = has_cause _ tt
  batch_cause users batch_end.ReadFault read write shelf disk journal = has_cause _ (read refl)
  batch_cause users batch_end.WriteFault read write shelf disk journal = has_cause _ (write refl)
  batch_cause users batch_end.ShelfFault read write shelf disk journal = has_cause _ (shelf refl)
  batch_cause users batch_end.Memory read write shelf disk journal = has_cause _ tt

  pub audit_cause : (name : Bor (List ℕ)) (end : AuditEnd) → (end ≡ audit_end.WriteFault → HasRisen s.output.faults)
      → (end ≡ audit_end.ShelfFault → HasRisen s.shelf.faults) → (auditing.IsDiskRefusal end → SomeRose s.shelf.disk_faults s.shelf.disk_faults')
      → FaultsHaveCauses s (ends.Audit name end)
  audit_cause name audit_end.Done write shelf journal = has_cause _ tt
  audit_cause name (audit_end.Refused why) write shelf journal = has_cause _ journal
  audit_cause name audit_end.WriteFault write shelf journal = has_cause _ (write refl)
  audit_cause name audit_end.ShelfFault write shelf journal = has_cause _ (shelf refl)
  audit_cause name audit_end.Memory write shelf journal = has_cause _ tt

  pub dossier_cause : (name : Bor (List ℕ)) (end : DossierEnd) → (end ≡ dossier_end.WriteFault → HasRisen s.output.faults)
      → (end ≡ dossier_end.ShelfFault → HasRisen s.shelf.faults) → (dossiers.IsDiskRefusal end → SomeRose s.shelf.disk_faults s.shelf.disk_faults')
      → FaultsHaveCauses s (ends.Dossier name end)
  dossier_cause name dossier_end.Done write shelf journal = has_cause _ tt
  dossier_cause name (dossier_end.Refused why) write shelf journal = has_cause _ journal
  dossier_cause name dossier_end.WriteFault write shelf journal = has_cause _ (write refl)
  dossier_cause name dossier_end.ShelfFault write shelf journal = has_cause _ (shelf refl)
  dossier_cause name dossier_end.Memory write shelf journal = has_cause _ tt

  pub check_cause : (end : CheckEnd) → (end ≡ check_end.ReadFault → HasRisen s.input.faults)
      → (end ≡ check_end.WriteFault → HasRisen s.output.faults) → FaultsHaveCauses s (ends.Check end)
  check_cause check_end.Done read write = has_cause _ tt
  check_cause (check_end.Refused why) read write = has_cause _ tt
  check_cause check_end.ReadFault read write = has_cause _ (read refl)
  check_cause check_end.WriteFault read write = has_cause _ (write refl)
  check_cause check_end.Memory read write = has_cause _ tt

  pub selfrun_cause : (end : SelfrunEnd) → (end ≡ selfrun_end.WriteFault → HasRisen s.output.faults) → FaultsHaveCauses s (ends.Selfrun end)
  selfrun_cause selfrun_end.Done write = has_cause _ tt
  selfrun_cause selfrun_end.WriteFault write = has_cause _ (write refl)
  selfrun_cause selfrun_end.Memory write = has_cause _ tt

  pub serve_cause : (users : Vec User Global) (end : ServeEnd) → (end ≡ serve_end.LinksFault → HasRisen s.links.faults)
      → (end ≡ serve_end.ShelfFault → HasRisen s.shelf.faults)
      → (serving.IsBroken end → SomeRose s.shelf.disk_faults s.shelf.disk_faults')
      → (serving.IsDiskRefusal end → SomeRose s.shelf.disk_faults s.shelf.disk_faults') → FaultsHaveCauses s (ends.Serve users end)
  serve_cause users (serve_end.Done refusals is_broken) links shelf disk journal =
      has_cause _ (answers_cause users refusals (has_refusal refusals.items) is_broken refl disk journal)
  serve_cause users serve_end.LinksFault links shelf disk journal = has_cause _ (links refl)
  serve_cause users serve_end.ShelfFault links shelf disk journal = has_cause _ (shelf refl)
  serve_cause users serve_end.Memory links shelf disk journal = has_cause _ tt

  pub standby_cause : (users : Vec User Global) (end : CopyEnd) → (end ≡ copy_end.LinksFault → HasRisen s.links.faults)
      → (end ≡ copy_end.ShelfFault → HasRisen s.shelf.faults)
      → (standing.IsBroken end → SomeRose s.shelf.disk_faults s.shelf.disk_faults')
      → (standing.IsDiskRefusal end → SomeRose s.shelf.disk_faults s.shelf.disk_faults') → FaultsHaveCauses s (ends.Standby users end)
  standby_cause users (copy_end.Done refusals is_broken is_wanting) links shelf disk journal =
      has_cause _ (copies_cause users refusals (has_refusal refusals.items) is_broken is_wanting refl disk journal)
  standby_cause users copy_end.LinksFault links shelf disk journal = has_cause _ (links refl)
  standby_cause users copy_end.ShelfFault links shelf disk journal = has_cause _ (shelf refl)
  standby_cause users copy_end.Memory links shelf disk journal = has_cause _ tt

  -- where none are counted, it was done so
  pub plainly : (reading : Option Reading) (end : CommandEnd) → with_exchange_faults s reading ≡ s → OfReading s reading end → FaultsHaveCauses s end → Always s
      → Does s reading end
  plainly reading end plain of cause always = record {
    command = subst (λ t. OfReading t reading end) (sym plain) of;
    cause = subst (λ t. FaultsHaveCauses t end) (sym plain) cause;
    always = subst Always (sym plain) always;
  }
