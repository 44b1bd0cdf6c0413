-- Without a fault, all that is right is done or memory was wanting.
use Rattle.std.proofs.Common.{◌≡◌, ◌≢◌, ◌⊎◌, inl, inr, ℕ, zero, suc, Bool, true, false, List, [], ◌∷◌, map, Option, None, Some, refl, sym, subst, ◌∙◌}
use Rattle.std.specs.Prelude.{IsOk, slice_get, Vec, if◌then◌else◌}
use Rattle.std.specs.List.{AllByRecursion}
use Rattle.std.specs.Borrow.{Bor}
use Rattle.std.specs.declared.alloc.Global.{Global}
use Rattle.outside.specs.Faults.{Rose}
use Rattle.outside.specs.Shelf.{bytes_on}
use Rattle.outside.specs.declared.links.Links.{Ghosts as LinksGhosts}
use Rattle.cqe_base.specs.Schema.{Text}
use Rattle.cqe_base.specs.Facts.{FactSet}
use Rattle.cqe_base.specs.Transcript.{NamedUser}
use Rattle.cqe_base.specs.declared.user.User.{User}
use Rattle.audit_engine.specs.declared.end.AuditEnd.{AuditEnd}
use Rattle.audit_engine.specs.declared.end.AuditEnd.TheVariants as audit_end
use Rattle.batch_engine.specs.Batch.{unopened, with_opening}
use Rattle.batch_engine.specs.declared.run.BatchEnd.{BatchEnd}
use Rattle.batch_engine.specs.declared.run.BatchEnd.TheVariants as batch_end
use Rattle.case_engine.specs.Script.{script_of}
use Rattle.case_engine.specs.declared.case.CaseEnd.{CaseEnd}
use Rattle.case_engine.specs.declared.case.CaseEnd.TheVariants as case_end
use Rattle.command_words.specs.Readings.{FileNames, Reading, runs_case, runs_init, runs_batch, runs_audit, runs_selfrun, runs_serve, runs_migrate}
use Rattle.command_words.specs.Readings.{runs_dossier, runs_check, runs_mirrored_batch, runs_mirrored_serve, runs_standby}
use Rattle.desk_crew.specs.Shelved.{Journals}
use Rattle.dossier_engine.specs.Checks.{checked_bytes}
use Rattle.dossier_engine.specs.declared.end.CheckEnd.{CheckEnd}
use Rattle.dossier_engine.specs.declared.end.CheckEnd.TheVariants as check_end
use Rattle.dossier_engine.specs.declared.end.DossierEnd.{DossierEnd}
use Rattle.dossier_engine.specs.declared.end.DossierEnd.TheVariants as dossier_end
use Rattle.init_engine.specs.declared.end.InitEnd.{InitEnd}
use Rattle.init_engine.specs.declared.end.InitEnd.TheVariants as init_end
use Rattle.log_journal.specs.Names.{journal_name}
use Rattle.log_journal.specs.Opening.{Refuses, IsRefused, RefusesOld, IsRefusedOld}
use Rattle.log_journal.specs.declared.header.OpenError.{OpenError}
use Rattle.log_journal.specs.declared.header.OpenError.TheVariants.{NotAJournal, OtherPolicy, Damaged, DiskFault, Memory, OldVersion}
use Rattle.migrate_engine.specs.declared.end.MigrateEnd.{MigrateEnd}
use Rattle.migrate_engine.specs.declared.end.MigrateEnd.TheVariants as migrate_end
use Rattle.policy_files.specs.Policies.{PolicyUser, PolicyValue}
use Rattle.policy_files.specs.Users.{names_of}
use Rattle.selfrun_engine.specs.declared.end.SelfrunEnd.{SelfrunEnd}
use Rattle.selfrun_engine.specs.declared.end.SelfrunEnd.TheVariants as selfrun_end
use Rattle.user_desk.specs.Causes.{Opens}
use Rattle.user_desk.specs.declared.standing.DeskError.{DeskError}
use Rattle.cqe_top.specs.declared.end.CommandEnd.TheVariants as ends
use Rattle.cqe_top.specs.declared.end.FileKind.TheVariants as file_kind
use Rattle.cqe_top.specs.declared.end.FilesEnd.{FilesEnd}
use Rattle.cqe_top.specs.declared.end.FilesEnd.TheVariants as files_end
use Rattle.cqe_top.specs.declared.report.Report.{Report}
use Rattle.cqe_top.specs.declared.report.Report.TheVariants as report
use Rattle.cqe_top.specs.Audit.{AuditsOverFiles, RunsAudit, AuditSucceeds}
use Rattle.cqe_top.specs.Batch.{AnswersOverFiles, RunsBatch, BatchSucceeds}
use Rattle.cqe_top.specs.Case.{RunsCase}
use Rattle.cqe_top.specs.Check.{two_files, CanBeChecked, ChecksOverFiles, RunsCheck, CheckSucceeds}
use Rattle.cqe_top.specs.Mirrored.{KeepsDoors}
use Rattle.cqe_top.specs.Dossier.{ShowsOverFiles, RunsDossier, DossierSucceeds}
use Rattle.cqe_top.specs.Files.{Said, both, SayOn, IsUnread, IsWhyUnread, journals_of, new_user}
use Rattle.cqe_top.specs.Init.{Makes, RunsInit, InitSucceeds}
use Rattle.cqe_top.specs.Migrate.{MovesJournals, RunsMigrate, MigrateSucceeds}
use Rattle.cqe_top.specs.Promise.{OfReading}
use Rattle.cqe_top.specs.Ready.{CanBeMade, CanBeMoved, CanBeOpened, CanBeMirrored}
use Rattle.cqe_top.specs.Reports.{answers_report, copies_report, has_refusal, IsDoneUnlessMemory, FaultsHaveCauses}
use Rattle.cqe_top.specs.Scene.{Scene, ShelfScene, IsUntouched, HasRisen, SameInput, SameOutput, SameLinks, CallsNobody, links_of}
use Rattle.cqe_top.specs.Steps.{reading_over, reading_for_user, reading_mirrored}
use Rattle.cqe_top.specs.declared.mirrored.MirroredTask.{MirroredTask}
use Rattle.cqe_top.specs.declared.mirrored.MirroredTask.TheVariants as copied
use Rattle.cqe_top.specs.declared.over_files.Task.{Task}
use Rattle.cqe_top.specs.declared.over_files.Task.TheVariants as task
use Rattle.cqe_top.specs.declared.for_user.UserTask.{UserTask}
use Rattle.cqe_top.specs.declared.for_user.UserTask.TheVariants as user_task
use Rattle.cqe_top.proofs.Failing.{CanOpen, none_refused, none_broken}
use Rattle.cqe_top.specs.Files.{FindsNobody, NamesNobody}
use Rattle.cqe_top.specs.Ready.{CanBeAudited}

-- ---- what the files say

abbrev pub when_both : (PolicyValue → FactSet → List ℕ → Type 0) → Said → Type 0
when_both P (both policy world header) = P policy world header
when_both P said = Unit {0}

-- files that say two things say one
pub agree : (P Q : PolicyValue → FactSet → List ℕ → Type 0) (shelf : ShelfScene) (files : FileNames) → SayOn shelf files P → SayOn shelf files Q
    → SayOn shelf files (λ policy world header. P policy world header × Q policy world header)
agree P Q shelf files (policy, world, header, says, p) (policy', world', header', says', q) =
    (policy, world, header, says, (p, subst (when_both Q) (sym says' ∙ says) q))

abbrev pub IsBoth : Said → Type 0
IsBoth (both policy world header) = Unit {0}
IsBoth said = ⊥

-- files that say both were read, or the shelf failed or memory was wanting
module _ (s : Scene) (files : FileNames) where
  pub read_succeeds : (P : PolicyValue → FactSet → List ℕ → Type 0) (end : FilesEnd) → IsWhyUnread s.shelf files end → FaultsHaveCauses s (ends.Files end)
      → SayOn s.shelf files P → (HasRisen s.shelf.faults → ⊥) → IsDoneUnlessMemory (ends.Files end)
  read_succeeds P (files_end.Missing name) (inl (none, same)) cause (policy, world, header, says, can) shelf = absurd (subst IsBoth (sym says ∙ none) tt)
  read_succeeds P (files_end.Missing name) (inr (none, same)) cause (policy, world, header, says, can) shelf = absurd (subst IsBoth (sym says ∙ none) tt)
  read_succeeds P (files_end.ShelfFault kind) refused cause says shelf = absurd (shelf (cause.shelf refl))
  read_succeeds P (files_end.Policy why) refused cause (policy, world, header, says, can) shelf = absurd (subst IsBoth (sym says ∙ refused) tt)
  read_succeeds P (files_end.Facts why) refused cause (policy, world, header, says, can) shelf = absurd (subst IsBoth (sym says ∙ refused) tt)
  read_succeeds P files_end.Memory refused cause says shelf = inr refl

-- ---- answers to the end

-- where no journal was refused and no append failed, all is done
pub answers_done : (users : Vec User Global) (refusals : Vec (Option DeskError) Global) (is_broken : Bool) → (has_refusal refusals.items ≡ true → ⊥)
    → (is_broken ≡ true → ⊥)
    → answers_report users refusals is_broken ≡ report.Done
answers_done users refusals is_broken unrefused unbroken = by (has_refusal refusals.items) is_broken unrefused unbroken
  where
    by : (refused broken : Bool) → (refused ≡ true → ⊥) → (broken ≡ true → ⊥)
        → (if refused then report.Journals users refusals else if broken then report.DiskFault else report.Done) ≡ report.Done
    by true broken unrefused unbroken = absurd (unrefused refl)
    by false true unrefused unbroken = absurd (unbroken refl)
    by false false unrefused unbroken = refl

-- so it is of a standby, or memory was wanting for a record
pub copies_done : (users : Vec User Global) (refusals : Vec (Option DeskError) Global) (is_broken is_wanting : Bool)
    → (has_refusal refusals.items ≡ true → ⊥) → (is_broken ≡ true → ⊥)
    → (copies_report users refusals is_broken is_wanting ≡ report.Done) ⊎ (copies_report users refusals is_broken is_wanting ≡ report.Memory)
copies_done users refusals is_broken is_wanting unrefused unbroken = by (has_refusal refusals.items) is_broken is_wanting unrefused unbroken
  where
    reported : Bool → Bool → Bool → Report
    reported refused broken wanting =
        if refused then report.Journals users refusals else if broken then report.DiskFault else if wanting then report.Memory else report.Done

    by : (refused broken wanting : Bool) → (refused ≡ true → ⊥) → (broken ≡ true → ⊥)
        → (reported refused broken wanting ≡ report.Done) ⊎ (reported refused broken wanting ≡ report.Memory)
    by true broken wanting unrefused unbroken = absurd (unrefused refl)
    by false true wanting unrefused unbroken = absurd (unbroken refl)
    by false false true unrefused unbroken = inr refl
    by false false false unrefused unbroken = inl refl

-- ---- a case and a run

pub case_succeeds : (s : Scene) (end : CaseEnd) → RunsCase s end → FaultsHaveCauses s (ends.Case end) → s.input.tells → s.output.tells
    → IsOk (script_of s.input.left)
    → (HasRisen s.input.faults → ⊥) → (HasRisen s.output.faults → ⊥) → IsDoneUnlessMemory (ends.Case end)
case_succeeds s case_end.Done ran cause told out_told script read write = inl refl
case_succeeds s (case_end.Script refusal) ran cause told out_told script read write =
    let clash : false ≡ true = subst IsOk (ran.answers told out_told).0 script in absurd cc
case_succeeds s case_end.ReadFault ran cause told out_told script read write = absurd (read (cause.read refl))
case_succeeds s case_end.WriteFault ran cause told out_told script read write = absurd (write (cause.write refl))
case_succeeds s case_end.Memory ran cause told out_told script read write = inr refl

pub selfrun_succeeds : (s : Scene) (end : SelfrunEnd) → FaultsHaveCauses s (ends.Selfrun end) → (HasRisen s.output.faults → ⊥)
    → IsDoneUnlessMemory (ends.Selfrun end)
selfrun_succeeds s selfrun_end.Done cause write = inl refl
selfrun_succeeds s selfrun_end.WriteFault cause write = absurd (write (cause.write refl))
selfrun_succeeds s selfrun_end.Memory cause write = inr refl

-- ---- a batch

all_open : (policy : PolicyValue) (world : FactSet) (header : List ℕ) (journals : Journals) (users : List NamedUser) (known : List PolicyUser)
    → map unopened users ≡ map new_user known
    → AllByRecursion (λ user. CanOpen policy.schema world header journals (new_user user)) known
    → AllByRecursion (CanOpen policy.schema world header journals) users
all_open policy world header journals [] known are can = tt
all_open policy world header journals (user ∷ users) [] are can = let clash : unopened user ∷ map unopened users ≡ [] = are in absurd cc
all_open policy world header journals (user ∷ users) (one ∷ known) are can =
    let same : unopened user ≡ new_user one = cc in
    let rest : map unopened users ≡ map new_user known = cc in
    (subst (λ u. CanOpen policy.schema world header journals u) (sym same) can.0, all_open policy world header journals users known rest can.1)

module _ (s : Scene) (files : FileNames) where
  pub batch_succeeds : (users : Vec User Global) (end : BatchEnd) → RunsBatch s.shelf s.input s.output files users end
      → FaultsHaveCauses s (ends.Batch users end)
      → BatchSucceeds s.shelf s.input s.output files (ends.Batch users end)
  batch_succeeds users (batch_end.Done refusals is_broken) ran cause told in_told out_told script says shelf read write =
      by (agree (AnswersOverFiles s.shelf s.input s.output files users (batch_end.Done refusals is_broken))
      (CanBeOpened (journals_of s.shelf files)) s.shelf files (ran.over_files told) says)
    where
      by : SayOn s.shelf files (λ policy world header.
          AnswersOverFiles s.shelf s.input s.output files users (batch_end.Done refusals is_broken) policy world header
          × CanBeOpened (journals_of s.shelf files) policy world header) → IsDoneUnlessMemory (ends.Batch users (batch_end.Done refusals is_broken))
      by (policy, world, header, said, (over, can)) =
          let journals = journals_of s.shelf files in
          let all = (over.answers in_told out_told).3 in
          let events = with_opening all.answers.found all.answers.opened all.answers.events in
          let open_all = all_open policy world header journals all.answers.users policy.users all.answers.of_policy can in
          inl (answers_done users refusals is_broken
          (none_refused policy.schema world header journals all.answers.users events all.answers.users refusals.items all.answers.each_user open_all
          all.refused)
          (λ broken. none_broken policy.schema world header journals all.answers.users events all.answers.each_user open_all (sym all.broken ∙ broken)))
  batch_succeeds users (batch_end.Script refusal) ran cause told in_told out_told script says shelf read write =
      let clash : false ≡ true = subst IsOk ((ran.over_files told).4.answers in_told out_told).0 script in absurd cc
  batch_succeeds users batch_end.ReadFault ran cause told in_told out_told script says shelf read write = absurd (read (cause.read refl))
  batch_succeeds users batch_end.WriteFault ran cause told in_told out_told script says shelf read write = absurd (write (cause.write refl))
  batch_succeeds users batch_end.ShelfFault ran cause told in_told out_told script says shelf read write = absurd (shelf (cause.shelf refl))
  batch_succeeds users batch_end.Memory ran cause told in_told out_told script says shelf read write = inr refl

-- ---- the making of journals

-- what all have, the one of a number has
at_number : (P : PolicyUser → Type 0) (users : List PolicyUser) (number : ℕ) (name : Text) → AllByRecursion P users
    → slice_get (names_of users) number ≡ Some name
    → (user : PolicyUser) × P user × (user.name ≡ name)
at_number P [] number name all at = let clash : None ≡ Some name = at in absurd cc
at_number P (user ∷ users) zero name all at = let same : user.name ≡ name = cc in (user, all.0, same)
at_number P (user ∷ users) (suc number) name all at = at_number P users number name all.1 at

-- a user's disk that is empty or shows no reason to be refused isn't refused without a rise of its count
not_stopped : (told : Type 0) (header bytes : List ℕ) (count count' : ℕ) (why : OpenError) → told → (bytes ≡ [])
    ⊎ ((why : OpenError) → Refuses header bytes why → ⊥) → (Rose count count' → ⊥)
    → (told → bytes ≢ []) × (why ≢ Memory) × IsRefused told header bytes count count' why → ⊥
not_stopped told header bytes count count' why is (inl empty) whole reason = reason.0 is empty
not_stopped told header bytes count count' NotAJournal is (inr shows) whole reason = shows NotAJournal (reason.2 is)
not_stopped told header bytes count count' OtherPolicy is (inr shows) whole reason = shows OtherPolicy (reason.2 is)
not_stopped told header bytes count count' (Damaged number) is (inr shows) whole reason = shows (Damaged number) (reason.2 is)
not_stopped told header bytes count count' OldVersion is (inr shows) whole reason = shows OldVersion (reason.2.1 is)
not_stopped told header bytes count count' DiskFault is (inr shows) whole reason = whole reason.2
not_stopped told header bytes count count' Memory is (inr shows) whole reason = reason.1 refl

module _ (s : Scene) (files : FileNames) where
  -- the disk of this name is as the making of journals needs it
  abbrev IsReady : List ℕ → Text → Type 0
  IsReady header name =
      ((bytes_on s.shelf.Disk.reads (s.shelf.disk (journal_name files.directory name)) ≡ [])
      ⊎ ((why : OpenError) → Refuses header (bytes_on s.shelf.Disk.reads (s.shelf.disk (journal_name files.directory name))) why → ⊥))
      × (Rose (s.shelf.disk_faults (journal_name files.directory name)) (s.shelf.disk_faults' (journal_name files.directory name)) → ⊥)

  pub init_succeeds : (users : Vec User Global) (end : InitEnd) → RunsInit s.shelf files users end → FaultsHaveCauses s (ends.Init users end)
      → InitSucceeds s.shelf files (ends.Init users end)
  init_succeeds users init_end.Done ran cause told says shelf = inl refl
  init_succeeds users (init_end.Refused user why) ran cause told says shelf =
      by (agree (Makes s.shelf files users (init_end.Refused user why)) (CanBeMade (journals_of s.shelf files)) s.shelf files
      (ran.over_files told) says)
    where
      by : SayOn s.shelf files (λ policy world header. Makes s.shelf files users (init_end.Refused user why) policy world header
          × CanBeMade (journals_of s.shelf files) policy world header)
          → IsDoneUnlessMemory (ends.Init users (init_end.Refused user why))
      by (policy, world, header, said, (over, can)) =
          let stops = over.makes in
          let one = at_number (λ (u : PolicyUser). IsReady header u.name) policy.users user stops.name can stops.is in
          let ready = subst (IsReady header) one.2 one.1 in
          absurd (not_stopped s.shelf.tells header _ _ _ why told ready.0 ready.1 stops.reason)
  init_succeeds users init_end.DiskFault ran cause told says shelf =
      by (agree (Makes s.shelf files users init_end.DiskFault) (CanBeMade (journals_of s.shelf files)) s.shelf files (ran.over_files told) says)
    where
      by : SayOn s.shelf files (λ policy world header. Makes s.shelf files users init_end.DiskFault policy world header
          × CanBeMade (journals_of s.shelf files) policy world header)
          → IsDoneUnlessMemory (ends.Init users init_end.DiskFault)
      by (policy, world, header, said, (over, can)) =
          let stops = over.makes.1 in
          let one = at_number (λ (u : PolicyUser). IsReady header u.name) policy.users over.makes.0 stops.name can stops.is in
          absurd ((subst (IsReady header) one.2 one.1).1 stops.reason)
  init_succeeds users init_end.ShelfFault ran cause told says shelf = absurd (shelf (cause.shelf refl))
  init_succeeds users init_end.Memory ran cause told says shelf = inr refl

-- ---- the moving of journals

-- so it is with an old journal that shows no reason to be refused
not_unread : (told : Type 0) (header bytes : List ℕ) (count count' : ℕ) (why : OpenError) → told → ((why : OpenError) → RefusesOld header bytes why → ⊥)
    → (Rose count count' → ⊥) → (why ≢ Memory) × IsRefusedOld told header bytes count count' why → ⊥
not_unread told header bytes count count' NotAJournal is shows whole reason = shows NotAJournal (reason.1 is)
not_unread told header bytes count count' OtherPolicy is shows whole reason = shows OtherPolicy (reason.1 is)
not_unread told header bytes count count' (Damaged number) is shows whole reason = shows (Damaged number) (reason.1 is)
not_unread told header bytes count count' OldVersion is shows whole reason = shows OldVersion (reason.1.1 is)
not_unread told header bytes count count' DiskFault is shows whole reason = whole reason.1
not_unread told header bytes count count' Memory is shows whole reason = reason.0 refl

module _ (s : Scene) (files : FileNames) (to : Text) where
  -- the disks of this name are as the moving of journals needs them
  abbrev AreReady : List ℕ → Text → Type 0
  AreReady header name =
      (((why : OpenError) → RefusesOld header (bytes_on s.shelf.Disk.reads (s.shelf.disk (journal_name files.directory name))) why → ⊥)
      × (Rose (s.shelf.disk_faults (journal_name files.directory name)) (s.shelf.disk_faults' (journal_name files.directory name)) → ⊥))
      × ((bytes_on s.shelf.Disk.reads (s.shelf.disk (journal_name to name)) ≡ [])
      × (Rose (s.shelf.disk_faults (journal_name to name)) (s.shelf.disk_faults' (journal_name to name)) → ⊥))

  abbrev CanMove : PolicyValue → FactSet → List ℕ → Type 0
  CanMove = CanBeMoved (journals_of s.shelf files) (journals_of s.shelf (record files { directory = to }))

  pub migrate_succeeds : (users : Vec User Global) (end : MigrateEnd) → RunsMigrate s.shelf files to users end → FaultsHaveCauses s (ends.Migrate users end)
      → MigrateSucceeds s.shelf files to (ends.Migrate users end)
  migrate_succeeds users migrate_end.Done ran cause told says shelf = inl refl
  migrate_succeeds users (migrate_end.Refused user why) ran cause told says shelf =
      by (agree (MovesJournals s.shelf files to users (migrate_end.Refused user why)) CanMove s.shelf files (ran.over_files told) says)
    where
      by : SayOn s.shelf files (λ policy world header. MovesJournals s.shelf files to users (migrate_end.Refused user why) policy world header
          × CanMove policy world header)
          → IsDoneUnlessMemory (ends.Migrate users (migrate_end.Refused user why))
      by (policy, world, header, said, (over, can)) =
          let stops = over.moves in
          let one = at_number (λ (u : PolicyUser). AreReady header u.name) policy.users user stops.name can stops.is in
          let ready = subst (AreReady header) one.2 one.1 in
          absurd (not_unread s.shelf.tells header _ _ _ why told ready.0.0 ready.0.1 stops.reason)
  migrate_succeeds users (migrate_end.NotEmpty user) ran cause told says shelf =
      by (agree (MovesJournals s.shelf files to users (migrate_end.NotEmpty user)) CanMove s.shelf files (ran.over_files told) says)
    where
      by : SayOn s.shelf files (λ policy world header. MovesJournals s.shelf files to users (migrate_end.NotEmpty user) policy world header
          × CanMove policy world header)
          → IsDoneUnlessMemory (ends.Migrate users (migrate_end.NotEmpty user))
      by (policy, world, header, said, (over, can)) =
          let stops = over.moves in
          let one = at_number (λ (u : PolicyUser). AreReady header u.name) policy.users user stops.name can stops.is in
          absurd (stops.reason.1 told (subst (AreReady header) one.2 one.1).1.0)
  migrate_succeeds users migrate_end.DiskFault ran cause told says shelf =
      by (agree (MovesJournals s.shelf files to users migrate_end.DiskFault) CanMove s.shelf files (ran.over_files told) says)
    where
      by : SayOn s.shelf files (λ policy world header. MovesJournals s.shelf files to users migrate_end.DiskFault policy world header
          × CanMove policy world header)
          → IsDoneUnlessMemory (ends.Migrate users migrate_end.DiskFault)
      by (policy, world, header, said, (over, can)) =
          let stops = over.moves.1 in
          let one = at_number (λ (u : PolicyUser). AreReady header u.name) policy.users over.moves.0 stops.name can stops.is in
          absurd ((subst (AreReady header) one.2 one.1).1.1 stops.reason.1)
  migrate_succeeds users migrate_end.ShelfFault ran cause told says shelf = absurd (shelf (cause.shelf refl))
  migrate_succeeds users migrate_end.Memory ran cause told says shelf = inr refl

-- ---- an audit

pub same_one : {one other : PolicyUser} → Some one ≡ Some other → one ≡ other
same_one both_are = cc

neither : {P Q R : Type 0} → P ⊎ (Q × R) → (P → ⊥) → (Q → ⊥) → ⊥
neither (inl one) some none = some one
neither (inr two) some none = none two.0

module _ (s : Scene) (files : FileNames) (user : Text) (json : Bool) where
  pub audit_succeeds : (name : Bor (List ℕ)) (end : AuditEnd) → RunsAudit s.shelf s.output files user json name.now end
      → FaultsHaveCauses s (ends.Audit name end)
      → AuditSucceeds s.shelf s.output files user json (ends.Audit name end)
  audit_succeeds name audit_end.Done ran cause told says shelf write = inl refl
  audit_succeeds name (audit_end.Refused why) ran cause told says shelf write =
      by (agree (AuditsOverFiles s.shelf s.output files user json (audit_end.Refused why)) (CanBeAudited (journals_of s.shelf files) user)
      s.shelf files (ran.over_files told) says)
    where
      by : SayOn s.shelf files (λ policy world header. AuditsOverFiles s.shelf s.output files user json (audit_end.Refused why) policy world header
          × CanBeAudited (journals_of s.shelf files) user policy world header) → IsDoneUnlessMemory (ends.Audit name (audit_end.Refused why))
      by (policy, world, header, said, ((one, found, judged, ended), (other, found', ready))) =
          let journals = journals_of s.shelf files in
          let same : other ≡ one = same_one (sym found' ∙ found) in
          absurd (neither judged.opening_is
          (λ opens. subst (λ (u : PolicyUser). Rose (journals.before u.name) (journals.now u.name) → ⊥) same ready.1 (judged.standing_is.1 opens))
          (λ none. none ready.0.0 (subst (λ (u : PolicyUser). Opens policy.schema world u.profile header ready.0.0 (journals.bytes u.name)) same ready.0.1)))
  audit_succeeds name audit_end.WriteFault ran cause told says shelf write = absurd (write (cause.write refl))
  audit_succeeds name audit_end.ShelfFault ran cause told says shelf write = absurd (shelf (cause.shelf refl))
  audit_succeeds name audit_end.Memory ran cause told says shelf write = inr refl

  -- nor is anybody audited who isn't there
  pub nobody_succeeds : FindsNobody s.shelf s.output files user → AuditSucceeds s.shelf s.output files user json ends.Nobody
  nobody_succeeds ran told says shelf write =
      by (agree (NamesNobody user) (CanBeAudited (journals_of s.shelf files) user) s.shelf files (ran.over_files told) says)
    where
      by : SayOn s.shelf files (λ policy world header. NamesNobody user policy world header × CanBeAudited (journals_of s.shelf files) user policy world header)
          → IsDoneUnlessMemory ends.Nobody
      by (policy, world, header, said, (nobody, (one, found, ready))) = let clash : None ≡ Some one = sym nobody ∙ found in absurd cc

-- ---- a dossier

module _ (s : Scene) (files : FileNames) (user : Text) where
  pub dossier_succeeds : (name : Bor (List ℕ)) (end : DossierEnd) → RunsDossier s.shelf s.output files user name.now end
      → FaultsHaveCauses s (ends.Dossier name end)
      → DossierSucceeds s.shelf s.output files user (ends.Dossier name end)
  dossier_succeeds name dossier_end.Done ran cause told says shelf write = inl refl
  dossier_succeeds name (dossier_end.Refused why) ran cause told says shelf write =
      by (agree (ShowsOverFiles s.shelf s.output files user (dossier_end.Refused why)) (CanBeAudited (journals_of s.shelf files) user)
      s.shelf files (ran.over_files told) says)
    where
      by : SayOn s.shelf files (λ policy world header. ShowsOverFiles s.shelf s.output files user (dossier_end.Refused why) policy world header
          × CanBeAudited (journals_of s.shelf files) user policy world header) → IsDoneUnlessMemory (ends.Dossier name (dossier_end.Refused why))
      by (policy, world, header, said, ((one, found, judged, ended, accepted), (other, found', ready))) =
          let journals = journals_of s.shelf files in
          let same : other ≡ one = same_one (sym found' ∙ found) in
          absurd (neither judged.opening_is
          (λ opens. subst (λ (u : PolicyUser). Rose (journals.before u.name) (journals.now u.name) → ⊥) same ready.1 (judged.standing_is.1 opens))
          (λ none. none ready.0.0 (subst (λ (u : PolicyUser). Opens policy.schema world u.profile header ready.0.0 (journals.bytes u.name)) same ready.0.1)))
  dossier_succeeds name dossier_end.WriteFault ran cause told says shelf write = absurd (write (cause.write refl))
  dossier_succeeds name dossier_end.ShelfFault ran cause told says shelf write = absurd (shelf (cause.shelf refl))
  dossier_succeeds name dossier_end.Memory ran cause told says shelf write = inr refl

  pub no_dossier : FindsNobody s.shelf s.output files user → DossierSucceeds s.shelf s.output files user ends.Nobody
  no_dossier ran told says shelf write =
      by (agree (NamesNobody user) (CanBeAudited (journals_of s.shelf files) user) s.shelf files (ran.over_files told) says)
    where
      by : SayOn s.shelf files (λ policy world header. NamesNobody user policy world header × CanBeAudited (journals_of s.shelf files) user policy world header)
          → IsDoneUnlessMemory ends.Nobody
      by (policy, world, header, said, (nobody, (one, found, ready))) = let clash : None ≡ Some one = sym nobody ∙ found in absurd cc

  -- ---- the check of one

  pub check_succeeds : (end : CheckEnd) → RunsCheck s.shelf s.input s.output files user end → FaultsHaveCauses s (ends.Check end)
      → CheckSucceeds s.shelf s.input s.output files user (ends.Check end)
  check_succeeds check_end.Done ran cause told in_told says shelf read write = inl refl
  check_succeeds (check_end.Refused why) ran cause told in_told says shelf read write =
      by (agree (ChecksOverFiles s.shelf s.input s.output files user (check_end.Refused why)) (CanBeChecked s.input.left user)
      s.shelf files (ran.over_files told) says)
    where
      by : SayOn s.shelf files (λ policy world header. ChecksOverFiles s.shelf s.input s.output files user (check_end.Refused why) policy world header
          × CanBeChecked s.input.left user policy world header) → IsDoneUnlessMemory (ends.Check (check_end.Refused why))
      by (policy, world, header, said, ((one, found, judged, ended), (other, found', ready))) =
          let same : other ≡ one = same_one (sym found' ∙ found) in
          let good = subst (λ (u : PolicyUser). IsOk (checked_bytes policy.schema world u.name u.profile s.input.left)) same ready in
          let clash : false ≡ true = subst IsOk (judged in_told).0 good in
          absurd cc
  check_succeeds check_end.ReadFault ran cause told in_told says shelf read write = absurd (read (cause.read refl))
  check_succeeds check_end.WriteFault ran cause told in_told says shelf read write = absurd (write (cause.write refl))
  check_succeeds check_end.Memory ran cause told in_told says shelf read write = inr refl

  pub no_check : FindsNobody s.shelf s.output files user → CheckSucceeds s.shelf s.input s.output files user ends.Nobody
  no_check ran told in_told says shelf read write =
      by (agree (NamesNobody user) (CanBeChecked s.input.left user) s.shelf files (ran.over_files told) says)
    where
      by : SayOn s.shelf files (λ policy world header. NamesNobody user policy world header × CanBeChecked s.input.left user policy world header)
          → IsDoneUnlessMemory ends.Nobody
      by (policy, world, header, said, (nobody, (one, found, ready))) = let clash : None ≡ Some one = sym nobody ∙ found in absurd cc

-- ---- two files without a directory of journals

nobody_of : (s : Scene) (files : FileNames) (user : Text) → FindsNobody s.shelf s.output files user
    → FindsNobody s.shelf s.output (two_files files.policy files.facts) user
nobody_of s files user finds = record { over_files = finds.over_files; looks = finds.looks; disks = finds.disks; writes_nothing = finds.writes_nothing }

why_of : (s : Scene) (files : FileNames) (end : FilesEnd) → IsWhyUnread s.shelf files end → IsWhyUnread s.shelf (two_files files.policy files.facts) end
why_of s files (files_end.Missing name) why = why
why_of s files (files_end.ShelfFault file_kind.Policy) why = why
why_of s files (files_end.ShelfFault file_kind.Facts) why = why
why_of s files (files_end.Policy refusal) why = why
why_of s files (files_end.Facts refusal) why = why
why_of s files files_end.Memory why = why

unread_of : (s : Scene) (files : FileNames) (end : FilesEnd) → IsUnread s.shelf files end → IsUnread s.shelf (two_files files.policy files.facts) end
unread_of s files end is = record { refused = λ told. why_of s files end (is.refused told); looks = is.looks; disks = is.disks }

-- ---- a user who isn't there

-- whatever was to be done for him
pub nobody_there : (s : Scene) (files : FileNames) (user : Text) (what : UserTask) → FindsNobody s.shelf s.output files user
    → SameInput s.input → SameLinks s.links → OfReading s (Some (reading_for_user files user what)) ends.Nobody
nobody_there s files user (user_task.Audit json) finds input links =
    record { ends = finds; succeeds = nobody_succeeds s files user json finds; reads_nothing = input; listens_nowhere = links }
nobody_there s files user user_task.Dossier finds input links =
    record { ends = finds; succeeds = no_dossier s files user finds; reads_nothing = input; listens_nowhere = links }
nobody_there s files user user_task.Check finds input links =
    let found = nobody_of s files user finds in
    record { ends = (found, input); succeeds = no_check s (two_files files.policy files.facts) user found; listens_nowhere = links }

-- ---- files that weren't read

-- whatever was to be done over them
pub unread : (s : Scene) (files : FileNames) (task : Task) (end : FilesEnd) → IsUnread s.shelf files end → FaultsHaveCauses s (ends.Files end)
    → SameInput s.input
    → SameOutput s.output → SameLinks s.links → CallsNobody s.links
    → OfReading s (Some (reading_over files task)) (ends.Files end)
unread s files task.Init end is cause input output links nobody = record {
  ends = is;
  succeeds = λ told says shelf. read_succeeds s files (CanBeMade (journals_of s.shelf files)) end (is.refused told) cause says shelf;
  reads_nothing = input;
  writes_nothing = output;
  listens_nowhere = links;
}
unread s files (task.Batch workers) end is cause input output links nobody = record {
  ends = (is, input, output);
  succeeds = λ told in_told out_told script says shelf read write.
      read_succeeds s files (CanBeOpened (journals_of s.shelf files)) end (is.refused told) cause says shelf;
  listens_nowhere = links;
}
unread s files (task.Migrate to) end is cause input output links nobody = record {
  ends = is;
  succeeds = λ told says shelf. read_succeeds s files (CanMove s files to.now) end (is.refused told) cause says shelf;
  reads_nothing = input;
  writes_nothing = output;
  listens_nowhere = links;
}
unread s files (task.Serve listening) end is cause input output links nobody = record {
  ends = (is, links);
  succeeds = λ told links_told says shelf links. read_succeeds s files (CanBeOpened (journals_of s.shelf files)) end (is.refused told) cause says shelf;
  reads_nothing = input;
  writes_nothing = output;
  calls_nobody = nobody;
}
unread s files (task.Standby copying) end is cause input output links nobody = record {
  ends = (is, links);
  succeeds = λ told links_told says shelf links. read_succeeds s files (CanBeMirrored (journals_of s.shelf files)) end (is.refused told) cause says shelf;
  reads_nothing = input;
  writes_nothing = output;
  calls_nobody = nobody;
}

-- whatever was to be done for a user
pub unread_for_user : (s : Scene) (files : FileNames) (user : Text) (what : UserTask) (end : FilesEnd) → IsUnread s.shelf files end
    → FaultsHaveCauses s (ends.Files end) → SameInput s.input → SameOutput s.output → SameLinks s.links
    → OfReading s (Some (reading_for_user files user what)) (ends.Files end)
unread_for_user s files user (user_task.Audit json) end is cause input output links = record {
  ends = (is, output);
  succeeds = λ told says shelf write. read_succeeds s files (CanBeAudited (journals_of s.shelf files) user) end (is.refused told) cause says shelf;
  reads_nothing = input;
  listens_nowhere = links;
}
unread_for_user s files user user_task.Dossier end is cause input output links = record {
  ends = (is, output);
  succeeds = λ told says shelf write. read_succeeds s files (CanBeAudited (journals_of s.shelf files) user) end (is.refused told) cause says shelf;
  reads_nothing = input;
  listens_nowhere = links;
}
unread_for_user s files user user_task.Check end is cause input output links =
    let two = two_files files.policy files.facts in
    let unread_two = unread_of s files end is in
    record {
      ends = (unread_two, input, output);
      succeeds = λ told in_told says shelf read write.
          read_succeeds s two (CanBeChecked s.input.left user) end (unread_two.refused told) cause says shelf;
      listens_nowhere = links;
    }

-- so it is where they were to be done with a standby
pub unread_mirrored : (s : Scene) (files : FileNames) (task : MirroredTask) (standby : Text) (end : FilesEnd) → IsUnread s.shelf files end
    → FaultsHaveCauses s (ends.Files end) → SameInput s.input → SameOutput s.output → KeepsDoors s.links
    → CallsNobody s.links → OfReading s (Some (reading_mirrored files task standby)) (ends.Files end)
unread_mirrored s files (copied.Batch workers) standby end is cause input output links nobody = record {
  told = s.shelf.told';
  ends = (is, input, output);
  succeeds = λ told in_told out_told script says shelf read write.
      read_succeeds s files (CanBeOpened (journals_of s.shelf files)) end (is.refused told) cause says shelf;
  listens_nowhere = inr links;
  calls = nobody.exchanged;
}
unread_mirrored s files (copied.Serve listening) standby end is cause input output links nobody = record {
  told = s.shelf.told';
  ends = (is, links);
  succeeds = λ told links_told says shelf links. read_succeeds s files (CanBeOpened (journals_of s.shelf files)) end (is.refused told) cause says shelf;
  reads_nothing = input;
  writes_nothing = output;
  calls = nobody.exchanged;
}

-- the links of a scene that are what they were keep their doors
pub doors_same : {L Door Dial In Out : Type 0} (Links : LinksGhosts L Door Dial In Out) (links : L) → KeepsDoors (links_of Links links links)
doors_same Links links = record {
  faults = refl;
  out = refl;
  ended = refl;
  given = λ told. refl;
  left = λ told. refl;
  at_hand = λ told. refl;
  back = λ told. refl;
  listened = λ told. refl;
}

-- and nobody was called by them
pub nobody_called : {L Door Dial In Out : Type 0} (Links : LinksGhosts L Door Dial In Out) (links : L) → CallsNobody (links_of Links links links)
nobody_called Links links = record { exchanged = λ told. refl; exchange_faults = λ name. refl }

-- ---- memory that is wanting for the words

pub nothing_begun : (s : Scene) → IsUntouched s → CallsNobody s.links → (read : Option Reading) → OfReading s read ends.Memory
nothing_begun s same nobody None = same
nothing_begun s same nobody (Some runs_case) = record { ends = same; succeeds = λ told out_told script read write. inr refl }
nothing_begun s same nobody (Some (runs_init files)) =
    record { ends = same.shelf; succeeds = λ told says shelf. inr refl; reads_nothing = same.input; writes_nothing = same.output; listens_nowhere = same.links }
nothing_begun s same nobody (Some (runs_batch files workers)) = record {
  ends = (same.shelf, same.input, same.output);
  succeeds = λ told in_told out_told script says shelf read write. inr refl;
  listens_nowhere = same.links;
}
nothing_begun s same nobody (Some (runs_audit files user json)) =
    record { ends = (same.shelf, same.output); succeeds = λ told says shelf write. inr refl; reads_nothing = same.input; listens_nowhere = same.links }
nothing_begun s same nobody (Some (runs_dossier files user)) =
    record { ends = (same.shelf, same.output); succeeds = λ told says shelf write. inr refl; reads_nothing = same.input; listens_nowhere = same.links }
nothing_begun s same nobody (Some (runs_check policy facts user)) =
    record {
      ends =
          (same.shelf, same.input, same.output);
      succeeds = λ told in_told says shelf read write. inr refl;
      listens_nowhere = same.links;
    }
nothing_begun s same nobody (Some (runs_selfrun seed users asks)) = record { ends = same; succeeds = λ write. inr refl }
nothing_begun s same nobody (Some (runs_serve files address workers sessions)) =
    record {
      ends =
          (same.shelf, same.links);
      succeeds = λ told links_told says shelf links. inr refl;
      reads_nothing = same.input;
      writes_nothing = same.output;
      calls_nobody = nobody;
    }
nothing_begun s same nobody (Some (runs_migrate files to)) =
    record { ends = same.shelf; succeeds = λ told says shelf. inr refl; reads_nothing = same.input; writes_nothing = same.output; listens_nowhere = same.links }
nothing_begun s same nobody (Some (runs_mirrored_batch files workers standby)) = record {
  told = s.shelf.told';
  ends = (same.shelf, same.input, same.output);
  succeeds = λ told in_told out_told script says shelf read write. inr refl;
  listens_nowhere = inl same.links;
  calls = nobody.exchanged;
}
nothing_begun s same nobody (Some (runs_mirrored_serve files address workers sessions standby)) =
    record {
      told = s.shelf.told';
      ends =
          (same.shelf, same.links);
      succeeds = λ told links_told says shelf links. inr refl;
      reads_nothing = same.input;
      writes_nothing = same.output;
      calls = nobody.exchanged;
    }
nothing_begun s same nobody (Some (runs_standby files address sessions)) =
    record {
      ends =
          (same.shelf, same.links);
      succeeds = λ told links_told says shelf links. inr refl;
      reads_nothing = same.input;
      writes_nothing = same.output;
      calls_nobody = nobody;
    }
