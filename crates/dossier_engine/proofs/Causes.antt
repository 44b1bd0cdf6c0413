-- A dossier of a user whose journal was refused for a fault of its disk: the count of its faults rose.
use Rattle.std.proofs.Common.{◌≡◌, ◌∙◌, ℕ, true, false, List, sym, ap}
use Rattle.outside.specs.Faults.{Rose}
use Rattle.cqe_base.specs.Schema.{DatabaseSchema, Text}
use Rattle.cqe_base.specs.Facts.{FactSet}
use Rattle.cqe_base.specs.History.{UserProfile, History}
use Rattle.log_journal.specs.Opening.{IsRefused}
use Rattle.log_journal.specs.Records.{Recorded}
use Rattle.log_journal.specs.declared.header.OpenError.{OpenError}
use Rattle.user_desk.specs.Causes.{IsReplay}
use Rattle.user_desk.specs.declared.standing.DeskError.{DeskError}
use Rattle.user_desk.specs.declared.standing.DeskError.TheVariants.{Journal, Stale, Unlawful, Size, NotAdmitted, Unsafe}
use Rattle.user_desk.specs.declared.standing.Standing.TheVariants.{Sealed}
use Rattle.desk_crew.proofs.Faulting.{refusal_faulted}
use Rattle.desk_crew.specs.Refusals.{is_disk_fault}
use Rattle.dossier_engine.specs.Ends.{IsDiskRefusal}
use Rattle.dossier_engine.specs.Shown.{JudgesRecords, JudgesRefusal}
use Rattle.dossier_engine.specs.declared.end.DossierEnd.{DossierEnd}
use Rattle.dossier_engine.specs.declared.end.DossierEnd.TheVariants as ends

module _ (schema : DatabaseSchema) (world : FactSet) (name : Text) (user : UserProfile) (all : List Recorded) where
  -- no record is refused for a fault of the disk
  replay_whole : (entries : History) (why : DeskError) → IsReplay schema world user all entries (Sealed why) → is_disk_fault why ≡ true → ⊥
  replay_whole entries (Journal why) replay is = replay.2.refused
  replay_whole entries (Stale number) replay is = let clash : false ≡ true = is in absurd cc
  replay_whole entries (Unlawful number stored computed) replay is = let clash : false ≡ true = is in absurd cc
  replay_whole entries (Size number) replay is = let clash : false ≡ true = is in absurd cc
  replay_whole entries (NotAdmitted admission) replay is = let clash : false ≡ true = is in absurd cc
  replay_whole entries (Unsafe number) replay is = let clash : false ≡ true = is in absurd cc

  pub records_whole : (end : DossierEnd) → JudgesRecords schema world name user all end → IsDiskRefusal end → ⊥
  records_whole ends.Done judged is = is
  records_whole (ends.Refused why) judged is = replay_whole judged.entries why judged.replay is
  records_whole ends.WriteFault judged is = is
  records_whole ends.ShelfFault judged is = is
  records_whole ends.Memory judged is = is

-- a journal that isn't opened is shown with its reason
pub refused_cause : (told : Type 0) (header bytes : List ℕ) (before now : ℕ) (why : OpenError) → IsRefused told header bytes before now why
    → (end : DossierEnd) → JudgesRefusal why end → IsDiskRefusal end → Rose before now
refused_cause told header bytes before now why refused ends.Done judged is = absurd is
refused_cause told header bytes before now why refused (ends.Refused other) judged is =
    refusal_faulted told header bytes before now why refused (ap is_disk_fault (sym judged.1) ∙ is)
refused_cause told header bytes before now why refused ends.WriteFault judged is = absurd is
refused_cause told header bytes before now why refused ends.ShelfFault judged is = absurd is
refused_cause told header bytes before now why refused ends.Memory judged is = absurd is
