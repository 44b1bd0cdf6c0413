-- Without a fault, a standby serves its primary to the end over journals that can be opened, or memory was wanting.
use Rattle.std.proofs.Common.{◌≡◌, ◌≢◌, inl, inr, ℕ, true, false, List, [], ◌∷◌, map, Option, None, Some, refl, sym, subst}
use Rattle.std.proofs.Common.{string_bytes}
use Rattle.std.specs.Prelude.{Vec}
use Rattle.std.specs.List.{AllByRecursion}
use Rattle.std.specs.declared.alloc.Global.{Global}
use Rattle.outside.specs.Faults.{Rose}
use Rattle.cqe_base.specs.declared.user.User.{User}
use Rattle.command_words.specs.Readings.{FileNames}
use Rattle.desk_crew.specs.Shelved.{Journals}
use Rattle.log_journal.specs.Opening.{Refuses, IsRefused}
use Rattle.log_journal.specs.declared.header.OpenError.{OpenError}
use Rattle.log_journal.specs.declared.header.OpenError.TheVariants.{NotAJournal, OtherPolicy, Damaged, DiskFault, Memory, OldVersion}
use Rattle.policy_files.specs.Memory.{policy_user_of}
use Rattle.policy_files.specs.Policies.{PolicyUser}
use Rattle.standby_engine.specs.Standing.{IsCopied, AreCopied, SomeFailed}
use Rattle.standby_engine.specs.declared.run.CopyEnd.{CopyEnd}
use Rattle.standby_engine.specs.declared.run.CopyEnd.TheVariants as copy_end
use Rattle.user_desk.specs.declared.standing.DeskError.{DeskError}
use Rattle.user_desk.specs.declared.standing.DeskError.TheVariants as desk_errors
use Rattle.cqe_top.specs.declared.end.CommandEnd.TheVariants as ends
use Rattle.cqe_top.specs.Files.{SayOn, journals_of}
use Rattle.cqe_top.specs.Ready.{CanBeMirrored}
use Rattle.cqe_top.specs.Reports.{has_refusal, FaultsHaveCauses, IsDoneUnlessMemory}
use Rattle.cqe_top.specs.Scene.{Scene}
use Rattle.cqe_top.specs.Standby.{CopiesOverFiles, RunsStandby, StandbySucceeds}
use Rattle.cqe_top.proofs.Good.{agree, copies_done}

-- a disk that shows no reason to be refused isn't refused without a rise of its count
not_refused_at : (header bytes : List ℕ) (count count' : ℕ) (why : OpenError) → ((why : OpenError) → Refuses header bytes why → ⊥)
    → (Rose count count' → ⊥) → why ≢ Memory → IsRefused (Unit {0}) header bytes count count' why → ⊥
not_refused_at header bytes count count' NotAJournal shows whole wanted is = shows NotAJournal (is tt)
not_refused_at header bytes count count' OtherPolicy shows whole wanted is = shows OtherPolicy (is tt)
not_refused_at header bytes count count' (Damaged number) shows whole wanted is = shows (Damaged number) (is tt)
not_refused_at header bytes count count' OldVersion shows whole wanted is = shows OldVersion (is.1 tt)
not_refused_at header bytes count count' DiskFault shows whole wanted is = whole is
not_refused_at header bytes count count' Memory shows whole wanted is = wanted refl

module _ (header : List ℕ) (journals : Journals) where
  -- a user's disk shows no reason to be refused, and its count didn't rise
  abbrev CanCopy : PolicyUser → Type 0
  CanCopy user =
      ((why : OpenError) → Refuses header (journals.bytes user.name) why → ⊥) × (Rose (journals.before user.name) (journals.now user.name) → ⊥)

  not_mirrored : (user : User) (why : DeskError) → CanCopy (policy_user_of user) → IsCopied header journals (string_bytes user.name) (Some why) → ⊥
  not_mirrored user (desk_errors.Journal why) can is =
      not_refused_at header (journals.bytes (string_bytes user.name)) (journals.before (string_bytes user.name)) (journals.now (string_bytes user.name)) why
      can.0 can.1 is.0 is.1
  not_mirrored user (desk_errors.Stale number) can is = is
  not_mirrored user (desk_errors.Unlawful number stored computed) can is = is
  not_mirrored user (desk_errors.Size number) can is = is
  not_mirrored user (desk_errors.Unsafe number) can is = is
  not_mirrored user (desk_errors.NotAdmitted admission) can is = is

  none_refused : (users : List User) (refusals : List (Option DeskError)) → AreCopied header journals users refusals
      → AllByRecursion CanCopy (map policy_user_of users) → has_refusal refusals ≡ true → ⊥
  none_refused [] [] copied can says = let clash : false ≡ true = says in cc
  none_refused [] (refusal ∷ refusals) copied can says = copied
  none_refused (user ∷ users) [] copied can says = copied
  none_refused (user ∷ users) (None ∷ refusals) copied can says = none_refused users refusals copied.1 can.1 says
  none_refused (user ∷ users) (Some why ∷ refusals) copied can says = not_mirrored user why can.0 copied.0

  none_failed : (users : List User) → AllByRecursion CanCopy (map policy_user_of users) → SomeFailed journals users → ⊥
  none_failed [] can failed = failed
  none_failed (user ∷ users) can (inl rose) = can.0.1 rose
  none_failed (user ∷ users) can (inr failed) = none_failed users can.1 failed

module _ (s : Scene) (files : FileNames) (address : List ℕ) (limit : ℕ) where
  pub standby_succeeds : (users : Vec User Global) (end : CopyEnd) → RunsStandby s.shelf s.links files address limit users end
      → FaultsHaveCauses s (ends.Standby users end)
      → StandbySucceeds s.shelf s.links files address limit (ends.Standby users end)
  standby_succeeds users (copy_end.Done refusals is_broken is_wanting) ran cause told links_told says shelf links =
      by (agree (CopiesOverFiles s.shelf s.links files address limit users (copy_end.Done refusals is_broken is_wanting))
      (CanBeMirrored (journals_of s.shelf files)) s.shelf files (ran.over_files told) says)
    where
      by : SayOn s.shelf files (λ policy world header.
          CopiesOverFiles s.shelf s.links files address limit users (copy_end.Done refusals is_broken is_wanting) policy world header
          × CanBeMirrored (journals_of s.shelf files) policy world header)
          → IsDoneUnlessMemory (ends.Standby users (copy_end.Done refusals is_broken is_wanting))
      by (policy, world, header, say, (over, can)) =
          copies_done users refusals is_broken is_wanting
          (none_refused header (journals_of s.shelf files) users.items refusals.items over.journals.0 ready)
          (λ broken. none_failed header (journals_of s.shelf files) users.items ready (over.journals.1 broken))
        where
          ready : AllByRecursion (CanCopy header (journals_of s.shelf files)) (map policy_user_of users.items)
          ready = subst (AllByRecursion (CanCopy header (journals_of s.shelf files))) (sym over.of_policy) can
  standby_succeeds users copy_end.LinksFault ran cause told links_told says shelf links = absurd (links (cause.links refl))
  standby_succeeds users copy_end.ShelfFault ran cause told links_told says shelf links = absurd (shelf (cause.shelf refl))
  standby_succeeds users copy_end.Memory ran cause told links_told says shelf links = inr refl
