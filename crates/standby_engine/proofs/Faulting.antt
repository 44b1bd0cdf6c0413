-- A standby: where a refusal says that a disk failed, the count of its faults rose.
use Rattle.std.proofs.Common.{◌≡◌, ◌∙◌, ◌∷◌, [], ℕ, Bool, true, false, List, map, refl, sym, ap, subst}
use Rattle.std.specs.Prelude.{Option, Vec, ◌||◌, string_bytes}
use Rattle.std.specs.declared.alloc.Global.{Global}
use Rattle.std.specs.List.{AllByRecursion, list_any}
use Rattle.outside.specs.Faults.{Rose}
use Rattle.outside.specs.Shelf.{SomeRose}
use Rattle.outside.specs.declared.disk.Disk.{Ghosts as DiskGhosts}
use Rattle.cqe_base.specs.Schema.{Text}
use Rattle.cqe_base.specs.declared.user.User.{User}
use Rattle.log_journal.specs.Names.{journal_name}
use Rattle.user_desk.specs.declared.standing.DeskError.{DeskError}
use Rattle.user_desk.specs.declared.standing.DeskError.TheVariants.{Journal}
use Rattle.desk_crew.specs.Refusals.{is_disk_fault, refused_by_disk, SomeFaulted}
use Rattle.desk_crew.proofs.Faulting.{refusal_faulted}
use Rattle.standby_engine.specs.Opened.{place_refusal, given_journal, others_in, ArePlacesOf}
use Rattle.standby_engine.specs.Standing.{IsDiskRefusal, copy_end}
use Rattle.standby_engine.specs.declared.opening.Given.{Given as Back}
use Rattle.standby_engine.specs.declared.opening.Place.{Place}
use Rattle.standby_engine.specs.declared.opening.Place.TheVariants.{Opened, Refused}
use Rattle.standby_engine.specs.declared.serving.DoorEnd.{DoorEnd}
use Rattle.standby_engine.specs.declared.serving.DoorEnd.TheVariants.{Ended, Limit, Failed}
use Rattle.standby_engine.proofs.Places.{IsUnder}

-- the refusals of an end are those that it was given
pub faulted_at : (refusals : Vec (Option DeskError) Global) (broken wanting : Bool) (door : DoorEnd)
    → IsDiskRefusal (copy_end door refusals broken wanting) → SomeFaulted refusals.items
faulted_at refusals broken wanting Ended is = is
faulted_at refusals broken wanting Limit is = is
faulted_at refusals broken wanting Failed is = absurd is

module _ (directory header : List ℕ) {D : Type 0} {g : _} (told : Type 0) (Disk : DiskGhosts D) (disk0 disk1 : Text → Option D)
    (count0 count1 : Text → ℕ) where
  -- the disks that weren't opened are back
  pub some_faulted : (users : List User) (places : List (Place D g)) → ArePlacesOf told Disk header directory disk0 count0 users places
      → AllByRecursion (λ (b : Back D). IsUnder told Disk disk1 count1 (given_journal b) b.disk) (others_in places)
      → SomeFaulted (map place_refusal places) → SomeRose count0 count1
  some_faulted [] [] are others none = let clash : false ≡ true = none in absurd cc
  some_faulted [] (place ∷ places) are others some = absurd are
  some_faulted (user ∷ users) [] are others some = absurd are
  some_faulted (user ∷ users) (Opened journal held ∷ places) are others some = some_faulted users places are.1 others some
  some_faulted (user ∷ users) (Refused journal disk why ∷ places) are others some =
      by (is_disk_fault (Journal why)) refl (some_faulted users places are.1 others.1)
    where
      own : Text
      own = journal_name directory (string_bytes user.name)

      by : (b : Bool) → is_disk_fault (Journal why) ≡ b → (SomeFaulted (map place_refusal places) → SomeRose count0 count1) → SomeRose count0 count1
      by true is later = (
        own,
        subst (λ n. Rose n (count1 own)) are.0.counted
            (subst (λ n. Rose (Disk.faults are.0.taken) n) (sym others.0.counted ∙ ap count1 are.0.journal_is)
            (refusal_faulted Disk.tells header (Disk.reads are.0.taken) (Disk.faults are.0.taken) (Disk.faults disk) why are.0.sound is)),
      )
      by false is later = later (ap (λ b. b || list_any refused_by_disk (map place_refusal places)) (sym is) ∙ some)
