-- The counts of names that rise as desks are given back.
use Rattle.std.proofs.Common.{◌≡◌, ◌⊎◌, inl, inr, ℕ, ◌≤◌, Bool, true, false, List, [], ◌∷◌, refl, sym, ap, subst, ◌∙◌, arith}
use Rattle.std.specs.Prelude.{Option, ◌||◌}
use Rattle.std.specs.List.{list_any}
use Rattle.outside.proofs.Rises.{rose_wide}
use Rattle.outside.specs.Faults.{Rose}
use Rattle.outside.specs.declared.disk.Disk.{Ghosts as DiskGhosts}
use Rattle.cqe_base.specs.Schema.{Text}
use Rattle.desk_crew.specs.Crew.{seat_journal, seat_disk, seat_broke}
use Rattle.outside.specs.Shelf.{SomeRose}
use Rattle.desk_crew.specs.Shelved.{IsBack, AreBack, AreLater}
use Rattle.desk_crew.specs.Seats.{DeskSeat}

-- one of these is such
abbrev pub AtSome : {X : Type 0} → (X → Type 0) → List X → Type 0
AtSome P [] = ⊥
AtSome P (x ∷ xs) = P x ⊎ AtSome P xs

pub some_weaker : {X : Type 0} (P Q : X → Type 0) (xs : List X) → ((x : X) → P x → Q x) → AtSome P xs → AtSome Q xs
some_weaker P Q [] weaker none = absurd none
some_weaker P Q (x ∷ xs) weaker (inl here) = inl (weaker x here)
some_weaker P Q (x ∷ xs) weaker (inr further) = inr (some_weaker P Q xs weaker further)

module _ {D : Type 0} {g h : _} (told : Type 0) (Disk : DiskGhosts D) (count count' : Text → ℕ)
    (disk' : Text → Option D) where
  -- an append failed at a seat's desk, or the count of its disk had risen as it was opened
  abbrev pub HasFailed : DeskSeat D g h → Type 0
  HasFailed seat = (seat_broke seat ≡ true) ⊎ Rose (count (seat_journal seat)) (Disk.faults (seat_disk seat))

  -- then the count of its name rises as it is given back
  seat_rose : (seat : DeskSeat D g h) → count (seat_journal seat) ≤ Disk.faults (seat_disk seat) → IsBack told Disk disk' count' seat → HasFailed seat
      → Rose (count (seat_journal seat)) (count' (seat_journal seat))
  seat_rose seat first back failed = subst (λ n. Rose (count (seat_journal seat)) n) (sym back.counted) (by failed)
    where
      by : HasFailed seat → Rose (count (seat_journal seat)) (Disk.faults back.now)
      by (inl broke) =
          rose_wide (count (seat_journal seat)) (Disk.faults (seat_disk seat)) (Disk.faults back.left.closed) (Disk.faults back.now) first back.left.left.later
          (back.left.is_closed.cause broke)
      by (inr rose) =
          let closed = back.left.is_closed.later in
          let later = back.left.left.later in
          rose_wide (count (seat_journal seat)) (count (seat_journal seat)) (Disk.faults (seat_disk seat)) (Disk.faults back.now) (omega arith)
          (omega (arith, closed, later)) rose

  pub some_rose : (seats : List (DeskSeat D g h)) → AreLater Disk.faults count seats → AreBack told Disk disk' count' seats → AtSome HasFailed seats
      → SomeRose count count'
  some_rose [] first back failed = absurd failed
  some_rose (seat ∷ seats) first back (inl here) = (seat_journal seat, seat_rose seat first.0 back.0 here)
  some_rose (seat ∷ seats) first back (inr further) = some_rose seats first.1 back.1 further

  pub any_failed : (seats : List (DeskSeat D g h)) → list_any seat_broke seats ≡ true → AtSome HasFailed seats
  any_failed [] none = absurd cc
  any_failed (seat ∷ seats) some = by (seat_broke seat) refl (any_failed seats)
    where
      by : (b : Bool) → seat_broke seat ≡ b → (list_any seat_broke seats ≡ true → AtSome HasFailed seats) → AtSome HasFailed (seat ∷ seats)
      by true broke others = inl (inl broke)
      by false whole others = inr (others (ap (λ b. b || list_any seat_broke seats) (sym whole) ∙ some))
