-- Refusals that say that a disk failed: the count of its name rises as its desk is given back.
use Rattle.std.proofs.Common.{◌≡◌, inl, inr, ℕ, ◌≤◌, Bool, true, false, List, [], ◌∷◌, map, refl, sym, ap, subst, ◌∙◌, arith}
use Rattle.std.specs.Prelude.{Option, Some, None, ◌||◌}
use Rattle.std.specs.List.{AllByRecursion, list_any}
use Rattle.outside.specs.Faults.{Rose}
use Rattle.outside.specs.Shelf.{SomeRose}
use Rattle.outside.specs.declared.disk.Disk.{Ghosts as DiskGhosts}
use Rattle.outside.proofs.Rises.{rose_wide}
use Rattle.cqe_base.specs.Schema.{Text, DatabaseSchema}
use Rattle.cqe_base.specs.Facts.{FactSet}
use Rattle.cqe_base.specs.History.{UserProfile, History, profile_of}
use Rattle.cqe_base.specs.declared.user.User.{User}
use Rattle.log_journal.specs.Opening.{IsRefused}
use Rattle.log_journal.specs.declared.header.OpenError.{OpenError}
use Rattle.log_journal.specs.declared.header.OpenError.TheVariants.{NotAJournal, OtherPolicy, Damaged, DiskFault, Memory, OldVersion}
use Rattle.user_desk.specs.Causes.{IsSealedBy, IsStanding}
use Rattle.user_desk.specs.declared.standing.DeskError.{DeskError}
use Rattle.user_desk.specs.declared.standing.DeskError.TheVariants.{Journal, Stale, Unlawful, Size, NotAdmitted, Unsafe}
use Rattle.user_desk.specs.declared.standing.Standing.{Standing}
use Rattle.user_desk.specs.declared.standing.Standing.TheVariants.{Open, Closed, Sealed}
use Rattle.desk_crew.specs.Crew.{refusal_of, first_refusal, seat_user, seat_journal, seat_disk, seat_standing, seat_history, IsReopened, AreReopened}
use Rattle.desk_crew.specs.Refusals.{is_disk_fault, refused_by_disk, SomeFaulted}
use Rattle.desk_crew.specs.Seats.{DeskSeat}
use Rattle.desk_crew.specs.Shelved.{AreBack, AreLater, AreSeatsOf}
use Rattle.desk_crew.proofs.Rising.{AtSome, HasFailed, some_rose}

module _ (schema : DatabaseSchema) (world : FactSet) (user : UserProfile) (told : Type 0) (header bytes : List ℕ) (before now : ℕ) where
  -- such a refusal has its cause
  pub faulted : (why : DeskError) → IsSealedBy schema world user told header bytes before now why → is_disk_fault why ≡ true → Rose before now
  faulted (Journal DiskFault) sealed is = sealed
  faulted (Journal NotAJournal) sealed is = let clash : false ≡ true = is in absurd cc
  faulted (Journal OtherPolicy) sealed is = let clash : false ≡ true = is in absurd cc
  faulted (Journal (Damaged number)) sealed is = let clash : false ≡ true = is in absurd cc
  faulted (Journal OldVersion) sealed is = let clash : false ≡ true = is in absurd cc
  faulted (Journal Memory) sealed is = absurd sealed
  faulted (Stale number) sealed is = let clash : false ≡ true = is in absurd cc
  faulted (Unlawful number stored computed) sealed is = let clash : false ≡ true = is in absurd cc
  faulted (Size number) sealed is = let clash : false ≡ true = is in absurd cc
  faulted (NotAdmitted admission) sealed is = let clash : false ≡ true = is in absurd cc
  faulted (Unsafe number) sealed is = let clash : false ≡ true = is in absurd cc

  pub standing_faulted : (entries : History) (standing : Standing) → IsStanding schema world user told header bytes entries before now standing
      → refused_by_disk (refusal_of standing) ≡ true → Rose before now
  standing_faulted entries Open stands is = let clash : false ≡ true = is in absurd cc
  standing_faulted entries (Closed admission) stands is = let clash : false ≡ true = is in absurd cc
  standing_faulted entries (Sealed why) stands is = faulted why stands.1 is

-- so has one of the journal alone
pub refusal_faulted : (told : Type 0) (header bytes : List ℕ) (before now : ℕ) (why : OpenError) → IsRefused told header bytes before now why
    → is_disk_fault (Journal why) ≡ true → Rose before now
refusal_faulted told header bytes before now DiskFault refused is = refused
refusal_faulted told header bytes before now NotAJournal refused is = let clash : false ≡ true = is in absurd cc
refusal_faulted told header bytes before now OtherPolicy refused is = let clash : false ≡ true = is in absurd cc
refusal_faulted told header bytes before now (Damaged number) refused is = let clash : false ≡ true = is in absurd cc
refusal_faulted told header bytes before now OldVersion refused is = let clash : false ≡ true = is in absurd cc
refusal_faulted told header bytes before now Memory refused is = let clash : false ≡ true = is in absurd cc

module _ {D : Type 0} {g h : _} (Disk : DiskGhosts D) (count : Text → ℕ) where
  -- where a seat's refusal says so, the count of its disk had risen as its desk was opened
  abbrev pub HasFaulted : DeskSeat D g h → Type 0
  HasFaulted seat = refused_by_disk seat.refusal ≡ true → Rose (count (seat_journal seat)) (Disk.faults (seat_disk seat))

  abbrev pub HaveFaulted : List (DeskSeat D g h) → Type 0
  HaveFaulted seats = AllByRecursion HasFaulted seats

  -- so it is once the journals of all users were opened
  pub first_faulted : (told : Type 0) (schema : DatabaseSchema) (world : FactSet) (header directory : List ℕ) (disk : Text → Option D) (users : List User)
      (seats : List (DeskSeat D g h)) → AreSeatsOf told Disk schema world header directory disk count users seats → HaveFaulted seats
  first_faulted told schema world header directory disk [] [] are = tt
  first_faulted told schema world header directory disk [] (seat ∷ seats) are = absurd are
  first_faulted told schema world header directory disk (user ∷ users) [] are = absurd are
  first_faulted told schema world header directory disk (user ∷ users) (seat ∷ seats) are = (
    λ is. subst (λ n. Rose n (Disk.faults (seat_disk seat))) are.0.counted
        (standing_faulted schema world (profile_of (seat_user seat)) Disk.tells header (Disk.reads are.0.taken) (Disk.faults are.0.taken)
        (Disk.faults (seat_disk seat)) (seat_history seat) (seat_standing seat) are.0.opened.standing (ap refused_by_disk (sym are.0.opened.refusal) ∙ is)),
    first_faulted told schema world header directory disk users seats are.1,
  )

  module _ (schema : DatabaseSchema) (world : FactSet) (header : List ℕ) where
    -- and it stays so as they are opened again
    seat_reopened : (old new : DeskSeat D g h) → IsReopened schema world header Disk old new
        → count (seat_journal old) ≤ Disk.faults (seat_disk old) → HasFaulted old → HasFaulted new
    seat_reopened old new again first has is =
        subst (λ n. Rose (count n) (Disk.faults (seat_disk new))) (sym again.journal_is)
        (by old.refusal refl (ap refused_by_disk (sym again.opened.refusal) ∙ is))
      where
        by : (before : Option DeskError) → old.refusal ≡ before → refused_by_disk (first_refusal old.refusal (seat_standing new)) ≡ true
            → Rose (count (seat_journal old)) (Disk.faults (seat_disk new))
        by (Some why) was said =
            let closed = again.is_closed.later in
            let opened = again.left.later in
            rose_wide (count (seat_journal old)) (count (seat_journal old)) (Disk.faults (seat_disk old)) (Disk.faults (seat_disk new)) (omega arith)
            (omega (arith, closed, opened))
            (has (ap refused_by_disk was ∙ sym (ap (λ o. refused_by_disk (first_refusal o (seat_standing new))) was) ∙ said))
        by None was said =
            let closed = again.is_closed.later in
            rose_wide (count (seat_journal old)) (Disk.faults again.closed) (Disk.faults (seat_disk new)) (Disk.faults (seat_disk new))
            (omega (arith, first, closed)) (omega arith)
            (standing_faulted schema world (profile_of (seat_user new)) Disk.tells header (Disk.reads again.closed) (Disk.faults again.closed)
            (Disk.faults (seat_disk new)) (seat_history new) (seat_standing new) again.opened.standing
            (sym (ap (λ o. refused_by_disk (first_refusal o (seat_standing new))) was) ∙ said))

    pub all_reopened : (olds news : List (DeskSeat D g h)) → AreReopened schema world header Disk olds news → AreLater Disk.faults count olds
        → HaveFaulted olds → HaveFaulted news
    all_reopened [] [] are first have = tt
    all_reopened [] (new ∷ news) are first have = absurd are
    all_reopened (old ∷ olds) [] are first have = absurd are
    all_reopened (old ∷ olds) (new ∷ news) are first have =
        (seat_reopened old new are.0 first.0 have.0, all_reopened olds news are.1 first.1 have.1)

  module _ (told : Type 0) (count' : Text → ℕ) (disk' : Text → Option D) where
    some_faulted : (seats : List (DeskSeat D g h)) → HaveFaulted seats → SomeFaulted (map (λ seat. seat.refusal) seats)
        → AtSome (HasFailed told Disk count count' disk') seats
    some_faulted [] have none = let clash : false ≡ true = none in absurd cc
    some_faulted (seat ∷ seats) have some = by (refused_by_disk seat.refusal) refl (some_faulted seats have.1)
      where
        by : (b : Bool) → refused_by_disk seat.refusal ≡ b
            → (SomeFaulted (map (λ seat. seat.refusal) seats) → AtSome (HasFailed told Disk count count' disk') seats)
            → AtSome (HasFailed told Disk count count' disk') (seat ∷ seats)
        by true is others = inl (inr (have.0 is))
        by false is others = inr (others (ap (λ b. b || list_any refused_by_disk (map (λ seat. seat.refusal) seats)) (sym is) ∙ some))

    -- so some count rises as they are given back
    pub faulted_rose : (seats : List (DeskSeat D g h)) → AreLater Disk.faults count seats → AreBack told Disk disk' count' seats → HaveFaulted seats
        → SomeFaulted (map (λ seat. seat.refusal) seats) → SomeRose count count'
    faulted_rose seats first back have some = some_rose told Disk count count' disk' seats first back (some_faulted seats have some)
