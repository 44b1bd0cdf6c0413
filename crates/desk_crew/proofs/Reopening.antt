-- Desks that are closed and opened again, and their disks where memory was wanting.
use Rattle.std.proofs.Common.{◌≡◌, ℕ, suc, ◌≤◌, Bool, List, [], ◌∷◌, length, refl, sym, ap, subst, ◌∙◌, arith}
use Rattle.std.specs.Prelude.{Option, Some, None, Ok, Err, IfSome}
use Rattle.std.specs.List.{AllByRecursion, AllZip}
use Rattle.std.proofs.lemmas.List.Elements.{All-from_recursion}
use Rattle.outside.specs.Shelf.{AllOut, AllIn, SameBeside}
use Rattle.outside.specs.declared.disk.Disk.{Ghosts as DiskGhosts}
use Rattle.cqe_base.specs.Schema.{Text, DatabaseSchema, has_duplicate}
use Rattle.cqe_base.specs.Facts.{FactSet}
use Rattle.cqe_base.specs.History.{profile_of}
use Rattle.cqe_base.specs.Limits.{KeepsLimits}
use Rattle.censors.specs.Admitting.{admission_of}
use Rattle.desk_crew.specs.Crew.{seat_journal, seat_disk, IsOpenedFrom, IsSeatServed, IsReopened, AreReopened}
use Rattle.desk_crew.specs.Seats.{DeskSeat}
use Rattle.desk_crew.specs.Shelved.{journals, IsBack, AreBack, AreLater}
use Rattle.desk_crew.specs.Registered.{SeatsKeepLimits}
use Rattle.desk_crew.specs.Side.{DeskPlace, DeskOpening, AtDisk, IsAtDisk, place_journal, opening_journals, place_faults, OpeningsLater}
use Rattle.desk_crew.specs.Side.{IsLeftFrom, ArePutBack, IsClosedDisk, IsClosedOf, KeepsOpening, IsKnown, IsSeatOn, IsSeatFrom, AreSeatsFrom}
use Rattle.desk_crew.proofs.Giving.{CanGive, AreReady}
use Rattle.desk_crew.proofs.Placing.{disk_weaker, disk_both}

module _ (schema : DatabaseSchema) (world : FactSet) (header : List ℕ) {D : Type 0} {g h : _} (Disk : DiskGhosts D) where
  -- a seat's names go on
  pub same_journals : (olds news : List (DeskSeat D g h)) → AreReopened schema world header Disk olds news → journals news ≡ journals olds
  same_journals [] [] are = refl
  same_journals [] (n ∷ news) are = absurd are
  same_journals (o ∷ olds) [] are = absurd are
  same_journals (o ∷ olds) (n ∷ news) are = ap (λ j. j ∷ journals news) are.0.journal_is ∙ ap (λ js. seat_journal o ∷ js) (same_journals olds news are.1)

  pub later_reopened : (count : Text → ℕ) (olds news : List (DeskSeat D g h)) → AreReopened schema world header Disk olds news
      → AreLater Disk.faults count olds → AreLater Disk.faults count news
  later_reopened count [] [] are later = tt
  later_reopened count [] (n ∷ news) are later = absurd are
  later_reopened count (o ∷ olds) [] are later = absurd are
  later_reopened count (o ∷ olds) (n ∷ news) are later =
      let first = later.0 in
      let closed = are.0.is_closed.later in
      let on = are.0.left.later in
      (subst (λ j. count j ≤ Disk.faults (seat_disk n)) (sym are.0.journal_is) (omega (arith, first, closed, on)), later_reopened count olds news are.1 later.1)

  -- the seat of an opening is the one that was closed, opened again
  reopened_one : (old : DeskSeat D g h) (opening : DeskOpening D g h) (new : DeskSeat D g h) → IsClosedOf Disk old opening
      → IsSeatFrom schema world header Disk opening new → IsReopened schema world header Disk old new
  reopened_one old opening new at from =
      disk_both (IsClosedDisk Disk old) (IsSeatOn schema world header Disk opening.user.now opening.before new) (IsReopened schema world header Disk old new)
      (λ closed was on. record {
        user_is = on.user_is ∙ at.user_is;
        journal_is = on.journal_is ∙ was.journal_is;
        closed = closed.disk;
        is_closed = was.is_closed;
        opened = subst (λ before. IsOpenedFrom schema world header Disk closed.disk before new) at.before_is on.opened;
        left = on.left;
      }) opening.place at.closed from

  pub all_reopened : (olds : List (DeskSeat D g h)) (openings : List (DeskOpening D g h)) (news : List (DeskSeat D g h))
      → AllZip (IsClosedOf Disk) olds openings → AreSeatsFrom schema world header Disk openings news → AreReopened schema world header Disk olds news
  all_reopened [] [] [] closed from = tt
  all_reopened [] [] (n ∷ news) closed from = absurd from
  all_reopened [] (o ∷ openings) news closed from = absurd closed
  all_reopened (s ∷ olds) [] news closed from = absurd closed
  all_reopened (s ∷ olds) (o ∷ openings) [] closed from = absurd from
  all_reopened (s ∷ olds) (o ∷ openings) (n ∷ news) closed from = (reopened_one s o n closed.0 from.0, all_reopened olds openings news closed.1 from.1)

  -- ---- what is known of the openings of seats that were closed

  closed_keeps : (seats : List (DeskSeat D g h)) (openings : List (DeskOpening D g h)) → AllZip (IsClosedOf Disk) seats openings
      → SeatsKeepLimits schema seats → AllByRecursion (IsSeatServed schema world header) seats
      → AllByRecursion (KeepsOpening schema world) openings × AllByRecursion (IsKnown schema world) openings
  closed_keeps [] [] closed limits served = (tt, tt)
  closed_keeps [] (o ∷ openings) closed limits served = absurd closed
  closed_keeps (s ∷ seats) [] closed limits served = absurd closed
  closed_keeps (s ∷ seats) (o ∷ openings) closed limits served =
      let rest = closed_keeps seats openings closed.1 limits.1 served.1 in
      let known : s.admission ≡ admission_of schema world (profile_of o.user.now) =
      served.0.admission_is ∙ ap (λ u. admission_of schema world (profile_of u)) (sym closed.0.user_is) in (
        (subst (λ u. KeepsLimits schema (profile_of u)) (sym closed.0.user_is) limits.0, rest.0),
        (
          record {
            known = subst (λ it. IfSome it (λ admission. admission ≡ admission_of schema world (profile_of o.user.now))) (sym closed.0.admission_is) known;
          },
          rest.1,
        ),
      )

module _ {D : Type 0} {g h : _} (Disk : DiskGhosts D) where
  closed_journal : (seat : DeskSeat D g h) (p : Option (DeskPlace D g h)) → AtDisk (IsClosedDisk Disk seat) p → place_journal p ≡ seat_journal seat
  closed_journal seat None at = absurd at
  closed_journal seat (Some (Ok other)) at = absurd at
  closed_journal seat (Some (Err closed)) at = at.journal_is

  closed_journals : (seats : List (DeskSeat D g h)) (openings : List (DeskOpening D g h)) → AllZip (IsClosedOf Disk) seats openings
      → opening_journals openings ≡ journals seats
  closed_journals [] [] closed = refl
  closed_journals [] (o ∷ openings) closed = absurd closed
  closed_journals (s ∷ seats) [] closed = absurd closed
  closed_journals (s ∷ seats) (o ∷ openings) closed =
      ap (λ j. j ∷ opening_journals openings) (closed_journal s o.place closed.0.closed)
      ∙ ap (λ js. seat_journal s ∷ js) (closed_journals seats openings closed.1)

  closed_later : (count : Text → ℕ) (seat : DeskSeat D g h) (p : Option (DeskPlace D g h)) → AtDisk (IsClosedDisk Disk seat) p
      → count (seat_journal seat) ≤ Disk.faults (seat_disk seat) → count (place_journal p) ≤ place_faults Disk.faults p
  closed_later count seat None at later = absurd at
  closed_later count seat (Some (Ok other)) at later = absurd at
  closed_later count seat (Some (Err closed)) at later =
      let on = at.is_closed.later in
      let named = ap count at.journal_is in
      omega (arith, later, on, named)

  closed_all : (count : Text → ℕ) (seats : List (DeskSeat D g h)) (openings : List (DeskOpening D g h)) → AllZip (IsClosedOf Disk) seats openings
      → AreLater Disk.faults count seats → AllByRecursion IsAtDisk openings × OpeningsLater Disk.faults count openings
  closed_all count [] [] closed later = (tt, tt)
  closed_all count [] (o ∷ openings) closed later = absurd closed
  closed_all count (s ∷ seats) [] closed later = absurd closed
  closed_all count (s ∷ seats) (o ∷ openings) closed later =
      let rest = closed_all count seats openings closed.1 later.1 in (
        (disk_weaker (IsClosedDisk Disk s) (λ it. Unit {0}) (λ it is. tt) o.place closed.0.closed, rest.0),
        (closed_later count s o.place closed.0.closed later.0, rest.1),
      )

  -- where a journal's disk is back, that of its seat is
  back_one : (told : Type 0) (disk : Text → Option D) (count : Text → ℕ) (seat : DeskSeat D g h) (p : Option (DeskPlace D g h)) (now : D)
      → AtDisk (IsClosedDisk Disk seat) p → IsLeftFrom Disk p now → (told → disk (place_journal p) ≡ Some now) → count (place_journal p) ≡ Disk.faults now
      → IsBack told Disk disk count seat
  back_one told disk count seat None now at left held counted = absurd at
  back_one told disk count seat (Some (Ok other)) now at left held counted = absurd at
  back_one told disk count seat (Some (Err closed)) now at left held counted = record {
    now = now;
    left = record { closed = closed.disk; is_closed = at.is_closed; left = left };
    held = λ t. ap disk (sym at.journal_is) ∙ held t;
    counted = ap count (sym at.journal_is) ∙ counted;
  }

  all_back : (told : Type 0) (disk : Text → Option D) (count : Text → ℕ) (seats : List (DeskSeat D g h)) (openings : List (DeskOpening D g h))
      → AllZip (IsClosedOf Disk) seats openings → ArePutBack told Disk disk count openings → AreBack told Disk disk count seats
  all_back told disk count [] [] closed back = tt
  all_back told disk count [] (o ∷ openings) closed back = absurd closed
  all_back told disk count (s ∷ seats) [] closed back = absurd closed
  all_back told disk count (s ∷ seats) (o ∷ openings) closed back = (
    back_one told disk count s o.place back.0.now closed.0.closed back.0.left back.0.held back.0.counted,
    all_back told disk count seats openings closed.1 back.1,
  )

  module _ (seats : List (DeskSeat D g h)) (openings : List (DeskOpening D g h)) (closed : AllZip (IsClosedOf Disk) seats openings) where
    pub many_closed : length openings ≡ length seats
    many_closed = many seats openings closed
      where
        many : (ss : List (DeskSeat D g h)) (os : List (DeskOpening D g h)) → AllZip (IsClosedOf Disk) ss os → length os ≡ length ss
        many [] [] are = refl
        many [] (o ∷ os) are = absurd are
        many (s ∷ ss) [] are = absurd are
        many (s ∷ ss) (o ∷ os) are = ap (λ n. suc n) (many ss os are.1)

    -- seats that were closed are ready to be opened again
    pub closed_ready : (schema : DatabaseSchema) (world : FactSet) (header : List ℕ) (is_out : Text → Bool) (count : Text → ℕ)
        → SeatsKeepLimits schema seats → AllByRecursion (IsSeatServed schema world header) seats → CanGive Disk seats is_out count
        → AreReady schema world Disk openings is_out count
    closed_ready schema world header is_out count limits served can =
        let keeps = closed_keeps schema world header Disk seats openings closed limits served in
        let all = closed_all count seats openings closed can.later in
        record {
          limits = All-from_recursion (KeepsOpening schema world) openings keeps.0;
          known = All-from_recursion (IsKnown schema world) openings keeps.1;
          closed = all.0;
          can = record {
            distinct = ap has_duplicate (closed_journals seats openings closed) ∙ can.distinct;
            out = subst (λ ns. AllOut ns is_out) (sym (closed_journals seats openings closed)) can.out;
            later = all.1;
          };
        }

    -- what changed beside the names of the openings did beside those of the seats
    pub beside_closed : {A : Type 0} (old new : Text → A) → SameBeside (opening_journals openings) old new → SameBeside (journals seats) old new
    beside_closed old new same = subst (λ ns. SameBeside ns old new) (closed_journals seats openings closed) same

    -- and where their disks are back, those of the seats are
    pub closed_back : (told : Type 0) (disk : Text → Option D) (count : Text → ℕ) → ArePutBack told Disk disk count openings
        → AreBack told Disk disk count seats
    closed_back told disk count back = all_back told disk count seats openings closed back

    pub inside_closed : (is_out : Text → Bool) → AllIn (opening_journals openings) is_out → AllIn (journals seats) is_out
    inside_closed is_out inside = subst (λ ns. AllIn ns is_out) (closed_journals seats openings closed) inside
