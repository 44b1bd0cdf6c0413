-- Disks that go back under the names under which they were taken.
use Rattle.std.proofs.Common.{◌≡◌, ℕ, List, [], ◌∷◌, ◌++◌, sym, ap, subst, ◌∙◌}
use Rattle.std.specs.Prelude.{Option, Some, None, Ok, Err}
use Rattle.std.specs.List.{AllByRecursion, AllZip}
use Rattle.outside.specs.declared.disk.Disk.{Ghosts as DiskGhosts}
use Rattle.cqe_base.specs.Schema.{Text, DatabaseSchema}
use Rattle.cqe_base.specs.Facts.{FactSet}
use Rattle.cqe_base.specs.declared.user.User.{User}
use Rattle.user_desk.specs.declared.standing.DeskError.{DeskError}
use Rattle.desk_crew.specs.Crew.{seat_journal, seat_disk, disk_seated, AreReopened}
use Rattle.desk_crew.specs.Seats.{DeskSeat}
use Rattle.desk_crew.specs.Shelved.{AreOwn}
use Rattle.desk_crew.specs.Side.{DeskPlace, DeskOpening, AtDisk, IfAtDisk, IsAtDisk, place_journal, place_origin, OpeningsOwn, IsShut}
use Rattle.desk_crew.specs.Side.{IsClosedDisk, IsClosedOf, IsTried, IsTriedFrom, IsSeatOn, AreSeatsFrom}

-- one more of which something holds
pub all_more : {X : Type 0} (P : X → Type 0) (xs : List X) (x : X) → AllByRecursion P xs → P x → AllByRecursion P (xs ++ x ∷ [])
all_more P [] x all more = (more, tt)
all_more P (y ∷ xs) x all more = (all.0, all_more P xs x all.1 more)

module _ {D : Type 0} {g h : _} (Disk : DiskGhosts D) where
  -- a disk with which a journal was shut comes from where its own came
  pub shut_origin : (place : DeskPlace D g h) (disk : D) → IsShut Disk place disk → Disk.origin disk ≡ Disk.origin (disk_seated place)
  shut_origin (Ok seat) disk shut = shut.comes
  shut_origin (Err closed) disk shut = ap Disk.origin shut

  module _ (known : Text → List (List ℕ)) where
    -- ---- seats that are closed

    closed_one : (seat : DeskSeat D g h) (p : Option (DeskPlace D g h)) → AtDisk (IsClosedDisk Disk seat) p
        → Disk.origin (seat_disk seat) ≡ known (seat_journal seat) → place_origin Disk.origin p ≡ known (place_journal p)
    closed_one seat None at own = absurd at
    closed_one seat (Some (Ok other)) at own = absurd at
    closed_one seat (Some (Err closed)) at own = at.is_closed.comes ∙ own ∙ ap known (sym at.journal_is)

    pub closed_own : (seats : List (DeskSeat D g h)) (openings : List (DeskOpening D g h)) → AllZip (IsClosedOf Disk) seats openings
        → AreOwn Disk.origin known seats → OpeningsOwn Disk.origin known openings
    closed_own [] [] closed own = tt
    closed_own [] (o ∷ openings) closed own = absurd closed
    closed_own (s ∷ seats) [] closed own = absurd closed
    closed_own (s ∷ seats) (o ∷ openings) closed own = (closed_one s o.place closed.0.closed own.0, closed_own seats openings closed.1 own.1)

    module _ (schema : DatabaseSchema) (world : FactSet) (header : List ℕ) where
      -- ---- journals that are tried

      tried_one : (user : User) (before : Option DeskError) (p q : Option (DeskPlace D g h)) → AtDisk (λ closed. Unit {0}) p
          → IsTriedFrom schema world header Disk user before p q → place_origin Disk.origin p ≡ known (place_journal p)
          → place_origin Disk.origin q ≡ known (place_journal q)
      tried_one user before None q at tried own = absurd at
      tried_one user before (Some (Ok seat)) q at tried own = absurd at
      tried_one user before (Some (Err closed)) q at tried own =
          ap (place_origin Disk.origin) tried.1 ∙ tried.2.left.comes ∙ own ∙ ap known (sym (ap place_journal tried.1 ∙ tried.2.journal_is))

      pub tried_own : (olds news : List (DeskOpening D g h)) → AllByRecursion IsAtDisk olds → AllZip (IsTried schema world header Disk) olds news
          → OpeningsOwn Disk.origin known olds → OpeningsOwn Disk.origin known news
      tried_own [] [] at tried own = tt
      tried_own [] (n ∷ news) at tried own = absurd tried
      tried_own (o ∷ olds) [] at tried own = absurd tried
      tried_own (o ∷ olds) (n ∷ news) at tried own =
          (tried_one o.user.now o.before o.place n.place at.0 tried.0.tried own.0, tried_own olds news at.1 tried.1 own.1)

      -- ---- seats that are opened

      seated_one : (user : User) (before : Option DeskError) (seat : DeskSeat D g h) (p : Option (DeskPlace D g h)) → AtDisk (λ closed. Unit {0}) p
          → IfAtDisk (IsSeatOn schema world header Disk user before seat) p → place_origin Disk.origin p ≡ known (place_journal p)
          → Disk.origin (seat_disk seat) ≡ known (seat_journal seat)
      seated_one user before seat None at is own = absurd at
      seated_one user before seat (Some (Ok other)) at is own = absurd at
      seated_one user before seat (Some (Err closed)) at is own = is.left.comes ∙ own ∙ ap known (sym is.journal_is)

      pub seated_own : (openings : List (DeskOpening D g h)) (seats : List (DeskSeat D g h)) → AllByRecursion IsAtDisk openings
          → AreSeatsFrom schema world header Disk openings seats → OpeningsOwn Disk.origin known openings → AreOwn Disk.origin known seats
      seated_own [] [] at from own = tt
      seated_own [] (s ∷ seats) at from own = absurd from
      seated_own (o ∷ openings) [] at from own = absurd from
      seated_own (o ∷ openings) (s ∷ seats) at from own =
          (seated_one o.user.now o.before s o.place at.0 from.0 own.0, seated_own openings seats at.1 from.1 own.1)

      -- seats that were closed and opened again
      pub reopened_own : (olds news : List (DeskSeat D g h)) → AreReopened schema world header Disk olds news → AreOwn Disk.origin known olds
          → AreOwn Disk.origin known news
      reopened_own [] [] are own = tt
      reopened_own [] (n ∷ news) are own = absurd are
      reopened_own (o ∷ olds) [] are own = absurd are
      reopened_own (o ∷ olds) (n ∷ news) are own =
          (are.0.left.comes ∙ are.0.is_closed.comes ∙ own.0 ∙ ap known (sym are.0.journal_is), reopened_own olds news are.1 own.1)
