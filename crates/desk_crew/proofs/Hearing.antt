-- What was told of the records of users' journals, and that these lie there.
use Rattle.std.proofs.Common.{◌≡◌, ◌||◌, ℕ, Bool, true, false, List, [], ◌∷◌, Option, refl, sym, ap, subst, ◌∙◌}
use Rattle.std.specs.Prelude.{bytes_eq}
use Rattle.std.specs.Cmp.Lexicographic.{same_text}
use Rattle.outside.specs.Shelf.{SameBeside, is_among}
use Rattle.outside.specs.declared.disk.Disk.{Ghosts as DiskGhosts}
use Rattle.cqe_base.specs.Schema.{Text, DatabaseSchema}
use Rattle.cqe_base.specs.Facts.{FactSet}
use Rattle.cqe_base.specs.declared.user.User.{User}
use Rattle.desk_crew.specs.Crew.{seat_journal}
use Rattle.desk_crew.specs.Seats.{DeskSeat}
use Rattle.desk_crew.specs.Shelved.{journals, ThereOn, SeatsThere, AreSeatsOf, AreBack}
use Rattle.desk_crew.proofs.Shelving.{by_among}

module _ {D : Type 0} {g h : _} (Disk : DiskGhosts D) (t : Disk.tells) where
  -- at the first opening, since nothing was told of before
  pub there_first : (S : Type 0) (schema : DatabaseSchema) (world : FactSet) (header directory : List ℕ) (disk : Text → Option D) (count : Text → ℕ)
      (users : List User) (seats : List (DeskSeat D g h)) → AreSeatsOf S Disk schema world header directory disk count users seats → SeatsThere Disk seats
  there_first S schema world header directory disk count [] [] are = tt
  there_first S schema world header directory disk count [] (seat ∷ seats) are = absurd are
  there_first S schema world header directory disk count (user ∷ users) [] are = absurd are
  there_first S schema world header directory disk count (user ∷ users) (seat ∷ seats) are = (
    are.0.left.there t (λ number one heard. absurd (are.0.unheard number one heard)),
    there_first S schema world header directory disk count users seats are.1,
  )

  module _ (S : Type 0) (s : S) (disk disk' : Text → Option D) (count' : Text → ℕ) where
    -- so it is with the disks once they are back
    back_there : (seats : List (DeskSeat D g h)) → AreBack S Disk disk' count' seats → SeatsThere Disk seats → (name : Text)
        → is_among (journals seats) name ≡ true → ThereOn Disk (disk' name)
    back_there [] back there name none = absurd cc
    back_there (seat ∷ seats) back there name among = by (bytes_eq name (seat_journal seat)) refl among (back_there seats back.1 there.1 name)
      where
        by : (b : Bool) → bytes_eq name (seat_journal seat) ≡ b → (b || is_among (journals seats) name) ≡ true
            → (is_among (journals seats) name ≡ true → ThereOn Disk (disk' name)) → ThereOn Disk (disk' name)
        by true same some behind =
            subst (λ o. ThereOn Disk o) (sym (ap disk' (same_text name (seat_journal seat) (sym same)) ∙ back.0.held s))
            (back.0.left.left.there t (back.0.left.is_closed.there t there.0))
        by false differs some behind = behind some

    -- and with all others, which weren't touched
    pub all_there : (seats : List (DeskSeat D g h)) → AreBack S Disk disk' count' seats → SameBeside (journals seats) disk disk' → SeatsThere Disk seats
        → (name : Text) → ThereOn Disk (disk name) → ThereOn Disk (disk' name)
    all_there seats back beside there name =
        by_among (λ one. ThereOn Disk (disk one) → ThereOn Disk (disk' one)) (journals seats)
        (λ one among was. back_there seats back there one among)
        (λ one none was. subst (ThereOn Disk) (sym (beside one none)) was) name
