-- The connections of links, by those of the doors that they opened and took back.
use Rattle.std.proofs.Common.{◌≡◌, ◌⊎◌, inl, inr, ℕ, ◌+◌, ◌≤◌, Bool, true, false, List, [], ◌∷◌, ◌++◌, length, refl, sym, ap, subst, ◌∙◌, append-nil, arith}
use Rattle.std.proofs.Common.{length-append}
use Rattle.std.specs.Prelude.{Option, All, ◌==◌, if◌then◌else◌}
use Rattle.std.specs.List.{AllZip, sum_by, flat_map}
use Rattle.std.proofs.lemmas.List.Sums.{sum_by-append}
use Rattle.std.proofs.lemmas.List.Elements.{All-head, All-tail}
use Rattle.outside.specs.declared.links.Door.{Ghosts as DoorGhosts}
use Rattle.cqe_base.specs.Schema.{DatabaseSchema}
use Rattle.cqe_base.specs.Facts.{FactSet}
use Rattle.cqe_base.specs.declared.user.User.{User}
use Rattle.outside.specs.Visits.{Visit, one_if_any}
use Rattle.user_desk.specs.declared.standing.DeskError.{DeskError}
use Rattle.desk_crew.specs.Shelved.{Journals}
use Rattle.serve_engine.specs.Doors.{AreServedDoors}
use Rattle.serve_engine.specs.Served.{SessionMarks, Served}
use Rattle.serve_engine.specs.Alike.{IsServedAlike, BytesComeAgain}
use Rattle.serve_engine.specs.Serving.{Serves, ServesNobody, ServesNone, ServesDoors, ServesNoDoor, EndsServing, EndsDoors, LeavesHistories, LeavesJournals}
use Rattle.serve_engine.proofs.Standing.{zip_still, zip_both}
use Rattle.serve_engine.specs.declared.run.ServeEnd.{ServeEnd}
use Rattle.serve_engine.specs.declared.run.ServeEnd.TheVariants.{Done, LinksFault, ShelfFault, Memory}

-- where each counts nothing, all do
pub sum_none : {X : Type 0} (f : X → ℕ) (xs : List X) → All (λ x. f x ≡ 0) xs → sum_by f xs ≡ 0
sum_none f [] none = refl
sum_none f (x ∷ xs) none =
    let rest = sum_none f xs (All-tail (λ x. f x ≡ 0) x xs none) in
    let this = All-head (λ x. f x ≡ 0) x xs none in
    let both = sum_by-append f (x ∷ []) xs in
    omega (arith, rest, this, both)

-- at the end no connection is at hand, or the greatest number was reached
pub at_end : {O P Q : Type 0} (left_of : O → ℕ) (others : List O) {at_hand : ℕ} (at_hand' : ℕ) → at_hand ≡ 0 → at_hand' ≡ at_hand + sum_by left_of others
    → All (λ door. left_of door ≡ 0) others ⊎ P → (P → Q) → (at_hand' ≡ 0) ⊎ Q
at_end left_of others at_hand' none is (inl empty) more = let nothing = sum_none left_of others empty in inl (omega (arith, none, is, nothing))
at_end left_of others at_hand' none is (inr most) more = inr (more most)

at_most_one : (b : Bool) → (if b then 0 else 1) ≤ 1
at_most_one true = omega arith
at_most_one false = omega arith

-- of so many doors no more had answered that no further connection comes
pub few_ended : {O : Type 0} (ends_of : O → ℕ) (doors : List O) → sum_by (λ door. one_if_any (ends_of door)) doors ≤ length doors
few_ended ends_of [] = omega arith
few_ended ends_of (d ∷ doors) =
    let rest = few_ended ends_of doors in
    let both = sum_by-append (λ door. one_if_any (ends_of door)) (d ∷ []) doors in
    let one : one_if_any (ends_of d) ≤ 1 = at_most_one (ends_of d == 0) in
    omega (arith, rest, both, one)

-- what is longer by one isn't the same
pub not_longer : {X : Type 0} (xs : List X) (x : X) → xs ++ x ∷ [] ≡ xs → ⊥
not_longer xs x same =
    let long = length-append xs (x ∷ []) in
    let equal = ap length same in
    omega (arith, long, equal)

module _ {O S K : Type 0} (Door : DoorGhosts O S K) where
  -- a door that has given nothing yet
  abbrev pub AreNew : List O → Type 0
  AreNew doors = All (λ door. (Door.given door ≡ 0) × (Door.back door ≡ [])) doors

  pub new_given : (doors : List O) → AreNew doors → sum_by Door.given doors ≡ 0
  new_given [] new = refl
  new_given (d ∷ doors) new =
      let rest = new_given doors (All-tail (λ door. (Door.given door ≡ 0) × (Door.back door ≡ [])) d doors new) in
      let this = (All-head (λ door. (Door.given door ≡ 0) × (Door.back door ≡ [])) d doors new).0 in
      let both = sum_by-append Door.given (d ∷ []) doors in
      omega (arith, rest, this, both)

  pub new_back : (doors : List O) → AreNew doors → flat_map Door.back doors ≡ []
  new_back [] new = refl
  new_back (d ∷ doors) new =
      ap (λ l. l ++ flat_map Door.back doors) (All-head (λ door. (Door.given door ≡ 0) × (Door.back door ≡ [])) d doors new).1
      ∙ new_back doors (All-tail (λ door. (Door.given door ≡ 0) × (Door.back door ≡ [])) d doors new)

  module _ (t : Door.tells) (stands : Visit → SessionMarks → Type 0) where
    -- what doors that had given nothing have back: one visit for each connection that they gave, which stands so with its marks
    record Have (total : ℕ) (marks : Door.tells → List SessionMarks) (others : List O) : Type 0 where
      many : length (flat_map Door.back others) ≡ total
      stand : AllZip stands (flat_map Door.back others) (marks t)
      gave : sum_by Door.given others ≡ total

    have : (total : ℕ) (marks : Door.tells → List SessionMarks) (doors others : List O) → AreNew doors
        → AreServedDoors Door stands total marks doors others → Have total marks others
    have total marks [] [] new is = record { many = sym is.0; stand = subst (AllZip stands []) (sym (is.1 t)) tt; gave = sym is.0 }
    have total marks (d ∷ doors) (e ∷ others) new is =
        let rest : Have is.1 is.4 others = have is.1 is.4 doors others (All-tail (λ door. (Door.given door ≡ 0) × (Door.back door ≡ [])) d doors new) is.7 in
        let fresh = All-head (λ door. (Door.given door ≡ 0) × (Door.back door ≡ [])) d doors new in
        let visits = is.6.back t in
        let behind : Door.back e ≡ visits.visits = visits.behind ∙ ap (λ l. l ++ visits.visits) fresh.1 in
        let here = is.6.given t in
        let none = fresh.0 in
        let both = is.2 in
        let count = visits.many in
        let long = ap length behind in
        let all = length-append (Door.back e) (flat_map Door.back others) in
        let more = rest.many in
        let gave = rest.gave in
        let first = sum_by-append Door.given (e ∷ []) others in
        record {
          many = omega (arith, both, count, long, all, more);
          stand = subst (AllZip stands (Door.back e ++ flat_map Door.back others)) (sym (is.5 t))
              (zip_both stands (Door.back e) (flat_map Door.back others) (is.3 t) (is.4 t)
              (subst (λ vs. AllZip stands vs (is.3 t)) (sym behind) visits.stand) rest.stand);
          gave = omega (arith, here, none, both, gave, first);
        }
    have total marks [] (e ∷ others) new is = absurd is
    have total marks (d ∷ doors) [] new is = absurd is

module _ (again : BytesComeAgain) (schema : DatabaseSchema) (world : FactSet) (header : List ℕ) (journals : Journals) (users : List User) {O S K : Type 0}
    (Door : DoorGhosts O S K) (t : Door.tells)
    (doors others : List O) (new : AreNew Door doors) (given given' : ℕ) (back back' : List Visit) (gave : given' ≡ given + sum_by Door.given others)
    (came : back' ≡ back ++ flat_map Door.back others) where
  serves_all : (refusals : List (Option DeskError)) (is_broken : Bool)
      → ServesDoors schema world header journals users Door doors others refusals is_broken
      → Serves schema world header journals users given given' back back' refusals is_broken
  serves_all refusals is_broken serves =
      let has : Have Door t (Served schema world users serves.members) serves.total serves.marks others =
      have Door t (Served schema world users serves.members) serves.total serves.marks doors others new serves.served in
      record {
        members = serves.members;
        each_user = serves.each_user;
        broken_is = serves.broken_is;
        count = serves.total;
        given_is = gave ∙ ap (λ n. given + n) has.gave;
        visit_marks = serves.marks t;
        visits = record { visits = flat_map Door.back others; behind = came; many = has.many; stand = has.stand };
        alike = record {
          visits = flat_map Door.back others;
          behind = came;
          many = has.many;
          stand = zip_still (Served schema world users serves.members) (IsServedAlike schema world users serves.members)
              (again schema world users serves.members) (flat_map Door.back others) (serves.marks t) has.stand;
        };
        all_told = serves.all_told t;
      }

  serves_nobody : ServesNoDoor schema world header journals users Door doors others
      → ServesNobody journals given given' back back'
  serves_nobody none =
      let nothing = ap (sum_by Door.given) none.doors_same ∙ new_given Door doors new in
      record {
        given_same = omega (arith, gave, nothing);
        back_same = came ∙ ap (λ ds. back ++ flat_map Door.back ds) none.doors_same ∙ ap (λ l. back ++ l) (new_back Door doors new) ∙ append-nil back;
        kept = none.kept;
      }

  either : ServesNoDoor schema world header journals users Door doors others
      ⊎ ((refusals : List (Option DeskError)) × (is_broken : Bool)
      × ServesDoors schema world header journals users Door doors others refusals is_broken)
      → ServesNobody journals given given' back back'
      ⊎ ((refusals : List (Option DeskError)) × (is_broken : Bool) × Serves schema world header journals users given given' back back' refusals is_broken)
  either (inl none) = inl (serves_nobody none)
  either (inr some) = inr (some.0, some.1, serves_all some.0 some.1 some.2)

  none : ServesNoDoor schema world header journals users Door doors others
      ⊎ ((refusals : List (Option DeskError)) × (is_broken : Bool)
      × (served : ServesDoors schema world header journals users Door doors others refusals is_broken)
      × (served.total ≡ 0))
      → ServesNone schema world header journals users given given' back back'
  unfolding serves_all
  none (inl nobody) = inl (serves_nobody nobody)
  none (inr (refusals, is_broken, served, zero)) = inr (refusals, is_broken, serves_all refusals is_broken served, zero)

  -- each end, of the doors and so of the links
  pub ends_of : (end : ServeEnd) → EndsDoors schema world header journals users Door doors others end
      → EndsServing schema world header journals users given given' back back' end
  ends_of (Done refusals is_broken) is = serves_all refusals.items is_broken is
  ends_of LinksFault is = either is
  ends_of ShelfFault is = serves_nobody is
  ends_of Memory is = none is

-- what an end says of the doors it says of the journals alone
module _ (schema : DatabaseSchema) (world : FactSet) (header : List ℕ) (journals : Journals) (users : List User) {O S K : Type 0} (Door : DoorGhosts O S K)
    (doors others : List O) where
  leaves_histories : (refusals : List (Option DeskError)) (is_broken : Bool)
      → ServesDoors schema world header journals users Door doors others refusals is_broken
      → LeavesHistories schema world header journals users refusals is_broken
  leaves_histories refusals is_broken serves = record { members = serves.members; each_user = serves.each_user; broken_is = serves.broken_is }

  pub leaves_journals : (end : ServeEnd) → EndsDoors schema world header journals users Door doors others end
      → LeavesJournals schema world header journals users end
  leaves_journals (Done refusals is_broken) serves = leaves_histories refusals.items is_broken serves
  leaves_journals LinksFault (inl none) = inl none.kept
  leaves_journals LinksFault (inr (refusals, is_broken, serves)) = inr (refusals, is_broken, leaves_histories refusals is_broken serves)
  leaves_journals ShelfFault none = none.kept
  leaves_journals Memory (inl none) = inl none.kept
  leaves_journals Memory (inr (refusals, is_broken, serves, of_none)) = inr (refusals, is_broken, leaves_histories refusals is_broken serves)
