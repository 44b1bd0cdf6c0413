-- The one door at which a standby listens.
use Rattle.std.proofs.Common.{◌≡◌, ◌≢◌, ◌⊎◌, inl, inr, ℕ, ◌+◌, ◌≤◌, ◌==◌, Bool, true, false, if◌then◌else◌, List, [], ◌∷◌, ◌++◌, length, All}
use Rattle.std.proofs.Common.{sym, ap, subst, ◌∙◌, append-nil, length-append, arith}
use Rattle.std.specs.List.{sum_by}
use Rattle.std.specs.Prelude.{Option, slice_index_or}
use Rattle.std.proofs.lemmas.List.Elements.{All-head}
use Rattle.outside.specs.Faults.{Rose}
use Rattle.outside.specs.Visits.{Visit, one_if_any}
use Rattle.cqe_base.specs.declared.user.User.{User}
use Rattle.desk_crew.specs.Shelved.{Journals}
use Rattle.log_journal.specs.declared.header.Header.{Header}
use Rattle.user_desk.specs.declared.standing.DeskError.{DeskError}
use Rattle.standby_core.specs.Copies.{Copy}
use Rattle.standby_core.specs.declared.serve.StandbyEnd.{StandbyEnd}
use Rattle.standby_engine.specs.Standing.{ServesCopies, CopiesNothing, EndsCopying}
use Rattle.standby_engine.specs.declared.run.CopyEnd.{CopyEnd}
use Rattle.standby_engine.specs.declared.run.CopyEnd.TheVariants.{Done, LinksFault, ShelfFault, Memory}

module _ {O : Type 0} where
  -- the first of one is all
  pub only_one : (doors : List O) (door : O) → length doors ≡ 1 → door ≡ slice_index_or doors 0 door → doors ≡ door ∷ []
  only_one [] door many is = absurd (omega (arith, many))
  only_one (d ∷ []) door many is = ap (λ o. o ∷ []) (sym is)
  only_one (d ∷ e ∷ doors) door many is = absurd (omega (arith, many))

  -- what holds of all doors holds of it
  pub only_of : (P : O → Type 0) (doors : List O) (door : O) → doors ≡ door ∷ [] → All P doors → P door
  only_of P doors door is all = All-head P door [] (subst (All P) is all)

  pub sum_only : (f : O → ℕ) (doors : List O) (door : O) → doors ≡ door ∷ [] → sum_by f doors ≡ f door
  sum_only f doors door is = let one : sum_by f (door ∷ []) ≡ f door = omega arith in ap (sum_by f) is ∙ one

-- the connections of the door are those of the links
module _ (header : Header) (journals : Journals) (users : List User) (given given' given0 given1 : ℕ) (back back' back0 back1 : List Visit)
    (none : given ≡ 0) (empty : back ≡ []) (gave : given1 ≡ given0 + given') (came : back1 ≡ back0 ++ back') where
  copies_moved : (refusals : List (Option DeskError)) (last : List Copy) (served_ends : List StandbyEnd)
      → ServesCopies header journals users given given' back back' refusals last served_ends
      → ServesCopies header journals users given0 given1 back0 back1 refusals last served_ends
  copies_moved refusals last served_ends is = record {
    first = is.first;
    copies = is.copies;
    visits = is.visits;
    served = is.served;
    back_is = came ∙ ap (λ l. back0 ++ l) (is.back_is ∙ ap (λ l. l ++ is.visits) empty);
    given_is = omega (arith, none, gave, is.given_is);
  }

  nobody_moved : CopiesNothing given given' back back' → CopiesNothing given0 given1 back0 back1
  nobody_moved is = (omega (arith, none, gave, is.0), came ∙ ap (λ l. back0 ++ l) (is.1 ∙ empty) ∙ append-nil back0)

  pub door_served : (ended : CopyEnd) → EndsCopying header journals users given given' back back' ended
      → EndsCopying header journals users given0 given1 back0 back1 ended
  door_served (Done refusals broken wanting) is = (is.0, is.1, copies_moved refusals.items is.0 is.1 is.2, is.3, is.4)
  door_served LinksFault (inl is) = inl (is.0, is.1, is.2, copies_moved is.0 is.1 is.2 is.3)
  door_served LinksFault (inr is) = inr (nobody_moved is)
  door_served ShelfFault is = nobody_moved is
  door_served Memory is = nobody_moved is

-- it came to its end where nothing is at hand any more, or with the greatest number
pub ended_of : (at_hand at_hand' left was gave given0 given1 limit : ℕ) → at_hand ≡ 0 → at_hand' ≡ at_hand + left → was ≡ 0 → given1 ≡ given0 + gave
    → (left ≡ 0) ⊎ (gave ≡ was + limit) → (at_hand' ≡ 0) ⊎ (given1 ≡ given0 + limit)
ended_of at_hand at_hand' left was gave given0 given1 limit none hand fresh given (inl empty) = inl (omega (arith, none, hand, empty))
ended_of at_hand at_hand' left was gave given0 given1 limit none hand fresh given (inr most) = inr (omega (arith, fresh, given, most))

-- a count that rose from 0 isn't 0
pub rose_some : (before now : ℕ) → before ≡ 0 → Rose before now → now ≢ 0
rose_some before now none (inl rose) = λ is. omega (arith, none, rose, is)
rose_some before now none (inr full) = λ is. omega (arith, full, is)

-- one where a count isn't 0, else none
pub one_at_most : (n : ℕ) → one_if_any n ≤ 1
one_at_most n = by (n == 0)
  where
    by : (b : Bool) → (if b then 0 else 1) ≤ 1
    by true = omega arith
    by false = omega arith

-- a list with one more isn't the same
pub not_longer : {X : Type 0} (xs : List X) (x : X) → xs ++ x ∷ [] ≡ xs → ⊥
not_longer xs x same =
    let long = length-append xs (x ∷ []) in
    let equal = ap length same in
    omega (arith, long, equal)
