-- Sets of literals by marks, and what a resolution and a comparison make of them.
use Rattle.std.proofs.Common.{◌≡◌, ℕ, ◌<◌, Bool, true, false, cond, not, ◌||◌, ◌&&◌, eqb, List, [], ◌∷◌, ◌++◌, Option, Some, None}
use Rattle.std.proofs.Common.{length, get_or, set, refl, sym, ap}
use Rattle.std.proofs.Common.{subst, ◌∙◌, inl, inr, ⊎_elim, ◌⊎◌}
use Rattle.std.specs.Prelude.{slice_get}
use Rattle.std.specs.List.{list_any, list_all}
use Rattle.std.proofs.lemmas.Bool.{cases_lt, or_cases, or_left, or_right, or_from, and_left, and_right, and_from, and_parts, both_ways, eqb-true, eq-eqb}
use Rattle.std.proofs.lemmas.List.{get_or-set_same, get_or-set_other, get_or_past, set_past}
use Rattle.std.proofs.lemmas.List.Folds.{list_any-append}
use Rattle.cqe_base.specs.Literal.{Literal, Positive, Negative, variable_of, opposite, same_literal, has_literal, union}
use Rattle.cqe_base.specs.Refutation.{without_variable, resolvent, clashes, resolvent_on, single_resolvent, chain_from, resolvent_with_next}
use Rattle.cqe_base.specs.Refutation.{same_literals, is_result}
use Rattle.cqe_base.proofs.ClauseTruth.{same_literal-same, same_literal-true}
use Rattle.clause_store.specs.Codes.{code_of}
use Rattle.clause_store.proofs.Marking.{code_of-injective}
use Rattle.proof_check.specs.Clashing.{only}
use Rattle.proof_check.specs.LiteralSets.{is_marked, marked_of, AreTouched, IsSetOf, IsSetOfResult}
use Rattle.proof_check.proofs.Clashing.{has_filter}

-- ---- one mark

other_code : (l m : Literal) → same_literal l m ≡ false → code_of l ≡ code_of m → ⊥
other_code l m e same = both_ways _ e (subst (λ y. same_literal l y ≡ true) (code_of-injective l m same) (same_literal-same l))

or_true : (a : Bool) → (a || true) ≡ true
or_true true = refl
or_true false = refl

or_false : (a : Bool) → (a || false) ≡ a
or_false true = refl
or_false false = refl

and_true : (a : Bool) → (a && true) ≡ a
and_true true = refl
and_true false = refl

and_false : (a : Bool) → (a && false) ≡ false
and_false true = refl
and_false false = refl

itself : (n : ℕ) → eqb n n ≡ true
itself n = eq-eqb n n refl

is_not : (b : Bool) → not b ≡ true → b ≡ false
is_not true e = sym e
is_not false e = refl

is_yes : (b : Bool) → not b ≡ false → b ≡ true
is_yes true e = refl
is_yes false e = sym e

is_so : (a b : Bool) → a ≡ true → (a && not b) ≡ false → b ≡ true
is_so true true e h = refl
is_so true false e h = sym h
is_so false b e h = absurd (both_ways false refl e)

known : (a b c : Bool) → (b ≡ true → a ≡ true) → (a || c) ≡ (a || (b || c))
known true b c h = refl
known false true c h = absurd (both_ways false refl (h refl))
known false false c h = refl

-- one more mark
pub marked_more : (marks : List Bool) (m : Literal) → code_of m < length marks → (l : Literal)
    → is_marked (set marks (code_of m) true) l ≡ (is_marked marks l || same_literal l m)
marked_more marks m low l = by (same_literal l m) refl
  where
    by : (b : Bool) → same_literal l m ≡ b → is_marked (set marks (code_of m) true) l ≡ (is_marked marks l || b)
    by true e =
        ap (is_marked (set marks (code_of m) true)) (same_literal-true l m e) ∙ get_or-set_same marks (code_of m) true false low
        ∙ sym (or_true (is_marked marks l))
    by false e = get_or-set_other marks (code_of m) (code_of l) true false (other_code l m e) ∙ sym (or_false (is_marked marks l))

cleared_at : (xs : List Bool) (i : ℕ) → get_or (set xs i false) i false ≡ false
cleared_at xs i = elim (cases_lt i (length xs)) [
  | inl low ↦ get_or-set_same xs i false false low
  | inr high ↦ ap (λ ys. get_or ys i false) (set_past xs i false high) ∙ get_or_past xs i false high
]

-- a mark that goes
pub marked_less : (marks : List Bool) (m l : Literal)
    → is_marked (set marks (code_of m) false) l ≡ (is_marked marks l && not (same_literal l m))
marked_less marks m l = by (same_literal l m) refl
  where
    by : (b : Bool) → same_literal l m ≡ b → is_marked (set marks (code_of m) false) l ≡ (is_marked marks l && not b)
    by true e =
        ap (is_marked (set marks (code_of m) false)) (same_literal-true l m e) ∙ cleared_at marks (code_of m) ∙ sym (and_false (is_marked marks l))
    by false e = get_or-set_other marks (code_of m) (code_of l) false false (other_code l m e) ∙ sym (and_true (is_marked marks l))

-- a literal that a clause has already
pub has_already : (c : List Literal) (m : Literal) → has_literal c m ≡ true → (l : Literal) → has_literal c l ≡ (has_literal c l || same_literal l m)
has_already c m has l = by (same_literal l m) refl
  where
    by : (b : Bool) → same_literal l m ≡ b → has_literal c l ≡ (has_literal c l || b)
    by true e = ap (has_literal c) (same_literal-true l m e) ∙ has ∙ sym (or_true (has_literal c l))
    by false e = sym (or_false (has_literal c l))

-- the marks of a clause's literals go one after the other
pub less_step : (a b s r : Bool) → b ≡ (a && not s) → (b && not r) ≡ (a && not (s || r))
less_step true b true r e = ap (λ x. x && not r) e
less_step true b false r e = ap (λ x. x && not r) e
less_step false b s r e = ap (λ x. x && not r) e

-- the literals of a clause join one after the other
pub more_step : (a b s r : Bool) → b ≡ (a || s) → (b || r) ≡ (a || (s || r))
more_step true b s r e = ap (λ x. x || r) e
more_step false b s r e = ap (λ x. x || r) e

-- the same but for one
pub more_step_without : (a b s r n : Bool) → b ≡ (a || (s && n)) → (b || (r && n)) ≡ (a || ((s || r) && n))
more_step_without true b s r n e = ap (λ x. x || (r && n)) e
more_step_without false b true r true e = ap (λ x. x || (r && true)) e
more_step_without false b true r false e = ap (λ x. x || (r && false)) e ∙ and_false r
more_step_without false b false r n e = ap (λ x. x || (r && n)) e

-- a literal that is left out
pub is_left_out : (a : Bool) (l m o : Literal) → same_literal l o ≡ true → a ≡ (a || (same_literal m l && not (same_literal m o)))
is_left_out a l m o e =
    let same : l ≡ o = same_literal-true l o e in
    sym (ap (λ x. a || (same_literal m l && not (same_literal m x))) (sym same) ∙ none (same_literal m l))
  where
    none : (b : Bool) → (a || (b && not b)) ≡ a
    none true = or_false a
    none false = or_false a

-- one that isn't
pub is_no_other : (l m o : Literal) → same_literal l o ≡ false → same_literal m l ≡ (same_literal m l && not (same_literal m o))
is_no_other l m o e = by (same_literal m l) refl
  where
    by : (b : Bool) → same_literal m l ≡ b → b ≡ (b && not (same_literal m o))
    by true is = sym (ap (λ x. not (same_literal x o)) (same_literal-true m l is) ∙ ap not e)
    by false is = refl

-- ---- which literals were touched

-- what is no longer marked may stay
pub touched_less : (marks before : List Bool) (touched : List Literal) → ((l : Literal) → is_marked marks l ≡ true → is_marked before l ≡ true)
    → AreTouched before touched → AreTouched marks touched
touched_less marks before touched less h = λ l e. h l (less l e)

pub touched_more : (marks before : List Bool) (touched : List Literal) (m : Literal)
    → ((l : Literal) → is_marked marks l ≡ (is_marked before l || same_literal l m))
    → AreTouched before touched → AreTouched marks (touched ++ m ∷ [])
touched_more marks before touched m more h = λ l e.
    list_any-append (same_literal l) touched (m ∷ [])
    ∙ ⊎_elim (λ k. or_left _ _ (h l k)) (λ k. or_right _ _ (or_left _ _ k)) (or_cases (is_marked before l) (same_literal l m) (sym (more l) ∙ e))

-- where all that was touched loses its mark, none is left
pub none_marked : (a t : Bool) → (a ≡ true → t ≡ true) → (a && not t) ≡ false
none_marked true t h = ap not (h refl)
none_marked false t h = refl

-- ---- the literals of a resolvent

same_or_opposite : (l m : Literal) → eqb (variable_of m) (variable_of l) ≡ true → (m ≡ l) ⊎ (m ≡ opposite l)
same_or_opposite (Positive v) (Positive w) e = inl (ap Positive (eqb-true w v e))
same_or_opposite (Positive v) (Negative w) e = inr (ap Negative (eqb-true w v e))
same_or_opposite (Negative v) (Positive w) e = inr (ap Positive (eqb-true w v e))
same_or_opposite (Negative v) (Negative w) e = inl (ap Negative (eqb-true w v e))

module _ (l : Literal) (c : List Literal) (none : has_literal c (opposite l) ≡ false) (m : Literal) where
  -- without a variable of which it has one literal, a clause is without that literal
  pub without_single : has_literal (without_variable (variable_of l) c) m ≡ (has_literal c m && not (same_literal m l))
  without_single = has_filter (λ x. not (eqb (variable_of x) (variable_of l))) c m ∙ by (eqb (variable_of m) (variable_of l)) refl (same_literal m l) refl
    where
      by : (b : Bool) → eqb (variable_of m) (variable_of l) ≡ b → (s : Bool) → same_literal m l ≡ s
          → (has_literal c m && not (eqb (variable_of m) (variable_of l))) ≡ (has_literal c m && not (same_literal m l))
      by true e true k = ap (λ x. has_literal c m && not x) (e ∙ sym k)
      by false e false k = ap (λ x. has_literal c m && not x) (e ∙ sym k)
      by true e false k = elim (same_or_opposite l m e) [
        | inl same ↦ absurd (both_ways _ k (subst (λ x. same_literal m x ≡ true) same (same_literal-same m)))
        | inr other ↦ let gone : has_literal c m ≡ false = ap (has_literal c) other ∙ none in and_left _ _ gone ∙ sym (and_left _ _ gone)
      ]
      by false e true k =
          absurd (both_ways _ e (ap (λ x. eqb (variable_of x) (variable_of l)) (same_literal-true m l k) ∙ itself (variable_of l)))

has_more : (c : List Literal) (l m : Literal) → has_literal (c ++ l ∷ []) m ≡ (has_literal c m || same_literal m l)
has_more c l m = list_any-append (same_literal m) c (l ∷ []) ∙ ap (λ x. has_literal c m || x) (or_false (same_literal m l))

-- a union has what one of the two has
pub has_union : (c d : List Literal) (m : Literal) → has_literal (union c d) m ≡ (has_literal c m || has_literal d m)
has_union c [] m = sym (or_false (has_literal c m))
has_union c (l ∷ d) m =
    has_union (cond (has_literal c l) c (c ++ l ∷ [])) d m ∙ by (has_literal c l) refl
  where
    by : (b : Bool) → has_literal c l ≡ b
        → (has_literal (cond b c (c ++ l ∷ [])) m || has_literal d m) ≡ (has_literal c m || (same_literal m l || has_literal d m))
    by true e = known (has_literal c m) (same_literal m l) (has_literal d m) (λ k. ap (has_literal c) (same_literal-true m l k) ∙ e)
    by false e = more_step (has_literal c m) _ (same_literal m l) (has_literal d m) (has_more c l m)

-- ---- chains

-- a list of which the only literal is this one
only_one : (ls : List Literal) (l : Literal) → Some l ≡ only ls → ls ≡ l ∷ []
only_one [] l e = cc
only_one (x ∷ []) l e = let same : l ≡ x = cc in ap (λ y. y ∷ []) (sym same)
only_one (x ∷ y ∷ rest) l e = cc

no_only : (ls c d : List Literal) → None ≡ only ls → resolvent_on ls c d ≡ None
no_only [] c d e = refl
no_only (x ∷ []) c d e = cc
no_only (x ∷ y ∷ rest) c d e = refl

-- two clauses that don't clash in one variable
pub not_resolved : (set : List Literal) (c d : List Literal) → None ≡ only (clashes c d) → IsSetOfResult false set (single_resolvent c d)
not_resolved set c d e = subst (IsSetOfResult false set) (sym (no_only (clashes c d) c d e)) refl

-- two clauses that clash in one variable, of which one has both literals
pub not_resolved_on : (set : List Literal) (c d : List Literal) (l : Literal) → Some l ≡ only (clashes c d)
    → (has_literal c (opposite l) || has_literal d l) ≡ true → IsSetOfResult false set (single_resolvent c d)
not_resolved_on set c d l e both =
    subst (IsSetOfResult false set)
    (sym (ap (λ ls. resolvent_on ls c d) (only_one (clashes c d) l e) ∙ ap (λ b. cond b None (Some (resolvent (variable_of l) c d))) both)) refl

-- the resolvent on a literal
pub resolved_on : (set : List Literal) (c d : List Literal) (l : Literal) → Some l ≡ only (clashes c d)
    → (has_literal c (opposite l) || has_literal d l) ≡ false → IsSetOf set (resolvent (variable_of l) c d) → IsSetOfResult true set (single_resolvent c d)
resolved_on set c d l e none h =
    subst (IsSetOfResult true set)
    (sym (ap (λ ls. resolvent_on ls c d) (only_one (clashes c d) l e) ∙ ap (λ b. cond b None (Some (resolvent (variable_of l) c d))) none)) (refl, h)

-- the same of the opposite of one that a clause hasn't
without_other : (l : Literal) (d : List Literal) → has_literal d l ≡ false → (m : Literal)
    → has_literal (without_variable (variable_of l) d) m ≡ (has_literal d m && not (same_literal m (opposite l)))
without_other (Positive v) d none m = without_single (Negative v) d none m
without_other (Negative v) d none m = without_single (Positive v) d none m

not_opposite : (l : Literal) → same_literal l (opposite l) ≡ false
not_opposite (Positive v) = refl
not_opposite (Negative v) = refl

-- a literal goes, and the other clause's literals join without the literal's opposite
module _ (set removed after c d : List Literal) (l : Literal) (same : IsSetOf set c) (is : Some l ≡ only (clashes c d))
    (none : has_literal c (opposite l) ≡ false) (gone : (m : Literal) → has_literal removed m ≡ (has_literal set m && not (same_literal m l)))
    (more : (m : Literal) → has_literal after m ≡ (has_literal removed m || (has_literal d m && not (same_literal m (opposite l))))) where
  left_of : (m : Literal) → has_literal removed m ≡ has_literal (without_variable (variable_of l) c) m
  left_of m = gone m ∙ ap (λ b. b && not (same_literal m l)) (same m) ∙ sym (without_single l c none m)

  -- the literal is there again exactly where the other clause has it
  again : has_literal after l ≡ has_literal d l
  again =
      more l ∙ ap (λ b. has_literal removed l || (has_literal d l && not b)) (not_opposite l)
      ∙ ap (λ b. has_literal removed l || b) (and_true (has_literal d l))
      ∙ ap (λ b. b || has_literal d l) (gone l ∙ ap (λ b. has_literal set l && not b) (same_literal-same l) ∙ and_false (has_literal set l))

  pub resolved_by : (resolved : Bool) → resolved ≡ not (has_literal after l) → IsSetOfResult resolved after (single_resolvent c d)
  resolved_by true e =
      let without : has_literal d l ≡ false = sym again ∙ is_not (has_literal after l) (sym e) in
      resolved_on after c d l is (or_from _ _ none without) (λ m.
      more m
      ∙ ap (λ b. b || (has_literal d m && not (same_literal m (opposite l)))) (left_of m)
      ∙ ap (λ b. has_literal (without_variable (variable_of l) c) m || b) (sym (without_other l d without m))
      ∙ sym (has_union (without_variable (variable_of l) c) (without_variable (variable_of l) d) m))
  resolved_by false e = not_resolved_on after c d l is (or_right _ _ (sym again ∙ is_yes (has_literal after l) (sym e)))

-- a chain ends where a step has no result
pub none_stays : (cs : List (List Literal)) (chain : List ℕ) (set : List Literal) (o : Option (List Literal)) → IsSetOfResult false set o
    → chain_from cs o chain ≡ None
none_stays cs chain set None h = refl
none_stays cs chain set (Some c) h = absurd (both_ways false refl h.0)

-- a set has the literals of what was resolved so far, and what is left of the chain gives what the whole chain gives
pub record IsOnTheWay (cs : List (List Literal)) (set : List Literal) (left : List ℕ) (c : List Literal) (chain : List ℕ) : Type 0 where
  pub so_far : List Literal
  pub same : IsSetOf set so_far
  pub rest : chain_from cs (Some so_far) left ≡ chain_from cs (Some c) chain

module _ (cs : List (List Literal)) (set : List Literal) (number : ℕ) (left chain : List ℕ) (c : List Literal)
    (way : IsOnTheWay cs set (number ∷ left) c chain) where
  -- the chain names a clause that isn't there
  pub way_lost : None ≡ slice_get cs number → (after : List Literal) → IsSetOfResult false after (chain_from cs (Some c) chain)
  way_lost none after = subst (IsSetOfResult false after) (ap (λ o. chain_from cs (resolvent_with_next way.so_far o) left) none ∙ way.rest) refl

  module _ (next : List Literal) (is : Some next ≡ slice_get cs number) (after : List Literal) where
    step : chain_from cs (single_resolvent way.so_far next) left ≡ chain_from cs (Some c) chain
    step = ap (λ o. chain_from cs (resolvent_with_next way.so_far o) left) is ∙ way.rest

    -- a step has no result
    pub way_ends : IsSetOfResult false after (single_resolvent way.so_far next) → IsSetOfResult false after (chain_from cs (Some c) chain)
    way_ends h = subst (IsSetOfResult false after) (sym (none_stays cs left after (single_resolvent way.so_far next) h) ∙ step) refl

    pub way_on : IsSetOfResult true after (single_resolvent way.so_far next) → IsOnTheWay cs after left c chain
    way_on = by (single_resolvent way.so_far next) refl
      where
        by : (o : Option (List Literal)) → single_resolvent way.so_far next ≡ o → IsSetOfResult true after o → IsOnTheWay cs after left c chain
        by None e h = absurd (both_ways true h refl)
        by (Some d) e h = record { so_far = d; same = h.1; rest = ap (λ o. chain_from cs o left) (sym e) ∙ step }

-- at the end of the chain
pub way_done : (cs : List (List Literal)) (set : List Literal) (c : List Literal) (chain : List ℕ) → IsOnTheWay cs set [] c chain
    → IsSetOfResult true set (chain_from cs (Some c) chain)
way_done cs set c chain way = subst (IsSetOfResult true set) way.rest (refl, way.same)

-- what a line's chain gives, compared with its clause
pub not_result : (set clause : List Literal) (o : Option (List Literal)) → IsSetOfResult false set o → false ≡ is_result clause o
not_result set clause None h = refl
not_result set clause (Some c) h = absurd (both_ways false refl h.0)

pub is_compared : (b : Bool) (set clause : List Literal) (o : Option (List Literal)) → IsSetOfResult true set o
    → ((c : List Literal) → IsSetOf set c → b ≡ same_literals clause c) → b ≡ is_result clause o
is_compared b set clause None h same = absurd (both_ways true h refl)
is_compared b set clause (Some c) h same = same c h.1

-- ---- the comparison at the end

pub all_same : (p q : Literal → Bool) (c : List Literal) → ((l : Literal) → p l ≡ q l) → list_all p c ≡ list_all q c
all_same p q [] same = refl
all_same p q (x ∷ c) same = λ i. same x i && all_same p q c same i

some_left : (p : Literal → Bool) (c : List Literal) (l : Literal) → list_any p c ≡ false → has_literal c l ≡ true → p l ≡ false
some_left p [] l e has = absurd (both_ways false refl has)
some_left p (x ∷ c) l e has = by (p x) refl (list_any p c) refl (or_cases _ _ has) (λ n h. some_left p c l n h)
  where
    by : (a : Bool) → p x ≡ a → (b : Bool) → list_any p c ≡ b → (same_literal l x ≡ true) ⊎ (has_literal c l ≡ true)
        → (list_any p c ≡ false → has_literal c l ≡ true → p l ≡ false) → p l ≡ false
    by true k b n h go = absurd (both_ways _ e (or_left _ _ k))
    by false k true n h go = absurd (both_ways _ e (or_right _ _ n))
    by false k false n (inl s) go = ap p (same_literal-true l x s) ∙ k
    by false k false n (inr h) go = go n h

all_by : (p : Literal → Bool) (c : List Literal) → ((l : Literal) → has_literal c l ≡ true → p l ≡ true) → list_all p c ≡ true
all_by p [] h = refl
all_by p (x ∷ c) h = and_from _ _ (h x (or_left _ _ (same_literal-same x))) (all_by p c (λ l k. h l (or_right _ _ k)))

not_all : (p : Literal → Bool) (c : List Literal) (l : Literal) → has_literal c l ≡ true → p l ≡ false → list_all p c ≡ false
not_all p [] l has e = absurd (both_ways false refl has)
not_all p (x ∷ c) l has e = elim (or_cases _ _ has) [
  | inl s ↦ and_left _ _ (ap p (sym (same_literal-true l x s)) ∙ e)
  | inr h ↦ and_right _ _ (not_all p c l h e)
]

record Witness (p : Literal → Bool) : Type 0 where
  literal : Literal
  passes : p literal ≡ true

some_one : (p : Literal → Bool) (c : List Literal) → list_any p c ≡ true → Witness p
some_one p [] e = absurd (both_ways false refl e)
some_one p (x ∷ c) e = elim (or_cases _ _ e) [
  | inl here ↦ record { literal = x; passes = here }
  | inr there ↦ some_one p c there
]

-- what a set has is what is marked
pub has_marked : (marks : List Bool) (touched set : List Literal) → marked_of marks touched ≡ set → AreTouched marks touched → (l : Literal)
    → has_literal set l ≡ is_marked marks l
has_marked marks touched set is h l =
    ap (λ c. has_literal c l) (sym is) ∙ has_filter (is_marked marks) touched l ∙ by (is_marked marks l) (h l)
  where
    by : (b : Bool) → (b ≡ true → has_literal touched l ≡ true) → (has_literal touched l && b) ≡ b
    by true k = and_true (has_literal touched l) ∙ k refl
    by false k = and_false (has_literal touched l)

module _ (marks after : List Bool) (touched clause c : List Literal) (inside : AreTouched marks touched)
    (same : (l : Literal) → is_marked marks l ≡ has_literal c l)
    (less : (l : Literal) → is_marked after l ≡ (is_marked marks l && not (has_literal clause l))) where
  within : list_any (is_marked after) touched ≡ false → list_all (has_literal clause) c ≡ true
  within none = all_by (has_literal clause) c (λ l has.
      let marked : is_marked marks l ≡ true = same l ∙ has in
      is_so (is_marked marks l) (has_literal clause l) marked (sym (less l) ∙ some_left (is_marked after) touched l none (inside l marked)))

  beyond : list_any (is_marked after) touched ≡ true → list_all (has_literal clause) c ≡ false
  beyond some =
      let w = some_one (is_marked after) touched some in
      let parts = and_parts (is_marked marks w.literal) (not (has_literal clause w.literal)) (sym (less w.literal) ∙ w.passes) in
      not_all (has_literal clause) c w.literal (sym (same w.literal) ∙ parts.0) (is_not (has_literal clause w.literal) parts.1)

  -- the set has the clause's literals: it has no others exactly where none is left without them
  pub left_is_none : list_all (is_marked marks) clause ≡ true → not (list_any (is_marked after) touched) ≡ same_literals clause c
  left_is_none all = by (list_any (is_marked after) touched) refl
    where
      first : list_all (has_literal c) clause ≡ true
      first = sym (all_same (is_marked marks) (has_literal c) clause same) ∙ all

      by : (b : Bool) → list_any (is_marked after) touched ≡ b → not b ≡ same_literals clause c
      by true e = sym (and_right _ _ (beyond e))
      by false e = sym (and_from _ _ first (within e))

module _ (marks after : List Bool) (touched clause : List Literal) (inside : AreTouched marks touched)
    (less : (l : Literal) → is_marked after l ≡ (is_marked marks l && not (has_literal clause l))) (some : Bool)
    (is : some ≡ list_any (is_marked after) touched) where
  -- the same of a set by its marks
  pub compared : (set d : List Literal) → marked_of marks touched ≡ set → list_all (has_literal set) clause ≡ true → IsSetOf set d
      → not some ≡ same_literals clause d
  compared set d view all same =
      let has = has_marked marks touched set view inside in
      ap not is
      ∙ left_is_none marks after touched clause d inside (λ l. sym (has l) ∙ same l) less
      (all_same (is_marked marks) (has_literal set) clause (λ l. sym (has l)) ∙ all)

  -- where none of the touched literals is marked any more, none is
  pub none_left : some ≡ false → AreTouched after []
  none_left none = λ l e.
      let before = and_parts (is_marked marks l) (not (has_literal clause l)) (sym (less l) ∙ e) in
      absurd (both_ways _ (some_left (is_marked after) touched l (sym is ∙ none) (inside l before.0)) e)

-- the set lacks a literal of the clause
pub lacks_one : (set clause c : List Literal) → IsSetOf set c → list_all (has_literal set) clause ≡ false → false ≡ same_literals clause c
lacks_one set clause c same e = sym (and_left _ _ (sym (all_same (has_literal set) (has_literal c) clause same) ∙ e))
