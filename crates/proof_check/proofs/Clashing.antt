-- Where two clauses clash, found by one walk along the second of them.
use Rattle.std.proofs.Common.{◌≡◌, ℕ, ◌+◌, ◌≤◌, Bool, true, false, cond, not, ◌||◌, ◌&&◌, List, [], ◌∷◌, ◌++◌, Option, Some, None, drop, length, refl, sym, ap}
use Rattle.std.proofs.Common.{subst, ◌∙◌, inl, inr, ⊎_elim, ◌⊎◌}
use Rattle.std.specs.List.{filter}
use Rattle.std.proofs.lemmas.List.{drop_all}
use Rattle.std.proofs.lemmas.Bool.{or_cases, or_left, or_right, both_ways}
use Rattle.cqe_base.specs.Literal.{Literal, Positive, Negative, opposite, same_literal, has_literal, union}
use Rattle.cqe_base.specs.Refutation.{clashes}
use Rattle.cqe_base.proofs.ClauseTruth.{same_literal-same, same_literal-true, opposite-opposite}
use Rattle.cqe_base.proofs.NoRepeats.{eqb_comm}
use Rattle.proof_check.specs.Clashing.{only, is_other}

-- whether it is the one that is found
abbrev pub is_found : Option Literal → Literal → Bool
is_found None l = false
is_found (Some found) l = same_literal found l

-- whether a literal is in a clause and its opposite is in another
abbrev pub is_clash : List Literal → List Literal → Literal → Bool
is_clash first second l = has_literal first l && has_literal second (opposite l)

-- the literals that clash are the one that is found, and those that clash with the rest
abbrev pub IsFound : List Literal → List Literal → List Literal → Option Literal → Type 0
IsFound first second rest found = (l : Literal) → is_clash first second l ≡ (is_found found l || is_clash first rest l)

same_turned : (l d : Literal) → same_literal (opposite l) d ≡ same_literal (opposite d) l
same_turned (Positive v) (Positive w) = refl
same_turned (Positive v) (Negative w) = eqb_comm v w
same_turned (Negative v) (Positive w) = eqb_comm v w
same_turned (Negative v) (Negative w) = refl

passed_by : (t c s r : Bool) → (s ≡ true → c ≡ false) → (t || (c && (s || r))) ≡ (t || (c && r))
passed_by true c s r h = refl
passed_by false false s r h = refl
passed_by false true true r h = absurd (let e : true ≡ false = h refl in cc)
passed_by false true false r h = refl

taken_by : (t c s r u : Bool) → s ≡ u → (u ≡ true → c ≡ true) → (t ≡ true → u ≡ true) → (t || (c && (s || r))) ≡ (u || (c && r))
taken_by true c s r true e h k = refl
taken_by true c s r false e h k = absurd (let e : false ≡ true = k refl in cc)
taken_by false false s r true e h k = absurd (let e : false ≡ true = h refl in cc)
taken_by false true true r true e h k = refl
taken_by false true false r true e h k = absurd cc
taken_by false false s r false e h k = refl
taken_by false true true r false e h k = absurd cc
taken_by false true false r false e h k = refl

is_not : (b : Bool) → not b ≡ true → b ≡ false
is_not true e = sym e
is_not false e = refl

and_false : (b : Bool) → (b && false) ≡ false
and_false true = refl
and_false false = refl

not_not : (b : Bool) → not b ≡ false → b ≡ true
not_not true e = refl
not_not false e = sym e

-- what passes a test and is in a clause is in what is kept of it
pub has_filter : (p : Literal → Bool) (c : List Literal) (m : Literal) → has_literal (filter p c) m ≡ (has_literal c m && p m)
has_filter p [] m = refl
has_filter p (x ∷ c) m = by (same_literal m x) refl (p x) refl (has_filter p c m)
  where
    by : (s : Bool) → same_literal m x ≡ s → (b : Bool) → p x ≡ b → has_literal (filter p c) m ≡ (has_literal c m && p m)
        → has_literal (cond b (x ∷ filter p c) (filter p c)) m ≡ ((same_literal m x || has_literal c m) && p m)
    by true e true k go =
        let passes : p m ≡ true = ap p (same_literal-true m x e) ∙ k in
        rw (e, passes) refl
    by true e false k go =
        let fails : p m ≡ false = ap p (same_literal-true m x e) ∙ k in
        let none : has_literal (filter p c) m ≡ false = go ∙ ap (λ b. has_literal c m && b) fails ∙ and_false (has_literal c m) in
        none ∙ rw (e, fails) refl
    by false e true k go = rw e go
    by false e false k go = rw e go

same_or_not : (a x : Literal) → (a ≡ x) ⊎ (a ≡ x → ⊥)
same_or_not a x = by (same_literal a x) refl
  where
    by : (b : Bool) → same_literal a x ≡ b → (a ≡ x) ⊎ (a ≡ x → ⊥)
    by true e = inl (same_literal-true a x e)
    by false e = inr (λ same. both_ways _ e (subst (λ y. same_literal a y ≡ true) same (same_literal-same a)))

-- a union with what is there already
nothing_new : (x : Literal) (rest : List Literal) → ((l : Literal) → has_literal rest l ≡ true → l ≡ x) → union (x ∷ []) rest ≡ x ∷ []
nothing_new x [] all = refl
nothing_new x (z ∷ rest) all =
    let same : z ≡ x = all z (or_left _ _ (same_literal-same z)) in
    let has : has_literal (x ∷ []) z ≡ true = or_left _ _ (subst (λ y. same_literal z y ≡ true) same (same_literal-same z)) in
    ap (λ b. union (cond b (x ∷ []) (x ∷ z ∷ [])) rest) has ∙ nothing_new x rest (λ l h. all l (or_right _ _ h))

-- where all literals of a list are the one that is found, that is the only one
pub only_found : (all : List Literal) (found : Option Literal) → ((l : Literal) → has_literal all l ≡ is_found found l) → found ≡ only (union [] all)
only_found [] None same = refl
only_found [] (Some f) same = absurd (both_ways _ (sym (same f)) (same_literal-same f))
only_found (x ∷ rest) None same = absurd (both_ways _ (same x) (or_left _ _ (same_literal-same x)))
only_found (x ∷ rest) (Some f) same =
    let first : x ≡ f = sym (same_literal-true f x (sym (same x) ∙ or_left _ _ (same_literal-same x))) in
    let others : (l : Literal) → has_literal rest l ≡ true → l ≡ x = λ l h. sym (same_literal-true f l (sym (same l) ∙ or_right _ _ h)) ∙ sym first in
    ap Some (sym first) ∙ sym (ap only (nothing_new x rest others))

-- a list of two or more has no only one, and stays so
more_stay : (a b : Literal) (rest more : List Literal) → None ≡ only (union (a ∷ b ∷ rest) more)
more_stay a b rest [] = refl
more_stay a b rest (x ∷ more) = by (has_literal (a ∷ b ∷ rest) x) (more_stay a b rest more) (more_stay a b (rest ++ x ∷ []) more)
  where
    by : (t : Bool) → None ≡ only (union (a ∷ b ∷ rest) more) → None ≡ only (union (a ∷ b ∷ (rest ++ x ∷ [])) more)
        → None ≡ only (union (cond t (a ∷ b ∷ rest) (a ∷ b ∷ (rest ++ x ∷ []))) more)
    by true known new = known
    by false known new = new

second_joins : (x y : Literal) (rest : List Literal) → (y ≡ x → ⊥) → has_literal rest y ≡ true → None ≡ only (union (x ∷ []) rest)
second_joins x y [] apart has = absurd (both_ways false refl has)
second_joins x y (z ∷ rest) apart has = by (has_literal (x ∷ []) z) refl (or_cases _ _ has) (λ h. second_joins x y rest apart h)
  where
    by : (t : Bool) → has_literal (x ∷ []) z ≡ t → (same_literal y z ≡ true) ⊎ (has_literal rest y ≡ true)
        → (has_literal rest y ≡ true → None ≡ only (union (x ∷ []) rest)) → None ≡ only (union (cond t (x ∷ []) (x ∷ z ∷ [])) rest)
    by false e h go = more_stay x z [] rest
    by true e (inr h) go = go h
    by true e (inl s) go =
        absurd (apart (same_literal-true y z s ∙ ⊎_elim (λ k. same_literal-true z x k) (λ k. absurd (both_ways false refl k)) (or_cases _ _ e)))

pub two_found : (all : List Literal) (a b : Literal) → (a ≡ b → ⊥) → has_literal all a ≡ true → has_literal all b ≡ true → None ≡ only (union [] all)
two_found [] a b apart ha hb = absurd (both_ways false refl ha)
two_found (x ∷ rest) a b apart ha hb = by (or_cases _ _ ha) (or_cases _ _ hb)
  where
    by : (same_literal a x ≡ true) ⊎ (has_literal rest a ≡ true) → (same_literal b x ≡ true) ⊎ (has_literal rest b ≡ true) → None ≡ only (union (x ∷ []) rest)
    by (inl s) (inl t) = absurd (apart (same_literal-true a x s ∙ sym (same_literal-true b x t)))
    by (inl s) (inr h) = second_joins x b rest (λ e. apart (same_literal-true a x s ∙ sym e)) h
    by (inr h) (inl t) = second_joins x a rest (λ e. apart (e ∙ sym (same_literal-true b x t))) h
    by (inr h) (inr k) = elim (same_or_not a x) [
      | inl same ↦ second_joins x b rest (λ e. apart (same ∙ sym e)) k
      | inr other ↦ second_joins x a rest other h
    ]

module _ (first second : List Literal) (i : ℕ) (d : Literal) (found : Option Literal) (split : drop i second ≡ d ∷ drop (i + 1) second)
    (so_far : IsFound first second (drop i second) found) where
  at_next : (l : Literal)
      → is_clash first second l ≡ (is_found found l || (has_literal first l && (same_literal (opposite l) d || has_literal (drop (i + 1) second) (opposite l))))
  at_next l = so_far l ∙ ap (λ rest. is_found found l || is_clash first rest l) split

  -- a literal whose opposite the first clause hasn't
  pub no_clash : has_literal first (opposite d) ≡ false → IsFound first second (drop (i + 1) second) found
  no_clash none = λ l. at_next l
      ∙ passed_by (is_found found l) (has_literal first l) (same_literal (opposite l) d) _ (λ e.
      ap (has_literal first) (sym (same_literal-true (opposite d) l (sym (same_turned l d) ∙ e))) ∙ none)

  known : (o : Option Literal) (l : Literal) → is_other o (opposite d) ≡ false → is_found o l ≡ true → same_literal (opposite d) l ≡ true
  known None l other is = absurd (both_ways false refl is)
  known (Some f) l other is = subst (λ m. same_literal m l ≡ true) (same_literal-true f (opposite d) (not_not (same_literal f (opposite d)) other)) is

  -- the first literal that clashes, or the same once more
  pub one_clash : has_literal first (opposite d) ≡ true → is_other found (opposite d) ≡ false → IsFound first second (drop (i + 1) second) (Some (opposite d))
  one_clash has same = λ l.
      at_next l ∙ taken_by (is_found found l) (has_literal first l) (same_literal (opposite l) d) _ (same_literal (opposite d) l) (same_turned l d)
      (λ e. ap (has_literal first) (sym (same_literal-true (opposite d) l e)) ∙ has)
      (known found l same)

  both : has_literal first (opposite d) ≡ true → same_literal (opposite (opposite d)) d ≡ true
      → (has_literal first (opposite d) && (same_literal (opposite (opposite d)) d || has_literal (drop (i + 1) second) (opposite (opposite d)))) ≡ true
  both has here = rw (has, here) refl

  clash_here : has_literal first (opposite d) ≡ true → is_clash first second (opposite d) ≡ true
  clash_here has =
      let here : same_literal (opposite (opposite d)) d ≡ true = subst (λ m. same_literal m d ≡ true) (sym (opposite-opposite d)) (same_literal-same d) in
      at_next (opposite d) ∙ or_right (is_found found (opposite d)) _ (both has here)

  -- two that clash
  pub two_clash : has_literal first (opposite d) ≡ true → is_other found (opposite d) ≡ true → None ≡ only (clashes first second)
  two_clash has other = by found refl other
    where
      by : (o : Option Literal) → found ≡ o → is_other o (opposite d) ≡ true → None ≡ only (clashes first second)
      by None is other = absurd (both_ways false refl other)
      by (Some f) is other =
          let earlier : is_clash first second f ≡ true =
          so_far f ∙ ap (λ o. is_found o f || is_clash first (drop i second) f) is ∙ or_left _ _ (same_literal-same f) in
          two_found (filter (λ l. has_literal second (opposite l)) first) f (opposite d)
          (λ e. both_ways _ (is_not (same_literal f (opposite d)) other) (subst (λ m. same_literal f m ≡ true) e (same_literal-same f)))
          (has_filter (λ l. has_literal second (opposite l)) first f ∙ earlier)
          (has_filter (λ l. has_literal second (opposite l)) first (opposite d) ∙ clash_here has)

-- at the end of the second clause
pub all_walked : (first second : List Literal) (i : ℕ) (found : Option Literal) → length second ≤ i → IsFound first second (drop i second) found
    → found ≡ only (clashes first second)
all_walked first second i found end so_far =
    only_found (filter (λ l. has_literal second (opposite l)) first) found (λ l.
    has_filter (λ l. has_literal second (opposite l)) first l
    ∙ so_far l
    ∙ ap (λ rest. is_found found l || is_clash first rest l) (drop_all i second end)
    ∙ none_left (is_found found l) (has_literal first l))
  where
    none_left : (a b : Bool) → (a || (b && false)) ≡ a
    none_left true b = refl
    none_left false true = refl
    none_left false false = refl
