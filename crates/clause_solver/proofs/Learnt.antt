-- The literals that a learnt clause watches, and those of a given one.
use Rattle.std.proofs.Common.{◌≡◌, ℕ, ◌≤◌, true, false, cond, ◌||◌, eqb, List, [], ◌∷◌, ◌++◌, length, refl, sym, ap, ◌∙◌, subst, inl, inr, ⊎_elim, ◌⊎◌, arith}
use Rattle.std.proofs.lemmas.Bool.{both_ways, cases_lt, or_cases, or_left, or_right, eq-eqb}
use Rattle.std.proofs.lemmas.List.Folds.{list_any-append}
use Rattle.cqe_base.specs.Literal.{Literal, variable_of, same_literal, has_literal, HasNoRepeat}
use Rattle.cqe_base.specs.Machine.{Assigned, Because, is_true, is_false, level, level_of, cut}
use Rattle.cqe_base.specs.MachineStates.{IsDistinct}
use Rattle.cqe_base.proofs.ClauseTruth.{same_literal-true, same_literal-same, variable_of-opposite}
use Rattle.cqe_base.proofs.Trails.{not_both, false_is_assigned, false_on_rest}
use Rattle.cqe_base.proofs.Conflicts.{GoesBack, cut_distinct, cut_level, cut_suffix}
use Rattle.clause_solver.specs.Watching.{HasTrue, satisfied, is_unit, IsWatched}
use Rattle.clause_solver.specs.IndexedStates.{IsHighestBeside, first_two}
use Rattle.clause_solver.proofs.Visits.{not_empty}

pub all_one : (c : List Literal) (l : Literal) → HasNoRepeat c → ((x : Literal) → has_literal c x ≡ true → x ≡ l) → length c ≤ 1
all_one [] l r h = omega arith
all_one (x ∷ []) l r h = omega arith
all_one (x ∷ y ∷ c) l r h =
    let a : x ≡ l = h x (or_left _ _ (same_literal-same x)) in
    let b : y ≡ l = h y (or_right _ _ (or_left _ _ (same_literal-same y))) in
    absurd (both_ways _ r.0 (or_left _ _ (subst (λ z. same_literal x z ≡ true) (a ∙ sym b) (same_literal-same x))))

module _ (n num k : ℕ) (t : List Assigned) (c : List Literal) (l m : Literal) (d : IsDistinct n t) (g : GoesBack n t k c l) (once : HasNoRepeat c)
    (h : IsHighestBeside t c l m) where
  abbrev now : List Assigned
  now = Because num l ∷ cut k t

  pub learnt_distinct : IsDistinct n now
  learnt_distinct = (g.below, g.free, cut_distinct n k t d)

  l_true : is_true now l ≡ true
  l_true = or_left _ _ (same_literal-same l)

  l_level : level_of now l ≡ level now
  l_level = ap (λ b. cond b (level now) (level_of (cut k t) l)) (eq-eqb (variable_of l) (variable_of l) refl)

  m_level : is_false now m ≡ true → level now ≤ level_of now m
  m_level f = elim (eqb (variable_of m) (variable_of l)) as (λ b. eqb (variable_of m) (variable_of l) ≡ b → level now ≤ level_of now m) [
    | true ↦ λ e. let same = ap (λ b. cond b (level now) (level_of (cut k t) m)) e in omega arith
    | false ↦ λ e.
        let rest : is_false (cut k t) m ≡ true =
        false_on_rest (Because num l) (cut k t) m f (λ s. both_ways _ e (eq-eqb _ _ (ap variable_of s ∙ variable_of-opposite l))) in
        let there = false_is_assigned (cut k t) m rest in
        let same = ap (λ b. cond b (level now) (level_of (cut k t) m)) e in
        let old = cut_suffix n k t d m there in
        let top = cut_level k t in
        elim (cases_lt 0 k) [
          | inr none ↦ omega arith
          | inl pos ↦
              let second = g.second pos in
              ⊎_elim (λ s. absurd (second.2 (sym s))) (λ r. let le = r.1 in let high = second.3 in omega arith) (h.highest second.0 second.1)
        ]
  ] refl

  has_l : (j : ℕ) → level now ≤ j → HasTrue now j c
  has_l j le = record { literal = l; has = g.has; holds = l_true; low = let e = l_level in omega arith }

  only_l : l ≡ m → (x : Literal) → has_literal c x ≡ true → x ≡ l
  only_l same x has = ⊎_elim (λ e. e) (λ r. absurd (r.0 (sym same))) (h.highest x has)

  pub learnt_watched : IsWatched now c (record { first = l; second = m }) (eqb (length c) 1) (eqb (length c) 0)
  learnt_watched = record {
    first_in = λ _. g.has;
    second_in = λ _. ⊎_elim (λ e. ap (has_literal c) e ∙ g.has) (λ e. e) h.inside;
    single = λ same. all_one c l once (only_l same);
    first_answered = λ f. absurd (not_both n now l learnt_distinct l_true f);
    second_answered = λ f. satisfied (has_l _ (m_level f));
    alone = λ pos same. satisfied (has_l 0 (elim (cases_lt 0 k) [
      | inr none ↦ (let top = cut_level k t in omega arith)
      | inl kp ↦ let second = g.second kp in absurd (second.2 (sym (only_l same second.0 second.1)))
    ]));
    empty = λ none. let pos = not_empty c l g.has in absurd (omega arith);
  }

-- one more literal beside another one
pub beside_more : (t : List Assigned) (c : List Literal) (l h o r : Literal) → IsHighestBeside t c l h → (r ≡ h) ⊎ (r ≡ o) → (o ≡ l)
    ⊎ ((r ≡ l → ⊥) × (level_of t o ≤ level_of t r)) → (h ≡ l) ⊎ ((r ≡ l → ⊥) × (level_of t h ≤ level_of t r)) → IsHighestBeside t (c ++ o ∷ []) l r
beside_more t c l h o r v either higher kept = record {
  inside = ⊎_elim
      (λ e. ⊎_elim (λ s. inl (e ∙ s)) (λ s. inr (has_more r (or_left _ _ (ap (has_literal c) e ∙ s)))) v.inside)
      (λ e. inr (has_more r (or_right _ _ (or_left _ _ (subst (λ x. same_literal r x ≡ true) e (same_literal-same r))))))
      either;
  highest = λ x has. ⊎_elim
      (λ e. ⊎_elim (λ s. inl s) (λ s. ⊎_elim (λ z. absurd (s.0 z)) (λ z. let a = s.1 in let b = z.1 in inr (z.0, omega arith)) kept) (v.highest x e))
      (λ e. let same = same_literal-true x o (⊎_elim (λ y. y) (λ y. absurd (both_ways false refl y)) (or_cases (same_literal x o) false e)) in
      ⊎_elim (λ s. inl (same ∙ s)) (λ s. inr (s.0, subst (λ y. level_of t y ≤ level_of t r) (sym same) s.1)) higher)
      (or_cases _ _ (sym (list_any-append (same_literal x) c (o ∷ [])) ∙ has));
}
  where
    has_more : (x : Literal) → (has_literal c x || has_literal (o ∷ []) x) ≡ true → has_literal (c ++ o ∷ []) x ≡ true
    has_more x h = list_any-append (same_literal x) c (o ∷ []) ∙ h

-- a clause is watched by its first two literals where nothing is assigned
pub given_watched : (c : List Literal) → HasNoRepeat c → IsWatched [] c (record {
  first =
      (first_two c).0;
  second = (first_two c).1;
}) (eqb (length c) 1) (eqb (length c) 0)
given_watched [] r = record {
  first_in = λ pos. absurd (omega arith);
  second_in = λ pos. absurd (omega arith);
  single = λ _. omega arith;
  first_answered = λ f. absurd (both_ways false refl f);
  second_answered = λ f. absurd (both_ways false refl f);
  alone = λ pos same. absurd (omega arith);
  empty = λ _. (refl, refl);
}
given_watched (l ∷ []) r = record {
  first_in = λ _. or_left _ _ (same_literal-same l);
  second_in = λ _. or_left _ _ (same_literal-same l);
  single = λ _. omega arith;
  first_answered = λ f. absurd (both_ways false refl f);
  second_answered = λ f. absurd (both_ways false refl f);
  alone = λ pos same. is_unit refl refl refl;
  empty = λ none. absurd (omega arith);
}
given_watched (l ∷ m ∷ c) r = record {
  first_in = λ _. or_left _ _ (same_literal-same l);
  second_in = λ _. or_right _ _ (or_left _ _ (same_literal-same m));
  single = λ same. absurd (apart same);
  first_answered = λ f. absurd (both_ways false refl f);
  second_answered = λ f. absurd (both_ways false refl f);
  alone = λ pos same. absurd (apart same);
  empty = λ none. absurd (omega arith);
}
  where
    apart : l ≡ m → ⊥
    apart same = both_ways _ r.0 (or_left _ _ (subst (λ x. same_literal l x ≡ true) same (same_literal-same l)))
