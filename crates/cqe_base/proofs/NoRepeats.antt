-- No clause that a walk appends has a literal twice.
use Rattle.std.proofs.Common.{◌≡◌, ℕ, zero, suc, ◌<◌, false, eqb, List, [], ◌∷◌, ◌++◌, length, get_or, map, refl, ◌∙◌, arith}
use Rattle.std.proofs.lemmas.Bool.{or_from, or_parts, cond_both}
use Rattle.std.proofs.lemmas.Bool.Decides.{nat_tests}
use Rattle.std.proofs.lemmas.List.Folds.{list_any-append}
use Rattle.cqe_base.specs.Ground.{Ground, Grounds, ground_true, ground_false, ground_atom, ground_not, ground_all, ground_some, ground_implies, ground_iff}
use Rattle.cqe_base.specs.Ground.{no_grounds, more_grounds}
use Rattle.cqe_base.specs.Literal.{Literal, Positive, Negative, opposite, same_literal, has_literal, HasNoRepeat, HaveNoRepeat, union, distinct_literals}
use Rattle.cqe_base.specs.ClauseForm.{Numbering, numbering_after, literal_of, literals_of, and_clauses, or_clauses, iff_clauses, clauses_of, clauses_of_parts}

pub eqb_comm : (a b : ℕ) → eqb a b ≡ eqb b a
eqb_comm a b = grind (arith, nat_tests)

same_literal-comm : (l m : Literal) → same_literal l m ≡ same_literal m l
same_literal-comm (Positive v) (Positive w) = eqb_comm v w
same_literal-comm (Positive v) (Negative w) = refl
same_literal-comm (Negative v) (Positive w) = refl
same_literal-comm (Negative v) (Negative w) = eqb_comm v w

push_has : (c : List Literal) (l m : Literal) → has_literal c m ≡ false → same_literal m l ≡ false → has_literal (c ++ l ∷ []) m ≡ false
push_has c l m h e = list_any-append (same_literal m) c (l ∷ []) ∙ or_from _ _ h (or_from _ _ e refl)

-- a literal that isn't there yet is no repeat
pub push_no_repeat : (c : List Literal) (l : Literal) → HasNoRepeat c → has_literal c l ≡ false → HasNoRepeat (c ++ l ∷ [])
push_no_repeat [] l h e = (refl, tt)
push_no_repeat (m ∷ c) l h e =
    let parts = or_parts (same_literal l m) (has_literal c l) e in
    (push_has c l m h.0 (same_literal-comm m l ∙ parts.0), push_no_repeat c l h.1 parts.1)

-- nor has the clause at a place
pub no_repeat_at : (cs : List (List Literal)) (i : ℕ) → HaveNoRepeat cs → i < length cs → HasNoRepeat (get_or cs i [])
no_repeat_at [] i h lt = absurd (omega arith)
no_repeat_at (c ∷ cs) zero h lt = h.0
no_repeat_at (c ∷ cs) (suc i) h lt = no_repeat_at cs i h.1 (omega arith)

-- a union keeps that no literal is there twice
pub HasNoRepeat-union : (d c : List Literal) → HasNoRepeat c → HasNoRepeat (union c d)
HasNoRepeat-union [] c h = h
HasNoRepeat-union (l ∷ d) c h =
    HasNoRepeat-union d _ (cond_both (has_literal c l) c (c ++ l ∷ []) HasNoRepeat (λ _. h) (λ e. push_no_repeat c l h e))

pub HaveNoRepeat-append : (cs ds : List (List Literal)) → HaveNoRepeat cs → HaveNoRepeat ds → HaveNoRepeat (cs ++ ds)
HaveNoRepeat-append [] ds h i = i
HaveNoRepeat-append (c ∷ cs) ds h i = (h.0, HaveNoRepeat-append cs ds h.1 i)

distinct_no_repeat : (c : List Literal) → HasNoRepeat (distinct_literals c)
distinct_no_repeat c = HasNoRepeat-union c [] tt

edges_no_repeat : (f : Literal → List Literal) (ls : List Literal) → HaveNoRepeat (map (λ l. distinct_literals (f l)) ls)
edges_no_repeat f [] = tt
edges_no_repeat f (l ∷ ls) = (distinct_no_repeat (f l), edges_no_repeat f ls)

and_no_repeat : (v : ℕ) (ls : List Literal) → HaveNoRepeat (and_clauses v ls)
and_no_repeat v ls =
    HaveNoRepeat-append (map (λ l. distinct_literals (Negative v ∷ l ∷ [])) ls) _ (edges_no_repeat (λ l. Negative v ∷ l ∷ []) ls)
    (distinct_no_repeat (Positive v ∷ map opposite ls), tt)

or_no_repeat : (v : ℕ) (ls : List Literal) → HaveNoRepeat (or_clauses v ls)
or_no_repeat v ls =
    HaveNoRepeat-append (map (λ l. distinct_literals (Positive v ∷ opposite l ∷ [])) ls) _ (edges_no_repeat (λ l. Positive v ∷ opposite l ∷ []) ls)
    (distinct_no_repeat (Negative v ∷ ls), tt)

iff_no_repeat : (v : ℕ) (a b : Literal) → HaveNoRepeat (iff_clauses v a b)
iff_no_repeat v a b = (
  distinct_no_repeat (Negative v ∷ opposite a ∷ b ∷ []),
  (
    distinct_no_repeat (Negative v ∷ a ∷ opposite b ∷ []),
    (
      distinct_no_repeat (Positive v ∷ a ∷ b ∷ []),
      (distinct_no_repeat (Positive v ∷ opposite a ∷ opposite b ∷ []), tt),
    ),
  ),
)

mutual
  -- no clause of a formula has a literal twice
  pub clauses-no_repeat : (a : Ground) (n : Numbering) → HaveNoRepeat (clauses_of a n)
  clauses-no_repeat ground_true n = tt
  clauses-no_repeat ground_false n = tt
  clauses-no_repeat (ground_atom f) n = tt
  clauses-no_repeat (ground_not a) n = clauses-no_repeat a n
  clauses-no_repeat (ground_all parts) n =
      HaveNoRepeat-append (clauses_of_parts parts n) _ (clauses-no_repeat_parts parts n) (and_no_repeat _ (literals_of parts n))
  clauses-no_repeat (ground_some parts) n =
      HaveNoRepeat-append (clauses_of_parts parts n) _ (clauses-no_repeat_parts parts n) (or_no_repeat _ (literals_of parts n))
  clauses-no_repeat (ground_implies a b) n =
      HaveNoRepeat-append (clauses_of a n ++ clauses_of b (numbering_after a n)) _
      (HaveNoRepeat-append (clauses_of a n) (clauses_of b (numbering_after a n)) (clauses-no_repeat a n) (clauses-no_repeat b (numbering_after a n)))
      (or_no_repeat (numbering_after b (numbering_after a n)).variables (opposite (literal_of a n) ∷ literal_of b (numbering_after a n) ∷ []))
  clauses-no_repeat (ground_iff a b) n =
      HaveNoRepeat-append (clauses_of a n ++ clauses_of b (numbering_after a n)) _
      (HaveNoRepeat-append (clauses_of a n) (clauses_of b (numbering_after a n)) (clauses-no_repeat a n) (clauses-no_repeat b (numbering_after a n)))
      (iff_no_repeat (numbering_after b (numbering_after a n)).variables (literal_of a n) (literal_of b (numbering_after a n)))

  pub clauses-no_repeat_parts : (parts : Grounds) (n : Numbering) → HaveNoRepeat (clauses_of_parts parts n)
  clauses-no_repeat_parts no_grounds n = tt
  clauses-no_repeat_parts (more_grounds a rest) n =
      HaveNoRepeat-append (clauses_of a n) _ (clauses-no_repeat a n) (clauses-no_repeat_parts rest (numbering_after a n))
