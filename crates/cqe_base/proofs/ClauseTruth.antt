-- What makes clauses true: unions, resolvents, refutations.
use Rattle.std.proofs.Common.{◌≡◌, ℕ, zero, suc, Bool, true, false, cond, not, ◌||◌, eqb, List, [], ◌∷◌, ◌++◌, Option, Some, None, refl, sym, ap, ◌∙◌, subst}
use Rattle.std.proofs.Common.{⊎_elim, arith}
use Rattle.std.specs.Prelude.{slice_get}
use Rattle.std.specs.List.{list_all}
use Rattle.std.proofs.lemmas.Bool.{or_cases, or_left, or_right, or_parts, and_parts, and_from, both_ways, eqb-true}
use Rattle.std.proofs.lemmas.Bool.Decides.{nat_tests}
use Rattle.std.proofs.lemmas.List.Folds.{list_any-append, list_all-append}
use Rattle.cqe_base.specs.Literal.{Literal, Positive, Negative, variable_of, opposite, same_literal, has_literal, union, literal_true, clause_true}
use Rattle.cqe_base.specs.Literal.{clauses_true}
use Rattle.cqe_base.specs.Refutation.{RefutationLine, without_variable, resolvent, resolvent_on, single_resolvent, resolvent_with_next, chain_from}
use Rattle.cqe_base.specs.Refutation.{chain_result, is_result, lines_right, is_empty_clause, ends_empty, is_refutation, clashes}

-- a literal is itself
pub same_literal-same : (l : Literal) → same_literal l l ≡ true
same_literal-same (Positive v) = grind (arith, nat_tests)
same_literal-same (Negative v) = grind (arith, nat_tests)

-- two literals that are the same are equal
pub same_literal-true : (l m : Literal) → same_literal l m ≡ true → l ≡ m
same_literal-true (Positive v) (Positive w) h = ap Positive (eqb-true v w h)
same_literal-true (Positive v) (Negative w) h = cc
same_literal-true (Negative v) (Positive w) h = cc
same_literal-true (Negative v) (Negative w) h = ap Negative (eqb-true v w h)

pub opposite-opposite : (l : Literal) → opposite (opposite l) ≡ l
opposite-opposite (Positive v) = refl
opposite-opposite (Negative v) = refl

pub literal_true-opposite : (signs : ℕ → Bool) (l : Literal) → literal_true signs (opposite l) ≡ not (literal_true signs l)
literal_true-opposite signs (Positive v) = refl
literal_true-opposite signs (Negative v) = elim (signs v) as (λ b. b ≡ not (not b)) [ true ↦ refl | false ↦ refl ]

pub variable_of-opposite : (l : Literal) → variable_of (opposite l) ≡ variable_of l
variable_of-opposite (Positive v) = refl
variable_of-opposite (Negative v) = refl

-- a literal of a clause is one at which the clause is true
pub clause_true-has : (signs : ℕ → Bool) (c : List Literal) (l : Literal) → has_literal c l ≡ true → literal_true signs l ≡ true → clause_true signs c ≡ true
clause_true-has signs [] l h t = cc
clause_true-has signs (m ∷ c) l h t =
    ⊎_elim (λ e. or_left _ _ (subst (λ x. literal_true signs x ≡ true) (same_literal-true l m e) t))
    (λ e. or_right _ _ (clause_true-has signs c l e t))
    (or_cases _ _ h)

-- where one literal of two lists is already counted
or_known : (a b c : Bool) → (b ≡ true → a ≡ true) → (a || c) ≡ (a || (b || c))
or_known true b c h = refl
or_known false true c h = absurd (both_ways false refl (h refl))
or_known false false c h = refl

or_moved : (a b c : Bool) → ((a || (b || false)) || c) ≡ (a || (b || c))
or_moved true b c = refl
or_moved false true c = refl
or_moved false false c = refl

union_step : (signs : ℕ → Bool) (c : List Literal) (l : Literal) (b d : Bool) → has_literal c l ≡ b
    → (clause_true signs (cond b c (c ++ l ∷ [])) || d) ≡ (clause_true signs c || (literal_true signs l || d))
union_step signs c l true d e = or_known _ _ _ (λ t. clause_true-has signs c l e t)
union_step signs c l false d e =
    ap (λ x. x || d) (list_any-append (literal_true signs) c (l ∷ [])) ∙ or_moved (clause_true signs c) (literal_true signs l) d

-- a union is true where one of the clauses is
pub clause_true-union : (signs : ℕ → Bool) (c d : List Literal) → clause_true signs (union c d) ≡ (clause_true signs c || clause_true signs d)
clause_true-union signs c [] = elim (clause_true signs c) as (λ b. b ≡ (b || false)) [ true ↦ refl | false ↦ refl ]
clause_true-union signs c (l ∷ d) =
    clause_true-union signs (cond (has_literal c l) c (c ++ l ∷ [])) d ∙ union_step signs c l (has_literal c l) (clause_true signs d) refl

-- without repeats a clause is as true as before
pub clause_true-distinct : (signs : ℕ → Bool) (c : List Literal) → clause_true signs (union [] c) ≡ clause_true signs c
clause_true-distinct signs c = clause_true-union signs [] c

-- a literal of the same variable that isn't the opposite one is the literal itself
same_variable : (l m : Literal) → same_literal (opposite l) m ≡ false → eqb (variable_of m) (variable_of l) ≡ true → m ≡ l
same_variable (Positive v) (Positive w) h e = ap Positive (eqb-true w v e)
same_variable (Positive v) (Negative w) h e = let same : w ≡ v = eqb-true w v e in absurd (grind (arith, nat_tests))
same_variable (Negative v) (Positive w) h e = let same : w ≡ v = eqb-true w v e in absurd (grind (arith, nat_tests))
same_variable (Negative v) (Negative w) h e = ap Negative (eqb-true w v e)

kept_step : (signs : ℕ → Bool) (l m : Literal) (c rest : List Literal) (b : Bool) → eqb (variable_of m) (variable_of l) ≡ b
    → same_literal (opposite l) m ≡ false → literal_true signs l ≡ false → (clause_true signs c ≡ true → clause_true signs rest ≡ true)
    → (literal_true signs m || clause_true signs c) ≡ true → clause_true signs (cond (not b) (m ∷ rest) rest) ≡ true
kept_step signs l m c rest true e h f go t =
    ⊎_elim (λ u. absurd (both_ways _ (subst (λ x. literal_true signs x ≡ false) (sym (same_variable l m h e)) f) u)) go (or_cases _ _ t)
kept_step signs l m c rest false e h f go t =
    ⊎_elim (λ u. or_left _ _ u) (λ u. or_right _ _ (go u)) (or_cases _ _ t)

-- a clause that is true by another literal than l, and has not its opposite, stays true without l's variable
clause_true-kept : (signs : ℕ → Bool) (l : Literal) (c : List Literal) → has_literal c (opposite l) ≡ false → literal_true signs l ≡ false
    → clause_true signs c ≡ true → clause_true signs (without_variable (variable_of l) c) ≡ true
clause_true-kept signs l [] h f t = t
clause_true-kept signs l (m ∷ c) h f t =
    let parts : (same_literal (opposite l) m ≡ false) × (has_literal c (opposite l) ≡ false) = or_parts _ _ h in
    kept_step signs l m c (without_variable (variable_of l) c) (eqb (variable_of m) (variable_of l)) refl parts.0 f (clause_true-kept signs l c parts.1 f) t

resolvent_by : (signs : ℕ → Bool) (l : Literal) (c d : List Literal) (b : Bool) → literal_true signs l ≡ b → has_literal c (opposite l) ≡ false
    → has_literal d l ≡ false → clause_true signs c ≡ true → clause_true signs d ≡ true → clause_true signs (resolvent (variable_of l) c d) ≡ true
resolvent_by signs l c d true e hc hd tc td =
    let past : has_literal d (opposite (opposite l)) ≡ false = rw opposite-opposite hd in
    let gone : literal_true signs (opposite l) ≡ false = literal_true-opposite signs l ∙ ap not e in
    let rest : clause_true signs (without_variable (variable_of (opposite l)) d) ≡ true = clause_true-kept signs (opposite l) d past gone td in
    let rest' : clause_true signs (without_variable (variable_of l) d) ≡ true = rw variable_of-opposite at rest in
    clause_true-union signs (without_variable (variable_of l) c) (without_variable (variable_of l) d) ∙ or_right _ _ rest'
resolvent_by signs l c d false e hc hd tc td =
    clause_true-union signs (without_variable (variable_of l) c) (without_variable (variable_of l) d)
    ∙ or_left _ _ (clause_true-kept signs l c hc e tc)

-- the resolvent of two true clauses is true
pub clause_true-resolvent : (signs : ℕ → Bool) (l : Literal) (c d : List Literal) → has_literal c (opposite l) ≡ false → has_literal d l ≡ false
    → clause_true signs c ≡ true → clause_true signs d ≡ true → clause_true signs (resolvent (variable_of l) c d) ≡ true
clause_true-resolvent signs l c d = resolvent_by signs l c d (literal_true signs l) refl

-- what holds of a result, if there is one
abbrev pub IfResult : (ℕ → Bool) → Option (List Literal) → Type 0
IfResult signs None = Unit {0}
IfResult signs (Some c) = clause_true signs c ≡ true

resolvent_if : (signs : ℕ → Bool) (l : Literal) (c d : List Literal) (b b' : Bool) → has_literal c (opposite l) ≡ b → has_literal d l ≡ b'
    → clause_true signs c ≡ true → clause_true signs d ≡ true → IfResult signs (cond (b || b') None (Some (resolvent (variable_of l) c d)))
resolvent_if signs l c d true b' hc hd tc td = tt
resolvent_if signs l c d false true hc hd tc td = tt
resolvent_if signs l c d false false hc hd tc td = clause_true-resolvent signs l c d hc hd tc td

resolvent_on_true : (signs : ℕ → Bool) (ls c d : List Literal) → clause_true signs c ≡ true → clause_true signs d ≡ true → IfResult signs (resolvent_on ls c d)
resolvent_on_true signs [] c d tc td = tt
resolvent_on_true signs (l ∷ []) c d tc td = resolvent_if signs l c d (has_literal c (opposite l)) (has_literal d l) refl refl tc td
resolvent_on_true signs (l ∷ m ∷ rest) c d tc td = tt

-- the result of a resolution of two true clauses is true
pub resolved_true : (signs : ℕ → Bool) (c d : List Literal) → clause_true signs c ≡ true → clause_true signs d ≡ true → IfResult signs (single_resolvent c d)
resolved_true signs c d tc td = resolvent_on_true signs (clashes c d) c d tc td

clause_at_true : (signs : ℕ → Bool) (cs : List (List Literal)) (i : ℕ) → clauses_true signs cs ≡ true → IfResult signs (slice_get cs i)
clause_at_true signs [] i h = tt
clause_at_true signs (c ∷ cs) zero h = (and_parts _ _ h).0
clause_at_true signs (c ∷ cs) (suc i) h = clause_at_true signs cs i (and_parts _ _ h).1

resolved_with_true : (signs : ℕ → Bool) (c : List Literal) (o : Option (List Literal)) → clause_true signs c ≡ true → IfResult signs o
    → IfResult signs (resolvent_with_next c o)
resolved_with_true signs c None tc h = tt
resolved_with_true signs c (Some d) tc h = resolved_true signs c d tc h

chain_from_true : (signs : ℕ → Bool) (cs : List (List Literal)) (chain : List ℕ) (o : Option (List Literal)) → clauses_true signs cs ≡ true → IfResult signs o
    → IfResult signs (chain_from cs o chain)
chain_from_true signs cs chain None tcs h = tt
chain_from_true signs cs [] (Some c) tcs h = h
chain_from_true signs cs (i ∷ chain) (Some c) tcs h =
    chain_from_true signs cs chain (resolvent_with_next c (slice_get cs i)) tcs (resolved_with_true signs c (slice_get cs i) h (clause_at_true signs cs i tcs))

-- the result of a chain over true clauses is true
pub chain_result_true : (signs : ℕ → Bool) (cs : List (List Literal)) (chain : List ℕ) → clauses_true signs cs ≡ true → IfResult signs (chain_result cs chain)
chain_result_true signs cs [] tcs = tt
chain_result_true signs cs (i ∷ chain) tcs = chain_from_true signs cs chain (slice_get cs i) tcs (clause_at_true signs cs i tcs)

-- a clause with all literals of a true clause is true
pub clause_true-larger : (signs : ℕ → Bool) (c d : List Literal) → list_all (has_literal d) c ≡ true → clause_true signs c ≡ true → clause_true signs d ≡ true
clause_true-larger signs [] d h t = absurd (both_ways false refl t)
clause_true-larger signs (l ∷ c) d h t =
    let parts : (has_literal d l ≡ true) × (list_all (has_literal d) c ≡ true) = and_parts _ _ h in
    ⊎_elim (λ u. clause_true-has signs d l parts.0 u) (λ u. clause_true-larger signs c d parts.1 u) (or_cases _ _ t)

line_true : (signs : ℕ → Bool) (c : List Literal) (o : Option (List Literal)) → is_result c o ≡ true → IfResult signs o → clause_true signs c ≡ true
line_true signs c None h r = absurd (both_ways false refl h)
line_true signs c (Some d) h r = clause_true-larger signs d c (and_parts _ _ h).1 r

one_more_clause : (signs : ℕ → Bool) (cs : List (List Literal)) (c : List Literal) → clauses_true signs cs ≡ true → clause_true signs c ≡ true
    → clauses_true signs (cs ++ c ∷ []) ≡ true
one_more_clause signs cs c tcs tc = list_all-append (clause_true signs) cs (c ∷ []) ∙ and_from _ _ tcs (and_from _ _ tc refl)

no_empty : (signs : ℕ → Bool) (c : List Literal) → is_empty_clause c ≡ true → clause_true signs c ≡ true → ⊥
no_empty signs [] e t = both_ways false refl t
no_empty signs (l ∷ c) e t = both_ways false refl e

-- over true clauses no right lines end with the empty clause
refuted_none : (signs : ℕ → Bool) (cs : List (List Literal)) (lines : List RefutationLine) → lines_right cs lines ≡ true → ends_empty lines ≡ true
    → clauses_true signs cs ≡ true → ⊥
refuted_none signs cs [] r e tcs = both_ways false refl e
refuted_none signs cs (line ∷ []) r e tcs =
    no_empty signs line.clause e (line_true signs line.clause _ (and_parts _ _ r).0 (chain_result_true signs cs line.chain tcs))
refuted_none signs cs (line ∷ next ∷ rest) r e tcs =
    let parts = and_parts (is_result line.clause (chain_result cs line.chain)) _ r in
    let tc = line_true signs line.clause _ parts.0 (chain_result_true signs cs line.chain tcs) in
    refuted_none signs (cs ++ line.clause ∷ []) (next ∷ rest) parts.1 e (one_more_clause signs cs line.clause tcs tc)

-- where a refutation is right, no signs make every given clause true
pub refutation_sound : (cs : List (List Literal)) (lines : List RefutationLine) → is_refutation cs lines ≡ true → (signs : ℕ → Bool)
    → clauses_true signs cs ≡ true → ⊥
refutation_sound cs lines h signs t = let parts = and_parts (lines_right cs lines) (ends_empty lines) h in refuted_none signs cs lines parts.0 parts.1 t
