-- The world of the facts whose sign is true, one fact after the other.
use Rattle.std.proofs.Common.{◌≡◌, ℕ, zero, suc, ◌+◌, ◌≤◌, Bool, true, false, cond, ◌||◌, List, [], ◌∷◌, ◌++◌, map, filter, Some, refl, sym, ap, ◌∙◌, arith}
use Rattle.std.specs.Prelude.{slice_get}
use Rattle.std.specs.List.{list_any, list_all}
use Rattle.std.specs.Ordering.{eq_by_cmp}
use Rattle.std.specs.FinSet as set
use Rattle.std.proofs.lemmas.Bool.{and_parts}
use Rattle.std.proofs.lemmas.List.Folds.{list_any-append}
use Rattle.cqe_base.specs.declared.world.Fact.{Fact}
use Rattle.cqe_base.specs.Facts.{fact_cmp, FactSet}
use Rattle.cqe_base.specs.ClauseForm.{NumberedFact, world_of}
use Rattle.cqe_base.proofs.Worlds.{fact_cmp_total, fact_cmp-IsAntisymmetric}
use Rattle.clause_form.specs.Inside.{numbered_of, numbered_facts}

-- ---- worlds

-- the facts whose sign is true
abbrev pub true_facts : List NumberedFact → (ℕ → Bool) → List Fact
true_facts facts signs = map (λ e. e.fact) (filter (λ e. signs e.number) facts)

true_facts-push : (entries : List (Fact × ℕ)) (f : Fact) (n : ℕ) (signs : ℕ → Bool)
    → true_facts (numbered_facts (entries ++ (f, n) ∷ [])) signs ≡ true_facts (numbered_facts entries) signs ++ cond (signs n) (f ∷ []) []
true_facts-push [] f n signs = by (signs n)
  where
    by : (b : Bool) → map (λ e. e.fact) (cond b (numbered_of (f, n) ∷ []) []) ≡ cond b (f ∷ []) []
    by true = refl
    by false = refl
true_facts-push (e ∷ entries) f n signs = by (signs e.1) (true_facts-push entries f n signs)
  where
    by : (b : Bool) → true_facts (numbered_facts (entries ++ (f, n) ∷ [])) signs ≡ true_facts (numbered_facts entries) signs ++ cond (signs n) (f ∷ []) []
        → map (λ e. e.fact)
        (cond b (numbered_of e ∷ filter (λ e. signs e.number) (numbered_facts (entries ++ (f, n) ∷ [])))
        (filter (λ e. signs e.number) (numbered_facts (entries ++ (f, n) ∷ []))))
        ≡ map (λ e. e.fact)
        (cond b (numbered_of e ∷ filter (λ e. signs e.number) (numbered_facts entries)) (filter (λ e. signs e.number) (numbered_facts entries)))
        ++ cond (signs n) (f ∷ []) []
    by true h = ap (λ fs. e.0 ∷ fs) h
    by false h = h

-- a world has these facts
abbrev pub HasFacts : FactSet → List Fact → Type 0
HasFacts world facts = (q : Fact) → set.contains world q ≡ list_any (eq_by_cmp fact_cmp q) facts

swap_or : (a b : Bool) → (a || b) ≡ (b || (a || false))
swap_or true true = refl
swap_or true false = refl
swap_or false true = refl
swap_or false false = refl

or_nothing : (a : Bool) → a ≡ (a || false)
or_nothing true = refl
or_nothing false = refl

-- a fact with a true sign joins the world
pub fact_joins : (world new : FactSet) (entries : List (Fact × ℕ)) (f : Fact) (n : ℕ) (signs : ℕ → Bool)
    → HasFacts world (true_facts (numbered_facts entries) signs) → signs n ≡ true → new ≡ set.insert world f
    → HasFacts new (true_facts (numbered_facts (entries ++ (f, n) ∷ [])) signs)
fact_joins world new entries f n signs has sign e q =
    let facts = true_facts (numbered_facts entries) signs in
    ap (λ w. set.contains w q) e
    ∙ set.contains-insert fact_cmp_total world f q
    ∙ ap (λ b. eq_by_cmp fact_cmp q f || b) (has q)
    ∙ swap_or (eq_by_cmp fact_cmp q f) (list_any (eq_by_cmp fact_cmp q) facts)
    ∙ sym (list_any-append (eq_by_cmp fact_cmp q) facts (f ∷ []))
    ∙ ap (λ b. list_any (eq_by_cmp fact_cmp q) (facts ++ cond b (f ∷ []) [])) (sym sign)
    ∙ ap (list_any (eq_by_cmp fact_cmp q)) (sym (true_facts-push entries f n signs))

-- and one with a false sign doesn't
pub fact_stays_out : (world : FactSet) (entries : List (Fact × ℕ)) (f : Fact) (n : ℕ) (signs : ℕ → Bool)
    → HasFacts world (true_facts (numbered_facts entries) signs) → signs n ≡ false → HasFacts world (true_facts (numbered_facts (entries ++ (f, n) ∷ [])) signs)
fact_stays_out world entries f n signs has sign q =
    let facts = true_facts (numbered_facts entries) signs in
    has q
    ∙ or_nothing (list_any (eq_by_cmp fact_cmp q) facts)
    ∙ sym (list_any-append (eq_by_cmp fact_cmp q) facts [])
    ∙ ap (λ b. list_any (eq_by_cmp fact_cmp q) (facts ++ cond b (f ∷ []) [])) (sym sign)
    ∙ ap (list_any (eq_by_cmp fact_cmp q)) (sym (true_facts-push entries f n signs))

-- a world grows by one fact at most
pub len_joins : (world new : FactSet) (f : Fact) → new ≡ set.insert world f → set.len new ≤ set.len world + 1
len_joins world new f e = by (set.contains world f) (ap set.len e ∙ set.len-insert fact_cmp_total world f)
  where
    by : (b : Bool) → set.len new ≡ cond b (set.len world) (set.len world + 1) → set.len new ≤ set.len world + 1
    by true h = omega arith
    by false h = omega arith

-- a world with just these facts is the world of them
pub world_has : (world : FactSet) (facts : List NumberedFact) (signs : ℕ → Bool) → HasFacts world (true_facts facts signs) → world ≡ world_of facts signs
world_has world facts signs has =
    set.same_set fact_cmp_total fact_cmp-IsAntisymmetric world (world_of facts signs) (λ q. has q
    ∙ sym (set.contains-from_list fact_cmp_total (true_facts facts signs) q))

-- each numbered fact passes where all do
pub passes_at : (p : Fact → Bool) (entries : List (Fact × ℕ)) (k : ℕ) (e : Fact × ℕ) → list_all (λ d. p d.fact) (numbered_facts entries) ≡ true
    → slice_get entries k ≡ Some e → p e.0 ≡ true
passes_at p [] k e all at = absurd (let x : ⊥ = cc in x)
passes_at p (d ∷ entries) zero e all at =
    let same : d ≡ e = cc in
    ap (λ (x : Fact × ℕ). p x.0) (sym same) ∙ (and_parts (p d.0) (list_all (λ d. p d.fact) (numbered_facts entries)) all).0
passes_at p (d ∷ entries) (suc k) e all at = passes_at p entries k e (and_parts (p d.0) (list_all (λ d. p d.fact) (numbered_facts entries)) all).1 at
