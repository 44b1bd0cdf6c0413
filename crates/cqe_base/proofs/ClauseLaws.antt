-- The laws of clause forms and refutations, from the lemmas.
use Rattle.std.proofs.Common.{◌≡◌, ℕ, ◌+◌, ◌<◌, ◌≤◌, arith, append-nil, Bool, true, false, cond, ◌||◌, List, [], ◌∷◌, ◌++◌, map, length, length-append, refl}
use Rattle.std.proofs.Common.{sym, ap, ◌∙◌, subst, append_assoc}
use Rattle.std.specs.Prelude.{filter}
use Rattle.std.specs.List.{list_any}
use Rattle.std.specs.Ordering.{eq_by_cmp}
use Rattle.std.specs.FinSet as set
use Rattle.std.proofs.lemmas.Bool.{or_parts, or_from, both_ways}
use Rattle.std.proofs.lemmas.List.Sums.{sum_by-cons}
use Rattle.cqe_base.specs.declared.world.Fact.{Fact}
use Rattle.cqe_base.specs.Facts.{fact_cmp}
use Rattle.cqe_base.specs.Ground.{Ground, Grounds, ground_true, ground_false, ground_atom, ground_not, ground_all, ground_some, ground_implies, ground_iff}
use Rattle.cqe_base.specs.Ground.{no_grounds, more_grounds, ground_nodes, part_nodes}
use Rattle.cqe_base.specs.SignedGround.{SignedGround, all_signed_true}
use Rattle.cqe_base.specs.GroundParts.{nodes_of_list}
use Rattle.cqe_base.specs.Literal.{Positive, variable_of, ClausesBelow, HaveNoRepeat}
use Rattle.cqe_base.specs.ClauseForm.{IsProper, NumberedOnce, same_fact, NumberedFact, Numbering, is_numbered, numbering_after, numbering_after_parts}
use Rattle.cqe_base.specs.ClauseForm.{clauses_of, signed_literal, numbering_of, numbering_after_list, clauses_of_list, first_numbering, world_of}
use Rattle.cqe_base.specs.MachineLaws.{ResolutionIsSound, RefutationIsSound, ModelsAreWorlds, ModelGivesWorld, ClauseFormIsPrefix, NumberingGoesOn}
use Rattle.cqe_base.specs.MachineLaws.{NumberingsAreProper, NumberedFactsStay, ClauseFormUsesItsVariables, ClauseFormHasNoRepeat, VariablesAreFew}
use Rattle.cqe_base.specs.MachineLaws.{NumberedFactsAreFew}
use Rattle.cqe_base.proofs.Worlds.{fact_cmp_total, tied_is, itself_tied}
use Rattle.cqe_base.proofs.SameFact.{same_fact-true, same_fact-same}
use Rattle.cqe_base.proofs.ClauseTruth.{IfResult, resolved_true, refutation_sound}
use Rattle.cqe_base.proofs.Numberings.{with_fact_cases, ClausesBelow-append, ClausesBelow-more, clauses-below, variables-grow, IsProper-after}
use Rattle.cqe_base.proofs.NoRepeats.{clauses-no_repeat, HaveNoRepeat-append}
use Rattle.cqe_base.proofs.ClauseWorlds.{sign_of_fact, model_gives_signs, world_gives_model, signed_below, IsProper-first}

pub resolution_is_sound : ResolutionIsSound
resolution_is_sound signs first second result e t1 t2 = subst (IfResult signs) e (resolved_true signs first second t1 t2)

pub refutation_is_sound : RefutationIsSound
refutation_is_sound = refutation_sound

pub models_are_worlds : ModelsAreWorlds
models_are_worlds formulas = (
  λ m. (sign_of_fact (numbering_of formulas).facts m.0, model_gives_signs formulas m.0 m.1),
  λ w. let m = world_gives_model w.0 formulas w.1 in (m.0, m.1),
)

-- ---- the world of the numbered facts whose sign is true

-- the test of the order is the test whether two facts are the same
tied_same : (f g : Fact) → eq_by_cmp fact_cmp f g ≡ same_fact f g
tied_same f g = by (eq_by_cmp fact_cmp f g) (same_fact f g) refl refl
  where
    by : (a b : Bool) → eq_by_cmp fact_cmp f g ≡ a → same_fact f g ≡ b → a ≡ b
    by true true p q = refl
    by false false p q = refl
    by true false p q = absurd (both_ways _ q (subst (λ x. same_fact f x ≡ true) (tied_is f g p) (same_fact-same f)))
    by false true p q = absurd (both_ways _ p (subst (λ x. eq_by_cmp fact_cmp f x ≡ true) (same_fact-true f g q) (itself_tied f)))

-- the facts whose sign is true
abbrev true_facts : List NumberedFact → (ℕ → Bool) → List Fact
true_facts facts signs = map (λ e. e.fact) (filter (λ e. signs e.number) facts)

not_among : (facts : List NumberedFact) (signs : ℕ → Bool) (f : Fact) → is_numbered facts f ≡ false
    → list_any (eq_by_cmp fact_cmp f) (true_facts facts signs) ≡ false
not_among [] signs f h = refl
not_among (e ∷ facts) signs f h = by (signs e.number) (or_parts (same_fact f e.fact) (is_numbered facts f) h) (λ k. not_among facts signs f k)
  where
    by : (b : Bool) → (same_fact f e.fact ≡ false) × (is_numbered facts f ≡ false)
        → (is_numbered facts f ≡ false → list_any (eq_by_cmp fact_cmp f) (true_facts facts signs) ≡ false)
        → list_any (eq_by_cmp fact_cmp f) (map (λ e. e.fact) (cond b (e ∷ filter (λ e. signs e.number) facts) (filter (λ e. signs e.number) facts))) ≡ false
    by true parts go = or_from _ _ (tied_same f e.fact ∙ parts.0) (go parts.1)
    by false parts go = go parts.1

-- where each fact is numbered once, the world has the facts whose sign is true
among-sign : (facts : List NumberedFact) (signs : ℕ → Bool) (f : Fact) → NumberedOnce facts
    → list_any (eq_by_cmp fact_cmp f) (true_facts facts signs) ≡ sign_of_fact facts signs f
among-sign [] signs f once = refl
among-sign (e ∷ facts) signs f once = by (signs e.number) (same_fact f e.fact) refl refl (among-sign facts signs f once.1)
  where
    gone : same_fact f e.fact ≡ true → list_any (eq_by_cmp fact_cmp f) (true_facts facts signs) ≡ false
    gone same = not_among facts signs f (subst (λ x. is_numbered facts x ≡ false) (sym (same_fact-true f e.fact same)) once.0)

    by : (b c : Bool) → signs e.number ≡ b → same_fact f e.fact ≡ c → list_any (eq_by_cmp fact_cmp f) (true_facts facts signs) ≡ sign_of_fact facts signs f
        → list_any (eq_by_cmp fact_cmp f) (map (λ e. e.fact) (cond b (e ∷ filter (λ e. signs e.number) facts) (filter (λ e. signs e.number) facts)))
        ≡ cond c (signs e.number) (sign_of_fact facts signs f)
    by true true p q go = ap (λ x. x || list_any (eq_by_cmp fact_cmp f) (true_facts facts signs)) (tied_same f e.fact ∙ q) ∙ sym p
    by true false p q go = ap (λ x. x || list_any (eq_by_cmp fact_cmp f) (true_facts facts signs)) (tied_same f e.fact ∙ q) ∙ go
    by false true p q go = gone q ∙ sym p
    by false false p q go = go

list_proper : (formulas : List SignedGround) (n : Numbering) → IsProper n → IsProper (numbering_after_list formulas n)
list_proper [] n p = p
list_proper (s ∷ rest) n p = list_proper rest _ (IsProper-after s.0 n p)

pub world_of-sign : (formulas : List SignedGround) (signs : ℕ → Bool) (f : Fact)
    → set.contains (world_of (numbering_of formulas).facts signs) f ≡ sign_of_fact (numbering_of formulas).facts signs f
world_of-sign formulas signs f =
    set.contains-from_list fact_cmp_total (true_facts (numbering_of formulas).facts signs) f
    ∙ among-sign (numbering_of formulas).facts signs f (list_proper formulas first_numbering IsProper-first).once

pub model_gives_world : ModelGivesWorld
model_gives_world formulas signs t =
    subst (λ facts. all_signed_true facts formulas ≡ true) (λ i f. sym (world_of-sign formulas signs f) i) (model_gives_signs formulas signs t)

-- ---- longer lists

prefix_from : (formulas more : List SignedGround) (n : Numbering)
    → clauses_of_list (formulas ++ more) n ≡ clauses_of_list formulas n ++ clauses_of_list more (numbering_after_list formulas n)
prefix_from [] more n = refl
prefix_from (s ∷ rest) more n =
    ap (λ cs. clauses_of s.0 n ++ (signed_literal s n ∷ []) ∷ cs) (prefix_from rest more (numbering_after s.0 n))
    ∙ sym (append_assoc (clauses_of s.0 n) ((signed_literal s n ∷ []) ∷ clauses_of_list rest (numbering_after s.0 n)) _)

pub clause_form_is_prefix : ClauseFormIsPrefix
clause_form_is_prefix formulas more = ap (λ cs. (Positive 0 ∷ []) ∷ cs) (prefix_from formulas more first_numbering)

pub numbering_goes_on : NumberingGoesOn
numbering_goes_on formulas more = numbered formulas first_numbering
  where
    numbered : (formulas : List SignedGround) (n : Numbering)
        → numbering_after_list (formulas ++ more) n ≡ numbering_after_list more (numbering_after_list formulas n)
    numbered [] n = refl
    numbered (s ∷ rest) n = numbered rest (numbering_after s.0 n)

list_grow : (formulas : List SignedGround) (n : Numbering) → n.variables ≤ (numbering_after_list formulas n).variables
list_grow [] n = omega arith
list_grow (s ∷ rest) n = let h = variables-grow s.0 n in let k = list_grow rest (numbering_after s.0 n) in omega arith

list_below : (formulas : List SignedGround) (n : Numbering) → IsProper n → ClausesBelow (numbering_after_list formulas n).variables (clauses_of_list formulas n)
list_below [] n p = tt
list_below (s ∷ rest) n p =
    let na = numbering_after s.0 n in
    let m = numbering_after_list rest na in
    let grow = list_grow rest na in
    let root = signed_below s n p in
    let root' : variable_of (signed_literal s n) < m.variables = omega arith in
    ClausesBelow-append m.variables (clauses_of s.0 n) ((signed_literal s n ∷ []) ∷ clauses_of_list rest na)
    (ClausesBelow-more (clauses_of s.0 n) na.variables m.variables grow (clauses-below s.0 n p))
    ((root', tt), list_below rest na (IsProper-after s.0 n p))

pub clause_form_uses_its_variables : ClauseFormUsesItsVariables
clause_form_uses_its_variables formulas =
    let grow = list_grow formulas first_numbering in
    let zero_below : 0 < (numbering_of formulas).variables = omega arith in
    ((zero_below, tt), list_below formulas first_numbering IsProper-first)

list_no_repeat : (formulas : List SignedGround) (n : Numbering) → HaveNoRepeat (clauses_of_list formulas n)
list_no_repeat [] n = tt
list_no_repeat (s ∷ rest) n =
    HaveNoRepeat-append (clauses_of s.0 n) ((signed_literal s n ∷ []) ∷ clauses_of_list rest (numbering_after s.0 n)) (clauses-no_repeat s.0 n)
    ((refl, tt), list_no_repeat rest (numbering_after s.0 n))

pub clause_form_has_no_repeat : ClauseFormHasNoRepeat
clause_form_has_no_repeat formulas = ((refl, tt), list_no_repeat formulas first_numbering)

-- ---- how many variables and numbered facts there are

mutual
  -- a walk takes at most one variable for each node
  pub variables-few : (a : Ground) (n : Numbering) → (numbering_after a n).variables ≤ n.variables + ground_nodes a
  variables-few ground_true n = omega arith
  variables-few ground_false n = omega arith
  variables-few (ground_atom f) n = with_fact_cases n f (λ m. m.variables ≤ n.variables + 1) (λ _. omega arith) (λ _. omega arith)
  variables-few (ground_not a) n = let h = variables-few a n in omega arith
  variables-few (ground_all parts) n = let h = variables-few_parts parts n in omega arith
  variables-few (ground_some parts) n = let h = variables-few_parts parts n in omega arith
  variables-few (ground_implies a b) n = let h = variables-few a n in let k = variables-few b (numbering_after a n) in omega arith
  variables-few (ground_iff a b) n = let h = variables-few a n in let k = variables-few b (numbering_after a n) in omega arith

  pub variables-few_parts : (parts : Grounds) (n : Numbering) → (numbering_after_parts parts n).variables ≤ n.variables + part_nodes parts
  variables-few_parts no_grounds n = omega arith
  variables-few_parts (more_grounds a rest) n = let h = variables-few a n in let k = variables-few_parts rest (numbering_after a n) in omega arith

list_few : (formulas : List SignedGround) (n : Numbering) → (numbering_after_list formulas n).variables ≤ n.variables + nodes_of_list formulas
list_few [] n = omega arith
list_few (s ∷ rest) n =
    let h = variables-few s.0 n in
    let k = list_few rest (numbering_after s.0 n) in
    let e = sum_by-cons (λ (t : SignedGround). ground_nodes t.0) s rest in
    omega arith

pub variables_are_few : VariablesAreFew
variables_are_few formulas = list_few formulas first_numbering

abbrev FactsFit : Numbering → Type 0
FactsFit n = 1 + length n.facts ≤ n.variables

mutual
  facts_fit : (a : Ground) (n : Numbering) → FactsFit n → FactsFit (numbering_after a n)
  facts_fit ground_true n h = h
  facts_fit ground_false n h = h
  facts_fit (ground_atom f) n h =
      with_fact_cases n f FactsFit (λ _. h) (λ _. let e = length-append n.facts (record { fact = f; number = n.variables } ∷ []) in omega arith)
  facts_fit (ground_not a) n h = facts_fit a n h
  facts_fit (ground_all parts) n h = let k = facts_fit_parts parts n h in omega arith
  facts_fit (ground_some parts) n h = let k = facts_fit_parts parts n h in omega arith
  facts_fit (ground_implies a b) n h = let k = facts_fit b (numbering_after a n) (facts_fit a n h) in omega arith
  facts_fit (ground_iff a b) n h = let k = facts_fit b (numbering_after a n) (facts_fit a n h) in omega arith

  facts_fit_parts : (parts : Grounds) (n : Numbering) → FactsFit n → FactsFit (numbering_after_parts parts n)
  facts_fit_parts no_grounds n h = h
  facts_fit_parts (more_grounds a rest) n h = facts_fit_parts rest (numbering_after a n) (facts_fit a n h)

list_facts_fit : (formulas : List SignedGround) (n : Numbering) → FactsFit n → FactsFit (numbering_after_list formulas n)
list_facts_fit [] n h = h
list_facts_fit (s ∷ rest) n h = list_facts_fit rest (numbering_after s.0 n) (facts_fit s.0 n h)

pub numbered_facts_are_few : NumberedFactsAreFew
numbered_facts_are_few formulas = list_facts_fit formulas first_numbering (omega arith)

-- ---- numberings

pub numberings_are_proper : NumberingsAreProper
numberings_are_proper formulas = list_proper formulas first_numbering IsProper-first

-- a numbering with more facts
abbrev MoreFacts : Numbering → Numbering → Type 0
MoreFacts n m = (added : List NumberedFact) × (m.facts ≡ n.facts ++ added)

more_then : (n m k : Numbering) → MoreFacts n m → MoreFacts m k → MoreFacts n k
more_then n m k h i = (h.0 ++ i.0, i.1 ∙ ap (λ xs. xs ++ i.0) h.1 ∙ append_assoc n.facts h.0 i.0)

no_more : (n : Numbering) → MoreFacts n n
no_more n = ([], sym (append-nil n.facts))

mutual
  facts_stay : (a : Ground) (n : Numbering) → MoreFacts n (numbering_after a n)
  facts_stay ground_true n = no_more n
  facts_stay ground_false n = no_more n
  facts_stay (ground_atom f) n = with_fact_cases n f (MoreFacts n) (λ _. no_more n) (λ _. (record { fact = f; number = n.variables } ∷ [], refl))
  facts_stay (ground_not a) n = facts_stay a n
  facts_stay (ground_all parts) n = facts_stay_parts parts n
  facts_stay (ground_some parts) n = facts_stay_parts parts n
  facts_stay (ground_implies a b) n =
      more_then n (numbering_after a n) (numbering_after b (numbering_after a n)) (facts_stay a n) (facts_stay b (numbering_after a n))
  facts_stay (ground_iff a b) n =
      more_then n (numbering_after a n) (numbering_after b (numbering_after a n)) (facts_stay a n) (facts_stay b (numbering_after a n))

  facts_stay_parts : (parts : Grounds) (n : Numbering) → MoreFacts n (numbering_after_parts parts n)
  facts_stay_parts no_grounds n = no_more n
  facts_stay_parts (more_grounds a rest) n =
      more_then n (numbering_after a n) (numbering_after_parts rest (numbering_after a n)) (facts_stay a n) (facts_stay_parts rest (numbering_after a n))

list_facts_stay : (formulas : List SignedGround) (n : Numbering) → MoreFacts n (numbering_after_list formulas n)
list_facts_stay [] n = no_more n
list_facts_stay (s ∷ rest) n =
    more_then n (numbering_after s.0 n) (numbering_after_list rest (numbering_after s.0 n)) (facts_stay s.0 n) (list_facts_stay rest (numbering_after s.0 n))

pub numbered_facts_stay : NumberedFactsStay
numbered_facts_stay formulas more =
    subst (MoreFacts (numbering_of formulas)) (sym (numbering_goes_on formulas more)) (list_facts_stay more (numbering_of formulas))
