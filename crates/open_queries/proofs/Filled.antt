-- A body with constants in its first places: what it says, that it is a sentence, and how deep it is.
use Rattle.std.proofs.Common.{◌≡◌, ℕ, zero, suc, ◌+◌, ◌-◌, ◌<◌, Bool, true, ◌&&◌, ◌||◌, not, List, [], ◌∷◌, ◌++◌, map, length, refl, sym, ap, subst, ◌∙◌}
use Rattle.std.proofs.Common.{arith, max, append_assoc, append-nil, length-append}
use Rattle.std.specs.Prelude.{Option, Some, None, nat_lt, slice_get, if◌then◌else◌}
use Rattle.std.specs.List.{list_all, list_any}
use Rattle.std.specs.FinSet as set
use Rattle.std.proofs.lemmas.Bool.{and_parts, and_from, ltb-true, lt-ltb}
use Rattle.cqe_base.specs.declared.world.Fact.{Fact}
use Rattle.cqe_base.specs.declared.sentence.Constant.{Constant}
use Rattle.cqe_base.specs.declared.sentence.Term.{Term}
use Rattle.cqe_base.specs.declared.sentence.Term.TheVariants.{Constant as constant, Place}
use Rattle.cqe_base.specs.Schema.{DatabaseSchema, domain_size, columns_of}
use Rattle.cqe_base.specs.Facts.{fact_of}
use Rattle.cqe_base.specs.Formula.{Formula, verum, falsum, atom, equality, inequality, negation, conjunction, disjunction, implication, biconditional}
use Rattle.cqe_base.specs.Formula.{universal, existential, term_domain, is_domain, have_one_domain, have_domains, fit_relation, may_quantify, is_well_formed}
use Rattle.cqe_base.specs.Truth.{value_of, same_constant, same_truth, true_at, true_in, constants_of}
use Rattle.cqe_base.specs.Canonical.{enclosing_constructs}
use Rattle.open_queries.specs.Instances.{SaysOf, filled, filled_term, or_place}

less_both : (a b : ℕ) → suc a - suc b ≡ a - b
less_both a b = omega arith

less_none : (a : ℕ) → a - 0 ≡ a
less_none a = omega arith

-- ---- what it says

value_filled : (constants places : List Constant) (t : Term) → value_of places (filled_term constants t) ≡ value_of (constants ++ places) t
value_filled constants places (constant c) = refl
value_filled [] places (Place i) = ap (λ n. value_of places (Place n)) (less_none i)
value_filled (c ∷ constants) places (Place zero) = refl
value_filled (c ∷ constants) places (Place (suc i)) =
    ap (λ n. value_of places (or_place (slice_get constants i) n)) (less_both i (length constants)) ∙ value_filled constants places (Place i)

columns_filled : (constants places : List Constant) (terms : List Term)
    → map (λ t. (value_of places t).index) (map (filled_term constants) terms) ≡ map (λ t. (value_of (constants ++ places) t).index) terms
columns_filled constants places [] = refl
columns_filled constants places (t ∷ terms) = λ i. (value_filled constants places t i).index ∷ columns_filled constants places terms i

module _ (schema : DatabaseSchema) (facts : Fact → Bool) where
  -- what is so in the body of a quantifier is so with one more place behind
  true_behind : (constants places : List Constant) (a : Formula) (c : Constant)
      → true_at schema facts (places ++ c ∷ []) (filled constants a) ≡ true_at schema facts (constants ++ (places ++ c ∷ [])) a
      → true_at schema facts (places ++ c ∷ []) (filled constants a) ≡ true_at schema facts ((constants ++ places) ++ c ∷ []) a
  true_behind constants places a c same = same ∙ ap (λ all. true_at schema facts all a) (sym (append_assoc constants places (c ∷ [])))

  -- it is true where the body is with these constants in its first places
  true_filled : (constants places : List Constant) (a : Formula)
      → true_at schema facts places (filled constants a) ≡ true_at schema facts (constants ++ places) a
  true_filled constants places verum = refl
  true_filled constants places falsum = refl
  true_filled constants places (atom r terms) = ap (λ columns. facts (fact_of r columns)) (columns_filled constants places terms)
  true_filled constants places (equality s t) = λ i. same_constant (value_filled constants places s i) (value_filled constants places t i)
  true_filled constants places (inequality s t) = λ i. not (same_constant (value_filled constants places s i) (value_filled constants places t i))
  true_filled constants places (negation a) = ap not (true_filled constants places a)
  true_filled constants places (conjunction a b) = λ i. true_filled constants places a i && true_filled constants places b i
  true_filled constants places (disjunction a b) = λ i. true_filled constants places a i || true_filled constants places b i
  true_filled constants places (implication a b) = λ i. not (true_filled constants places a i) || true_filled constants places b i
  true_filled constants places (biconditional a b) = λ i. same_truth (true_filled constants places a i) (true_filled constants places b i)
  true_filled constants places (universal d a) =
      λ i. list_all (λ c. true_behind constants places a c (true_filled constants (places ++ c ∷ []) a) i) (constants_of schema d)
  true_filled constants places (existential d a) =
      λ i. list_any (λ c. true_behind constants places a c (true_filled constants (places ++ c ∷ []) a) i) (constants_of schema d)

pub says_of : (schema : DatabaseSchema) (constants : List Constant) (body : Formula) → SaysOf schema constants body (filled constants body)
unfolding true_in
says_of schema constants body =
    λ world. true_filled schema (set.contains world) constants [] body ∙ ap (λ all. true_at schema (set.contains world) all body) (append-nil constants)

-- ---- it is a sentence

-- constants of these domains
abbrev pub AreOf : DatabaseSchema → List ℕ → List Constant → Type 0
AreOf schema [] [] = Unit {0}
AreOf schema [] (c ∷ constants) = ⊥
AreOf schema (d ∷ domains) [] = ⊥
AreOf schema (d ∷ domains) (c ∷ constants) = (c.domain ≡ d) × (c.index < domain_size schema d) × AreOf schema domains constants

module _ (schema : DatabaseSchema) where
  place_filled : (domains scope : List ℕ) (constants : List Constant) → AreOf schema domains constants → (i : ℕ)
      → term_domain schema scope (filled_term constants (Place i)) ≡ slice_get (domains ++ scope) i
  place_filled [] scope [] are i = ap (slice_get scope) (less_none i)
  place_filled [] scope (c ∷ constants) are i = absurd are
  place_filled (d ∷ domains) scope [] are i = absurd are
  place_filled (d ∷ domains) scope (c ∷ constants) are zero =
      let low : nat_lt c.index (domain_size schema c.domain) ≡ true = lt-ltb _ _ (subst (λ e. c.index < domain_size schema e) (sym are.0) are.1) in
      ap (λ (b : Bool). if b then Some c.domain else None) low ∙ ap (λ e. Some e) are.0
  place_filled (d ∷ domains) scope (c ∷ constants) are (suc i) =
      ap (λ n. term_domain schema scope (or_place (slice_get constants i) n)) (less_both i (length constants))
      ∙ place_filled domains scope constants are.2 i

  module _ (domains : List ℕ) (constants : List Constant) (are : AreOf schema domains constants) where
    term_filled : (scope : List ℕ) (t : Term) → term_domain schema scope (filled_term constants t) ≡ term_domain schema (domains ++ scope) t
    term_filled scope (constant c) = refl
    term_filled scope (Place i) = place_filled domains scope constants are i

    terms_filled : (scope : List ℕ) (terms : List Term) (columns : List ℕ)
        → have_domains schema scope (map (filled_term constants) terms) columns ≡ have_domains schema (domains ++ scope) terms columns
    terms_filled scope [] [] = refl
    terms_filled scope [] (d ∷ columns) = refl
    terms_filled scope (t ∷ terms) [] = refl
    terms_filled scope (t ∷ terms) (d ∷ columns) = λ i. is_domain (term_filled scope t i) d && terms_filled scope terms columns i

    relation_filled : (scope : List ℕ) (terms : List Term) (columns : Option (List ℕ))
        → fit_relation schema scope (map (filled_term constants) terms) columns ≡ fit_relation schema (domains ++ scope) terms columns
    relation_filled scope terms None = refl
    relation_filled scope terms (Some columns) = terms_filled scope terms columns

    quantify_fewer : (scope : List ℕ) (d : ℕ) → may_quantify schema (domains ++ scope) d ≡ true → may_quantify schema scope d ≡ true
    quantify_fewer scope d may =
        let parts = and_parts (nat_lt (length (domains ++ scope)) 8) (nat_lt d (length schema.domains)) may in
        let room : length (domains ++ scope) < 8 = ltb-true (length (domains ++ scope)) 8 parts.0 in
        let longer : length (domains ++ scope) ≡ length domains + length scope = length-append domains scope in
        and_from (nat_lt (length scope) 8) (nat_lt d (length schema.domains)) (lt-ltb (length scope) 8 (omega arith)) parts.1

    -- what two parts are, and what a quantifier is whose body is so
    both_filled : (scope : List ℕ) (a b : Formula)
        → (is_well_formed schema (domains ++ scope) a ≡ true → is_well_formed schema scope (filled constants a) ≡ true)
        → (is_well_formed schema (domains ++ scope) b ≡ true → is_well_formed schema scope (filled constants b) ≡ true)
        → (is_well_formed schema (domains ++ scope) a && is_well_formed schema (domains ++ scope) b) ≡ true
        → (is_well_formed schema scope (filled constants a) && is_well_formed schema scope (filled constants b)) ≡ true
    both_filled scope a b first second well =
        let parts = and_parts (is_well_formed schema (domains ++ scope) a) (is_well_formed schema (domains ++ scope) b) well in
        and_from (is_well_formed schema scope (filled constants a)) (is_well_formed schema scope (filled constants b)) (first parts.0) (second parts.1)

    quantified_filled : (scope : List ℕ) (d : ℕ) (a : Formula)
        → (is_well_formed schema (domains ++ (scope ++ d ∷ [])) a ≡ true → is_well_formed schema (scope ++ d ∷ []) (filled constants a) ≡ true)
        → (may_quantify schema (domains ++ scope) d && is_well_formed schema ((domains ++ scope) ++ d ∷ []) a) ≡ true
        → (may_quantify schema scope d && is_well_formed schema (scope ++ d ∷ []) (filled constants a)) ≡ true
    quantified_filled scope d a inner well =
        let parts = and_parts (may_quantify schema (domains ++ scope) d) (is_well_formed schema ((domains ++ scope) ++ d ∷ []) a) well in
        let body : is_well_formed schema (domains ++ (scope ++ d ∷ [])) a ≡ true =
        subst (λ all. is_well_formed schema all a ≡ true) (append_assoc domains scope (d ∷ [])) parts.1 in
        and_from (may_quantify schema scope d) (is_well_formed schema (scope ++ d ∷ []) (filled constants a)) (quantify_fewer scope d parts.0) (inner body)

    well_filled : (scope : List ℕ) (a : Formula) → is_well_formed schema (domains ++ scope) a ≡ true → is_well_formed schema scope (filled constants a) ≡ true
    well_filled scope verum well = refl
    well_filled scope falsum well = refl
    well_filled scope (atom r terms) well = relation_filled scope terms (columns_of schema r) ∙ well
    well_filled scope (equality s t) well = (λ i. have_one_domain (term_filled scope s i) (term_filled scope t i)) ∙ well
    well_filled scope (inequality s t) well = (λ i. have_one_domain (term_filled scope s i) (term_filled scope t i)) ∙ well
    well_filled scope (negation a) well = well_filled scope a well
    well_filled scope (conjunction a b) well = both_filled scope a b (well_filled scope a) (well_filled scope b) well
    well_filled scope (disjunction a b) well = both_filled scope a b (well_filled scope a) (well_filled scope b) well
    well_filled scope (implication a b) well = both_filled scope a b (well_filled scope a) (well_filled scope b) well
    well_filled scope (biconditional a b) well = both_filled scope a b (well_filled scope a) (well_filled scope b) well
    well_filled scope (universal d a) well = quantified_filled scope d a (well_filled (scope ++ d ∷ []) a) well
    well_filled scope (existential d a) well = quantified_filled scope d a (well_filled (scope ++ d ∷ []) a) well

    -- with a constant of each domain the body is a sentence
    pub filled_is_sentence : (a : Formula) → is_well_formed schema domains a ≡ true → is_well_formed schema [] (filled constants a) ≡ true
    filled_is_sentence a well = well_filled [] a (subst (λ all. is_well_formed schema all a ≡ true) (sym (append-nil domains)) well)

-- ---- how deep it is

-- constants change nothing
pub filled_constructs : (constants : List Constant) (a : Formula) → enclosing_constructs (filled constants a) ≡ enclosing_constructs a
filled_constructs constants verum = refl
filled_constructs constants falsum = refl
filled_constructs constants (atom r terms) = refl
filled_constructs constants (equality s t) = refl
filled_constructs constants (inequality s t) = refl
filled_constructs constants (negation a) = ap (λ n. n + 1) (filled_constructs constants a)
filled_constructs constants (conjunction a b) = λ i. max (filled_constructs constants a i) (filled_constructs constants b i) + 1
filled_constructs constants (disjunction a b) = λ i. max (filled_constructs constants a i) (filled_constructs constants b i) + 1
filled_constructs constants (implication a b) = λ i. max (filled_constructs constants a i) (filled_constructs constants b i + 1) + 1
filled_constructs constants (biconditional a b) = λ i. max (filled_constructs constants a i) (filled_constructs constants b i) + 1
filled_constructs constants (universal d a) = ap (λ n. n + 2) (filled_constructs constants a)
filled_constructs constants (existential d a) = ap (λ n. n + 2) (filled_constructs constants a)
