-- The facts that have a number occur in the list, and those of a grounded sentence are of the schema.
use Rattle.std.proofs.Common.{◌≡◌, ℕ, zero, suc, ◌+◌, ◌-◌, ◌<◌, ◌≤◌, Bool, true, false, List, [], ◌∷◌, ◌++◌, map, length, length-append, replicate, refl, ap}
use Rattle.std.proofs.Common.{subst, inl, inr, arith}
use Rattle.std.specs.Prelude.{Contains, Option, Some, None, nat_lt, nat_le, slice_get, option_map, if◌then◌else◌}
use Rattle.std.specs.List.{list_all, range_with_len, AllByRecursion, slice_index_or}
use Rattle.std.proofs.lemmas.Bool.{and_parts, and_from, both_ways, ltb-true, lt-ltb, leb-true, le-leb, eqb-true}
use Rattle.cqe_base.specs.declared.world.Fact.{Fact}
use Rattle.cqe_base.specs.declared.sentence.Constant.{Constant}
use Rattle.cqe_base.specs.declared.sentence.Term.{Term}
use Rattle.cqe_base.specs.declared.sentence.Term.TheVariants.{Constant as constant, Place}
use Rattle.cqe_base.specs.Schema.{DatabaseSchema, RelationSchema, domain_size, columns_of, is_valid_schema}
use Rattle.cqe_base.specs.Facts.{padded, fits_columns, has_columns, is_fact_of}
use Rattle.cqe_base.specs.Formula.{Formula, verum, falsum, atom, equality, inequality, negation, conjunction, disjunction, implication, biconditional}
use Rattle.cqe_base.specs.Formula.{universal, existential, term_domain, is_domain, have_domains, fit_relation, may_quantify, is_well_formed}
use Rattle.cqe_base.specs.Truth.{value_of, same_constant}
use Rattle.cqe_base.specs.Ground.{Ground, Grounds, ground_true, ground_false, ground_atom, ground_not, ground_all, ground_some, ground_implies, ground_iff}
use Rattle.cqe_base.specs.Ground.{no_grounds, more_grounds, parts_of, grounded_at, grounded}
use Rattle.cqe_base.specs.SignedGround.{SignedGround}
use Rattle.cqe_base.specs.GroundParts.{facts_in, facts_in_parts, facts_in_list}
use Rattle.cqe_base.specs.ClauseForm.{NumberedFact, Numbering, numbering_after, numbering_after_parts, numbering_after_list, numbering_of, first_numbering}
use Rattle.cqe_base.specs.MachineLaws.{NumberedFactsOccur, GroundedFactsAreOfSchema}
use Rattle.cqe_base.proofs.Truths.{length-map}
use Rattle.cqe_base.proofs.Members.{Member}
use Rattle.cqe_base.proofs.Numberings.{with_fact_cases}

module _ {X : Type 0} (P : X → Type 0) where
  -- what holds of each element of a list and of a second holds of each of both
  pub each_append : (xs ys : List X) → AllByRecursion P xs → AllByRecursion P ys → AllByRecursion P (xs ++ ys)
  each_append [] ys h i = i
  each_append (x ∷ xs) ys h i = (h.0, each_append xs ys h.1 i)

  each_first : (xs ys : List X) → AllByRecursion P (xs ++ ys) → AllByRecursion P xs
  each_first [] ys h = tt
  each_first (x ∷ xs) ys h = (h.0, each_first xs ys h.1)

  each_second : (xs ys : List X) → AllByRecursion P (xs ++ ys) → AllByRecursion P ys
  each_second [] ys h = h
  each_second (x ∷ xs) ys h = each_second xs ys h.1

  each_contained : (xs : List X) → AllByRecursion P xs → (x : X) → Contains xs x → P x
  each_contained [] h x (k, low, is) = absurd (omega arith)
  each_contained (y ∷ ys) h x (zero, low, is) = subst P is h.0
  each_contained (y ∷ ys) h x (suc k, low, is) = each_contained ys h.1 x (k, omega arith, is)

  each_member : (xs : List X) → ((x : X) → Member x xs → P x) → AllByRecursion P xs
  each_member [] h = tt
  each_member (x ∷ xs) h = (h x (inl refl), each_member xs (λ y m. h y (inr m)))

member_contained : {X : Type 0} (xs : List X) (x : X) → Member x xs → Contains xs x
member_contained [] x m = absurd m
member_contained (y ∷ ys) x (inl e) = (0, omega arith, e)
member_contained (y ∷ ys) x (inr m) = let c = member_contained ys x m in let low = c.1 in (suc c.0, omega arith, c.2)

-- ---- the facts that have a number

module _ (P : Fact → Type 0) where
  -- what holds of each numbered fact
  abbrev pub EachNumbered : List NumberedFact → Type 0
  EachNumbered facts = AllByRecursion (λ e. P e.fact) facts

  mutual
    -- a walk gives numbers to the facts of its formula alone
    each_walked : (a : Ground) (n : Numbering) → EachNumbered n.facts → AllByRecursion P (facts_in a) → EachNumbered (numbering_after a n).facts
    each_walked ground_true n h i = h
    each_walked ground_false n h i = h
    each_walked (ground_atom f) n h i =
        with_fact_cases n f (λ m. EachNumbered m.facts) (λ _. h) (λ _.
        each_append (λ e. P e.fact) n.facts (record { fact = f; number = n.variables } ∷ []) h (i.0, tt))
    each_walked (ground_not a) n h i = each_walked a n h i
    each_walked (ground_all parts) n h i = each_walked_parts parts n h i
    each_walked (ground_some parts) n h i = each_walked_parts parts n h i
    each_walked (ground_implies a b) n h i =
        each_walked b (numbering_after a n) (each_walked a n h (each_first P (facts_in a) (facts_in b) i)) (each_second P (facts_in a) (facts_in b) i)
    each_walked (ground_iff a b) n h i =
        each_walked b (numbering_after a n) (each_walked a n h (each_first P (facts_in a) (facts_in b) i)) (each_second P (facts_in a) (facts_in b) i)

    each_walked_parts : (parts : Grounds) (n : Numbering) → EachNumbered n.facts → AllByRecursion P (facts_in_parts parts)
        → EachNumbered (numbering_after_parts parts n).facts
    each_walked_parts no_grounds n h i = h
    each_walked_parts (more_grounds a rest) n h i =
        each_walked_parts rest (numbering_after a n) (each_walked a n h (each_first P (facts_in a) (facts_in_parts rest) i))
        (each_second P (facts_in a) (facts_in_parts rest) i)

  -- what holds of each fact of a list holds of each that has a number
  pub each_listed : (formulas : List SignedGround) (n : Numbering) → EachNumbered n.facts → AllByRecursion P (facts_in_list formulas)
      → EachNumbered (numbering_after_list formulas n).facts
  each_listed [] n h i = h
  each_listed (s ∷ rest) n h i =
      each_listed rest (numbering_after s.0 n) (each_walked s.0 n h (each_first P (facts_in s.0) (facts_in_list rest) i))
      (each_second P (facts_in s.0) (facts_in_list rest) i)

pub numbered_facts_occur : NumberedFactsOccur
numbered_facts_occur formulas numbered within =
    let facts : List Fact = facts_in_list formulas in
    each_contained (λ (e : NumberedFact). Contains facts e.fact) (numbering_of formulas).facts
    (each_listed (Contains facts) formulas first_numbering tt (each_member (Contains facts) facts (λ x m. member_contained facts x m))) numbered within

-- ---- the facts of grounded sentences

pub each_passing : {X : Type 0} (p : X → Bool) (xs : List X) → list_all p xs ≡ true → AllByRecursion (λ x. p x ≡ true) xs
each_passing p [] h = tt
each_passing p (x ∷ xs) h = let parts = and_parts (p x) (list_all p xs) h in (parts.0, each_passing p xs parts.1)

pub passing_each : {X : Type 0} (p : X → Bool) (xs : List X) → AllByRecursion (λ x. p x ≡ true) xs → list_all p xs ≡ true
passing_each p [] h = refl
passing_each p (x ∷ xs) h = and_from _ _ h.0 (passing_each p xs h.1)

few_columns : (relations : List RelationSchema) (r : ℕ) (domains : List ℕ) → list_all (λ r. nat_le (length r.columns) 6) relations ≡ true
    → option_map (λ relation. relation.columns) (slice_get relations r) ≡ Some domains → length domains ≤ 6
few_columns [] r domains few e = absurd (let x : ⊥ = cc in x)
few_columns (relation ∷ relations) zero domains few e =
    let same : relation.columns ≡ domains = cc in
    subst (λ (x : List ℕ). length x ≤ 6) same (leb-true (length relation.columns) 6 (and_parts _ _ few).0)
few_columns (relation ∷ relations) (suc r) domains few e = few_columns relations r domains (and_parts _ _ few).1 e

module _ (schema : DatabaseSchema) (valid : is_valid_schema schema ≡ true) where
  -- a relation has at most six columns
  columns_few : (r : ℕ) (domains : List ℕ) → columns_of schema r ≡ Some domains → length domains ≤ 6
  columns_few r domains e =
      let a = and_parts _ _ valid in
      let b = and_parts _ _ a.0 in
      let c = and_parts _ _ b.0 in
      let d = and_parts _ _ c.1 in
      few_columns schema.relations r domains d.1 e

  -- the constants of the enclosing quantifiers are of their domains
  abbrev PlacesFit : List ℕ → List Constant → Type 0
  PlacesFit [] [] = Unit {0}
  PlacesFit [] (c ∷ places) = ⊥
  PlacesFit (d ∷ scope) [] = ⊥
  PlacesFit (d ∷ scope) (c ∷ places) = (c.index < domain_size schema d) × PlacesFit scope places

  fit_push : (scope : List ℕ) (places : List Constant) (d : ℕ) (c : Constant) → PlacesFit scope places → c.index < domain_size schema d
      → PlacesFit (scope ++ d ∷ []) (places ++ c ∷ [])
  fit_push [] [] d c h i = (i, tt)
  fit_push [] (x ∷ places) d c h i = absurd h
  fit_push (e ∷ scope) [] d c h i = absurd h
  fit_push (e ∷ scope) (x ∷ places) d c h i = (h.0, fit_push scope places d c h.1 i)

  fit_at : (scope : List ℕ) (places : List Constant) (i d : ℕ) → PlacesFit scope places → slice_get scope i ≡ Some d
      → (slice_index_or places i (record { domain = 0; index = 0 })).index < domain_size schema d
  fit_at [] places i d h e = absurd (let x : ⊥ = cc in x)
  fit_at (f ∷ scope) [] i d h e = absurd h
  fit_at (f ∷ scope) (c ∷ places) zero d h e = let same : f ≡ d = cc in subst (λ x. c.index < domain_size schema x) same h.0
  fit_at (f ∷ scope) (c ∷ places) (suc i) d h e = fit_at scope places i d h.1 e

  -- a term that has a domain is one of its constants
  term_fits : (scope : List ℕ) (places : List Constant) (t : Term) (d : ℕ) → PlacesFit scope places → is_domain (term_domain schema scope t) d ≡ true
      → (value_of places t).index < domain_size schema d
  term_fits scope places (constant c) d h e = by (nat_lt c.index (domain_size schema c.domain)) refl e
    where
      by : (b : Bool) → nat_lt c.index (domain_size schema c.domain) ≡ b → is_domain (if b then Some c.domain else None) d ≡ true
          → c.index < domain_size schema d
      by true t e = subst (λ x. c.index < domain_size schema x) (eqb-true c.domain d e) (ltb-true _ _ t)
      by false t e = absurd (both_ways false refl e)
  term_fits scope places (Place i) d h e = by (slice_get scope i) refl e
    where
      by : (o : Option ℕ) → slice_get scope i ≡ o → is_domain o d ≡ true
          → (slice_index_or places i (record { domain = 0; index = 0 })).index < domain_size schema d
      by None s e = absurd (both_ways false refl e)
      by (Some f) s e =
          subst (λ x. (slice_index_or places i (record { domain = 0; index = 0 })).index < domain_size schema x) (eqb-true f d e) (fit_at scope places i f h s)

  zeros_fit : (k : ℕ) → fits_columns schema [] (replicate k 0) ≡ true
  zeros_fit zero = refl
  zeros_fit (suc k) = and_from _ _ (le-leb 0 0 (omega arith)) (zeros_fit k)

  terms_fit : (scope : List ℕ) (places : List Constant) (terms : List Term) (domains : List ℕ) (k : ℕ) → PlacesFit scope places
      → have_domains schema scope terms domains ≡ true → fits_columns schema domains (map (λ t. (value_of places t).index) terms ++ replicate k 0) ≡ true
  terms_fit scope places [] [] k h e = zeros_fit k
  terms_fit scope places [] (d ∷ domains) k h e = absurd (both_ways false refl e)
  terms_fit scope places (t ∷ terms) [] k h e = absurd (both_ways false refl e)
  terms_fit scope places (t ∷ terms) (d ∷ domains) k h e =
      let parts = and_parts (is_domain (term_domain schema scope t) d) (have_domains schema scope terms domains) e in
      and_from _ _ (lt-ltb _ _ (term_fits scope places t d h parts.0)) (terms_fit scope places terms domains k h parts.1)

  terms_length : (scope : List ℕ) (terms : List Term) (domains : List ℕ) → have_domains schema scope terms domains ≡ true → length terms ≡ length domains
  terms_length scope [] [] e = refl
  terms_length scope [] (d ∷ domains) e = absurd (both_ways false refl e)
  terms_length scope (t ∷ terms) [] e = absurd (both_ways false refl e)
  terms_length scope (t ∷ terms) (d ∷ domains) e = ap suc (terms_length scope terms domains (and_parts _ _ e).1)

  replicated : (k : ℕ) → length (replicate {A = ℕ} k 0) ≡ k
  replicated zero = refl
  replicated (suc k) = ap suc (replicated k)

  atom_fits : (r : ℕ) (scope : List ℕ) (places : List Constant) (terms : List Term) → PlacesFit scope places → (o : Option (List ℕ)) → columns_of schema r ≡ o
      → fit_relation schema scope terms o ≡ true → has_columns schema (padded (map (λ t. (value_of places t).index) terms)) o ≡ true
  atom_fits r scope places terms h None e w = absurd (both_ways false refl w)
  atom_fits r scope places terms h (Some domains) e w =
      let columns = map (λ t. (value_of places t).index) terms in
      let few = columns_few r domains e in
      let size = terms_length scope terms domains w in
      let mapped = length-map (λ t. (value_of places t).index) terms in
      let joined = length-append columns (replicate (6 - length columns) 0) in
      let zeros = replicated (6 - length columns) in
      let six : length (padded columns) ≡ 6 = omega arith in
      and_from _ _ (and_from _ _ (le-leb (length (padded columns)) 6 (omega arith)) (le-leb 6 (length (padded columns)) (omega arith)))
      (terms_fit scope places terms domains (6 - length columns) h w)

  abbrev OfSchema : Fact → Type 0
  OfSchema fact = is_fact_of schema fact ≡ true

  decided_none : (b : Bool) → AllByRecursion OfSchema (facts_in (if b then ground_true else ground_false))
  decided_none true = tt
  decided_none false = tt

  decided_none' : (b : Bool) → AllByRecursion OfSchema (facts_in (if b then ground_false else ground_true))
  decided_none' true = tt
  decided_none' false = tt

  instances : (instance : Constant → Ground) (d from count size : ℕ) → from + count ≤ size
      → ((c : Constant) → c.index < size → AllByRecursion OfSchema (facts_in (instance c)))
      → AllByRecursion OfSchema (facts_in_parts (parts_of (map instance (map (λ i. record { domain = d; index = i }) (range_with_len from count)))))
  instances instance d from zero size le h = tt
  instances instance d from (suc count) size le h =
      each_append OfSchema (facts_in (instance (record { domain = d; index = from }))) _
      (h (record { domain = d; index = from }) (omega arith))
      (instances instance d (from + 1) count size (omega arith) h)

  two : (a b : Ground) → AllByRecursion OfSchema (facts_in a) → AllByRecursion OfSchema (facts_in b)
      → AllByRecursion OfSchema (facts_in_parts (parts_of (a ∷ b ∷ [])))
  two a b h i = each_append OfSchema (facts_in a) (facts_in b ++ []) h (each_append OfSchema (facts_in b) [] i tt)

  grounded_of_schema : (scope : List ℕ) (places : List Constant) (formula : Formula) → PlacesFit scope places → is_well_formed schema scope formula ≡ true
      → AllByRecursion OfSchema (facts_in (grounded_at schema places formula))
  grounded_of_schema scope places verum h w = tt
  grounded_of_schema scope places falsum h w = tt
  grounded_of_schema scope places (atom r terms) h w = (atom_fits r scope places terms h (columns_of schema r) refl w, tt)
  grounded_of_schema scope places (equality s t) h w = decided_none (same_constant (value_of places s) (value_of places t))
  grounded_of_schema scope places (inequality s t) h w = decided_none' (same_constant (value_of places s) (value_of places t))
  grounded_of_schema scope places (negation a) h w = grounded_of_schema scope places a h w
  grounded_of_schema scope places (conjunction a b) h w =
      let parts = and_parts (is_well_formed schema scope a) (is_well_formed schema scope b) w in
      two (grounded_at schema places a) (grounded_at schema places b) (grounded_of_schema scope places a h parts.0)
      (grounded_of_schema scope places b h parts.1)
  grounded_of_schema scope places (disjunction a b) h w =
      let parts = and_parts (is_well_formed schema scope a) (is_well_formed schema scope b) w in
      two (grounded_at schema places a) (grounded_at schema places b) (grounded_of_schema scope places a h parts.0)
      (grounded_of_schema scope places b h parts.1)
  grounded_of_schema scope places (implication a b) h w =
      let parts = and_parts (is_well_formed schema scope a) (is_well_formed schema scope b) w in
      each_append OfSchema (facts_in (grounded_at schema places a)) (facts_in (grounded_at schema places b)) (grounded_of_schema scope places a h parts.0)
      (grounded_of_schema scope places b h parts.1)
  grounded_of_schema scope places (biconditional a b) h w =
      let parts = and_parts (is_well_formed schema scope a) (is_well_formed schema scope b) w in
      each_append OfSchema (facts_in (grounded_at schema places a)) (facts_in (grounded_at schema places b)) (grounded_of_schema scope places a h parts.0)
      (grounded_of_schema scope places b h parts.1)
  grounded_of_schema scope places (universal d a) h w =
      let body = (and_parts (may_quantify schema scope d) (is_well_formed schema (scope ++ d ∷ []) a) w).1 in
      instances (λ c. grounded_at schema (places ++ c ∷ []) a) d 0 (domain_size schema d) (domain_size schema d) (omega arith)
      (λ c low. grounded_of_schema (scope ++ d ∷ []) (places ++ c ∷ []) a (fit_push scope places d c h low) body)
  grounded_of_schema scope places (existential d a) h w =
      let body = (and_parts (may_quantify schema scope d) (is_well_formed schema (scope ++ d ∷ []) a) w).1 in
      instances (λ c. grounded_at schema (places ++ c ∷ []) a) d 0 (domain_size schema d) (domain_size schema d) (omega arith)
      (λ c low. grounded_of_schema (scope ++ d ∷ []) (places ++ c ∷ []) a (fit_push scope places d c h low) body)

pub grounded_facts_are_of_schema : GroundedFactsAreOfSchema
grounded_facts_are_of_schema schema sentence valid well =
    passing_each (is_fact_of schema) (facts_in (grounded schema sentence)) (grounded_of_schema schema valid [] [] sentence tt well)
