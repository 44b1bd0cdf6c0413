-- A sentence of a schema, with the scope from the inside.
use Rattle.std.proofs.Common.{◌≡◌, ℕ, zero, suc, ◌<◌, ◌⊎◌, inl, inr, Bool, true, false, cond, List, [], ◌∷◌, ◌++◌, length, length-append, Option, Some, None}
use Rattle.std.proofs.Common.{refl, sym, ap, subst, ◌∙◌, arith}
use Rattle.std.specs.Prelude.{◌&&◌, nat_lt, nat_eq, slice_get, option_map, option_and_then, unwrap_or, IsSome}
use Rattle.std.proofs.lemmas.Bool.Decides.{nat_tests}
use Rattle.cqe_base.specs.declared.sentence.Term.{Term}
use Rattle.cqe_base.specs.declared.sentence.Term.TheVariants as terms
use Rattle.cqe_base.specs.Schema.{DatabaseSchema, NamedDomain, RelationSchema, domain_size, columns_of}
use Rattle.cqe_base.specs.Formula.{Formula, verum, falsum, atom, equality, inequality, negation, conjunction, disjunction, implication, biconditional}
use Rattle.cqe_base.specs.Formula.{universal, existential, term_domain, is_domain, have_one_domain, have_domains, fit_relation, may_quantify, is_well_formed}
use Rattle.cqe_base.specs.Formula.{is_sentence_of}
use Rattle.cqe_base.specs.Reading.{column_domains}
use Rattle.cqe_base.proofs.Truths.{and_first, and_second}
use Rattle.sentence_text.proofs.ProperNames.{IsConstantOf}

-- Here `scope` has the domains of the enclosing quantifiers, the innermost first.

-- the variable of the enclosing quantifier with this number, counted from outside and from 0, is of the domain
abbrev pub IsVariableOf : List ℕ → ℕ → ℕ → Type 0
IsVariableOf [] i d = ⊥
IsVariableOf (e ∷ outer) i d = ((i ≡ length outer) × (e ≡ d)) ⊎ IsVariableOf outer i d

-- the term is of the domain
abbrev pub IsOfDomain : DatabaseSchema → List ℕ → Term → ℕ → Type 0
IsOfDomain schema scope (terms.Constant c) d = IsConstantOf schema c × (c.domain ≡ d)
IsOfDomain schema scope (terms.Place i) d = IsVariableOf scope i d

abbrev pub AreOfDomains : DatabaseSchema → List ℕ → List Term → List ℕ → Type 0
AreOfDomains schema scope [] [] = Unit {0}
AreOfDomains schema scope (a ∷ others) (d ∷ ds) = IsOfDomain schema scope a d × AreOfDomains schema scope others ds
AreOfDomains schema scope _ _ = ⊥

-- the formula is one of the schema, with at most eight nested quantifiers
abbrev pub IsOfSchema : DatabaseSchema → List ℕ → Formula → Type 0
IsOfSchema schema scope verum = Unit {0}
IsOfSchema schema scope falsum = Unit {0}
IsOfSchema schema scope (atom r columns) = (r < length schema.relations) × AreOfDomains schema scope columns (column_domains schema r)
IsOfSchema schema scope (equality a b) = (d : ℕ) × IsOfDomain schema scope a d × IsOfDomain schema scope b d
IsOfSchema schema scope (inequality a b) = (d : ℕ) × IsOfDomain schema scope a d × IsOfDomain schema scope b d
IsOfSchema schema scope (negation a) = IsOfSchema schema scope a
IsOfSchema schema scope (conjunction a b) = IsOfSchema schema scope a × IsOfSchema schema scope b
IsOfSchema schema scope (disjunction a b) = IsOfSchema schema scope a × IsOfSchema schema scope b
IsOfSchema schema scope (implication a b) = IsOfSchema schema scope a × IsOfSchema schema scope b
IsOfSchema schema scope (biconditional a b) = IsOfSchema schema scope a × IsOfSchema schema scope b
IsOfSchema schema scope (universal d a) = (d < length schema.domains) × (length scope < 8) × IsOfSchema schema (d ∷ scope) a
IsOfSchema schema scope (existential d a) = (d < length schema.domains) × (length scope < 8) × IsOfSchema schema (d ∷ scope) a

-- the same scope from the outside
flipped : List ℕ → List ℕ
flipped [] = []
flipped (d ∷ outer) = flipped outer ++ d ∷ []

flipped-length : (scope : List ℕ) → length (flipped scope) ≡ length scope
unfolding flipped
flipped-length [] = refl
flipped-length (d ∷ outer) = omega (arith, length-append (flipped outer) (d ∷ []), flipped-length outer)

-- the last place, or an earlier one
last-or_earlier : (xs : List ℕ) (e i d : ℕ) → slice_get (xs ++ e ∷ []) i ≡ Some d → ((i ≡ length xs) × (e ≡ d)) ⊎ (slice_get xs i ≡ Some d)
last-or_earlier [] e zero d h = inl (refl, cc)
last-or_earlier [] e (suc i) d h = absurd (cc)
last-or_earlier (x ∷ xs) e zero d h = inr h
last-or_earlier (x ∷ xs) e (suc i) d h = further (last-or_earlier xs e i d h)
  where
    further : ((i ≡ length xs) × (e ≡ d)) ⊎ (slice_get xs i ≡ Some d) → ((suc i ≡ suc (length xs)) × (e ≡ d)) ⊎ (slice_get xs i ≡ Some d)
    further (inl p) = inl (ap suc p.0, p.1)
    further (inr p) = inr p

variable-flipped : (scope : List ℕ) (i d : ℕ) → slice_get (flipped scope) i ≡ Some d → IsVariableOf scope i d
unfolding flipped
variable-flipped [] i d h = absurd (cc)
variable-flipped (e ∷ outer) i d h = at (variable-flipped outer i d) (last-or_earlier (flipped outer) e i d h)
  where
    at : (slice_get (flipped outer) i ≡ Some d → IsVariableOf outer i d) → ((i ≡ length (flipped outer)) × (e ≡ d)) ⊎ (slice_get (flipped outer) i ≡ Some d)
        → ((i ≡ length outer) × (e ≡ d)) ⊎ IsVariableOf outer i d
    at earlier (inl p) = inl (p.0 ∙ flipped-length outer, p.1)
    at earlier (inr p) = inr (earlier p)

lower : (m n : ℕ) → nat_lt m n ≡ true → m < n
lower m n h = grind (arith, nat_tests)

some-below : {X : Type 0} (xs : List X) (i : ℕ) → i < length xs → IsSome (slice_get xs i)
some-below [] i lt = absurd (omega arith)
some-below (x ∷ xs) zero lt = refl
some-below (x ∷ xs) (suc i) lt = some-below xs i (omega arith)

constant-there : (domains : List NamedDomain) (d i : ℕ) → i < unwrap_or (option_map (λ domain. length domain.constants) (slice_get domains d)) 0
    → IsSome (option_and_then (λ domain. slice_get domain.constants i) (slice_get domains d))
constant-there [] d i lt = absurd (omega arith)
constant-there (domain ∷ domains) zero i lt = some-below domain.constants i lt
constant-there (domain ∷ domains) (suc d) i lt = constant-there domains d i lt

same-domain : (e d : ℕ) → nat_eq e d ≡ true → e ≡ d
same-domain e d h = grind (arith, nat_tests)

relation-there : (relations : List RelationSchema) (r : ℕ) (ds : List ℕ) → option_map (λ relation. relation.columns) (slice_get relations r) ≡ Some ds
    → r < length relations
relation-there [] r ds h = absurd (cc)
relation-there (x ∷ relations) zero ds h = omega arith
relation-there (x ∷ relations) (suc r) ds h = omega (arith, relation-there relations r ds h)

module _ (schema : DatabaseSchema) where
  term-of_domain : (scope : List ℕ) (a : Term) (d : ℕ) → term_domain schema (flipped scope) a ≡ Some d → IsOfDomain schema scope a d
  term-of_domain scope (terms.Constant c) d h = at (nat_lt c.index (domain_size schema c.domain)) refl h
    where
      at : (b : Bool) → nat_lt c.index (domain_size schema c.domain) ≡ b → cond b (Some c.domain) None ≡ Some d → IsConstantOf schema c × (c.domain ≡ d)
      at true e k = (constant-there schema.domains c.domain c.index (lower c.index (domain_size schema c.domain) e), cc)
      at false e k = absurd (cc)
  term-of_domain scope (terms.Place i) d h = variable-flipped scope i d h

  domain-is : (o : Option ℕ) (d : ℕ) → is_domain o d ≡ true → o ≡ Some d
  domain-is None d h = absurd (cc)
  domain-is (Some e) d h = ap (λ d. Some d) (same-domain e d h)

  terms-of_domains : (scope : List ℕ) (columns : List Term) (ds : List ℕ) → have_domains schema (flipped scope) columns ds ≡ true
      → AreOfDomains schema scope columns ds
  terms-of_domains scope [] [] h = tt
  terms-of_domains scope [] (d ∷ ds) h = absurd (cc)
  terms-of_domains scope (a ∷ others) [] h = absurd (cc)
  terms-of_domains scope (a ∷ others) (d ∷ ds) h =
      (term-of_domain scope a d (domain-is (term_domain schema (flipped scope) a) d (and_first _ _ h)), terms-of_domains scope others ds (and_second _ _ h))

  atom-of_schema : (scope : List ℕ) (r : ℕ) (columns : List Term) → fit_relation schema (flipped scope) columns (columns_of schema r) ≡ true
      → (r < length schema.relations) × AreOfDomains schema scope columns (column_domains schema r)
  atom-of_schema scope r columns h = at (columns_of schema r) refl h
    where
      at : (o : Option (List ℕ)) → columns_of schema r ≡ o → fit_relation schema (flipped scope) columns o ≡ true → (r < length schema.relations)
          × AreOfDomains schema scope columns (column_domains schema r)
      at None e k = absurd (cc)
      at (Some ds) e k = (
        relation-there schema.relations r ds e,
        subst (λ (o : Option (List ℕ)). AreOfDomains schema scope columns (unwrap_or o [])) (sym e) (terms-of_domains scope columns ds k),
      )

  sides-of_schema : (scope : List ℕ) (a b : Term) → have_one_domain (term_domain schema (flipped scope) a) (term_domain schema (flipped scope) b) ≡ true
      → (d : ℕ) × IsOfDomain schema scope a d × IsOfDomain schema scope b d
  sides-of_schema scope a b h = at (term_domain schema (flipped scope) a) refl h
    where
      at : (o : Option ℕ) → term_domain schema (flipped scope) a ≡ o → have_one_domain o (term_domain schema (flipped scope) b) ≡ true → (d : ℕ)
          × IsOfDomain schema scope a d × IsOfDomain schema scope b d
      at None e k = absurd (cc)
      at (Some d) e k = (d, term-of_domain scope a d e, term-of_domain scope b d (domain-is (term_domain schema (flipped scope) b) d k))

  quantified : (d : ℕ) (a : Formula) (scope : List ℕ) → (may_quantify schema (flipped scope) d && is_well_formed schema (flipped (d ∷ scope)) a) ≡ true
      → (is_well_formed schema (flipped (d ∷ scope)) a ≡ true → IsOfSchema schema (d ∷ scope) a)
      → (d < length schema.domains) × (length scope < 8) × IsOfSchema schema (d ∷ scope) a
  quantified d a scope h body =
      let may = and_first _ _ h in
      let few : length (flipped scope) < 8 = lower (length (flipped scope)) 8 (and_first _ _ may) in
      (lower d (length schema.domains) (and_second _ _ may), omega (arith, few, flipped-length scope), body (and_second _ _ h))

  well_formed-of_schema : (a : Formula) (scope : List ℕ) → is_well_formed schema (flipped scope) a ≡ true → IsOfSchema schema scope a
  unfolding flipped
  well_formed-of_schema verum scope h = tt
  well_formed-of_schema falsum scope h = tt
  well_formed-of_schema (atom r columns) scope h = atom-of_schema scope r columns h
  well_formed-of_schema (equality a b) scope h = sides-of_schema scope a b h
  well_formed-of_schema (inequality a b) scope h = sides-of_schema scope a b h
  well_formed-of_schema (negation a) scope h = well_formed-of_schema a scope h
  well_formed-of_schema (conjunction a b) scope h = (well_formed-of_schema a scope (and_first _ _ h), well_formed-of_schema b scope (and_second _ _ h))
  well_formed-of_schema (disjunction a b) scope h = (well_formed-of_schema a scope (and_first _ _ h), well_formed-of_schema b scope (and_second _ _ h))
  well_formed-of_schema (implication a b) scope h = (well_formed-of_schema a scope (and_first _ _ h), well_formed-of_schema b scope (and_second _ _ h))
  well_formed-of_schema (biconditional a b) scope h = (well_formed-of_schema a scope (and_first _ _ h), well_formed-of_schema b scope (and_second _ _ h))
  well_formed-of_schema (universal d a) scope h = quantified d a scope h (well_formed-of_schema a (d ∷ scope))
  well_formed-of_schema (existential d a) scope h = quantified d a scope h (well_formed-of_schema a (d ∷ scope))

  -- a sentence of the schema, with the scope from the inside
  pub sentence-of_schema : (a : Formula) → is_sentence_of schema a ≡ true → IsOfSchema schema [] a
  unfolding flipped
  sentence-of_schema a h = well_formed-of_schema a [] h
