-- Taking `exists` off a sentence.
use Rattle.std.proofs.Common.{◌≡◌, ℕ, ◌<◌, ◌≤◌, Bool, true, List, [], ◌∷◌, ◌++◌, length, refl, sym, ap, subst, ◌∙◌, arith}
use Rattle.std.proofs.Common.{append_assoc, append-nil}
use Rattle.std.specs.Prelude.{Option, Some, None, nat_lt}
use Rattle.std.specs.List.{list_all}
use Rattle.std.proofs.lemmas.Bool.{and_parts, and_from}
use Rattle.cqe_base.specs.Schema.{DatabaseSchema}
use Rattle.cqe_base.specs.Formula.{Formula, verum, falsum, atom, equality, inequality, negation, conjunction, disjunction, implication, biconditional}
use Rattle.cqe_base.specs.Formula.{universal, existential, may_quantify, is_well_formed}
use Rattle.open_queries.specs.Instances.{OpenQuery, IsOpenQueryOf, exists_over, instances}
use Rattle.open_queries.specs.Opening.{Opens}
use Rattle.open_queries.specs.Memory.{existential_parts}

-- one quantifier more is taken off
pub one_more : (domains : List ℕ) (d : ℕ) (a : Formula) → exists_over (domains ++ d ∷ []) a ≡ exists_over domains (existential d a)
one_more [] d a = refl
one_more (e ∷ domains) d a = ap (existential e) (one_more domains d a)

-- the sentence of these parts
of_parts : Option (ℕ × Formula) → Formula
of_parts (Some parts) = existential parts.0 parts.1
of_parts None = verum

-- what parts a sentence has, it is made of
pub made_of_parts : (a : Formula) (d : ℕ) (b : Formula) → Some (d, b) ≡ existential_parts a → a ≡ existential d b
unfolding of_parts
made_of_parts verum d b is = absurd (cc)
made_of_parts falsum d b is = absurd (cc)
made_of_parts (atom r terms) d b is = absurd (cc)
made_of_parts (equality s t) d b is = absurd (cc)
made_of_parts (inequality s t) d b is = absurd (cc)
made_of_parts (negation a) d b is = absurd (cc)
made_of_parts (conjunction a c) d b is = absurd (cc)
made_of_parts (disjunction a c) d b is = absurd (cc)
made_of_parts (implication a c) d b is = absurd (cc)
made_of_parts (biconditional a c) d b is = absurd (cc)
made_of_parts (universal e a) d b is = absurd (cc)
made_of_parts (existential e a) d b is = ap of_parts (sym is)

-- where no `exists` follows, there are no more
pub none_follows : (domains others : List ℕ) (a b : Formula) → length domains < length others → None ≡ existential_parts a
    → exists_over domains a ≡ exists_over others b → ⊥
none_follows domains [] a b fewer none same = absurd (omega arith)
none_follows [] (e ∷ others) a b fewer none same =
    let some : existential_parts a ≡ Some (e, exists_over others b) = ap existential_parts same in
    absurd (cc)
none_follows (d ∷ domains) (e ∷ others) a b fewer none same = none_follows domains others a b (omega arith) none (cc)

module _ (schema : DatabaseSchema) where
  abbrev Known : ℕ → Bool
  Known d = nat_lt d (length schema.domains)

  -- the domains are of the schema, and the body is well formed within them
  opened_well : (scope domains : List ℕ) (a : Formula) → is_well_formed schema scope (exists_over domains a) ≡ true
      → (list_all Known domains ≡ true) × (is_well_formed schema (scope ++ domains) a ≡ true)
  opened_well scope [] a well = (refl, subst (λ all. is_well_formed schema all a ≡ true) (sym (append-nil scope)) well)
  opened_well scope (d ∷ domains) a well =
      let parts = and_parts (may_quantify schema scope d) (is_well_formed schema (scope ++ d ∷ []) (exists_over domains a)) well in
      let may = and_parts (nat_lt (length scope) 8) (Known d) parts.0 in
      let rest = opened_well (scope ++ d ∷ []) domains a parts.1 in (
        and_from (Known d) (list_all Known domains) may.1 rest.0,
        subst (λ all. is_well_formed schema all a ≡ true) (append_assoc scope (d ∷ []) domains) rest.1,
      )

  -- what a sentence of the schema opens to is an open query of it
  pub opened_of_schema : (count : ℕ) (sentence : Formula) (query : OpenQuery) → 1 ≤ count → count ≤ 4 → is_well_formed schema [] sentence ≡ true
      → Opens count sentence query → instances schema query ≤ 256 → IsOpenQueryOf schema query
  opened_of_schema count sentence query some few well opens fit =
      let of = opened_well [] query.domains query.body (subst (λ a. is_well_formed schema [] a ≡ true) opens.begins well) in
      let quantifiers : length query.domains ≡ count = opens.quantifiers in
      record {
        some_domain = omega arith;
        few_domains = omega arith;
        known_domains = of.0;
        few_instances = fit;
        body = of.1;
      }

-- what isn't so begun, opens to nothing
pub nothing_opens : (count : ℕ) (domains : List ℕ) (body sentence : Formula) → exists_over domains body ≡ sentence → length domains < count
    → None ≡ existential_parts body → (query : OpenQuery) → Opens count sentence query → ⊥
nothing_opens count domains body sentence begins fewer none query opens =
    none_follows domains query.domains body query.body (subst (λ n. length domains < n) (sym opens.quantifiers) fewer) none (begins ∙ opens.begins)
