-- The names of a valid schema: each is a schema name.
use Rattle.std.proofs.Common.{◌≡◌, ◌<◌, ℕ, zero, suc, true, List, [], ◌∷◌, ◌++◌, map, length, Option, Some, None, inl, inr, refl, sym, ap, ◌∙◌}
use Rattle.std.specs.Prelude.{slice_get, option_map, option_and_then, unwrap_or, IsSome}
use Rattle.std.specs.List.{flat_map}
use Rattle.cqe_base.specs.declared.sentence.Constant.{Constant}
use Rattle.cqe_base.specs.Schema.{DatabaseSchema, NamedDomain, Text, is_schema_name, is_valid_schema, schema_names}
use Rattle.cqe_base.specs.Canonical.{relation_name, constant_name}
use Rattle.cqe_base.proofs.Lists.{some_at}
use Rattle.cqe_base.proofs.Truths.{and_second, true_is_not_false}
use Rattle.cqe_base.proofs.Members.{Member, Member-first, Member-second, Member-map, Member-flat_map, list_all-Member}
use Rattle.sentence_text.proofs.ProperNames.{IsConstantOf}

-- what stands at a place is a member
at-Member : {X : Type 0} (xs : List X) (i : ℕ) (x : X) → slice_get xs i ≡ Some x → Member x xs
at-Member [] i x is = absurd cc
at-Member (y ∷ ys) zero x is = let same : y ≡ x = cc in inl same
at-Member (y ∷ ys) (suc i) x is = inr (at-Member ys i x is)

module _ (schema : DatabaseSchema) (valid : is_valid_schema schema ≡ true) where
  proper : (name : Text) → Member name (schema_names schema) → is_schema_name name ≡ true
  proper name there = list_all-Member is_schema_name (schema_names schema) (and_second _ _ valid) name there

  -- that of a relation
  pub relation-proper : (r : ℕ) → r < length schema.relations → is_schema_name (relation_name schema r) ≡ true
  relation-proper r low =
      let found = some_at schema.relations r low in
      let here : relation_name schema r ≡ found.0.name = ap (λ o. unwrap_or (option_map (λ relation. relation.name) o) []) found.1 in
      ap is_schema_name here
      ∙ proper found.0.name
      (Member-second found.0.name (map (λ d. d.name) schema.domains ++ flat_map (λ d. d.constants) schema.domains) (map (λ r. r.name) schema.relations)
      (Member-map (λ r. r.name) found.0 schema.relations (at-Member schema.relations r found.0 found.1)))

  -- that of a constant
  pub constant-proper : (c : Constant) → IsConstantOf schema c → is_schema_name (constant_name schema c) ≡ true
  constant-proper c is = by (slice_get schema.domains c.domain) refl is
    where
      named : (d : NamedDomain) → slice_get schema.domains c.domain ≡ Some d → (o : Option Text) → slice_get d.constants c.index ≡ o → IsSome o
          → is_schema_name (unwrap_or o []) ≡ true
      named d at None none some = absurd (true_is_not_false (sym some))
      named d at (Some name) there some =
          proper name
          (Member-first name (map (λ d. d.name) schema.domains ++ flat_map (λ d. d.constants) schema.domains) (map (λ r. r.name) schema.relations)
          (Member-second name (map (λ d. d.name) schema.domains) (flat_map (λ d. d.constants) schema.domains)
          (Member-flat_map (λ d. d.constants) d name schema.domains (at-Member schema.domains c.domain d at)
          (at-Member d.constants c.index name there))))

      by : (o : Option NamedDomain) → slice_get schema.domains c.domain ≡ o → IsSome (option_and_then (λ d. slice_get d.constants c.index) o)
          → is_schema_name (unwrap_or (option_and_then (λ d. slice_get d.constants c.index) o) []) ≡ true
      by None none some = absurd (true_is_not_false (sym some))
      by (Some d) at some = named d at (slice_get d.constants c.index) refl some
