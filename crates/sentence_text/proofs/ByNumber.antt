-- Looking declarations up by their numbers.
use Rattle.std.proofs.Common.{◌≡◌, ℕ, zero, suc, ◌≤◌, true, List, [], ◌∷◌, map, length, None, refl, arith}
use Rattle.std.specs.Prelude.{slice_get, option_map, unwrap_or, nat_le}
use Rattle.std.specs.List.{list_all}
use Rattle.std.proofs.lemmas.Bool.{leb-true}
use Rattle.cqe_base.specs.Schema.{DatabaseSchema, RelationSchema, is_valid_schema}
use Rattle.cqe_base.specs.declared.schema.Relation.{Relation}
use Rattle.cqe_base.specs.Memory.{relation_schema_of}
use Rattle.cqe_base.specs.Reading.{column_domains}
use Rattle.cqe_base.proofs.Truths.{and_first, and_second}

-- what stands at a place of a mapped list
pub slice_get-map : {X Y : Type 0} (f : X → Y) (xs : List X) (i : ℕ) → slice_get (map f xs) i ≡ option_map f (slice_get xs i)
slice_get-map f [] i = refl
slice_get-map f (x ∷ xs) zero = refl
slice_get-map f (x ∷ xs) (suc i) = slice_get-map f xs i

few_columns : (relations : List RelationSchema) (r : ℕ) → list_all (λ r. nat_le (length r.columns) 6) relations ≡ true
    → length (unwrap_or (option_map (λ relation. relation.columns) (slice_get relations r)) []) ≤ 6
few_columns [] r few = omega arith
few_columns (relation ∷ relations) zero few = leb-true (length relation.columns) 6 (and_first _ _ few)
few_columns (relation ∷ relations) (suc r) few = few_columns relations r (and_second _ _ few)

-- a relation of a valid schema has at most six columns
pub valid_columns : (schema : DatabaseSchema) (r : ℕ) → is_valid_schema schema ≡ true → length (column_domains schema r) ≤ 6
valid_columns schema r valid = few_columns schema.relations r (and_second _ _ (and_second _ _ (and_first _ _ (and_first _ _ valid))))

none_at : {X : Type 0} (xs : List X) (i : ℕ) → length xs ≤ i → slice_get xs i ≡ None
none_at [] i le = refl
none_at (x ∷ xs) zero le = absurd (omega arith)
none_at (x ∷ xs) (suc i) le = none_at xs i (omega arith)

-- a relation that isn't there has no columns
pub no_columns : (relations : List Relation) (schema : DatabaseSchema) (r : ℕ) → map relation_schema_of relations ≡ schema.relations → length relations ≤ r
    → [] ≡ column_domains schema r
no_columns relations schema r is le =
    rw (← is, slice_get-map relation_schema_of relations r, none_at relations r le) refl
