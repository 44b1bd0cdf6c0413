-- One more declaration makes the schema grow.
use Rattle.std.proofs.Common.{◌≡◌, ◌<◌, ◌+◌, ℕ, zero, suc, Bool, true, false, cond, not, List, [], ◌∷◌, ◌++◌, map, length, refl, sym, ap, subst, ◌∙◌, arith}
use Rattle.std.proofs.Common.{length-append, append-nil}
use Rattle.std.specs.Prelude.{◌||◌, Option, Some, None, nat_lt, nat_le, bytes_eq, unwrap_or, if◌then◌else◌, slice_get, option_map, position}
use Rattle.std.specs.List.{list_any, list_all, prefix_len}
use Rattle.std.proofs.lemmas.Bool.{lt-ltb, and_parts, or_parts, not-false}
use Rattle.std.proofs.lemmas.Option.{none-some}
use Rattle.std.proofs.lemmas.List.{map-append}
use Rattle.cqe_base.specs.declared.schema.SchemaError.TheVariants.{DuplicateName, UnknownDomain, TooMany, EmptyDomain, BadName}
use Rattle.cqe_base.specs.Schema.{Text, NamedDomain, RelationSchema, DatabaseSchema, Declaration, contains_text, names_unknown_domain, declared_names}
use Rattle.cqe_base.specs.Schema.{has_duplicate, is_within_limits, is_schema_name, schema_refusal, domain_number, made_domain, made_relation, schema_of}
use Rattle.case_engine.proofs.Growth.{Grows}

-- ---- lists with more behind them

module _ {X : Type 0} where
  -- an item keeps its place
  slice_get-front : (xs ys : List X) (i : ℕ) (v : X) → slice_get xs i ≡ Some v → slice_get (xs ++ ys) i ≡ Some v
  slice_get-front [] ys i v e = absurd cc
  slice_get-front (x ∷ xs) ys zero v e = e
  slice_get-front (x ∷ xs) ys (suc i) v e = slice_get-front xs ys i v e

  -- the first item that passes is found at the same place
  prefix_len-front : (p : X → Bool) (xs ys : List X) → list_any p xs ≡ true → (prefix_len (λ x. not (p x)) (xs ++ ys) ≡ prefix_len (λ x. not (p x)) xs)
      × (prefix_len (λ x. not (p x)) xs < length xs)
  prefix_len-front p [] ys some = absurd cc
  prefix_len-front p (x ∷ xs) ys some = by (p x) some (prefix_len-front p xs ys)
    where
      by : (b : Bool) → (b || list_any p xs) ≡ true
          → (list_any p xs ≡ true → (prefix_len (λ x. not (p x)) (xs ++ ys) ≡ prefix_len (λ x. not (p x)) xs) × (prefix_len (λ x. not (p x)) xs < length xs))
          → (cond (not b) (1 + prefix_len (λ x. not (p x)) (xs ++ ys)) 0 ≡ cond (not b) (1 + prefix_len (λ x. not (p x)) xs) 0)
          × (cond (not b) (1 + prefix_len (λ x. not (p x)) xs) 0 < suc (length xs))
      by true some rest = (refl, omega arith)
      by false some rest = let h = rest some in (ap (λ n. 1 + n) h.0, omega arith)

  position-front : (p : X → Bool) (xs ys : List X) → list_any p xs ≡ true → position p (xs ++ ys) ≡ position p xs
  position-front p xs ys some =
      let found = prefix_len-front p xs ys some in
      let n = prefix_len (λ x. not (p x)) xs in
      let long : length (xs ++ ys) ≡ length xs + length ys = length-append xs ys in
      let low : n < length (xs ++ ys) = omega (arith, found.1, long) in
      ap (λ m. cond (nat_lt m (length (xs ++ ys))) (Some m) None) found.0
      ∙ ap (λ b. cond b (Some n) None) (lt-ltb n (length (xs ++ ys)) low)
      ∙ sym (ap (λ b. cond b (Some n) None) (lt-ltb n (length xs) found.1))

-- ---- columns keep their domains

module _ (domains more : List Declaration) where
  names_any : (ds : List Declaration) (text : Text) → contains_text (map (λ d. d.name) ds) text ≡ list_any (λ (d : Declaration). bytes_eq text d.name) ds
  names_any [] text = refl
  names_any (d ∷ ds) text = ap (λ b. bytes_eq text d.name || b) (names_any ds text)

  number_kept : (text : Text) → contains_text (map (λ d. d.name) domains) text ≡ true → domain_number (domains ++ more) text ≡ domain_number domains text
  number_kept text known =
      ap (λ o. unwrap_or o 0) (position-front (λ (d : Declaration). bytes_eq text d.name) domains more (sym (names_any domains text) ∙ known))

  numbers_kept : (parts : List Text) → list_all (contains_text (map (λ d. d.name) domains)) parts ≡ true
      → map (domain_number (domains ++ more)) parts ≡ map (domain_number domains) parts
  numbers_kept [] known = refl
  numbers_kept (part ∷ parts) known =
      let each = and_parts (contains_text (map (λ d. d.name) domains) part) (list_all (contains_text (map (λ d. d.name) domains)) parts) known in
      rw (number_kept part each.0, numbers_kept parts each.1)

  relations_kept : (relations : List Declaration) → list_any (names_unknown_domain domains) relations ≡ false
      → map (made_relation (domains ++ more)) relations ≡ map (made_relation domains) relations
  relations_kept [] known = refl
  relations_kept (r ∷ relations) known =
      let each = or_parts (names_unknown_domain domains r) (list_any (names_unknown_domain domains) relations) known in
      let columns = numbers_kept r.parts (not-false (list_all (contains_text (map (λ d. d.name) domains)) r.parts) each.0) in
      rw (columns, relations_kept relations each.1)

-- ---- the schema of more declarations

abbrev of_parts : List NamedDomain → List RelationSchema → DatabaseSchema
of_parts domains relations = record { domains = domains; relations = relations }

size_at : Option NamedDomain → ℕ
size_at o = unwrap_or (option_map (λ (d : NamedDomain). length d.constants) o) 0

module _ (ds es : List NamedDomain) (rs ss : List RelationSchema) where
  sizes_at : (o : Option NamedDomain) (d i : ℕ) → slice_get ds d ≡ o → nat_lt i (unwrap_or (option_map (λ (d : NamedDomain). length d.constants) o) 0) ≡ true
      → slice_get (ds ++ es) d ≡ o
  sizes_at None d i is low = absurd (none_low i low)
    where
      none_low : (i : ℕ) → nat_lt i 0 ≡ true → ⊥
      none_low i low = let less : i < 0 = grind (arith, low) in omega arith
  sizes_at (Some v) d i is low = slice_get-front ds es d v is

  within : (o : Option NamedDomain) (d : ℕ) → slice_get ds d ≡ o → d < length ds → slice_get (ds ++ es) d ≡ o
  within None d is low = absurd (missing ds d is low)
    where
      missing : (ds : List NamedDomain) (d : ℕ) → slice_get ds d ≡ None → d < length ds → ⊥
      missing [] d is low = omega arith
      missing (x ∷ xs) zero is low = none-some x (sym is)
      missing (x ∷ xs) (suc d) is low = missing xs d is (omega arith)
  within (Some v) d is low = slice_get-front ds es d v is

  columns_at : (o : Option RelationSchema) (r : ℕ) (columns : List ℕ) → slice_get rs r ≡ o → option_map (λ (x : RelationSchema). x.columns) o ≡ Some columns
      → slice_get (rs ++ ss) r ≡ o
  columns_at None r columns is found = absurd cc
  columns_at (Some v) r columns is found = slice_get-front rs ss r v is

  appended_grows : Grows (of_parts ds rs) (of_parts (ds ++ es) (rs ++ ss))
  appended_grows = record {
    sizes = λ d i low. ap (λ o. unwrap_or (option_map (λ (d : NamedDomain). length d.constants) o) 0) (sizes_at (slice_get ds d) d i refl low);
    domains = λ d low.
        let less : d < length ds = grind (arith, low) in
        let long : length (ds ++ es) ≡ length ds + length es = length-append ds es in (
          lt-ltb d (length (ds ++ es)) (omega (arith, less, long)),
          ap (λ o. unwrap_or (option_map (λ (d : NamedDomain). length d.constants) o) 0) (within (slice_get ds d) d refl less),
        );
    relations = λ r columns found. ap (option_map (λ (x : RelationSchema). x.columns)) (columns_at (slice_get rs r) r columns refl found) ∙ found;
  }

-- declarations that are accepted name only declared domains
known_domains : (domains relations : List Declaration) → schema_refusal domains relations ≡ None → list_any (names_unknown_domain domains) relations ≡ false
known_domains domains relations =
    by (has_duplicate (declared_names domains relations)) (list_any (names_unknown_domain domains) relations) (is_within_limits domains relations)
    (list_any (λ d. nat_le (length d.parts) 0) domains) (list_all is_schema_name (declared_names domains relations))
  where
    by : (a b c d e : Bool)
        → (if a then Some DuplicateName else if b then Some UnknownDomain else if not c then Some TooMany else if d then Some EmptyDomain else if not e
        then Some BadName else None) ≡ None → b ≡ false
    by true b c d e n = absurd cc
    by false true c d e n = absurd cc
    by false false c d e n = refl

pub domain_grows : (domains relations : List Declaration) (d : Declaration) → schema_refusal domains relations ≡ None
    → Grows (schema_of domains relations) (schema_of (domains ++ d ∷ []) relations)
domain_grows domains relations d accepted =
    let parts : schema_of (domains ++ d ∷ []) relations ≡ of_parts (map made_domain domains ++ made_domain d ∷ []) (map (made_relation domains) relations ++ [])
    = rw (
      map-append made_domain domains (d ∷ []),
      relations_kept domains (d ∷ []) relations (known_domains domains relations accepted),
      append-nil (map (made_relation domains) relations),
    ) refl in
    subst (λ s. Grows (schema_of domains relations) s) (sym parts)
    (appended_grows (map made_domain domains) (made_domain d ∷ []) (map (made_relation domains) relations) [])

pub relation_grows : (domains relations : List Declaration) (r : Declaration) → Grows (schema_of domains relations) (schema_of domains (relations ++ r ∷ []))
relation_grows domains relations r =
    let parts : schema_of domains (relations ++ r ∷ [])
    ≡ of_parts (map made_domain domains ++ []) (map (made_relation domains) relations ++ made_relation domains r ∷ [])
    = rw (map-append (made_relation domains) relations (r ∷ []), append-nil (map made_domain domains)) refl in
    subst (λ s. Grows (schema_of domains relations) s) (sym parts)
    (appended_grows (map made_domain domains) [] (map (made_relation domains) relations) (made_relation domains r ∷ []))
