-- In a valid schema each name stands for what has it.
use Rattle.std.proofs.Common.{◌≡◌, ℕ, zero, suc, ◌+◌, ◌<◌, ◌⊎◌, inl, inr, Bool, true, false, List, [], ◌∷◌, ◌++◌, map, length, Option, Some, None, refl, sym}
use Rattle.std.proofs.Common.{ap, subst, ◌∙◌, arith, one-add, add-zero, zero-add}
use Rattle.std.specs.Prelude.{◌||◌, not, nat_eq, nat_lt, bytes_eq, codes, position, slice_get, option_map, option_and_then, unwrap_or, IsSome}
use Rattle.std.specs.List.{position_or_len, flat_map, list_all, list_any}
use Rattle.std.specs.Option.{option_or}
use Rattle.std.specs.Char.{is_ascii_alphabetic}
use Rattle.std.specs.Cmp.Lexicographic.{same_text}
use Rattle.std.proofs.lemmas.Bool.{not-true}
use Rattle.std.proofs.lemmas.Bool.Decides.{nat_tests}
use Rattle.std.proofs.lemmas.Fmt.{decimal_digit}
use Rattle.cqe_base.specs.declared.sentence.Constant.{Constant}
use Rattle.cqe_base.specs.declared.text.Symbol.TheVariants.{Name}
use Rattle.cqe_base.specs.Schema.{DatabaseSchema, NamedDomain, RelationSchema, Text, is_identifier, is_schema_name, is_valid_schema, schema_names}
use Rattle.cqe_base.specs.Schema.{contains_text, has_duplicate, keywords, printed_variables, domain_named, relation_named, constant_named, constant_in}
use Rattle.cqe_base.specs.Tokens.{IsOneOf, symbol_of}
use Rattle.cqe_base.specs.Canonical.{variable_name, domain_name, relation_name, constant_name}
use Rattle.cqe_base.proofs.Lists.{some_at, text_is}
use Rattle.cqe_base.proofs.Truths.{and_first, and_second, or_first, or_second}

-- the name may stand in a schema
pub record IsSchemaName (name : List ℕ) : Type 0 where
  pub letters : is_identifier name ≡ true
  pub no_keyword : symbol_of name ≡ Name
  -- it isn't one of `v1` to `v8`
  pub no_variable : (i : ℕ) → i < 8 → bytes_eq (variable_name i) name ≡ false

abbrev pub IsConstantOf : DatabaseSchema → Constant → Type 0
IsConstantOf schema c = IsSome (option_and_then (λ d. slice_get d.constants c.index) (slice_get schema.domains c.domain))

-- each name is one of a schema, and stands for what has it
pub record HasProperNames (schema : DatabaseSchema) : Type 0 where
  pub domains : (d : ℕ) → d < length schema.domains → IsSchemaName (domain_name schema d) × (domain_named schema (domain_name schema d) ≡ Some d)
  pub relations : (r : ℕ) → r < length schema.relations → IsSchemaName (relation_name schema r) × (relation_named schema (relation_name schema r) ≡ Some r)
  pub constants : (c : Constant) → IsConstantOf schema c → IsSchemaName (constant_name schema c) × (constant_named schema (constant_name schema c) ≡ Some c)

-- no name stands twice
abbrev pub AreDistinct : List (List ℕ) → Type 0
AreDistinct [] = Unit {0}
AreDistinct (name ∷ others) = (IsOneOf name others → ⊥) × AreDistinct others

other-name : (a b : Text) → (a ≡ b → ⊥) → bytes_eq a b ≡ false
other-name a b other = at (bytes_eq a b) refl
  where
    at : (t : Bool) → bytes_eq a b ≡ t → t ≡ false
    at true e = absurd (other (same_text a b (sym e)))
    at false e = refl

one_of-at : {X : Type 0} (f : X → Text) (xs : List X) (i : ℕ) (x : X) → slice_get xs i ≡ Some x → IsOneOf (f x) (map f xs)
one_of-at f [] i x e = absurd (cc)
one_of-at f (y ∷ ys) zero x e = let same : x ≡ y = cc in inl (ap f same)
one_of-at f (y ∷ ys) (suc i) x e = inr (one_of-at f ys i x e)

found-at : {X : Type 0} (p : X → Bool) (xs : List X) (i : ℕ) → position_or_len p xs ≡ i → i < length xs → position p xs ≡ Some i
found-at p xs i e lt = let t : nat_lt i (length xs) ≡ true = grind (arith, nat_tests) in rw (e, t) refl

found-nowhere : {X : Type 0} (p : X → Bool) (xs : List X) → position_or_len p xs ≡ length xs → position p xs ≡ None
found-nowhere p xs e = let t : nat_lt (length xs) (length xs) ≡ false = grind (arith, nat_tests) in rw (e, t) refl

first-at : {X : Type 0} (f : X → Text) (xs : List X) (i : ℕ) (x : X) → AreDistinct (map f xs) → slice_get xs i ≡ Some x
    → (position_or_len (λ y. bytes_eq (f y) (f x)) xs ≡ i) × (i < length xs)
first-at f [] i x distinct e = absurd (cc)
first-at f (y ∷ ys) zero x distinct e =
    let same : x ≡ y = cc in
    let t : bytes_eq (f y) (f x) ≡ true = subst (λ z. bytes_eq (f y) (f z) ≡ true) (sym same) (text_is (f y)) in
    (rw t refl, omega arith)
first-at f (y ∷ ys) (suc i) x distinct e =
    let there = one_of-at f ys i x e in
    let t : bytes_eq (f y) (f x) ≡ false = other-name (f y) (f x) (λ same. distinct.0 (subst (λ w. IsOneOf w (map f ys)) (sym same) there)) in
    let others = first-at f ys i x distinct.1 e in
    (rw (t, others.0) (one-add i), omega (arith, others.1))

absent : (xs : List (Text)) (w : Text) → (IsOneOf w xs → ⊥) → position_or_len (λ n. bytes_eq n w) xs ≡ length xs
absent [] w none = refl
absent (x ∷ xs) w none =
    let t : bytes_eq x w ≡ false = other-name x w (λ same. none (inl (sym same))) in
    rw (t, absent xs w (λ there. none (inr there))) (one-add (length xs))

one_of-left : (w : Text) (xs ys : List (Text)) → IsOneOf w xs → IsOneOf w (xs ++ ys)
one_of-left w [] ys h = absurd h
one_of-left w (x ∷ xs) ys (inl e) = inl e
one_of-left w (x ∷ xs) ys (inr h) = inr (one_of-left w xs ys h)

one_of-right : (w : Text) (xs ys : List (Text)) → IsOneOf w ys → IsOneOf w (xs ++ ys)
one_of-right w [] ys h = h
one_of-right w (x ∷ xs) ys h = inr (one_of-right w xs ys h)

distinct-left : (xs ys : List (Text)) → AreDistinct (xs ++ ys) → AreDistinct xs
distinct-left [] ys h = tt
distinct-left (x ∷ xs) ys h = (λ there. h.0 (one_of-left x xs ys there), distinct-left xs ys h.1)

distinct-right : (xs ys : List (Text)) → AreDistinct (xs ++ ys) → AreDistinct ys
distinct-right [] ys h = h
distinct-right (x ∷ xs) ys h = distinct-right xs ys h.1

distinct-apart : (w : Text) (xs ys : List (Text)) → AreDistinct (xs ++ ys) → IsOneOf w ys → IsOneOf w xs → ⊥
distinct-apart w [] ys h right left = left
distinct-apart w (x ∷ xs) ys h right (inl e) = h.0 (subst (λ w. IsOneOf w (xs ++ ys)) e (one_of-right w xs ys right))
distinct-apart w (x ∷ xs) ys h right (inr left) = distinct-apart w xs ys h.1 right left

one_of-at-itself : (xs : List (Text)) (i : ℕ) (x : Text) → slice_get xs i ≡ Some x → IsOneOf x xs
one_of-at-itself [] i x e = absurd (cc)
one_of-at-itself (y ∷ ys) zero x e = inl (cc)
one_of-at-itself (y ∷ ys) (suc i) x e = inr (one_of-at-itself ys i x e)

one_of-constants : (ds : List NamedDomain) (k i : ℕ) (d : NamedDomain) (c : Text) → slice_get ds k ≡ Some d → slice_get d.constants i ≡ Some c
    → IsOneOf c (flat_map (λ d. d.constants) ds)
one_of-constants [] k i d c e f = absurd (cc)
one_of-constants (y ∷ ds) zero i d c e f = let same : d ≡ y = cc in
    one_of-left c y.constants (flat_map (λ d. d.constants) ds) (subst (λ (z : NamedDomain). IsOneOf c z.constants) same (one_of-at-itself d.constants i c f))
one_of-constants (y ∷ ds) (suc k) i d c e f = one_of-right c y.constants (flat_map (λ d. d.constants) ds) (one_of-constants ds k i d c e f)

map-itself : (xs : List (Text)) → map (λ x. x) xs ≡ xs
map-itself [] = refl
map-itself (x ∷ xs) = ap (λ (ys : List (Text)). x ∷ ys) (map-itself xs)

constant-found : (ds : List NamedDomain) (number k i : ℕ) (d : NamedDomain) (c : Text) → AreDistinct (flat_map (λ d. d.constants) ds) → slice_get ds k ≡ Some d
    → slice_get d.constants i ≡ Some c
    → constant_in number ds c ≡ Some (record { domain = number + k; index = i })
constant-found [] number k i d c distinct e f = absurd (cc)
constant-found (y ∷ ds) number zero i d c distinct e f =
    let same : d ≡ y = cc in
    let f' : slice_get y.constants i ≡ Some c = subst (λ (z : NamedDomain). slice_get z.constants i ≡ Some c) same f in
    let distinct' : AreDistinct (map (λ x. x) y.constants) =
    subst AreDistinct (sym (map-itself y.constants)) (distinct-left y.constants (flat_map (λ d. d.constants) ds) distinct) in
    let first = first-at (λ x. x) y.constants i c distinct' f' in
    let here = found-at (λ n. bytes_eq n c) y.constants i first.0 first.1 in
    ap (λ (o : Option ℕ). option_or (option_map (λ (i : ℕ). record {
      domain =
          number;
      index = i;
    }) o) (constant_in (number + 1) ds c)) here ∙ ap (λ (n : ℕ). Some (record { domain = n; index = i })) (sym (add-zero number))
constant-found (y ∷ ds) number (suc k) i d c distinct e f =
    let there = one_of-constants ds k i d c e f in
    let none =
    found-nowhere (λ n. bytes_eq n c) y.constants (absent y.constants c (distinct-apart c y.constants (flat_map (λ d. d.constants) ds) distinct there)) in
    let n : number + 1 + k ≡ number + suc k = omega arith in
    ap (λ (o : Option ℕ). option_or (option_map (λ (i : ℕ). record { domain = number; index = i }) o) (constant_in (number + 1) ds c)) none
    ∙ (constant-found ds (number + 1) k i d c (distinct-right y.constants (flat_map (λ d. d.constants) ds) distinct) e f
    ∙ ap (λ (n : ℕ). Some (record { domain = n; index = i })) n)

constant-at : (schema : DatabaseSchema) (c : Constant) → IsConstantOf schema c → (d : NamedDomain) × (name : Text)
    × (slice_get schema.domains c.domain ≡ Some d) × (slice_get d.constants c.index ≡ Some name)
constant-at schema c h = at (slice_get schema.domains c.domain) refl h
  where
    inner : (d : NamedDomain) (o : Option (Text)) → slice_get schema.domains c.domain ≡ Some d → slice_get d.constants c.index ≡ o → IsSome o
        → (d : NamedDomain) × (name : Text) × (slice_get schema.domains c.domain ≡ Some d) × (slice_get d.constants c.index ≡ Some name)
    inner d (Some name) e f k = (d, name, e, f)
    inner d None e f k = absurd (cc)

    at : (o : Option NamedDomain) → slice_get schema.domains c.domain ≡ o → IsSome (option_and_then (λ d. slice_get d.constants c.index) o) → (d : NamedDomain)
        × (name : Text) × (slice_get schema.domains c.domain ≡ Some d) × (slice_get d.constants c.index ≡ Some name)
    at (Some d) e k = inner d (slice_get d.constants c.index) e refl k
    at None e k = absurd (cc)

-- the names of the schema are different, and each may stand in one
record HasDistinctNames (schema : DatabaseSchema) : Type 0 where
  domains : AreDistinct (map (λ d. d.name) schema.domains)
  relations : AreDistinct (map (λ r. r.name) schema.relations)
  constants : AreDistinct (flat_map (λ d. d.constants) schema.domains)
  each : (name : Text) → IsOneOf name (map (λ d. d.name) schema.domains) ⊎ IsOneOf name (map (λ r. r.name) schema.relations)
      ⊎ IsOneOf name (flat_map (λ d. d.constants) schema.domains) → IsSchemaName name

-- different names are found
names-are_found : (schema : DatabaseSchema) → HasDistinctNames schema → HasProperNames schema
names-are_found schema names = record {
  domains = λ d lt.
      let s = some_at schema.domains d lt in
      let is : domain_name schema d ≡ s.0.name = ap (λ (o : Option NamedDomain). unwrap_or (option_map (λ d. d.name) o) []) s.1 in
      let first = first-at (λ d. d.name) schema.domains d s.0 names.domains s.1 in (
        subst IsSchemaName (sym is) (names.each s.0.name (inl (one_of-at (λ d. d.name) schema.domains d s.0 s.1))),
        subst (λ w. domain_named schema w ≡ Some d) (sym is) (found-at (λ d. bytes_eq d.name s.0.name) schema.domains d first.0 first.1),
      );
  relations = λ r lt.
      let s = some_at schema.relations r lt in
      let is : relation_name schema r ≡ s.0.name = ap (λ (o : Option RelationSchema). unwrap_or (option_map (λ r. r.name) o) []) s.1 in
      let first = first-at (λ r. r.name) schema.relations r s.0 names.relations s.1 in (
        subst IsSchemaName (sym is) (names.each s.0.name (inr (inl (one_of-at (λ r. r.name) schema.relations r s.0 s.1)))),
        subst (λ w. relation_named schema w ≡ Some r) (sym is) (found-at (λ r. bytes_eq r.name s.0.name) schema.relations r first.0 first.1),
      );
  constants = λ c h.
      let s = constant-at schema c h in
      let is : constant_name schema c ≡ s.1 =
      ap (λ (o : Option NamedDomain). unwrap_or (option_and_then (λ d. slice_get d.constants c.index) o) []) s.2
      ∙ ap (λ (o : Option Text). unwrap_or o []) s.3 in (
        subst IsSchemaName (sym is) (names.each s.1 (inr (inr (one_of-constants schema.domains c.domain c.index s.0 s.1 s.2 s.3)))),
        subst (λ w. constant_named schema w ≡ Some c) (sym is) (constant-found schema.domains 0 c.domain c.index s.0 s.1 names.constants s.2 s.3
            ∙ ap (λ (n : ℕ). Some (record { domain = n; index = c.index })) (zero-add c.domain)),
      );
}

-- ---- what a valid schema says of its names

one_of-any : (name : Text) (names : List Text) → IsOneOf name names → list_any (bytes_eq name) names ≡ true
one_of-any name [] h = absurd h
one_of-any name (x ∷ names) (inl e) = subst (λ x. (bytes_eq name x || list_any (bytes_eq name) names) ≡ true) e (rw (text_is name) refl)
one_of-any name (x ∷ names) (inr h) = at (bytes_eq name x) (one_of-any name names h)
  where
    at : (b : Bool) → list_any (bytes_eq name) names ≡ true → (b || list_any (bytes_eq name) names) ≡ true
    at true h = refl
    at false h = h

not-among : (name : Text) (names : List Text) → contains_text names name ≡ false → IsOneOf name names → ⊥
not-among name names none there = let some = one_of-any name names there in cc

distinct : (names : List Text) → has_duplicate names ≡ false → AreDistinct names
distinct [] h = tt
distinct (x ∷ names) h = (not-among x names (or_first _ _ h), distinct names (or_second _ _ h))

each-passes : (p : Text → Bool) (names : List Text) (name : Text) → list_all p names ≡ true → IsOneOf name names → p name ≡ true
each-passes p [] name all h = absurd h
each-passes p (x ∷ names) name all (inl e) = subst (λ n. p n ≡ true) (sym e) (and_first _ _ all)
each-passes p (x ∷ names) name all (inr h) = each-passes p names name (and_second _ _ all) h

-- a letter isn't the first byte of a mark
no-letter : (b c : ℕ) → is_ascii_alphabetic b ≡ true → is_ascii_alphabetic c ≡ false → nat_eq b c ≡ false
no-letter b c letter other = at (nat_eq b c) refl
  where
    at : (t : Bool) → nat_eq b c ≡ t → t ≡ false
    at true e = let same : b ≡ c = grind (arith, nat_tests) in let l : is_ascii_alphabetic c ≡ true = subst (λ b. is_ascii_alphabetic b ≡ true) same letter in
        absurd (cc)
    at false e = refl

name-symbol : (text : Text) → is_identifier text ≡ true → contains_text keywords text ≡ false → symbol_of text ≡ Name
unfolding symbol_of
name-symbol [] h none = absurd (cc)
name-symbol (b ∷ text) h none =
    let w : Text = b ∷ text in
    let letter : is_ascii_alphabetic b ≡ true = and_first _ _ h in
    let n1 : bytes_eq w (codes "not") ≡ false = or_first _ _ none in
    let k1 = or_second _ _ none in
    let n2 : bytes_eq w (codes "and") ≡ false = or_first _ _ k1 in
    let k2 = or_second _ _ k1 in
    let n3 : bytes_eq w (codes "or") ≡ false = or_first _ _ k2 in
    let k3 = or_second _ _ k2 in
    let n4 : bytes_eq w (codes "true") ≡ false = or_first _ _ k3 in
    let k4 = or_second _ _ k3 in
    let n5 : bytes_eq w (codes "false") ≡ false = or_first _ _ k4 in
    let k5 = or_second _ _ k4 in
    let n6 : bytes_eq w (codes "forall") ≡ false = or_first _ _ k5 in
    let k6 = or_second _ _ k5 in
    let n7 : bytes_eq w (codes "exists") ≡ false = or_first _ _ k6 in
    rw (
      n1,
      n2,
      n3,
      n4,
      n5,
      n6,
      n7,
      no-letter b 40 letter refl,
      no-letter b 41 letter refl,
      no-letter b 44 letter refl,
      no-letter b 58 letter refl,
      no-letter b 46 letter refl,
      no-letter b 61 letter refl,
      no-letter b 33 letter refl,
      no-letter b 45 letter refl,
      no-letter b 60 letter refl,
    ) refl

pub variable_name-digit : (i : ℕ) → i < 9 → variable_name i ≡ 118 ∷ (49 + i) ∷ []
variable_name-digit i lt =
    let digit = decimal_digit (i + 1) (omega arith) in
    let e : 48 + (i + 1) ≡ 49 + i = omega arith in
    rw (digit, e) refl

printed-variable : (i : ℕ) → i < 8 → IsOneOf (118 ∷ (49 + i) ∷ []) printed_variables
printed-variable zero lt = inl refl
printed-variable (suc zero) lt = inr (inl refl)
printed-variable (suc (suc zero)) lt = inr (inr (inl refl))
printed-variable (suc (suc (suc zero))) lt = inr (inr (inr (inl refl)))
printed-variable (suc (suc (suc (suc zero)))) lt = inr (inr (inr (inr (inl refl))))
printed-variable (suc (suc (suc (suc (suc zero))))) lt = inr (inr (inr (inr (inr (inl refl)))))
printed-variable (suc (suc (suc (suc (suc (suc zero)))))) lt = inr (inr (inr (inr (inr (inr (inl refl))))))
printed-variable (suc (suc (suc (suc (suc (suc (suc zero))))))) lt = inr (inr (inr (inr (inr (inr (inr (inl refl)))))))
printed-variable (suc (suc (suc (suc (suc (suc (suc (suc i)))))))) lt = absurd (omega arith)

no-variable : (name : Text) → contains_text printed_variables name ≡ false → (i : ℕ) → i < 8 → bytes_eq (variable_name i) name ≡ false
no-variable name none i lt =
    other-name (variable_name i) name (λ same.
    not-among name printed_variables none
    (subst (λ n. IsOneOf n printed_variables) (sym (variable_name-digit i (omega arith)) ∙ same) (printed-variable i lt)))

schema-name : (name : Text) → is_schema_name name ≡ true → IsSchemaName name
schema-name name h =
    let front = and_first _ _ h in
    let letters = and_first _ _ (and_first _ _ front) in
    record {
      letters = letters;
      no_keyword = name-symbol name letters (not-true _ (and_second _ _ front));
      no_variable = no-variable name (not-true _ (and_second _ _ h));
    }

-- each name of a valid schema may stand in one, and stands for what has it
pub valid-names : (schema : DatabaseSchema) → is_valid_schema schema ≡ true → HasProperNames schema
valid-names schema valid =
    let different = distinct (schema_names schema) (not-true _ (and_first _ _ (and_first _ _ (and_first _ _ (and_first _ _ (and_first _ _ valid)))))) in
    let proper = and_second _ _ valid in
    let ds : List Text = map (λ d. d.name) schema.domains in
    let cs : List Text = flat_map (λ d. d.constants) schema.domains in
    let rs : List Text = map (λ r. r.name) schema.relations in
    names-are_found schema (record {
      domains = distinct-left ds cs (distinct-left (ds ++ cs) rs different);
      relations = distinct-right (ds ++ cs) rs different;
      constants = distinct-right ds cs (distinct-left (ds ++ cs) rs different);
      each = λ name there. schema-name name (each-passes is_schema_name (schema_names schema) name proper (among ds cs rs name there));
    })
  where
    among : (ds cs rs : List Text) (name : Text) → IsOneOf name ds ⊎ IsOneOf name rs ⊎ IsOneOf name cs → IsOneOf name ((ds ++ cs) ++ rs)
    among ds cs rs name (inl h) = one_of-left name (ds ++ cs) rs (one_of-left name ds cs h)
    among ds cs rs name (inr (inl h)) = one_of-right name (ds ++ cs) rs h
    among ds cs rs name (inr (inr h)) = one_of-left name (ds ++ cs) rs (one_of-right name ds cs h)
