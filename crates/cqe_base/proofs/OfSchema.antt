-- What is in the grammar is a sentence of the schema.
use Rattle.std.proofs.Common.{◌≡◌, ℕ, zero, suc, ◌+◌, ◌<◌, Bool, true, false, cond, List, [], ◌∷◌, ◌++◌, length, length-append, Option, Some, None, refl, ap}
use Rattle.std.proofs.Common.{subst, ◌∙◌, arith}
use Rattle.std.specs.Prelude.{position, slice_get, option_map, unwrap_or, bytes_eq, nat_eq, nat_lt}
use Rattle.std.specs.Option.{option_or}
use Rattle.std.proofs.lemmas.List.Quantifiers.{position-Some}
use Rattle.std.proofs.lemmas.Bool.Decides.{nat_tests}
use Rattle.cqe_base.specs.declared.sentence.Constant.{Constant}
use Rattle.cqe_base.specs.declared.sentence.Term.{Term}
use Rattle.cqe_base.specs.declared.sentence.Term.TheVariants as terms
use Rattle.cqe_base.specs.Schema.{DatabaseSchema, NamedDomain, Text, domain_size, columns_of, constant_named, constant_in}
use Rattle.cqe_base.specs.Formula.{Formula, have_domains, have_one_domain, term_domain, fit_relation, may_quantify, is_well_formed}
use Rattle.cqe_base.specs.Tokens.{Token}
use Rattle.cqe_base.specs.Reading.{Scope, TypedTerm, ReadingsAreSentences, variable_named, term_named, or_constant, column_domains}
use Rattle.cqe_base.specs.Grammar.{Part, IsTerm, Columns, no_column, last_column, next_column, Begins, is_true, is_false, is_atom, is_equal, is_differs, is_not}
use Rattle.cqe_base.specs.Grammar.{in_parentheses, is_forall, is_exists, one_and, more_and, one_or, more_or, no_arrow, one_arrow, no_double_arrow}
use Rattle.cqe_base.specs.Grammar.{one_double_arrow}
use Rattle.cqe_base.proofs.Truths.{and_both}
use Rattle.cqe_base.proofs.GrammarIsRead.{reading-sound}
use Rattle.cqe_base.proofs.Lists.{some_at}

-- the domains of the enclosing quantifiers, from the outside
domains_of : Scope → List ℕ
domains_of [] = []
domains_of (b ∷ outer) = domains_of outer ++ b.domain ∷ []

domains_of-length : (scope : Scope) → length (domains_of scope) ≡ length scope
unfolding domains_of
domains_of-length [] = refl
domains_of-length (b ∷ outer) = omega (arith, length-append (domains_of outer) (b.domain ∷ []), domains_of-length outer)

same-number : (d : ℕ) → nat_eq d d ≡ true
same-number d = grind (arith, nat_tests)

below : (m n : ℕ) → m < n → nat_lt m n ≡ true
below m n lt = grind (arith, nat_tests)

last-found : (xs : List ℕ) (d : ℕ) → slice_get (xs ++ d ∷ []) (length xs) ≡ Some d
last-found [] d = refl
last-found (x ∷ xs) d = last-found xs d

still-found : (xs ys : List ℕ) (i d : ℕ) → slice_get xs i ≡ Some d → slice_get (xs ++ ys) i ≡ Some d
still-found [] ys i d h = absurd (cc)
still-found (x ∷ xs) ys zero d h = h
still-found (x ∷ xs) ys (suc i) d h = still-found xs ys i d h

-- how many constants the domain at a place has
abbrev size_at : List NamedDomain → ℕ → ℕ
size_at domains k = unwrap_or (option_map (λ domain. length domain.constants) (slice_get domains k)) 0

module _ (schema : DatabaseSchema) where
  more-scope : (scope : List ℕ) (e d : ℕ) (a : Term) → term_domain schema scope a ≡ Some d → term_domain schema (scope ++ e ∷ []) a ≡ Some d
  more-scope scope e d (terms.Constant c) h = h
  more-scope scope e d (terms.Place i) h = still-found scope (e ∷ []) i d h

  variable-domain : (scope : Scope) (name : Text) (t : TypedTerm) → variable_named scope name ≡ Some t
      → term_domain schema (domains_of scope) t.term ≡ Some t.domain
  unfolding variable_named domains_of
  variable-domain [] name t h = absurd (cc)
  variable-domain (b ∷ outer) name t h = at (bytes_eq b.variable name) refl h (variable-domain outer name t)
    where
      at : (s : Bool) → bytes_eq b.variable name ≡ s
          → cond s (Some (record { term = terms.Place (length outer); domain = b.domain })) (variable_named outer name) ≡ Some t
          → (variable_named outer name ≡ Some t → term_domain schema (domains_of outer) t.term ≡ Some t.domain)
          → term_domain schema (domains_of outer ++ b.domain ∷ []) t.term ≡ Some t.domain
      at true e k others =
          let first : TypedTerm = record { term = terms.Place (length outer); domain = b.domain } in
          let same : first ≡ t = cc in
          let found : slice_get (domains_of outer ++ b.domain ∷ []) (length outer) ≡ Some b.domain =
          subst (λ n. slice_get (domains_of outer ++ b.domain ∷ []) n ≡ Some b.domain) (domains_of-length outer) (last-found (domains_of outer) b.domain) in
          subst (λ (t : TypedTerm). term_domain schema (domains_of outer ++ b.domain ∷ []) t.term ≡ Some t.domain) same found
      at false e k others = more-scope (domains_of outer) b.domain t.domain t.term (others k)

  constant_in-low : (domains : List NamedDomain) (first : ℕ) (name : Text) (c : Constant) → constant_in first domains name ≡ Some c
      → (k : ℕ) × (c.domain ≡ first + k) × (c.index < size_at domains k)
  constant_in-low [] first name c h = absurd (cc)
  constant_in-low (domain ∷ domains) first name c h = at (position (λ n. bytes_eq n name) domain.constants) refl h (constant_in-low domains (first + 1) name c)
    where
      at : (o : Option ℕ) → position (λ n. bytes_eq n name) domain.constants ≡ o
          → option_or (option_map (λ i. record { domain = first; index = i }) o) (constant_in (first + 1) domains name) ≡ Some c
          → (constant_in (first + 1) domains name ≡ Some c → (k : ℕ) × (c.domain ≡ first + 1 + k) × (c.index < size_at domains k))
          → (k : ℕ) × (c.domain ≡ first + k) × (c.index < size_at (domain ∷ domains) k)
      at (Some i) e k others =
          let found : Constant = record { domain = first; index = i } in
          let same : found ≡ c = cc in
          let low = position-Some (λ n. bytes_eq n name) domain.constants i [] e in
          let in_domain : first ≡ c.domain = ap (λ (c : Constant). c.domain) same in
          (0, omega arith, subst (λ (c : Constant). c.index < length domain.constants) same low.0)
      at None e k others = let o = others k in let n : c.domain ≡ first + suc o.0 = omega (arith, o.1) in (suc o.0, n, o.2)

  constant-domain : (scope : List ℕ) (name : Text) (c : Constant) → constant_named schema name ≡ Some c
      → term_domain schema scope (terms.Constant c) ≡ Some c.domain
  constant-domain scope name c h =
      let s = constant_in-low schema.domains 0 name c h in
      let at : s.0 ≡ c.domain = omega (arith, s.1) in
      let low : nat_lt c.index (domain_size schema c.domain) ≡ true =
      below c.index (domain_size schema c.domain) (subst (λ k. c.index < size_at schema.domains k) at s.2) in
      rw low refl

  term-of_domain : (scope : Scope) (name : Text) (a : Term) (d : ℕ) → term_named schema scope name ≡ Some (record {
    term =
        a;
    domain = d;
  }) → term_domain schema (domains_of scope) a ≡ Some d
  term-of_domain scope name a d h = at (variable_named scope name) (constant_named schema name) refl refl h
    where
      at : (x : Option TypedTerm) (c : Option Constant) → variable_named scope name ≡ x → constant_named schema name ≡ c
          → or_constant x c ≡ Some (record { term = a; domain = d }) → term_domain schema (domains_of scope) a ≡ Some d
      at (Some t) c e f k = variable-domain scope name (record { term = a; domain = d }) (e ∙ k)
      at None (Some c) e f k =
          let constant : TypedTerm = record { term = terms.Constant c; domain = c.domain } in
          let same : constant ≡ record { term = a; domain = d } = cc in
          subst (λ (t : TypedTerm). term_domain schema (domains_of scope) t.term ≡ Some t.domain) same (constant-domain (domains_of scope) name c f)
      at None None e f k = absurd (cc)

  columns-fit : {scope : Scope} {ds : List ℕ} {ts rest : List Token} {terms : List Term} → Columns schema scope ds ts terms rest
      → have_domains schema (domains_of scope) terms ds ≡ true
  columns-fit (no_column c) = refl
  columns-fit {scope} (last_column {d = d} {t = t} {a = a} h c) = rw (term-of_domain scope t.text a d h.stands_for, same-number d) refl
  columns-fit {scope} (next_column {d = d} {t = t} {a = a} h c others) = rw (term-of_domain scope t.text a d h.stands_for, same-number d) (columns-fit others)

  columns-found : (r : ℕ) → r < length schema.relations → columns_of schema r ≡ Some (column_domains schema r)
  columns-found r lt = let s = some_at schema.relations r lt in rw s.1 refl

  atom-fits : (scope : List ℕ) (r : ℕ) (terms : List Term) → r < length schema.relations → have_domains schema scope terms (column_domains schema r) ≡ true
      → fit_relation schema scope terms (columns_of schema r) ≡ true
  atom-fits scope r terms lt fits = ap (fit_relation schema scope terms) (columns-found r lt) ∙ fits

  sides-fit : (scope : Scope) (t u : Token) (a b : Term) (d : ℕ) → IsTerm schema scope t a d → IsTerm schema scope u b d
      → have_one_domain (term_domain schema (domains_of scope) a) (term_domain schema (domains_of scope) b) ≡ true
  sides-fit scope t u a b d left right =
      rw (term-of_domain scope t.text a d left.stands_for, term-of_domain scope u.text b d right.stands_for, same-number d) refl

  may-quantify : (scope : Scope) (d : ℕ) → length scope < 8 → d < length schema.domains → may_quantify schema (domains_of scope) d ≡ true
  may-quantify scope d few low =
      and_both _ _ (below (length (domains_of scope)) 8 (omega (arith, few, domains_of-length scope))) (below d (length schema.domains) low)

  begins-well_formed : {part : Part} {room : ℕ} {scope : Scope} {ts rest : List Token} {a : Formula} → Begins schema part room scope ts a rest
      → is_well_formed schema (domains_of scope) a ≡ true
  unfolding domains_of
  begins-well_formed (is_true t) = refl
  begins-well_formed (is_false t) = refl
  begins-well_formed (is_atom {scope = scope} {relation = r} {terms = terms} t o found c) =
      atom-fits (domains_of scope) r terms (position-Some _ schema.relations r (record { name = []; columns = [] }) found).0 (columns-fit c)
  begins-well_formed (is_equal {scope = scope} {t = t} {u = u} {a = a} {b = b} {domain = d} h s k) = sides-fit scope t u a b d h k
  begins-well_formed (is_differs {scope = scope} {t = t} {u = u} {a = a} {b = b} {domain = d} h s k) = sides-fit scope t u a b d h k
  begins-well_formed (is_not t a) = begins-well_formed a
  begins-well_formed (in_parentheses o a c) = begins-well_formed a
  begins-well_formed (is_forall {scope = scope} {domain = d} q a e) =
      and_both _ _ (may-quantify scope d q.not_too_deep (position-Some _ schema.domains d (record { name = []; constants = [] }) q.stands_for).0)
      (begins-well_formed a)
  begins-well_formed (is_exists {scope = scope} {domain = d} q a e) =
      and_both _ _ (may-quantify scope d q.not_too_deep (position-Some _ schema.domains d (record { name = []; constants = [] }) q.stands_for).0)
      (begins-well_formed a)
  begins-well_formed (one_and a) = begins-well_formed a
  begins-well_formed (more_and a t b) = and_both _ _ (begins-well_formed a) (begins-well_formed b)
  begins-well_formed (one_or a) = begins-well_formed a
  begins-well_formed (more_or a t b) = and_both _ _ (begins-well_formed a) (begins-well_formed b)
  begins-well_formed (no_arrow a) = begins-well_formed a
  begins-well_formed (one_arrow a t b) = and_both _ _ (begins-well_formed a) (begins-well_formed b)
  begins-well_formed (no_double_arrow a) = begins-well_formed a
  begins-well_formed (one_double_arrow a t b) = and_both _ _ (begins-well_formed a) (begins-well_formed b)

pub readings_are_sentences : ReadingsAreSentences
unfolding domains_of
readings_are_sentences schema text sentence read = begins-well_formed schema (reading-sound schema text sentence read).derives
