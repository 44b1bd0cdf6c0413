-- A schema that grew: what was a sentence of it still is one, with as many nodes.
use Rattle.std.proofs.Common.{◌≡◌, ℕ, ◌+◌, Bool, true, false, List, [], ◌∷◌, ◌++◌, length, refl, ap}
use Rattle.std.specs.Prelude.{Option, Some, None, nat_lt, if◌then◌else◌}
use Rattle.std.proofs.lemmas.Bool.{and_parts, and_from}
use Rattle.cqe_base.specs.declared.sentence.Term.{Term}
use Rattle.cqe_base.specs.declared.sentence.Term.TheVariants.{Constant as constant, Place}
use Rattle.cqe_base.specs.Schema.{DatabaseSchema, domain_size, columns_of}
use Rattle.cqe_base.specs.Formula.{Formula, verum, falsum, atom, equality, inequality, negation, conjunction, disjunction, implication, biconditional}
use Rattle.cqe_base.specs.Formula.{universal, existential, nodes, term_domain, is_domain, have_one_domain, have_domains, fit_relation, may_quantify}
use Rattle.cqe_base.specs.Formula.{is_well_formed}

-- the domains and relations of a schema are those of another, which may have more
pub record Grows (small big : DatabaseSchema) : Type 0 where
  pub sizes : (d i : ℕ) → nat_lt i (domain_size small d) ≡ true → domain_size big d ≡ domain_size small d
  pub domains : (d : ℕ) → nat_lt d (length small.domains) ≡ true → (nat_lt d (length big.domains) ≡ true) × (domain_size big d ≡ domain_size small d)
  pub relations : (r : ℕ) (columns : List ℕ) → columns_of small r ≡ Some columns → columns_of big r ≡ Some columns

module _ (small big : DatabaseSchema) (grows : Grows small big) where
  -- a term keeps its domain
  constant_domain : (i d e : ℕ) (b : Bool) → nat_lt i (domain_size small d) ≡ b → (if b then Some d else None) ≡ Some e
      → (if nat_lt i (domain_size big d) then Some d else None) ≡ Some e
  constant_domain i d e true low is = rw (grows.sizes d i low, low) is
  constant_domain i d e false low is = absurd cc

  term_grows : (scope : List ℕ) (t : Term) (d : ℕ) → term_domain small scope t ≡ Some d → term_domain big scope t ≡ Some d
  term_grows scope (constant c) d is = constant_domain c.index c.domain d (nat_lt c.index (domain_size small c.domain)) refl is
  term_grows scope (Place i) d is = is

  -- where a term has a domain, it has it in the grown schema
  domain_grows : (scope : List ℕ) (t : Term) (o : Option ℕ) (d : ℕ) → term_domain small scope t ≡ o → is_domain o d ≡ true
      → is_domain (term_domain big scope t) d ≡ true
  domain_grows scope t None d is same = absurd cc
  domain_grows scope t (Some e) d is same = rw (term_grows scope t e is) same

  one_domain_grows : (scope : List ℕ) (s t : Term) (o : Option ℕ) → term_domain small scope s ≡ o → have_one_domain o (term_domain small scope t) ≡ true
      → have_one_domain (term_domain big scope s) (term_domain big scope t) ≡ true
  one_domain_grows scope s t None is same = absurd cc
  one_domain_grows scope s t (Some d) is same = rw (term_grows scope s d is) (domain_grows scope t (term_domain small scope t) d refl same)

  columns_grow : (scope : List ℕ) (terms : List Term) (domains : List ℕ) → have_domains small scope terms domains ≡ true
      → have_domains big scope terms domains ≡ true
  columns_grow scope [] [] fit = refl
  columns_grow scope [] (d ∷ domains) fit = absurd cc
  columns_grow scope (t ∷ terms) [] fit = absurd cc
  columns_grow scope (t ∷ terms) (d ∷ domains) fit =
      let parts = and_parts (is_domain (term_domain small scope t) d) (have_domains small scope terms domains) fit in
      and_from (is_domain (term_domain big scope t) d) (have_domains big scope terms domains)
      (domain_grows scope t (term_domain small scope t) d refl parts.0) (columns_grow scope terms domains parts.1)

  relation_grows : (scope : List ℕ) (terms : List Term) (r : ℕ) (o : Option (List ℕ)) → columns_of small r ≡ o → fit_relation small scope terms o ≡ true
      → fit_relation big scope terms (columns_of big r) ≡ true
  relation_grows scope terms r None is fit = absurd cc
  relation_grows scope terms r (Some columns) is fit = rw (grows.relations r columns is) (columns_grow scope terms columns fit)

  quantifier_grows : (scope : List ℕ) (d : ℕ) → may_quantify small scope d ≡ true → may_quantify big scope d ≡ true
  quantifier_grows scope d may =
      let parts = and_parts (nat_lt (length scope) 8) (nat_lt d (length small.domains)) may in
      and_from (nat_lt (length scope) 8) (nat_lt d (length big.domains)) parts.0 (grows.domains d parts.1).0

  pub well_formed_grows : (scope : List ℕ) (f : Formula) → is_well_formed small scope f ≡ true → is_well_formed big scope f ≡ true
  well_formed_grows scope verum is = refl
  well_formed_grows scope falsum is = refl
  well_formed_grows scope (atom r terms) is = relation_grows scope terms r (columns_of small r) refl is
  well_formed_grows scope (equality s t) is = one_domain_grows scope s t (term_domain small scope s) refl is
  well_formed_grows scope (inequality s t) is = one_domain_grows scope s t (term_domain small scope s) refl is
  well_formed_grows scope (negation a) is = well_formed_grows scope a is
  well_formed_grows scope (conjunction a b) is =
      let parts = and_parts (is_well_formed small scope a) (is_well_formed small scope b) is in
      and_from (is_well_formed big scope a) (is_well_formed big scope b) (well_formed_grows scope a parts.0) (well_formed_grows scope b parts.1)
  well_formed_grows scope (disjunction a b) is =
      let parts = and_parts (is_well_formed small scope a) (is_well_formed small scope b) is in
      and_from (is_well_formed big scope a) (is_well_formed big scope b) (well_formed_grows scope a parts.0) (well_formed_grows scope b parts.1)
  well_formed_grows scope (implication a b) is =
      let parts = and_parts (is_well_formed small scope a) (is_well_formed small scope b) is in
      and_from (is_well_formed big scope a) (is_well_formed big scope b) (well_formed_grows scope a parts.0) (well_formed_grows scope b parts.1)
  well_formed_grows scope (biconditional a b) is =
      let parts = and_parts (is_well_formed small scope a) (is_well_formed small scope b) is in
      and_from (is_well_formed big scope a) (is_well_formed big scope b) (well_formed_grows scope a parts.0) (well_formed_grows scope b parts.1)
  well_formed_grows scope (universal d a) is =
      let parts = and_parts (may_quantify small scope d) (is_well_formed small (scope ++ d ∷ []) a) is in
      and_from (may_quantify big scope d) (is_well_formed big (scope ++ d ∷ []) a) (quantifier_grows scope d parts.0)
      (well_formed_grows (scope ++ d ∷ []) a parts.1)
  well_formed_grows scope (existential d a) is =
      let parts = and_parts (may_quantify small scope d) (is_well_formed small (scope ++ d ∷ []) a) is in
      and_from (may_quantify big scope d) (is_well_formed big (scope ++ d ∷ []) a) (quantifier_grows scope d parts.0)
      (well_formed_grows (scope ++ d ∷ []) a parts.1)

  -- a quantifier keeps the number of its instances
  size_kept : (scope : List ℕ) (d : ℕ) → may_quantify small scope d ≡ true → domain_size big d ≡ domain_size small d
  size_kept scope d may = (grows.domains d (and_parts (nat_lt (length scope) 8) (nat_lt d (length small.domains)) may).1).1

  pub nodes_kept : (scope : List ℕ) (f : Formula) → is_well_formed small scope f ≡ true → nodes big f ≡ nodes small f
  nodes_kept scope verum is = refl
  nodes_kept scope falsum is = refl
  nodes_kept scope (atom r terms) is = refl
  nodes_kept scope (equality s t) is = refl
  nodes_kept scope (inequality s t) is = refl
  nodes_kept scope (negation a) is = ap (λ n. 1 + n) (nodes_kept scope a is)
  nodes_kept scope (conjunction a b) is =
      let parts = and_parts (is_well_formed small scope a) (is_well_formed small scope b) is in
      rw (nodes_kept scope a parts.0, nodes_kept scope b parts.1)
  nodes_kept scope (disjunction a b) is =
      let parts = and_parts (is_well_formed small scope a) (is_well_formed small scope b) is in
      rw (nodes_kept scope a parts.0, nodes_kept scope b parts.1)
  nodes_kept scope (implication a b) is =
      let parts = and_parts (is_well_formed small scope a) (is_well_formed small scope b) is in
      rw (nodes_kept scope a parts.0, nodes_kept scope b parts.1)
  nodes_kept scope (biconditional a b) is =
      let parts = and_parts (is_well_formed small scope a) (is_well_formed small scope b) is in
      rw (nodes_kept scope a parts.0, nodes_kept scope b parts.1)
  nodes_kept scope (universal d a) is =
      let parts = and_parts (may_quantify small scope d) (is_well_formed small (scope ++ d ∷ []) a) is in
      rw (size_kept scope d parts.0, nodes_kept (scope ++ d ∷ []) a parts.1)
  nodes_kept scope (existential d a) is =
      let parts = and_parts (may_quantify small scope d) (is_well_formed small (scope ++ d ∷ []) a) is in
      rw (size_kept scope d parts.0, nodes_kept (scope ++ d ∷ []) a parts.1)
