-- The canonical form of a sentence.
use Rattle.std.specs.Prelude.{ℕ, ◌+◌, max, List, [], ◌∷◌, ◌++◌, codes, slice_get, option_map}
use Rattle.std.specs.Prelude.{option_and_then, unwrap_or}
use Rattle.cqe_base.specs.declared.sentence.Constant.{Constant}
use Rattle.std.specs.Fmt.{decimal}
use Rattle.cqe_base.specs.declared.sentence.Term.{Term}
use Rattle.cqe_base.specs.declared.sentence.Term.TheVariants as terms
use Rattle.cqe_base.specs.Formula.{Formula, verum, falsum, atom, equality, inequality, negation}
use Rattle.cqe_base.specs.Formula.{conjunction, disjunction, implication, biconditional, universal}
use Rattle.cqe_base.specs.Formula.{existential}
use Rattle.cqe_base.specs.Schema.{DatabaseSchema, Text}

-- the variable of the i-th enclosing quantifier, counted from outside and from 0, is `v` and i + 1
abbrev pub variable_name : ℕ → Text
variable_name i = codes "v" ++ decimal (i + 1)

module _ (schema : DatabaseSchema) where
  -- the name of the domain with this number; nothing where there is none
  abbrev pub domain_name : ℕ → Text
  domain_name d = unwrap_or (option_map (λ domain. domain.name) (slice_get schema.domains d)) []

  -- the name of the relation with this number; nothing where there is none
  abbrev pub relation_name : ℕ → Text
  relation_name r =
      unwrap_or (option_map (λ relation. relation.name) (slice_get schema.relations r)) []

  -- the name of a constant; nothing where its domain has none at its place
  abbrev pub constant_name : Constant → Text
  constant_name c =
      unwrap_or (option_and_then (λ domain. slice_get domain.constants c.index)
      (slice_get schema.domains c.domain)) []

  -- the text of a term: the name of its constant or of its variable
  abbrev pub term_text : Term → Text
  term_text (terms.Constant c) = constant_name c
  term_text (terms.Place i) = variable_name i

  -- the text of the terms behind the first one
  abbrev pub more_terms : List Term → Text
  more_terms [] = []
  more_terms (a ∷ others) = codes ", " ++ term_text a ++ more_terms others

  -- the text of terms, with a comma and a blank between two
  abbrev pub terms_text : List Term → Text
  terms_text [] = []
  terms_text (a ∷ others) = term_text a ++ more_terms others

  -- the canonical form of a formula within so many quantifiers
  abbrev pub canonical_within : ℕ → Formula → Text
  canonical_within depth verum = codes "true"
  canonical_within depth falsum = codes "false"
  canonical_within depth (atom relation columns) =
      relation_name relation ++ codes "(" ++ terms_text columns ++ codes ")"
  canonical_within depth (equality a b) = term_text a ++ codes " = " ++ term_text b
  canonical_within depth (inequality a b) = term_text a ++ codes " != " ++ term_text b
  canonical_within depth (negation a) = codes "not " ++ canonical_within depth a
  canonical_within depth (conjunction a b) =
      codes "(" ++ canonical_within depth a ++ codes " and " ++ canonical_within depth b
      ++ codes ")"
  canonical_within depth (disjunction a b) =
      codes "(" ++ canonical_within depth a ++ codes " or " ++ canonical_within depth b ++ codes ")"
  canonical_within depth (implication a b) =
      codes "(" ++ canonical_within depth a ++ codes " -> " ++ canonical_within depth b ++ codes ")"
  canonical_within depth (biconditional a b) =
      codes "(" ++ canonical_within depth a ++ codes " <-> " ++ canonical_within depth b
      ++ codes ")"
  canonical_within depth (universal d a) =
      codes "(forall " ++ variable_name depth ++ codes ": " ++ domain_name d ++ codes " . "
      ++ canonical_within (depth + 1) a ++ codes ")"
  canonical_within depth (existential d a) =
      codes "(exists " ++ variable_name depth ++ codes ": " ++ domain_name d ++ codes " . "
      ++ canonical_within (depth + 1) a ++ codes ")"

  -- the canonical form of a sentence
  abbrev pub canonical : Formula → Text
  canonical a = canonical_within 0 a

-- how many constructs enclose the innermost place of the canonical form: a quantifier stands in
-- parentheses, and `->` counts for what stands to its right
abbrev pub enclosing_constructs : Formula → ℕ
enclosing_constructs (negation a) = enclosing_constructs a + 1
enclosing_constructs (conjunction a b) = max (enclosing_constructs a) (enclosing_constructs b) + 1
enclosing_constructs (disjunction a b) = max (enclosing_constructs a) (enclosing_constructs b) + 1
enclosing_constructs (implication a b) =
    max (enclosing_constructs a) (enclosing_constructs b + 1) + 1
enclosing_constructs (biconditional a b) = max (enclosing_constructs a) (enclosing_constructs b) + 1
enclosing_constructs (universal _ a) = enclosing_constructs a + 2
enclosing_constructs (existential _ a) = enclosing_constructs a + 2
enclosing_constructs _ = 0
