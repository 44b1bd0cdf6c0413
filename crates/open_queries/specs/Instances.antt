-- Open queries, and their instances.
use Rattle.std.specs.Prelude.{◌≡◌, ◌≤◌, ◌*◌, ◌/◌, ◌%◌, ◌-◌, ◌++◌, ℕ, true, nat_lt}
use Rattle.std.specs.Prelude.{List, [], ◌∷◌, length, map, replicate, slice_get, Option}
use Rattle.std.specs.Prelude.{Some, None, Ok}
use Rattle.std.specs.List.{list_all, list_any, range_with_len}
use Rattle.std.specs.FinSet as set
use Rattle.cqe_base.specs.declared.sentence.Constant.{Constant}
use Rattle.cqe_base.specs.declared.sentence.Term.{Term}
use Rattle.cqe_base.specs.declared.sentence.Term.TheVariants.{Constant as constant, Place}
use Rattle.cqe_base.specs.Schema.{DatabaseSchema, Text, domain_size}
use Rattle.cqe_base.specs.Facts.{FactSet}
use Rattle.cqe_base.specs.Formula.{Formula, verum, falsum, atom, equality, inequality, negation}
use Rattle.cqe_base.specs.Formula.{conjunction, disjunction, implication, biconditional, universal}
use Rattle.cqe_base.specs.Formula.{existential, is_well_formed}
use Rattle.cqe_base.specs.Truth.{constant_at, true_at, true_in}
use Rattle.cqe_base.specs.Canonical.{canonical, enclosing_constructs}
use Rattle.cqe_base.specs.Reading.{reading}

-- an open query: a body with a free variable for each of these domains. `Place i` of the body is
-- the variable of the i-th domain; the places behind these are those of the body's quantifiers
pub record OpenQuery : Type 0 where
  pub domains : List ℕ
  pub body : Formula

-- the sentence that begins with `exists` over each of these domains, before the body
abbrev pub exists_over : List ℕ → Formula → Formula
exists_over [] body = body
exists_over (d ∷ domains) body = existential d (exists_over domains body)

-- how many ways there are to choose a constant from each domain
abbrev pub combinations : DatabaseSchema → List ℕ → ℕ
combinations schema [] = 1
combinations schema (d ∷ domains) = domain_size schema d * combinations schema domains

-- how many instances an open query has
abbrev pub instances : DatabaseSchema → OpenQuery → ℕ
instances schema query = combinations schema query.domains

-- ---- the instance of a number

-- the digits of a number over the sizes of the domains, the first domain's being the highest
abbrev pub digits : DatabaseSchema → List ℕ → ℕ → List ℕ
digits schema [] number = []
digits schema (d ∷ domains) number =
    number / combinations schema domains
    ∷ digits schema domains (number % combinations schema domains)

-- the constants with these indices, one of each domain
abbrev pub chosen : List ℕ → List ℕ → List Constant
chosen (d ∷ domains) (index ∷ indices) = constant_at d index ∷ chosen domains indices
chosen _ _ = []

-- the constants of an instance: their indices are the digits of its number
abbrev pub constants_of_instance : DatabaseSchema → OpenQuery → ℕ → List Constant
constants_of_instance schema query number =
    chosen query.domains (digits schema query.domains number)

-- four numbers: these, and then 0
abbrev pub in_four : List ℕ → List ℕ
in_four indices = indices ++ replicate (4 - length indices) 0

-- the constant that is found for a place, or else the place of this number
abbrev pub or_place : Option Constant → ℕ → Term
or_place (Some c) i = constant c
or_place None i = Place i

-- the term with these constants in the first places; the other places are numbered from 0
abbrev pub filled_term : List Constant → Term → Term
filled_term constants (constant c) = constant c
filled_term constants (Place i) = or_place (slice_get constants i) (i - length constants)

-- the formula with these constants in the first places; the other places are numbered from 0
abbrev pub filled : List Constant → Formula → Formula
filled constants verum = verum
filled constants falsum = falsum
filled constants (atom r terms) = atom r (map (filled_term constants) terms)
filled constants (equality s t) = equality (filled_term constants s) (filled_term constants t)
filled constants (inequality s t) = inequality (filled_term constants s) (filled_term constants t)
filled constants (negation a) = negation (filled constants a)
filled constants (conjunction a b) = conjunction (filled constants a) (filled constants b)
filled constants (disjunction a b) = disjunction (filled constants a) (filled constants b)
filled constants (implication a b) = implication (filled constants a) (filled constants b)
filled constants (biconditional a b) = biconditional (filled constants a) (filled constants b)
filled constants (universal d a) = universal d (filled constants a)
filled constants (existential d a) = existential d (filled constants a)

-- an instance: the body with the constants of its number
abbrev pub instance_of : DatabaseSchema → OpenQuery → ℕ → Formula
instance_of schema query number = filled (constants_of_instance schema query number) query.body

-- the text of an instance: its canonical form
abbrev pub instance_text : DatabaseSchema → OpenQuery → ℕ → Text
instance_text schema query number = canonical schema (instance_of schema query number)

-- ---- what instances are asked of

-- an open query of the schema: one to four domains of it, at most 256 instances, and a body that is
-- well formed where its first places are of these domains
pub record IsOpenQueryOf (schema : DatabaseSchema) (query : OpenQuery) : Type 0 where
  pub some_domain : 1 ≤ length query.domains
  pub few_domains : length query.domains ≤ 4
  pub known_domains : list_all (λ d. nat_lt d (length schema.domains)) query.domains ≡ true
  pub few_instances : instances schema query ≤ 256
  pub body : is_well_formed schema query.domains query.body ≡ true

-- a sentence says what a body says of these constants: it is true in each world exactly where the
-- body is true with them in its first places
abbrev pub SaysOf : DatabaseSchema → List Constant → Formula → Formula → Type 0
SaysOf schema constants body sentence =
    (world : FactSet)
    → true_in schema world sentence ≡ true_at schema (set.contains world) constants body

-- a text reads as a sentence, where at most 64 constructs enclose a place of that
abbrev pub ReadsBackAs : DatabaseSchema → Text → Formula → Type 0
ReadsBackAs schema text sentence =
    enclosing_constructs sentence ≤ 64 → reading schema text ≡ Ok sentence

-- a sentence that begins with `exists` is true in a world exactly where some instance of what it
-- opens to is
abbrev pub ExistsIsSomeInstance : Type 0
ExistsIsSomeInstance = (schema : DatabaseSchema) (query : OpenQuery) (world : FactSet)
    → true_in schema world (exists_over query.domains query.body)
    ≡ list_any (λ number. true_in schema world (instance_of schema query number))
    (range_with_len 0 (instances schema query))
