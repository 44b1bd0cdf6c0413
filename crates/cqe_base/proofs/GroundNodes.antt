-- Grounding keeps the number of nodes.
use Rattle.std.proofs.Common.{◌≡◌, ℕ, ◌+◌, ◌*◌, Bool, true, false, List, [], ◌∷◌, ◌++◌, length, map, refl, ap, ◌∙◌, arith}
use Rattle.std.specs.Prelude.{if◌then◌else◌}
use Rattle.std.proofs.lemmas.List.FromFn.{length-map-range_with_len}
use Rattle.cqe_base.specs.declared.sentence.Constant.{Constant}
use Rattle.cqe_base.specs.Schema.{DatabaseSchema, domain_size}
use Rattle.cqe_base.specs.Formula.{verum, falsum, atom, equality, inequality, negation, conjunction, disjunction, implication, biconditional, universal}
use Rattle.cqe_base.specs.Formula.{existential, nodes}
use Rattle.cqe_base.specs.Truth.{constant_at, constants_of, value_of, same_constant}
use Rattle.cqe_base.specs.Ground.{Ground, ground_true, ground_false, parts_of, grounded_at, ground_nodes, part_nodes, GroundingKeepsNodes}

decided : (b : Bool) (yeah nay : Ground) → ground_nodes yeah ≡ 1 → ground_nodes nay ≡ 1 → ground_nodes (if b then yeah else nay) ≡ 1
decided true yeah nay p q = p
decided false yeah nay p q = q

-- two parts
two : (a b : Ground) (m n : ℕ) → ground_nodes a ≡ m → ground_nodes b ≡ n → 1 + (ground_nodes a + (ground_nodes b + 0)) ≡ 1 + m + n
two a b m n p q = omega arith

-- instances that have as many nodes each
equal_parts : {X : Type 0} (instance : X → Ground) (n : ℕ) → ((x : X) → ground_nodes (instance x) ≡ n) → (xs : List X)
    → part_nodes (parts_of (map instance xs)) ≡ length xs * n
equal_parts instance n same [] = omega arith
equal_parts instance n same (x ∷ xs) =
    let here : ground_nodes (instance x) ≡ n = same x in
    let rest : part_nodes (parts_of (map instance xs)) ≡ length xs * n = equal_parts instance n same xs in
    omega arith

-- a quantifier written out
instances : (schema : DatabaseSchema) (d : ℕ) (instance : Constant → Ground) (n : ℕ) → ((c : Constant) → ground_nodes (instance c) ≡ n)
    → 1 + part_nodes (parts_of (map instance (constants_of schema d))) ≡ 1 + domain_size schema d * n
instances schema d instance n same =
    ap (λ k. 1 + k) (equal_parts instance n same (constants_of schema d) ∙ ap (λ k. k * n) (length-map-range_with_len (constant_at d) 0 (domain_size schema d)))

pub grounding_keeps_nodes : GroundingKeepsNodes
grounding_keeps_nodes schema places verum = refl
grounding_keeps_nodes schema places falsum = refl
grounding_keeps_nodes schema places (atom r terms) = refl
grounding_keeps_nodes schema places (equality s t) = decided (same_constant (value_of places s) (value_of places t)) ground_true ground_false refl refl
grounding_keeps_nodes schema places (inequality s t) = decided (same_constant (value_of places s) (value_of places t)) ground_false ground_true refl refl
grounding_keeps_nodes schema places (negation a) = ap (λ n. 1 + n) (grounding_keeps_nodes schema places a)
grounding_keeps_nodes schema places (conjunction a b) =
    two (grounded_at schema places a) (grounded_at schema places b) (nodes schema a) (nodes schema b) (grounding_keeps_nodes schema places a)
    (grounding_keeps_nodes schema places b)
grounding_keeps_nodes schema places (disjunction a b) =
    two (grounded_at schema places a) (grounded_at schema places b) (nodes schema a) (nodes schema b) (grounding_keeps_nodes schema places a)
    (grounding_keeps_nodes schema places b)
grounding_keeps_nodes schema places (implication a b) = λ i. 1 + grounding_keeps_nodes schema places a i + grounding_keeps_nodes schema places b i
grounding_keeps_nodes schema places (biconditional a b) = λ i. 1 + grounding_keeps_nodes schema places a i + grounding_keeps_nodes schema places b i
grounding_keeps_nodes schema places (universal d a) =
    instances schema d (λ c. grounded_at schema (places ++ c ∷ []) a) (nodes schema a) (λ c. grounding_keeps_nodes schema (places ++ c ∷ []) a)
grounding_keeps_nodes schema places (existential d a) =
    instances schema d (λ c. grounded_at schema (places ++ c ∷ []) a) (nodes schema a) (λ c. grounding_keeps_nodes schema (places ++ c ∷ []) a)
