-- The nodes of logs, and of their grounded sentences.
use Rattle.std.proofs.Common.{◌≡◌, ◌+◌, ◌≤◌, true, false, List, [], ◌∷◌, ◌++◌, map, arith}
use Rattle.std.proofs.lemmas.List.Sums.{sum_by-cons, sum_by-append}
use Rattle.cqe_base.specs.Schema.{DatabaseSchema}
use Rattle.cqe_base.specs.Formula.{nodes}
use Rattle.cqe_base.specs.Ground.{GroundingKeepsNodes, ground_nodes}
use Rattle.cqe_base.specs.GroundParts.{nodes_of_list}
use Rattle.cqe_base.specs.Entailment.{Signed}
use Rattle.cqe_base.specs.History.{signed_nodes}
use Rattle.cqe_base.specs.Outcome.{grounded_signed}
use Rattle.entailment.specs.Logs.{log_nodes, sentence_nodes}
use Rattle.entailment.specs.Forms.{with_negated}

-- a sign doesn't take away nodes
nodes-le-signed : (schema : DatabaseSchema) (s : Signed) → nodes schema s.0 ≤ signed_nodes schema s.0 s.1
nodes-le-signed schema (s, true) = omega arith
nodes-le-signed schema (s, false) = omega arith

pub sentence_nodes-le : (schema : DatabaseSchema) (log : List Signed) → sentence_nodes schema log ≤ log_nodes schema log
sentence_nodes-le schema [] = omega arith
sentence_nodes-le schema (s ∷ log) =
    let here = nodes-le-signed schema s in
    let rest = sentence_nodes-le schema log in
    let a : sentence_nodes schema (s ∷ log) ≡ nodes schema s.0 + sentence_nodes schema log = sum_by-cons (λ signed. nodes schema signed.0) s log in
    let b : log_nodes schema (s ∷ log) ≡ signed_nodes schema s.0 s.1 + log_nodes schema log =
    sum_by-cons (λ signed. signed_nodes schema signed.0 signed.1) s log in
    omega arith

-- grounding keeps the nodes of the sentences
pub grounded-nodes : GroundingKeepsNodes → (schema : DatabaseSchema) (log : List Signed)
    → nodes_of_list (map (grounded_signed schema) log) ≡ sentence_nodes schema log
grounded-nodes keeps schema [] = omega arith
grounded-nodes keeps schema (s ∷ log) =
    let here : ground_nodes (grounded_signed schema s).0 ≡ nodes schema s.0 = keeps schema [] s.0 in
    let rest = grounded-nodes keeps schema log in
    let a : sentence_nodes schema (s ∷ log) ≡ nodes schema s.0 + sentence_nodes schema log = sum_by-cons (λ signed. nodes schema signed.0) s log in
    let b : nodes_of_list (map (grounded_signed schema) (s ∷ log))
    ≡ ground_nodes (grounded_signed schema s).0 + nodes_of_list (map (grounded_signed schema) log) =
    sum_by-cons (λ signed. ground_nodes signed.0) (grounded_signed schema s) (map (grounded_signed schema) log) in
    omega arith

-- the nodes of a probe's sentences are within those of its log, its premise and its goal
pub probe-nodes : (schema : DatabaseSchema) (log premise : List Signed) (goal : Signed)
    → sentence_nodes schema (with_negated (log ++ premise) goal) ≤ log_nodes schema log + sentence_nodes schema premise + nodes schema goal.0
probe-nodes schema log premise goal =
    let a = sum_by-append (λ signed. nodes schema signed.0) (log ++ premise) (with_negated [] goal) in
    let b = sum_by-append (λ signed. nodes schema signed.0) log premise in
    let c = sentence_nodes-le schema log in
    omega arith
