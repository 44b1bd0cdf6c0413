use Rattle.std.proofs.Common.{◌≡◌, true, take}
use Rattle.std.specs.Prelude.{map}
use Rattle.cqe_base.specs.Formula.{formula_of}
use Rattle.entailment.specs.Logs.{told_log}
use Rattle.entailment.proofs.view.told_of.Given as goal

abbrev pub invariant-loop-sentence : goal.invariant-loop-sentence
invariant-loop-sentence l = told_log l.told.items ≡ map (λ s. (s, true)) (map formula_of (take l.sentence-index l.sentences))
