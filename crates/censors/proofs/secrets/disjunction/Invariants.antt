use Rattle.std.proofs.Common.{◌≡◌, take}
use Rattle.std.specs.Prelude.{map, fold}
use Rattle.cqe_base.specs.Formula.{formula_of, disjunction}
use Rattle.censors.proofs.secrets.disjunction.Given as goal

abbrev pub invariant-loop-sentence : goal.invariant-loop-sentence
invariant-loop-sentence l =
    formula_of l.made ≡ fold disjunction (formula_of l.initial.made) (map formula_of (take l.sentence-index l.rest))
