use Rattle.std.proofs.Common.{◌≡◌, ◌++◌, drop, map}
use Rattle.cqe_base.specs.Formula.{formula_of}
use Rattle.cqe_base.proofs.user.copies_of.Given as goal

abbrev pub invariant-loop-sentence : goal.invariant-loop-sentence
invariant-loop-sentence l = map formula_of l.made.items ++ map formula_of (drop l.sentence-index l.sentences) ≡ map formula_of l.sentences
