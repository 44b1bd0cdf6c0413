use Rattle.std.proofs.Common.{◌≡◌, All, map, take}
use Rattle.cqe_base.specs.Formula.{formula_of}
use Rattle.entailment.specs.GroundSentences.{sentence_of, IsGroundOver}
use Rattle.censors.proofs.guards.each_sentence.Given as goal

abbrev pub invariant-loop-sentence : goal.invariant-loop-sentence
invariant-loop-sentence l = record {
  same : map sentence_of l.made.items ≡ take l.sentence-index (map formula_of l.sentences);
  grounded : All (IsGroundOver l.schema) l.made.items;
}
