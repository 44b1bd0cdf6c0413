use Rattle.cqe_base.proofs.Duplicates.{Twice}
use Rattle.cqe_base.proofs.declarations.has_duplicate.Given as goal

abbrev pub invariant-loop-text : goal.invariant-loop-text
invariant-loop-text l = Twice l.texts l.text-index l.seen
