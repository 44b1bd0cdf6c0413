use Rattle.std.proofs.Common.{◌≡◌, drop}
use Rattle.cqe_base.specs.Refutation.{is_model}
use Rattle.proof_check.proofs.model.are_true.Given as goal

abbrev pub invariant-loop-i : goal.invariant-loop-i
invariant-loop-i l = is_model (drop l.i l.clauses) l.signs ≡ is_model l.clauses l.signs
