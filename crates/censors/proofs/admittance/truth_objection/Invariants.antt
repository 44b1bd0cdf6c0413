use Rattle.std.proofs.Common.{not}
use Rattle.cqe_base.specs.Truth.{true_in}
use Rattle.censors.proofs.Objections.{NoneBefore}
use Rattle.censors.proofs.admittance.truth_objection.Given as goal

abbrev pub invariant-loop-number : goal.invariant-loop-number
invariant-loop-number l = NoneBefore (λ s. not (true_in l.schema l.world s)) l.sentences l.number
