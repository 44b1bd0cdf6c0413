use Rattle.std.proofs.Common.{◌≡◌}
use Rattle.entailment.specs.Views.{log_of}
use Rattle.censors.proofs.Objections.{SilentBefore}
use Rattle.censors.proofs.admittance.first_objection.Given as goal

abbrev pub invariant-loop-number : goal.invariant-loop-number
invariant-loop-number l = record {
  same : l.view ≡ l.fn.view;
  so_far : SilentBefore l.schema (log_of l.fn.view) l.secrets l.number;
}
