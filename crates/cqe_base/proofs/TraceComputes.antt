-- The worked run computes.
use Rattle.std.proofs.Common.{refl}
use Rattle.cqe_base.specs.Machine.{step, end_within}
use Rattle.cqe_base.specs.Outcome.{ground_outcome, outcome}
use Rattle.cqe_base.specs.Trace.{WorkedTrace}

pub worked_trace : WorkedTrace
unfolding step end_within ground_outcome outcome
worked_trace = record {
  clauses_yes = refl;
  clauses_no = refl;
  trail_yes = refl;
  trail_no = refl;
  refuted = (11, refl);
  satisfied = (9, refl);
  follows_at_11 = refl;
  spent_at_10 = refl;
  open_at_9 = refl;
  spent_at_8 = refl;
}
