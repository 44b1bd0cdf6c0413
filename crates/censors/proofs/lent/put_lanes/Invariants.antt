use Rattle.std.proofs.Common.{◌≡◌, All}
use Rattle.std.specs.Prelude.{vec_len}
use Rattle.entailment.specs.Views.{schema_of, log_of, IsViewWithin}
use Rattle.censors.proofs.lent.put_lanes.Given as goal

-- the log is as it was, and the views that are left are within it
abbrev pub invariant-loop-lane : goal.invariant-loop-lane
invariant-loop-lane l = record {
  same : l.views ≡ l.fn.views;
  left : All (λ lane. IsViewWithin (schema_of l.fn.views) (log_of l.fn.views) lane.view) l.lanes.items;
}

abbrev pub decreases-loop-lane : goal.decreases-loop-lane
decreases-loop-lane l = vec_len l.lanes
