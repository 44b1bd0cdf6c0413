use Rattle.std.proofs.Common.{◌≡◌, ◌≤◌, All, length}
use Rattle.entailment.specs.Views.{schema_of, log_of, IsViewOf}
use Rattle.censors.proofs.lent.lend_more.Given as goal

-- the log is as it was, and all views are of it
abbrev pub invariant-loop : goal.invariant-loop
invariant-loop l = record {
  same : l.views ≡ l.fn.views;
  more : length l.fn.lanes.items ≤ length l.lanes.items;
  lent : All (λ lane. IsViewOf (schema_of l.fn.views) (log_of l.fn.views) lane.view) l.lanes.items;
}
