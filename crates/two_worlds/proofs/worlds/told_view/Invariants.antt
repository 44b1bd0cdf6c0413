use Rattle.std.proofs.Common.{◌≡◌, ◌≤◌, take}
use Rattle.cqe_base.specs.History.{profile_of, log}
use Rattle.entailment.specs.Logs.{log_nodes}
use Rattle.entailment.specs.Views.{schema_of, log_of}
use Rattle.two_worlds.proofs.Told.{history_of}
use Rattle.two_worlds.proofs.worlds.told_view.Given as goal

abbrev pub invariant-loop-entry : goal.invariant-loop-entry
invariant-loop-entry l = record {
  schema : schema_of l.view ≡ l.schema;
  log : log_of l.view ≡ log (profile_of l.user) (take l.entry-index (history_of l.entries));
  nodes : log_nodes (schema_of l.view) (log_of l.view) ≤ 60000;
}
