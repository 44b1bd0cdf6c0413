use Rattle.std.proofs.Common.{◌≡◌, ◌≤◌, length, take}
use Rattle.entailment.specs.Logs.{told_log}
use Rattle.entailment.specs.Views.{schema_of, log_of}
use Rattle.entailment.proofs.view.View.follow.Given as goal

-- the log has the first sentences, up to the number
abbrev pub invariant-loop-number : goal.invariant-loop-number
invariant-loop-number l = record {
  within : l.number ≤ length (told_log l.sentences);
  schema : schema_of l.self ≡ schema_of l.fn.self;
  log : log_of l.self ≡ take l.number (told_log l.sentences);
}
