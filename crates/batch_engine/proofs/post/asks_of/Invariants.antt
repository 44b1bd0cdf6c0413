use Rattle.std.proofs.Common.{◌≡◌, ◌≤◌, take}
use Rattle.batch_engine.specs.Answers.{asks_of}
use Rattle.batch_engine.specs.Batches.{asks_in}
use Rattle.batch_engine.proofs.post.asks_of.Given as goal

-- so many of the first asks have the name
abbrev pub invariant-loop-ask : goal.invariant-loop-ask
invariant-loop-ask l = record {
  so_far : l.count ≡ asks_of l.name (asks_in (take l.ask-index l.asks));
  few : l.count ≤ l.ask-index;
}
