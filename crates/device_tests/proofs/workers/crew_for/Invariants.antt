use Rattle.std.proofs.Common.{◌≡◌, All, None, length}
use Rattle.device_tests.proofs.workers.crew_for.Given as goal

abbrev pub invariant-loop-door : goal.invariant-loop-door
invariant-loop-door l = record {
  count : length l.crew.items ≡ length l.yielded;
  running : All (λ worker. worker.ended ≡ None) l.crew.items;
  none : All (λ worker. length worker.job.numbers.items ≡ 0) l.crew.items;
  room : All (λ worker. worker.job.room ≡ l.room) l.crew.items;
}
