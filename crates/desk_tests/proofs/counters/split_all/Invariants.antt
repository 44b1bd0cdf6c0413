use Rattle.std.proofs.Common.{◌≡◌, ◌*◌, ◌^◌}
use Rattle.turnstile.specs.Passes.{shares, turns}
use Rattle.desk_counter.specs.Counters.{IsPassOf}
use Rattle.desk_tests.proofs.counters.split_all.Given as goal

abbrev pub invariant-loop-made : goal.invariant-loop-made
invariant-loop-made l = record {
  pass : IsPassOf l.pass l.counter;
  turns_left : turns l.pass ≡ shares l.pass * 2 ^ 57;
}
