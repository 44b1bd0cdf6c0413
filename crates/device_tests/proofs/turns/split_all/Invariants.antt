use Rattle.std.proofs.Common.{◌≡◌, ◌*◌, ◌^◌}
use Rattle.turnstile.specs.Passes.{IsReady, shares, turns}
use Rattle.device_tests.proofs.turns.split_all.Given as goal

abbrev pub invariant-loop-made : goal.invariant-loop-made
invariant-loop-made l = record {
  place : l.pass.badge.table_id ≡ l.initial.pass.badge.table_id;
  ready : IsReady l.pass;
  turns_left : turns l.pass ≡ shares l.pass * 2 ^ 57;
}
