use Rattle.std.proofs.Common.{◌≡◌, ◌+◌, ◌≤◌, length}
use Rattle.turnstile.specs.Passes.{IsReady, mine, shares, turns}
use Rattle.device_tests.proofs.turns.take_turns.Given as goal

abbrev pub invariant-loop-made : goal.invariant-loop-made
invariant-loop-made g l = record {
  place : l.pass.badge.table_id ≡ l.initial.pass.badge.table_id;
  ready : IsReady l.pass;
  shares_kept : shares l.pass ≡ shares l.initial.pass;
  turns_left : turns l.pass + l.made ≡ turns l.initial.pass;
  few : l.added ≤ l.made;
  own : length (mine l.pass) ≡ length (mine l.initial.pass) + l.added;
}
