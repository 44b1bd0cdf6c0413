use Rattle.std.proofs.Common.{◌≡◌, ◌≤◌, ℕ, ◌+◌, ◌*◌, ◌^◌, All, length, vec_capacity}
use Rattle.session_core.specs.Members.{ArePassesOf}
use Rattle.serve_engine.specs.Passing.{HaveShares, HaveTurns, AreOn, OwnAlike, AreParts}
use Rattle.serve_engine.proofs.serving.split_all.Given as goal

-- passes for the workers so far are split off
abbrev pub invariant-loop : goal.invariant-loop
invariant-loop g l = record {
  these : ArePassesOf l.passes l.counters;
  on : AreOn l.initial.passes l.passes;
  own : OwnAlike l.initial.passes l.passes;
  count : length l.parts.items ≡ l.counter;
  those : All (λ part. ArePassesOf part l.counters) l.parts.items;
  parts : All (AreParts l.initial.passes) l.parts.items;
  shares : (n : ℕ) × HaveShares n l.passes × (n + l.counter ≡ 65);
  turns : (t : ℕ) × HaveTurns t l.passes × (t + l.counter * 2 ^ 57 ≡ 65 * 2 ^ 57);
  room : l.count ≤ vec_capacity l.parts;
}
