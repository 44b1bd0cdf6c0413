use Rattle.std.proofs.Common.{◌≡◌, ◌+◌, ◌*◌, ℕ, map}
use Rattle.toml.specs.View.{view}
use Rattle.workload.specs.Draws.{state_after, state_of}
use Rattle.workload.specs.Trees.{user_trees}
use Rattle.workload.proofs.policy.user_list.Given as goal

abbrev pub invariant-loop-number : goal.invariant-loop-number
invariant-loop-number l = record {
  trees : (seed : ℕ) → state_of l.initial.draws ≡ state_after seed 620 → map view l.list.items ≡ user_trees seed l.number;
  after : (seed n : ℕ) → state_of l.initial.draws ≡ state_after seed n → state_of l.draws ≡ state_after seed (n + 3 * l.number);
}
