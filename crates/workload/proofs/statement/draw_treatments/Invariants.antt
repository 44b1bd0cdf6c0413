use Rattle.std.proofs.Common.{◌≡◌, ◌+◌, ◌++◌, ℕ}
use Rattle.workload.specs.Draws.{state_after, state_of}
use Rattle.workload.specs.Statements.{treatments}
use Rattle.workload.proofs.statement.draw_treatments.Given as goal

abbrev pub invariant-loop-number : goal.invariant-loop-number
invariant-loop-number l = (seed : ℕ) → state_of l.initial.draws ≡ state_after seed 600 → (l.all.items ≡ l.initial.all.items ++ treatments seed l._number)
    × (state_of l.draws ≡ state_after seed (600 + l._number))
