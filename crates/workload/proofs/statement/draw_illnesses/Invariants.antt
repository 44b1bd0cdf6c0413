use Rattle.std.proofs.Common.{◌≡◌, ◌*◌, ℕ}
use Rattle.workload.specs.Draws.{state_after, state_of}
use Rattle.workload.specs.Statements.{illnesses}
use Rattle.workload.proofs.statement.draw_illnesses.Given as goal

abbrev pub invariant-loop-number : goal.invariant-loop-number
invariant-loop-number l = (seed : ℕ) → state_of l.initial.draws ≡ state_after seed 0 → (l.all.items ≡ illnesses seed l._number)
    × (state_of l.draws ≡ state_after seed (2 * l._number))
