use Rattle.std.proofs.Common.{◌≡◌, ◌+◌, ◌*◌, ℕ, string_bytes}
use Rattle.workload.specs.Draws.{state_after, state_of}
use Rattle.workload.specs.Questions.{script_lines}
use Rattle.workload.proofs.question.script_text.Given as goal

abbrev pub invariant-loop-number : goal.invariant-loop-number
invariant-loop-number l = (seed n : ℕ) → state_of l.initial.draws ≡ state_after seed n → (string_bytes l.text ≡ script_lines seed n l.users l.number)
    × (state_of l.draws ≡ state_after seed (n + 4 * l.number))
