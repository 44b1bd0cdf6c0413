-- One ask more.
use Rattle.std.proofs.Common.{◌≡◌, ◌∙◌, sym, ap, refl, ℕ, ◌+◌, ◌*◌, ◌%◌, List, [], ◌∷◌, ◌++◌}
use Rattle.std.specs.List.{flat_map, range_with_len}
use Rattle.std.proofs.lemmas.Grind.{flat_map-append}
use Rattle.std.proofs.lemmas.List.{append-nil}
use Rattle.workload.specs.Draws.{next_state, state_after, number_of, drawn}
use Rattle.workload.specs.Questions.{ask_line, question_at, script_lines}
use Rattle.workload.proofs.Drawing.{step, range_to}

pub state_at : (seed n m state after : ℕ) → state ≡ state_after seed n → after ≡ next_state state → m ≡ n + 1 → after ≡ state_after seed m
state_at seed n m state after at is next = is ∙ ap next_state at ∙ sym (step seed n m next)

pub draw_at : (seed n bound state number : ℕ) → state ≡ state_after seed n → number ≡ number_of bound (next_state state) → number ≡ drawn seed n bound
draw_at seed n bound state number at is = is ∙ ap (λ (s : ℕ). number_of bound s) (ap next_state at ∙ sym (step seed n (n + 1) refl))

pub script_more : (seed n users k : ℕ) → script_lines seed n users (k + 1) ≡ script_lines seed n users k ++ ask_line (k % users) (question_at seed (n + 4 * k))
unfolding script_lines
script_more seed n users k =
    ap (flat_map line) (range_to k) ∙ flat_map-append line (range_with_len 0 k) (k ∷ [])
    ∙ ap (λ (l : List ℕ). flat_map line (range_with_len 0 k) ++ l) (append-nil (line k))
  where
    line : ℕ → List ℕ
    line t = ask_line (t % users) (question_at seed (n + 4 * t))

pub no_ask : (seed n users : ℕ) → script_lines seed n users 0 ≡ []
unfolding script_lines
no_ask seed n users = refl
