use Rattle.std.proofs.Common.{◌≡◌, ◌∙◌, ◌+◌, ◌*◌, ◌%◌, ◌++◌, ℕ, sym, ap, string_bytes, rules, arith}
use Rattle.workload.specs.Draws.{state_after}
use Rattle.workload.specs.Questions.{ask_line}
use Rattle.workload.proofs.Asking.{script_more, no_ask}
use Rattle.workload.proofs.question.script_text.Goals as goal

pub loop-number-init : goal.loop-number-init
loop-number-init c =
    λ seed n at. (c.new-text.ensures.bytes ∙ sym (no_ask seed n c.args.users), at ∙ ap (λ (m : ℕ). state_after seed m) {x = n} {y = n + 0} (omega arith))

pub loop-number-preserved : goal.loop-number-preserved
loop-number-preserved c = λ seed n at.
    let so_far = c.loop-number.invariant seed n at in
    let k = c.loop-number.number in
    let question = c.draw_question-question.result in
    let is = c.draw_question-question.ensures.drawn seed (n + 4 * k) so_far.1 in
    let after = c.draw_question-question.ensures.after seed (n + 4 * k) so_far.1 in
    let pushed : string_bytes c.push_str.new.self ≡ string_bytes c.loop-number.text ++ ask_line (k % c.args.users) question = search rules in (
      pushed ∙ (λ i. so_far.0 i ++ ask_line (k % c.args.users) (is i)) ∙ sym (script_more seed n c.args.users k),
      after ∙ ap (λ (m : ℕ). state_after seed m) {x = n + 4 * k + 4} {y = n + 4 * (k + 1)} (omega arith),
    )
