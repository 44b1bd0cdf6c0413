use Rattle.std.proofs.Common.{rules, arith, ◌≡◌, ℕ, ◌+◌, [], length, ap, ◌∙◌}
use Rattle.turnstile.specs.declared.view.View.{View}
use Rattle.turnstile.specs.History.{entries_with}
use Rattle.turnstile.specs.Passes.{mine}
use Rattle.turnstile.proofs.Histories.{interleaves_length}
use Rattle.device_tests.proofs.turns.take_turns_by_two.Goals as goal

pub returns : goal.returns
returns g c =
    let one = c.join-first.result in
    let two = c.join-second.result in
    let none : mine c.split.new.pass ≡ [] = ap (λ (v : View ℕ ℕ). entries_with v.drawn v.seen) c.in-Ok-split.ensures.rest ∙ c.in-Ok.ensures.mine in
    let a : length (mine one.0.0) ≡ length (mine c.split.new.pass) + one.0.1 = search rules in
    let b : length (mine one.1.0) ≡ length (mine c.in-Ok-split.second) + one.1.1 = search rules in
    let d : length (mine two.0.0) ≡ length (mine one.1.0) + two.0.1 = search rules in
    let e : length (mine two.1.0) ≡ length (mine one.0.0) + two.1.1 = search rules in
    omega (
      arith,
      a,
      b,
      d,
      e,
      ap length none,
      ap length c.in-Ok-split.ensures.mine,
      ap length c.close.ensures.mine,
      interleaves_length _ _ _ c.meet.ensures.mine,
    )
