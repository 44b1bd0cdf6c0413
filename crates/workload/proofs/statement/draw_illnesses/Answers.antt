use Rattle.std.proofs.Common.{◌∙◌, sym, [], ◌∷◌, ◌++◌}
use Rattle.workload.specs.Draws.{state_of}
use Rattle.workload.proofs.Drawing.{no_illness, illnesses_more, illness_drawn}
use Rattle.workload.proofs.statement.draw_illnesses.Goals as goal

pub loop-number-init : goal.loop-number-init
loop-number-init c = λ seed at. (c.new-all.ensures.items ∙ sym (no_illness seed), at)

pub loop-number-preserved : goal.loop-number-preserved
loop-number-preserved c = λ seed at.
    let so_far = c.loop-number.invariant seed at in
    let n = c.loop-number._number in
    let person = c.draw-person.ensures in
    let disease = c.draw-disease.ensures in
    let more = illness_drawn seed n (state_of c.loop-number.draws) c.draw-person.result c.draw-disease.result (state_of c.draw-disease.new.self)
    (state_of c.draw-person.new.self)
    so_far.1 person.number person.state disease.number disease.state in
    (c.in_ok-push.ensures.items ∙ (λ i. so_far.0 i ++ more.is i ∷ []) ∙ sym (illnesses_more seed n), more.now)
