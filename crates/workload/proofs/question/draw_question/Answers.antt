use Rattle.std.proofs.Common.{◌∙◌, ◌+◌, refl, arith}
use Rattle.workload.specs.Draws.{state_of}
use Rattle.workload.specs.Questions.{question_of}
use Rattle.workload.proofs.Asking.{state_at, draw_at}
use Rattle.workload.proofs.question.draw_question.Goals as goal

pub returns-clause-drawn : goal.returns-clause-drawn
returns-clause-drawn c = λ seed n at.
    let first = c.draw-form in
    let second = c.draw-person in
    let third = c.draw-other in
    let fourth = c.draw-disease in
    let one = state_at seed n (n + 1) (state_of c.args.draws.now) (state_of first.new.self) at first.ensures.state refl in
    let two = state_at seed (n + 1) (n + 2) (state_of first.new.self) (state_of second.new.self) one second.ensures.state (omega arith) in
    let three = state_at seed (n + 2) (n + 3) (state_of second.new.self) (state_of third.new.self) two third.ensures.state (omega arith) in
    c.question_of.ensures
    ∙ (λ i. question_of (draw_at seed n 6 (state_of c.args.draws.now) first.result at first.ensures.number i)
    (draw_at seed (n + 1) 40 (state_of first.new.self) second.result one second.ensures.number i)
    (draw_at seed (n + 2) 40 (state_of second.new.self) third.result two third.ensures.number i)
    (draw_at seed (n + 3) 12 (state_of third.new.self) fourth.result three fourth.ensures.number i))

pub returns-clause-after : goal.returns-clause-after
returns-clause-after c = λ seed n at.
    let one = state_at seed n (n + 1) (state_of c.args.draws.now) (state_of c.draw-form.new.self) at c.draw-form.ensures.state refl in
    let two = state_at seed (n + 1) (n + 2) (state_of c.draw-form.new.self) (state_of c.draw-person.new.self) one c.draw-person.ensures.state (omega arith) in
    let three = state_at seed (n + 2) (n + 3) (state_of c.draw-person.new.self) (state_of c.draw-other.new.self) two c.draw-other.ensures.state (omega arith) in
    state_at seed (n + 3) (n + 4) (state_of c.draw-other.new.self) (state_of c.draw-disease.new.self) three c.draw-disease.ensures.state (omega arith)
