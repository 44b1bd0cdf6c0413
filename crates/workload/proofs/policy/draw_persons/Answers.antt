use Rattle.std.proofs.Common.{◌+◌, ◌∷◌, [], refl, arith}
use Rattle.workload.specs.Draws.{state_of}
use Rattle.workload.proofs.Asking.{state_at, draw_at}
use Rattle.workload.proofs.policy.draw_persons.Goals as goal

pub returns-clause-drawn : goal.returns-clause-drawn
returns-clause-drawn c = λ seed n at.
    let one = state_at seed n (n + 1) (state_of c.args.draws.now) (state_of c.draw-first.new.self) at c.draw-first.ensures.state refl in
    let two = state_at seed (n + 1) (n + 2) (state_of c.draw-first.new.self) (state_of c.draw-second.new.self) one c.draw-second.ensures.state (omega arith) in
    λ i. draw_at seed n 40 (state_of c.args.draws.now) c.draw-first.result at c.draw-first.ensures.number i
    ∷ draw_at seed (n + 1) 40 (state_of c.draw-first.new.self) c.draw-second.result one c.draw-second.ensures.number i
    ∷ draw_at seed (n + 2) 40 (state_of c.draw-second.new.self) c.draw.result two c.draw.ensures.number i ∷ []

pub returns-clause-after : goal.returns-clause-after
returns-clause-after c = λ seed n at.
    let one = state_at seed n (n + 1) (state_of c.args.draws.now) (state_of c.draw-first.new.self) at c.draw-first.ensures.state refl in
    let two = state_at seed (n + 1) (n + 2) (state_of c.draw-first.new.self) (state_of c.draw-second.new.self) one c.draw-second.ensures.state (omega arith) in
    state_at seed (n + 2) (n + 3) (state_of c.draw-second.new.self) (state_of c.draw.new.self) two c.draw.ensures.state (omega arith)
