use Rattle.std.proofs.Common.{◌≡◌, ◌+◌, ◌++◌, List, ℕ, Result, Ok, Err, length, take, sym, ap, ◌∙◌, arith, length-take}
use Rattle.std.specs.Result.{OnErr}
use Rattle.std.proofs.lemmas.List.{take_at, take-take}
use Rattle.standby_core.proofs.Filling.{part_filled}
use Rattle.standby_core.proofs.frame.FrameRoom.take_up_to.Goals as goal

pub returns-clause-front : goal.returns-clause-front
returns-clause-front g c =
    let inside = c.self.inside in
    let front = take inside.length inside.bytes in
    let size : length front ≡ inside.length = omega (arith, length-take inside.length inside.bytes) in
    let held : length c.args.self.now ≡ inside.length = sym (ap length c.self.view_is) ∙ size in
    rw held (take-take inside.length (inside.length + c.in_ok-count.count) _ (omega arith) ∙ take_at front _ inside.length size ∙ c.self.view_is)

pub returns-clause-moved : goal.returns-clause-moved
returns-clause-moved g c told =
    let inside = c.self.inside in
    let n : ℕ = c.in_ok-count.count in
    let front = take inside.length inside.bytes in
    let size : length front ≡ inside.length = omega (arith, length-take inside.length inside.bytes) in
    let whole : inside.length + n ≡ length front + n = omega (arith, size) in
    rw whole
    (sym (part_filled front _ _ _ _ _ n (c.in_ok-count.ensures.moved told)
    ∙ ap (λ (l : List ℕ). l ++ g.S.Source.left c.args.source.now) c.self.view_is))

always_err : {T E : Type 0} (r : Result T E) (P : Type 0) → P → OnErr r P
always_err (Ok x) P p = tt
always_err (Err e) P p = p

pub returns-in_err-count-clause-same : goal.returns-in_err-count-clause-same
returns-in_err-count-clause-same g c =
    let inside = c.self.inside in
    let front = take inside.length inside.bytes in
    let size : length front ≡ inside.length = omega (arith, length-take inside.length inside.bytes) in
    always_err c.from_residual.result _ (take_at front _ inside.length size ∙ c.self.view_is)
