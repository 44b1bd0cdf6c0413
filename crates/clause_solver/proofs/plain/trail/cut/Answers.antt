use Rattle.std.proofs.Common.{◌≡◌, ◌≤◌, reverse, sym, ap, ◌∙◌, arith}
use Rattle.cqe_base.specs.Machine.{level}
use Rattle.clause_solver.proofs.Trails.{cut-low}
use Rattle.clause_solver.proofs.plain.trail.cut.Goals as goal

pub returns : goal.returns
returns c =
    let items = c.loop-trail.trail.items in
    let same : level (reverse items) ≡ c.level.result = sym (c.level.ensures ∙ ap (λ t. level (reverse t)) c.deref.ensures.value) in
    let low : level (reverse items) ≤ c.args.k = omega (arith, c.loop-trail-test.false) in
    sym (cut-low c.args.k (reverse items) low) ∙ c.loop-trail.invariant
