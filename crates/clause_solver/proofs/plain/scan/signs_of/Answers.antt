use Rattle.std.proofs.Common.{◌≡◌, ◌++◌, ◌∷◌, [], reverse, ap, ◌∙◌}
use Rattle.cqe_base.specs.Literal.{Positive}
use Rattle.cqe_base.specs.Machine.{is_true}
use Rattle.clause_solver.proofs.Trails.{signs_step}
use Rattle.clause_solver.proofs.plain.scan.signs_of.Goals as goal

pub loop-v-preserved : goal.loop-v-preserved
loop-v-preserved c =
    let trail = reverse c.args.trail.now in
    let sign : c.is_true.result ≡ is_true trail (Positive c.loop-v.v) = c.is_true.ensures ∙ ap (is_true trail) c.positive.ensures in
    signs_step (λ v. is_true trail (Positive v)) c.loop-v.signs.items c.push.new.self.items c.loop-v.v c.args.variables c.loop-v-test.true
    (c.in_ok-push.ensures.items ∙ ap (λ b. c.loop-v.signs.items ++ b ∷ []) sign)
    ∙ c.loop-v.invariant
