use Rattle.std.proofs.Common.{◌<◌, sym, ◌∙◌, subst}
use Rattle.truth_eval.proofs.Constants.{all_pass_next, none_passes_next, one_fails, one_passes}
use Rattle.truth_eval.proofs.evaluation.+evaluation.Goals as goal

pub holds_for_each-loop-index-preserved : goal.holds_for_each-loop-index-preserved
holds_for_each-loop-index-preserved t c =
    all_pass_next _ c.args.domain c.loop-index.index c.loop-index.invariant (sym c.holds_with.ensures ∙ c.if-not-holds_with.false)

pub holds_for_each-returns-then-not-holds_with : goal.holds_for_each-returns-then-not-holds_with
holds_for_each-returns-then-not-holds_with t c =
    sym (one_fails _ c.args.domain _ c.loop-index.index (subst (λ n. c.loop-index.index < n) c.domain_size-index-end.ensures.size c.loop-index-test.true)
    (sym c.holds_with.ensures ∙ c.if-not-holds_with.true))

pub holds_for_some-loop-index-preserved : goal.holds_for_some-loop-index-preserved
holds_for_some-loop-index-preserved t c =
    none_passes_next _ c.args.domain c.loop-index.index c.loop-index.invariant (sym c.holds_with.ensures ∙ c.if-holds_with.false)

pub holds_for_some-returns-then-holds_with : goal.holds_for_some-returns-then-holds_with
holds_for_some-returns-then-holds_with t c =
    sym (one_passes _ c.args.domain _ c.loop-index.index (subst (λ n. c.loop-index.index < n) c.domain_size-index-end.ensures.size c.loop-index-test.true)
    (sym c.holds_with.ensures ∙ c.if-holds_with.true))
