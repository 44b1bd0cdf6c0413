use Rattle.std.proofs.Common.{◌∙◌, All, sym, subst, arith}
use Rattle.entailment.specs.Views.{LogView, schema_of, log_of, IsViewOf}
use Rattle.censors.specs.declared.lent.Lane.{Lane}
use Rattle.censors.proofs.Lanes.{one_is, pushed_some}
use Rattle.censors.proofs.lent.lend_lanes.Goals as goal

pub lend_more-requires : goal.lend_more-requires
lend_more-requires c =
    let views = c.args.views.now in
    subst (λ (w : LogView). All (λ (lane : Lane). IsViewOf (schema_of w) (log_of w) lane.view) c.push.new.self.items) (sym c.lend.ensures.same)
    (one_is (λ (lane : Lane). IsViewOf (schema_of views) (log_of views) lane.view) c.new-lanes.result.items c.push.new.self.items _ c.new-lanes.ensures.items
    c.in_ok-push.ensures.items (c.in_ok-view.ensures.schema, c.in_ok-view.ensures.log))

pub returns-clause-same : goal.returns-clause-same
returns-clause-same c = c.lend_more.ensures.same ∙ c.lend.ensures.same

pub returns-clause-some : goal.returns-clause-some
returns-clause-some c =
    let one = pushed_some c.new-lanes.result.items c.push.new.self.items _ c.in_ok-push.ensures.items in
    omega (arith, one, c.lend_more.ensures.more)

pub returns-clause-lent : goal.returns-clause-lent
returns-clause-lent c =
    subst (λ (w : LogView). All (λ (lane : Lane). IsViewOf (schema_of w) (log_of w) lane.view) c.lend_more.new.lanes.items) c.lend.ensures.same
    c.lend_more.ensures.lent
