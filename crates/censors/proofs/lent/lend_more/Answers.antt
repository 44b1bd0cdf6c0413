use Rattle.std.proofs.Common.{◌∙◌, All, sym, subst, arith}
use Rattle.entailment.specs.Views.{LogView, schema_of, log_of, IsViewOf}
use Rattle.censors.specs.declared.lent.Lane.{Lane}
use Rattle.censors.proofs.lent.lend_more.Goals as goal

pub lend_one-requires : goal.lend_one-requires
lend_one-requires c =
    subst (λ (w : LogView). All (λ (lane : Lane). IsViewOf (schema_of w) (log_of w) lane.view) c.loop.lanes.items) (sym c.loop.invariant.same)
    c.loop.invariant.lent

pub loop-preserved : goal.loop-preserved
loop-preserved c =
    let before = c.loop.invariant in
    let now = c.lend_one.ensures in
    record {
      same = now.same ∙ before.same;
      more = omega (arith, before.more, now.more);
      lent = subst (λ (w : LogView). All (λ (lane : Lane). IsViewOf (schema_of w) (log_of w) lane.view) c.lend_one.new.lanes.items) before.same now.lent;
    }
