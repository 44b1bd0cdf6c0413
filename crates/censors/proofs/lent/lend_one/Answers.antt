use Rattle.entailment.specs.Views.{schema_of, log_of, IsViewOf}
use Rattle.censors.specs.declared.lent.Lane.{Lane}
use Rattle.censors.proofs.Lanes.{pushed_all, pushed_longer}
use Rattle.censors.proofs.lent.lend_one.Goals as goal

pub returns-clause-more : goal.returns-clause-more
returns-clause-more c = pushed_longer c.args.lanes.now.items _ _ c.push-kept.result c.push-kept.ensures.items

pub returns-clause-lent : goal.returns-clause-lent
returns-clause-lent c =
    let views = c.args.views.now in
    pushed_all (λ (lane : Lane). IsViewOf (schema_of views) (log_of views) lane.view) c.args.lanes.now.items _ _ c.push-kept.result
    c.push-kept.ensures.items c.requires (c.in-Ok.ensures.schema, c.in-Ok.ensures.log)
