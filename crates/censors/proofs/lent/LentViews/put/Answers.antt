use Rattle.entailment.specs.Views.{schema_of, log_of}
use Rattle.censors.specs.Lent.{held_views}
use Rattle.censors.proofs.Lanes.{all_within}
use Rattle.censors.proofs.lent.LentViews.put.Goals as goal

pub put_held-requires : goal.put_held-requires
put_held-requires c =
    all_within (schema_of c.args.views.now) (log_of c.args.views.now) (held_views c.self.inside.held) c.args.self c.self.view_is c.self.invariant c.requires
