use Rattle.std.proofs.Common.{All, subst, arith}
use Rattle.entailment.specs.Views.{schema_of, log_of, IsViewWithin}
use Rattle.censors.specs.Lent.{held_views}
use Rattle.censors.specs.declared.lent.Held.{Held}
use Rattle.censors.specs.declared.lent.Lane.{Lane}
use Rattle.censors.proofs.Lanes.{all_in}
use Rattle.censors.proofs.lent.put_held.Goals as goal

pub put-requires : goal.put-requires
put-requires c =
    let within = IsViewWithin (schema_of c.args.views.now) (log_of c.args.views.now) in
    (subst (λ (h : Held). All within (held_views h)) c.in-One.is c.requires) 0 c.in-One.view (omega arith)

pub put_lanes-requires : goal.put_lanes-requires
put_lanes-requires c =
    let within = IsViewWithin (schema_of c.args.views.now) (log_of c.args.views.now) in
    all_in (λ (lane : Lane). lane.view) within c.in-Several.lanes.items (subst (λ (h : Held). All within (held_views h)) c.in-Several.is c.requires)
