use Rattle.std.proofs.Common.{◌∙◌, refl, sym, subst}
use Rattle.std.specs.Prelude.{Some}
use Rattle.std.proofs.lemmas.List.Elements.{All-pop}
use Rattle.entailment.specs.Views.{LogView, schema_of, log_of, IsViewWithin}
use Rattle.censors.specs.declared.lent.Lane.{Lane}
use Rattle.censors.proofs.lent.put_lanes.Goals as goal

pub loop-lane-init : goal.loop-lane-init
loop-lane-init c = record { same = refl; left = c.requires }

pub put-requires : goal.put-requires
put-requires c =
    let within = λ (lane : Lane). IsViewWithin (schema_of c.args.views.now) (log_of c.args.views.now) lane.view in
    subst (λ (w : LogView). IsViewWithin (schema_of w) (log_of w) c.in-Some.lane.view) (sym c.loop-lane.invariant.same)
    (All-pop within _ _ (Some c.in-Some.lane) c.in-Some.ensures.items c.loop-lane.invariant.left).1

pub loop-lane-preserved : goal.loop-lane-preserved
loop-lane-preserved c =
    let within = λ (lane : Lane). IsViewWithin (schema_of c.args.views.now) (log_of c.args.views.now) lane.view in
    record {
      same = c.put.ensures ∙ c.loop-lane.invariant.same;
      left = (All-pop within _ _ (Some c.in-Some.lane) c.in-Some.ensures.items c.loop-lane.invariant.left).0;
    }
