use Rattle.std.proofs.Common.{◌<◌, [], sym, subst}
use Rattle.std.proofs.lemmas.List.{length-map}
use Rattle.std.proofs.lemmas.List.Elements.{All-push, All-nil}
use Rattle.entailment.specs.Views.{schema_of, log_of, IsViewOf}
use Rattle.censors.specs.declared.lent.Lane.{Lane}
use Rattle.censors.proofs.Lanes.{all_shown}
use Rattle.censors.proofs.lent.lend_held.Goals as goal

pub returns-then-count-lt2-clause-lent : goal.returns-then-count-lt2-clause-lent
returns-then-count-lt2-clause-lent c =
    let of = IsViewOf (schema_of c.args.views.now) (log_of c.args.views.now) in
    All-push of [] c.in_ok-view.view (All-nil of) (c.in_ok-view.ensures.schema, c.in_ok-view.ensures.log)

pub returns-clause-some : goal.returns-clause-some
returns-clause-some c =
    subst (λ n. 0 < n) (sym (length-map c.in_ok-lanes.lanes.items (λ (lane : Lane). lane.view))) c.in_ok-lanes.ensures.some

pub returns-clause-lent : goal.returns-clause-lent
returns-clause-lent c =
    all_shown (λ (lane : Lane). lane.view) (IsViewOf (schema_of c.args.views.now) (log_of c.args.views.now)) c.in_ok-lanes.lanes.items
    c.in_ok-lanes.ensures.lent
