use Rattle.std.specs.Prelude.{Some, None}
use Rattle.std.proofs.lemmas.List.Elements.{All-pop}
use Rattle.entailment.specs.Views.{IsViewWithin}
use Rattle.entailment.proofs.LogBeginnings.{none-within}
use Rattle.entailment.proofs.views.take_view.Goals as goal

pub returns-in-Some-clause-within : goal.returns-in-Some-clause-within
returns-in-Some-clause-within c log all = (All-pop (IsViewWithin c.args.schema.now log) _ _ (Some c.in-Some.view) c.in-Some.ensures.items all).1

pub returns-in-Some-clause-left : goal.returns-in-Some-clause-left
returns-in-Some-clause-left c log all = (All-pop (IsViewWithin c.args.schema.now log) _ _ (Some c.in-Some.view) c.in-Some.ensures.items all).0

pub returns-in_ok-view-in-None-clause-within : goal.returns-in_ok-view-in-None-clause-within
returns-in_ok-view-in-None-clause-within c log all =
    let made = c.in_ok-view-in-None in
    none-within c.args.schema.now log made.view made.ensures.schema made.ensures.log

pub returns-in_ok-view-in-None-clause-left : goal.returns-in_ok-view-in-None-clause-left
returns-in_ok-view-in-None-clause-left c log all = (All-pop (IsViewWithin c.args.schema.now log) _ _ None c.in-None.ensures.items all).0

pub returns-in_err-view-in-None-clause-left : goal.returns-in_err-view-in-None-clause-left
returns-in_err-view-in-None-clause-left c log all = (All-pop (IsViewWithin c.args.schema.now log) _ _ None c.in-None.ensures.items all).0
