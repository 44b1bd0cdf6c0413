use Rattle.std.proofs.Common.{sym, ap, subst, ◌∙◌}
use Rattle.entailment.specs.Logs.{IsSmallLog, told_log}
use Rattle.entailment.specs.Views.{schema_of, log_of, IsLogBeginning}
use Rattle.entailment.proofs.views.Views.lend.Goals as goal

pub follow-requires-clause-small : goal.follow-requires-clause-small
follow-requires-clause-small c =
    let v = c.self.inside in
    let log = told_log v.log.items in
    let within = c.in_ok-view.ensures.within log c.self.invariant.spares in
    subst (λ items. IsSmallLog (schema_of c.in_ok-view.view) (told_log items)) (sym c.as_slice.ensures.value)
    (subst (λ s. IsSmallLog s log) (sym within.0) c.self.invariant.small)

pub follow-requires-clause-begins : goal.follow-requires-clause-begins
follow-requires-clause-begins c =
    let log = told_log c.self.inside.log.items in
    let within = c.in_ok-view.ensures.within log c.self.invariant.spares in
    subst (λ items. IsLogBeginning (log_of c.in_ok-view.view) (told_log items)) (sym c.as_slice.ensures.value) within.1

pub invariant_of-self : goal.invariant_of-self
invariant_of-self c =
    let log = told_log c.self.inside.log.items in
    record { small = c.self.invariant.small; spares = c.take_view.ensures.left log c.self.invariant.spares }

pub invariant_of-self-2 : goal.invariant_of-self-2
invariant_of-self-2 c =
    let log = told_log c.self.inside.log.items in
    record { small = c.self.invariant.small; spares = c.take_view.ensures.left log c.self.invariant.spares }

pub invariant_of-self-in_err-follow : goal.invariant_of-self-in_err-follow
invariant_of-self-in_err-follow c =
    let log = told_log c.self.inside.log.items in
    record { small = c.self.invariant.small; spares = c.take_view.ensures.left log c.self.invariant.spares }

pub returns-clause-schema : goal.returns-clause-schema
returns-clause-schema c =
    let within = c.in_ok-view.ensures.within (told_log c.self.inside.log.items) c.self.invariant.spares in
    c.follow.ensures.schema ∙ within.0 ∙ ap schema_of c.self.view_is

pub returns-clause-log : goal.returns-clause-log
returns-clause-log c = c.in_ok-follow.ensures.log ∙ ap told_log c.as_slice.ensures.value ∙ ap log_of c.self.view_is
