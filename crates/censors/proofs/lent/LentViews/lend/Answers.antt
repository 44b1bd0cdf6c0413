use Rattle.entailment.specs.Views.{schema_of, log_of}
use Rattle.censors.specs.Lent.{held_views}
use Rattle.censors.proofs.Lanes.{first_is, together_is}
use Rattle.censors.proofs.lent.LentViews.lend.Goals as goal

pub invariant_of-result : goal.invariant_of-result
invariant_of-result c =
    let lent = c.in_ok-held.ensures in
    together_is (schema_of c.args.views.now) (log_of c.args.views.now) (held_views c.in_ok-held.held) lent.some lent.lent

pub returns-clause-schema : goal.returns-clause-schema
returns-clause-schema c =
    let lent = c.in_ok-held.ensures in
    (first_is (schema_of c.args.views.now) (log_of c.args.views.now) (held_views c.in_ok-held.held) lent.some lent.lent).0

pub returns-clause-log : goal.returns-clause-log
returns-clause-log c =
    let lent = c.in_ok-held.ensures in
    (first_is (schema_of c.args.views.now) (log_of c.args.views.now) (held_views c.in_ok-held.held) lent.some lent.lent).1
