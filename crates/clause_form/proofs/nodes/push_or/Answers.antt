use Rattle.std.proofs.Common.{◌∙◌}
use Rattle.clause_form.proofs.Disjunctions.{or_pushed}
use Rattle.clause_form.proofs.nodes.push_or.Goals as goal

pub returns-clause-pushed : goal.returns-clause-pushed
returns-clause-pushed c =
    or_pushed _ _ _ c.args.variable _ _ c.args.literals.now _ c.positive.ensures c.negative.ensures (c.deref.ensures.value ∙ c.in_ok-opposed.ensures)
    c.in_ok-push_edges.ensures.pushed c.in_ok-push_all.ensures.pushed
