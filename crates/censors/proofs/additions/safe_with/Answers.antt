use Rattle.std.proofs.Common.{◌∙◌}
use Rattle.cqe_base.specs.Formula.{formula_of}
use Rattle.cqe_base.specs.History.{profile_of}
use Rattle.entailment.specs.Views.{log_of}
use Rattle.entailment.specs.Probes.{outcome_found}
use Rattle.censors.proofs.Adding.{safe_by}
use Rattle.censors.proofs.additions.safe_with.Goals as goal

pub returns-clause-safe : goal.returns-clause-safe
returns-clause-safe c =
    c.is_open.ensures
    ∙ safe_by c.args.schema.now (profile_of c.args.user.now) (log_of c.args.view.now) (formula_of c.args.secret.now) (formula_of c.in_ok-goal.goal)
    (outcome_found c.in_ok-found.found) c.in_ok-goal.ensures c.in_ok-found.ensures.outcome
