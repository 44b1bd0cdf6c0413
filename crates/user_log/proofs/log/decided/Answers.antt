use Rattle.std.proofs.Common.{ap, ◌∙◌}
use Rattle.cqe_base.specs.Censor.{mark_by}
use Rattle.user_log.proofs.log.decided.Goals as goal

pub returns : goal.returns
returns c =
    let found = c.args.findings.now in
    c.decide.ensures
    ∙ ap (λ truth. mark_by c.args.user.now.method found.spent found.implied found.yes_harm found.no_harm truth) c.holds-truth.ensures
