use Rattle.std.proofs.Common.{◌&&◌, not, map, sym, ap, ◌∙◌}
use Rattle.cqe_base.specs.Entailment.{holds_in}
use Rattle.cqe_base.specs.History.{profile_of, answered_query_of, log}
use Rattle.entailment.specs.Probes.{premise_of, goal_of}
use Rattle.dossier.proofs.Truths.{hold-append}
use Rattle.dossier.proofs.blocks.is_countermodel.Goals as goal

pub returns : goal.returns
returns c =
    let schema = c.args.told.schema.now in
    let world = c.args.world.now in
    let known = log (profile_of c.args.told.user.now) (map answered_query_of c.args.told.entries.now) in
    c.shows_open.ensures
    ∙ (λ i. (c.is_true_in-first.ensures i && c.premise_holds-premise.ensures i) && not (c.signed_holds-goal.ensures i))
    ∙ ap (λ b. b && not (holds_in schema world (goal_of c.args.probe.now))) (sym (hold-append schema world known (premise_of c.args.probe.now)))
