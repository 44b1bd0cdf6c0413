use Rattle.std.proofs.Common.{◌&&◌, map, sym, ap, ◌∙◌}
use Rattle.cqe_base.specs.Entailment.{all_hold_in}
use Rattle.cqe_base.specs.History.{profile_of, answered_query_of, told}
use Rattle.dossier.proofs.Truths.{log-holds}
use Rattle.dossier.proofs.blocks.Told.is_true_in.Goals as goal

pub returns-then-knows_truth : goal.returns-then-knows_truth
returns-then-knows_truth c =
    let schema = c.args.self.schema.now in
    let entries = map answered_query_of c.args.self.entries.now in
    c.tells_truth.ensures
    ∙ sym (log-holds schema c.args.world.now (profile_of c.args.self.user.now) entries
    ∙ ap (λ b. b && all_hold_in schema c.args.world.now (told entries)) (sym c.knows_truth.ensures ∙ c.if-knows_truth.true))

pub returns-else-knows_truth : goal.returns-else-knows_truth
returns-else-knows_truth c =
    let schema = c.args.self.schema.now in
    let entries = map answered_query_of c.args.self.entries.now in
    c.if-knows_truth.false
    ∙ sym (log-holds schema c.args.world.now (profile_of c.args.self.user.now) entries
    ∙ ap (λ b. b && all_hold_in schema c.args.world.now (told entries)) (sym c.knows_truth.ensures ∙ c.if-knows_truth.false))
