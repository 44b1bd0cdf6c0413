use Rattle.std.proofs.Common.{ap, ◌∙◌}
use Rattle.cqe_base.specs.Formula.{formula_of}
use Rattle.cqe_base.specs.Truth.{same_truth}
use Rattle.dossier.proofs.Truths.{signed-told, unsigned-told}
use Rattle.dossier.proofs.past.is_true_there.Goals as goal

pub returns-in-Some : goal.returns-in-Some
returns-in-Some c =
    c.is_truth.ensures ∙ ap (same_truth c.in-Some.yes) c.holds.ensures
    ∙ signed-told c.args.schema.now c.args.world.now c.args.entry.now.mark (formula_of c.args.entry.now.query) c.in-Some.yes c.in-Some.ensures

pub returns-in-None : goal.returns-in-None
returns-in-None c =
    unsigned-told c.args.schema.now c.args.world.now c.args.entry.now.mark (formula_of c.args.entry.now.query) c.in-None.ensures
