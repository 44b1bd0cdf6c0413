use Rattle.std.proofs.Common.{◌∙◌, sym}
use Rattle.proof_check.proofs.LiteralSets.{has_already}
use Rattle.proof_check.proofs.literal_set.LiteralSet.add.Goals as goal

pub returns-then-has : goal.returns-then-has
returns-then-has c = λ l. has_already c.args.self.now c.args.literal (sym c.has.ensures ∙ c.if-has.true) l
