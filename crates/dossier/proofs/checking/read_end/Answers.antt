use Rattle.dossier.specs.Checked.{nothing}
use Rattle.dossier.proofs.ReadLines.{answer-line, answer-end}
use Rattle.dossier.proofs.checking.read_end.Goals as goal

pub returns-in-Some : goal.returns-in-Some
returns-in-Some c schema world name user entries =
    answer-line schema world name user (nothing entries) c.args.lines.now c.take_field.new.self c.in-Some.field (rw c.in-Some.is at c.take_field.ensures.passes)

pub returns-in-None : goal.returns-in-None
returns-in-None c schema world name user entries =
    answer-end schema world name user (nothing entries) c.args.lines.now c.take_field.new.self (rw c.in-None.is at c.take_field.ensures.passes)
