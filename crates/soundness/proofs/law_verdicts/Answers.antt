use Rattle.soundness.proofs.Marking.{verdicts_give_marks}
use Rattle.soundness.proofs.law_verdicts.Goals as goal

pub returns : goal.returns
returns c = verdicts_give_marks
