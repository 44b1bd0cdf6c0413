use Rattle.std.proofs.Common.{sym, ap}
use Rattle.std.proofs.lemmas.Bool.{both_ways}
use Rattle.dossier.specs.Written.{sign_text}
use Rattle.dossier.proofs.Opened.{negative-sign}
use Rattle.dossier.proofs.printed.sign_of.Goals as goal

pub returns-then-is_positive : goal.returns-then-is_positive
returns-then-is_positive c = ap sign_text (sym (c.is_positive.ensures.0 c.if-is_positive.true))

pub returns-else-is_positive : goal.returns-else-is_positive
returns-else-is_positive c = negative-sign c.args.literal (λ is. both_ways _ c.if-is_positive.false (c.is_positive.ensures.1 is))
