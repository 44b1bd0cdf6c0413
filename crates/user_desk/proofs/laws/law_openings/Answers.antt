use Rattle.user_desk.proofs.Deciding.{opens_or_not, opens_once}
use Rattle.user_desk.proofs.Refusing.{not_refused}
use Rattle.user_desk.proofs.laws.law_openings.Goals as goal

pub returns-clause-decided : goal.returns-clause-decided
returns-clause-decided c = opens_or_not

pub returns-clause-once : goal.returns-clause-once
returns-clause-once c = opens_once

pub returns-clause-unrefused : goal.returns-clause-unrefused
returns-clause-unrefused c = not_refused
