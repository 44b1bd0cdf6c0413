use Rattle.cqe_top.proofs.Users.{names_differ, names_proper}
use Rattle.cqe_top.proofs.files.policy_of.Goals as goal

pub returns-in-Ok-clause-names : goal.returns-in-Ok-clause-names
returns-in-Ok-clause-names c = names_differ c.in-Ok.policy c.in-Ok.ensures.kept

pub returns-in-Ok-clause-proper : goal.returns-in-Ok-clause-proper
returns-in-Ok-clause-proper c = names_proper c.in-Ok.policy c.in-Ok.ensures.kept
