use Rattle.replica.proofs.Keeping.{standby_keeps_up, standby_hides}
use Rattle.replica.proofs.law_standby.Goals as goal

pub returns-clause-kept : goal.returns-clause-kept
returns-clause-kept g c = standby_keeps_up

pub returns-clause-hides : goal.returns-clause-hides
returns-clause-hides g c = standby_hides c.law_hides.ensures c.law_prefix_legal.ensures
