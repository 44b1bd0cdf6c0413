use Rattle.dossier.proofs.Accepting.{dossiers_are_accepted, served_are_accepted, names-have-no-feed}
use Rattle.dossier.proofs.laws.law_dossiers_are_accepted.Goals as goal

pub returns-clause-accepted : goal.returns-clause-accepted
returns-clause-accepted c = dossiers_are_accepted

pub returns-clause-served : goal.returns-clause-served
returns-clause-served c = served_are_accepted

pub returns-clause-names : goal.returns-clause-names
returns-clause-names c = names-have-no-feed
