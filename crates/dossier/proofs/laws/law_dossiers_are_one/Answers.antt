use Rattle.dossier.proofs.OneDossier.{dossiers_are_one}
use Rattle.dossier.proofs.laws.law_dossiers_are_one.Goals as goal

pub returns : goal.returns
returns c = dossiers_are_one c.law_machine_has_one_end.ensures
