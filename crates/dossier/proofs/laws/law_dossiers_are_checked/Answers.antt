use Rattle.dossier.proofs.CheckedDossiers.{dossiers_are_checked}
use Rattle.dossier.proofs.laws.law_dossiers_are_checked.Goals as goal

pub returns : goal.returns
returns c =
    dossiers_are_checked c.law_entailment.ensures c.law_refutation_entails.ensures c.law_sound_grows.ensures.empty c.law_sound_grows.ensures.grows
    c.law_verdicts.ensures
