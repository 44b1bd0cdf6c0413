use Rattle.dossier.proofs.Shown.{checked_are_sound}
use Rattle.dossier.proofs.laws.law_checked_is_sound.Goals as goal

pub returns : goal.returns
returns c =
    checked_are_sound c.law_entailment.ensures c.law_refutation_entails.ensures c.law_sound_grows.ensures.empty c.law_sound_grows.ensures.grows
    c.law_verdicts.ensures
