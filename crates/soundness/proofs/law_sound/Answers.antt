use Rattle.soundness.proofs.Sounding.{sound_histories_hide}
use Rattle.soundness.proofs.law_sound.Goals as goal

pub returns : goal.returns
returns c = sound_histories_hide
