use Rattle.soundness.proofs.Sounding.{legal_histories_are_sound}
use Rattle.soundness.proofs.law_legal_sound.Goals as goal

pub returns : goal.returns
returns c = legal_histories_are_sound
