use Rattle.soundness.proofs.Sounding.{empty_history_is_sound, sound_histories_grow}
use Rattle.soundness.proofs.law_sound_grows.Goals as goal

pub returns-clause-empty : goal.returns-clause-empty
returns-clause-empty c = empty_history_is_sound

pub returns-clause-grows : goal.returns-clause-grows
returns-clause-grows c = sound_histories_grow
