use Rattle.sentence_text.proofs.Slices.{sentences_are_ascii}
use Rattle.sentence_text.proofs.laws.law_sentences_are_ascii.Goals as goal

pub returns : goal.returns
returns c = sentences_are_ascii c.law_reading.ensures.derived
