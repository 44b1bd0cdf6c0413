use Rattle.sentence_text.proofs.GrammarIsRead.{sentences_read, one_sentence}
use Rattle.sentence_text.proofs.laws.law_sentences_read.Goals as goal

pub returns-clause-read : goal.returns-clause-read
returns-clause-read c = sentences_read

pub returns-clause-one : goal.returns-clause-one
returns-clause-one c = one_sentence
