use Rattle.cqe_base.proofs.GrammarIsRead.{reading-sound}
use Rattle.cqe_base.proofs.OfSchema.{readings_are_sentences}
use Rattle.cqe_base.proofs.laws.law_reading.Goals as goal

pub returns-clause-derived : goal.returns-clause-derived
returns-clause-derived c = reading-sound

pub returns-clause-of_schema : goal.returns-clause-of_schema
returns-clause-of_schema c = readings_are_sentences
