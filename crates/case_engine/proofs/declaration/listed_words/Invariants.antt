use Rattle.std.proofs.Common.{◌≡◌, take, map}
use Rattle.sentence_text.specs.Upcoming.{token_of}
use Rattle.case_engine.specs.Statements.{listed_words}
use Rattle.case_engine.specs.Memory.{names_in}
use Rattle.case_engine.proofs.declaration.listed_words.Given as goal

abbrev pub invariant-loop-token : goal.invariant-loop-token
invariant-loop-token l = names_in l.names ≡ listed_words (map token_of (take l.token-index l.tokens))
