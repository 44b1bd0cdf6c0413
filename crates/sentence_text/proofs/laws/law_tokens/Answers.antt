use Rattle.sentence_text.proofs.Slices.{has_tokens}
use Rattle.sentence_text.proofs.laws.law_tokens.Goals as goal

pub returns : goal.returns
returns c = has_tokens
