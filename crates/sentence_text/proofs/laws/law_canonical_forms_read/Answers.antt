use Rattle.sentence_text.proofs.RoundTrip.{canonical_forms_read}
use Rattle.sentence_text.proofs.laws.law_canonical_forms_read.Goals as goal

pub returns : goal.returns
returns c = canonical_forms_read
