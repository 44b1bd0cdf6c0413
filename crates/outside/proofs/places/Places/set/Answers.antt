use Rattle.std.proofs.Common.{arith}
use Rattle.std.proofs.lemmas.Map.Text.{text_keys}
use Rattle.outside.proofs.places.Places.set.Goals as goal

pub returns-clause-others : goal.returns-clause-others
returns-clause-others g c = λ other apart. grind (arith, text_keys)
