-- Answers by their numbers.
use Rattle.std.specs.Prelude.{◌<◌, List, [], ◌∷◌, All}
use Rattle.batch_engine.specs.declared.answer.Answer.{Answer}

-- the number of each is less than those of all behind it
abbrev pub AreNumbered : List Answer → Type 0
AreNumbered [] = Unit {0}
AreNumbered (answer ∷ answers) =
    All (λ other. answer.number < other.number) answers × AreNumbered answers
