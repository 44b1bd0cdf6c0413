-- What the bytes of a facts file are as a world, or why they are refused.
use Rattle.std.specs.Prelude.{ℕ, ◌+◌, ◌==◌, Bool, true, not, ◌&&◌, nat_le, List, [], ◌∷◌, Option}
use Rattle.std.specs.Prelude.{Some, None, Result, Ok, Err, if◌then◌else◌}
use Rattle.std.specs.Str.{is_utf8}
use Rattle.std.specs.FinSet as set
use Rattle.cqe_base.specs.declared.world.Fact.{Fact}
use Rattle.cqe_base.specs.Schema.{Text, DatabaseSchema}
use Rattle.cqe_base.specs.Facts.{FactSet}
use Rattle.cqe_base.specs.FactText.{stated_fact}
use Rattle.cqe_base.specs.Tokens.{is_blank}
use Rattle.cqe_base.specs.Lines.{TextLine, text_lines, content, is_too_long}
use Rattle.policy_files.specs.declared.error.FactsError.{FactsError}
use Rattle.policy_files.specs.declared.error.FactsError.TheVariants.{NotAFact, Limit, NotUtf8}

-- a line of blanks alone, and one whose first byte after blanks is `#`, says nothing
abbrev pub says_nothing : Text → Bool
says_nothing [] = true
says_nothing (b ∷ rest) = if is_blank b then says_nothing rest else b == 35

-- the fact that a line of at most 4,096 bytes states
abbrev pub fact_of_line : DatabaseSchema → TextLine → Option Fact
fact_of_line schema line = if is_too_long line then None else stated_fact schema (content line)

-- the world with one more fact, of which there are at most 100,000
abbrev pub with_fact : ℕ → FactSet → Option Fact → Result FactSet FactsError
with_fact number world None = Err (NotAFact number)
with_fact number world (Some fact) =
    if nat_le 100000 (set.len world) && not (set.contains world fact) then Err (Limit number)
    else Ok (set.insert world fact)

-- the world with what one more line says
abbrev pub with_line : DatabaseSchema → ℕ → FactSet → TextLine → Result FactSet FactsError
with_line schema number world line =
    if says_nothing (content line) then Ok world
    else with_fact number world (fact_of_line schema line)

infixl 10 ◌>>=◌
-- what follows lines that were read, unless one of them is refused
abbrev pub ◌>>=◌ : Result FactSet FactsError → (FactSet → Result FactSet FactsError)
    → Result FactSet FactsError
(Ok world) >>= rest = rest world
(Err why) >>= rest = Err why

-- the world with what the lines from this number on say, up to the first that is refused
abbrev pub with_lines : DatabaseSchema → ℕ → FactSet → List TextLine → Result FactSet FactsError
with_lines schema number world [] = Ok world
with_lines schema number world (line ∷ lines) =
    with_line schema number world line >>= λ next. with_lines schema (number + 1) next lines

-- the world that the bytes of a facts file are, or the first line that is refused
unfoldable pub facts_of : DatabaseSchema → List ℕ → Result FactSet FactsError
facts_of schema bytes =
    if is_utf8 bytes then with_lines schema 1 set.empty (text_lines bytes) else Err NotUtf8
