-- The fact that a text states.
use Rattle.std.specs.Prelude.{[], map, Option, Some, None, Result, Ok, Err, if◌then◌else◌}
use Rattle.cqe_base.specs.declared.world.Fact.{Fact}
use Rattle.cqe_base.specs.declared.text.Symbol.TheVariants.{Open}
use Rattle.cqe_base.specs.Schema.{DatabaseSchema, Text}
use Rattle.cqe_base.specs.Facts.{fact_of}
use Rattle.cqe_base.specs.Formula.{Formula, atom}
use Rattle.cqe_base.specs.Truth.{value_of}
use Rattle.cqe_base.specs.Tokens.{tokens}
use Rattle.cqe_base.specs.Reading.{Refusal, reading, is_next}

-- the fact that a sentence is, if it is a relation of constants
abbrev pub fact_in : Formula → Option Fact
fact_in (atom relation terms) = Some (fact_of relation (map (λ t. (value_of [] t).index) terms))
fact_in _ = None

-- the fact that a sentence which was read states, if it is an atom
abbrev pub fact_read : Result Formula Refusal → Option Fact
fact_read (Ok sentence) = fact_in sentence
fact_read (Err refusal) = None

-- the fact that a text states: it is a sentence that is a relation of constants, and has no
-- parentheses around it
unfoldable pub stated_fact : DatabaseSchema → Text → Option Fact
stated_fact schema text =
    if is_next Open (tokens text) then None else fact_read (reading schema text)
