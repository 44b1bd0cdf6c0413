-- Guards in memory as sentences over a schema.
use Rattle.std.specs.Prelude.{All, map}
use Rattle.entailment.specs.GroundSentences.{sentence_of, IsGroundOver}
use Rattle.censors.specs.Guards.{GuardedSentences}
use Rattle.censors.specs.declared.guards.Guards.TheInside.{Inside}

-- the guards that the fields are
abbrev pub guards_inside : Inside → GuardedSentences
guards_inside g =
    record { schema = g.schema.now; sentences = map sentence_of g.sentences.items }

-- each sentence has its ground formula over the schema
abbrev pub AreGround : Inside → Type 0
AreGround g = All (IsGroundOver g.schema.now) g.sentences.items
