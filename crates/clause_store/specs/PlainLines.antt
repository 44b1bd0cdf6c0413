-- Lines and refutations in memory as the lines of the definitions.
use Rattle.std.specs.Prelude.{List, map}
use Rattle.cqe_base.specs.Refutation.{RefutationLine}
use Rattle.clause_store.specs.declared.refutation.Line.{Line}
use Rattle.clause_store.specs.declared.refutation.Refutation.{Refutation}

-- the line that a Line in memory is
abbrev pub line_of : Line → RefutationLine
line_of line = record { clause = line.clause.items; chain = line.chain.items }

-- the lines of a Refutation in memory
abbrev pub lines_of : Refutation → List RefutationLine
lines_of refutation = map line_of refutation.lines.items
