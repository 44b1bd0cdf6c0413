-- A line in memory.
use Rattle.cqe_base.specs.Lines.{TextLine}
use Rattle.policy_files.specs.declared.lines.Line.{Line}

-- the line that a Line in memory is
abbrev pub line_of : Line → TextLine
line_of line = record { bytes = line.bytes.now; ended = line.ended }
