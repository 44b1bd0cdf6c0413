use Rattle.std.proofs.Common.{◌≡◌, ◌≤◌, [], map, Ok}
use Rattle.cqe_base.specs.Schema.{DatabaseSchema, Text}
use Rattle.cqe_base.specs.Facts.{FactSet}
use Rattle.cqe_base.specs.History.{UserProfile}
use Rattle.clause_store.specs.PlainLines.{line_of}
use Rattle.dossier.specs.Checked.{Showing, step}
use Rattle.dossier.specs.Reading.{answer, bytes_left}
use Rattle.dossier.proofs.blocks.read_refutation.Given as goal

-- the lines so far were read
abbrev pub invariant-loop-field : goal.invariant-loop-field
invariant-loop-field l = record {
  reads : (schema : DatabaseSchema) (world : FactSet) (name : Text) (user : UserProfile) (showing : Showing)
      → answer schema world name user (Ok (step showing [])) l.initial.lines
      ≡ answer schema world name user (Ok (step showing (map line_of l.read.items))) l.lines;
  less : bytes_left l.lines ≤ bytes_left l.initial.lines;
}

abbrev pub decreases-loop-field : goal.decreases-loop-field
decreases-loop-field l = bytes_left l.lines
