use Rattle.std.proofs.Common.{◌≡◌, length}
use Rattle.std.specs.FinSet as set
use Rattle.cqe_base.specs.Lines.{text_lines}
use Rattle.policy_files.specs.Facts.{with_lines}
use Rattle.policy_files.proofs.facts.world_of_lines.Given as goal

-- the lines that are left are read behind those so far
abbrev pub invariant-loop-left : goal.invariant-loop-left
invariant-loop-left l = with_lines l.schema l.number l.world (text_lines l.left) ≡ with_lines l.schema 1 set.empty (text_lines l.bytes)

abbrev pub decreases-loop-left : goal.decreases-loop-left
decreases-loop-left l = length l.left
