-- The command `case`: a script with one user, from the input to the output.
-- Ends: Case, Memory.
use Rattle.std.specs.Prelude.{IsOk}
use Rattle.case_engine.specs.Case as case
use Rattle.case_engine.specs.Script.{script_of}
use Rattle.case_engine.specs.declared.case.CaseEnd.{CaseEnd}
use Rattle.cqe_top.specs.declared.end.CommandEnd.{CommandEnd}
use Rattle.cqe_top.specs.declared.end.CommandEnd.TheVariants as command_end
use Rattle.cqe_top.specs.Reports.{IsDoneUnlessMemory}
use Rattle.cqe_top.specs.Scene.{Scene, IsUntouched, HasRisen, SameShelf, SameOutput, SameLinks}

module _ (s : Scene) where
  -- it ran: what its end says of the script that is read and of what is written; where nothing is,
  -- the output is as it was
  pub record RunsCase (end : CaseEnd) : Type 0 where
    pub answers : s.input.tells → s.output.tells
        → case.EndsCase end s.input.left s.input.left' s.output.written s.output.written'
    pub silent : case.IsSilent end → SameOutput s.output
    pub shelf_same : SameShelf s.shelf
    pub listens_nowhere : SameLinks s.links

  -- the ends that it may have
  abbrev pub CaseEnds : CommandEnd → Type 0
  CaseEnds (command_end.Case engine_end) = RunsCase engine_end
  CaseEnds command_end.Memory = IsUntouched s
  CaseEnds end = ⊥

  -- `case`; where no fault comes, a script that is right is answered whole unless memory is wanting
  pub record OfCase (end : CommandEnd) : Type 0 where
    pub ends : CaseEnds end
    pub succeeds : s.input.tells → s.output.tells → IsOk (script_of s.input.left)
        → (HasRisen s.input.faults → ⊥) → (HasRisen s.output.faults → ⊥) → IsDoneUnlessMemory end
