-- The command `selfrun`: a workload, run over nothing but memory, and its summary to the output.
-- Ends: Selfrun, Memory.
use Rattle.std.specs.Prelude.{◌≡◌, ℕ}
use Rattle.selfrun_engine.specs.Runs.{EndsSelfrun}
use Rattle.selfrun_engine.specs.declared.end.SelfrunEnd.{SelfrunEnd}
use Rattle.selfrun_engine.specs.declared.end.SelfrunEnd.TheVariants as selfrun_end
use Rattle.cqe_top.specs.declared.end.CommandEnd.{CommandEnd}
use Rattle.cqe_top.specs.declared.end.CommandEnd.TheVariants as command_end
use Rattle.cqe_top.specs.Reports.{IsDoneUnlessMemory}
use Rattle.cqe_top.specs.Scene.{Scene, IsUntouched, HasRisen, SameShelf, SameInput, SameOutput}
use Rattle.cqe_top.specs.Scene.{SameLinks}

module _ (s : Scene) (seed users asks : ℕ) where
  -- it ran: the summary counts the replies of the run of the workload of this seed, with so many
  -- users and asks, in which every journal was opened and no append failed; where memory was
  -- wanting, the output is as it was
  pub record RunsSelfrun (end : SelfrunEnd) : Type 0 where
    pub sums_up : s.output.tells
        → EndsSelfrun seed users asks end s.output.written s.output.written'
    pub silent : end ≡ selfrun_end.Memory → SameOutput s.output
    pub shelf_same : SameShelf s.shelf
    pub reads_nothing : SameInput s.input
    pub listens_nowhere : SameLinks s.links

  -- the ends that it may have
  abbrev pub SelfrunEnds : CommandEnd → Type 0
  SelfrunEnds (command_end.Selfrun engine_end) = RunsSelfrun engine_end
  SelfrunEnds command_end.Memory = IsUntouched s
  SelfrunEnds end = ⊥

  -- `selfrun` with these numbers; where no fault comes, it is done unless memory is wanting
  pub record OfSelfrun (end : CommandEnd) : Type 0 where
    pub ends : SelfrunEnds end
    pub succeeds : (HasRisen s.output.faults → ⊥) → IsDoneUnlessMemory end
