use Rattle.std.proofs.Common.{◌≡◌, ◌++◌, map, take}
use Rattle.std.specs.Prelude.{string_bytes}
use Rattle.cqe_base.specs.Censor.{probes_against}
use Rattle.entailment.specs.Views.{log_of}
use Rattle.entailment.specs.GroundSentences.{sentence_of}
use Rattle.entailment.specs.Probes.{premise_list}
use Rattle.dossier.specs.Written.{AreBlocks}
use Rattle.dossier.specs.Adding.{Grows}
use Rattle.dossier.proofs.writing.push_goals.Given as goal

-- the blocks of the goals so far are written
abbrev pub invariant-loop-goal : goal.invariant-loop-goal
invariant-loop-goal l = record {
  grown : Grows (AreBlocks l.schema
      (probes_against (log_of l.initial.view ++ premise_list l.premise) (map sentence_of (take l.goal-index l.goals))))
      (string_bytes l.initial.text) (string_bytes l.text);
  same : l.view ≡ l.initial.view;
}
