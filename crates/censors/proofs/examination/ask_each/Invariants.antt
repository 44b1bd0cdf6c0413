use Rattle.std.proofs.Common.{◌≡◌, [], ◌∷◌, ◌++◌, map, take}
use Rattle.entailment.specs.Views.{schema_of, log_of}
use Rattle.entailment.specs.GroundSentences.{sentence_of}
use Rattle.entailment.specs.Probes.{signed_at}
use Rattle.censors.specs.Asked.{IsAnswerOfAll}
use Rattle.censors.proofs.examination.ask_each.Given as goal

abbrev pub invariant-loop-goal : goal.invariant-loop-goal
invariant-loop-goal l = record {
  same : l.view ≡ l.fn.view;
  so_far : IsAnswerOfAll (schema_of l.fn.view) l.budget (log_of l.fn.view ++ signed_at l.premise ∷ []) (take l.goal-index (map sentence_of l.goals)) l.all;
}
