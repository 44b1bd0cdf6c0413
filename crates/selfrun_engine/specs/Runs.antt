-- What a run of a workload counts.
use Rattle.std.specs.Prelude.{◌≡◌, ℕ, Bool, true, List, [], ◌++◌, map}
use Rattle.std.specs.List.{AllByRecursion}
use Rattle.outside.specs.Streams.{AppendsPart}
use Rattle.cqe_base.specs.Schema.{Text}
use Rattle.cqe_base.specs.Transcript.{NamedUser, ScriptEvent, transcript}
use Rattle.policy_files.specs.Policies.{PolicyUser}
use Rattle.batch_engine.specs.Batch.{AreEventsOf, with_opening}
use Rattle.workload.specs.Stated.{workload_schema, workload_world}
use Rattle.workload.specs.Policies.{workload_policy}
use Rattle.workload.specs.Scripts.{workload_script}
use Rattle.selfrun_engine.specs.Outputs.{IsNoFailedAsk}
use Rattle.selfrun_engine.specs.Tallies.{tally_of, summary}
use Rattle.selfrun_engine.specs.declared.tally.Tally.{Tally}
use Rattle.selfrun_engine.specs.declared.end.SelfrunEnd.{SelfrunEnd}
use Rattle.selfrun_engine.specs.declared.end.SelfrunEnd.TheVariants.{Done, WriteFault, Memory}

-- a user of a policy with an empty history
abbrev pub without_entries : PolicyUser → NamedUser
without_entries user = record { name = user.name; profile = user.profile; opened = [] }

-- the users of the workload, with empty histories
abbrev pub workload_users : ℕ → ℕ → List NamedUser
workload_users seed users = map without_entries (workload_policy seed users).users

module _ (seed users asks : ℕ) where
  -- The tally of a run: of the replies in the lines of the transcript of the workload's script,
  -- from empty histories. Each user's journal was opened, and no append failed.
  pub record IsTally (tally : Tally) : Type 0 where
    pub found : Text → Bool
    pub opened : Text → Bool
    pub events : List ScriptEvent
    pub of_script : AreEventsOf (workload_script seed users asks) events
    pub all_kept : AllByRecursion IsNoFailedAsk events
    pub all_opened : AllByRecursion (λ user. opened user.name ≡ true) (workload_users seed users)
    pub counts : tally
        ≡ tally_of (transcript workload_schema (workload_world seed) (workload_users seed users)
        (with_opening found opened events))

  -- what each end says of the output before and after
  abbrev pub EndsSelfrun : SelfrunEnd → List ℕ → List ℕ → Type 0
  EndsSelfrun Done old new =
      (tally : Tally) × IsTally tally × (new ≡ old ++ summary seed users asks tally)
  EndsSelfrun WriteFault old new =
      (tally : Tally) × IsTally tally × AppendsPart old new (summary seed users asks tally)
  EndsSelfrun Memory old new = new ≡ old
