use Rattle.std.proofs.Common.{◌≡◌, ◌≤◌, Bool, List, ◌++◌, map}
use Rattle.cqe_base.specs.Schema.{Text}
use Rattle.cqe_base.specs.Facts.{FactSet}
use Rattle.cqe_base.specs.History.{UserProfile, History, profile_of, answered_query_of, log}
use Rattle.entailment.specs.GroundSentences.{sentence_of}
use Rattle.entailment.specs.Probes.{premise_list}
use Rattle.dossier.specs.Checked.{Task}
use Rattle.dossier.specs.Reading.{bytes_left}
use Rattle.dossier.specs.Blocks.{Probed, reason_of}
use Rattle.dossier.proofs.Each.{EachRead}
use Rattle.dossier.proofs.blocks.read_each.Given as goal

-- the blocks of the goals so far were read, with verdicts of which `some` says whether one says yes
abbrev pub invariant-loop-goal : goal.invariant-loop-goal
invariant-loop-goal l =
    let premises = log (profile_of l.told.user.now) (map answered_query_of l.told.entries.now) ++ premise_list l.premise in
    record {
      reads : (world : FactSet) (name : Text) (user : UserProfile) (entries : History) (task : Task) (more : List Probed) (shown : List Bool)
          → reason_of task ≡ l.reason
          → EachRead l.told.schema.now world name user entries task premises more shown sentence_of l.goals l.goal-index l.some l.initial.lines l.lines;
      less : bytes_left l.lines ≤ bytes_left l.initial.lines;
      same : l.view ≡ l.initial.view;
    }
