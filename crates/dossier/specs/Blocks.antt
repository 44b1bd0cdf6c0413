-- Blocks that are read.
use Rattle.std.specs.Prelude.{◌≡◌, ℕ, List, ◌++◌, Option, Some, None, Result, Ok, Err}
use Rattle.std.specs.Prelude.{if◌then◌else◌}
use Rattle.cqe_base.specs.declared.world.Fact.{Fact}
use Rattle.cqe_base.specs.Schema.{DatabaseSchema}
use Rattle.cqe_base.specs.Entailment.{Signed}
use Rattle.cqe_base.specs.Censor as censor
use Rattle.entailment.specs.Probes.{premise_of, goal_of}
use Rattle.entailment.specs.declared.probes.Probe.{Probe}
use Rattle.dossier.specs.Checked.{Task, admitting, asking, adding, is_countermodel}
use Rattle.dossier.specs.Words.{listed_world}
use Rattle.dossier.specs.declared.blocks.Reason.{Reason}
use Rattle.dossier.specs.declared.blocks.Reason.TheVariants.{Admitting, Asking, Adding}
use Rattle.dossier.specs.declared.error.DossierError.{DossierError}
use Rattle.dossier.specs.declared.error.DossierError.TheVariants as refused

-- a probe of the definitions, beside those in memory
abbrev pub Probed : Type 0
Probed = censor.Probe

-- what a task's blocks are read for
abbrev pub reason_of : Task → Reason
reason_of admitting = Admitting
reason_of (asking line mark query size) = Asking
reason_of (adding secret size) = Adding

-- the probe of a log that a probe in memory is
abbrev pub probe_over : List Signed → Probe → Probed
probe_over log probe =
    record { premises = log ++ premise_of probe; goal = goal_of probe }

-- whether the goal of a probe may follow that is read for this reason: only that of an ask's may
abbrev pub MayFollow : Reason → ℕ → Result (Unit {0}) DossierError → Type 0
MayFollow Admitting line answer = answer ≡ Err (refused.Admission line)
MayFollow Asking line answer = answer ≡ Ok tt
MayFollow Adding line answer = answer ≡ Err (refused.Unsafe line)

-- whether a block that lists these facts shows that the goal of a probe doesn't follow, or why it
-- is refused
abbrev pub open_answer : DatabaseSchema → ℕ → Probed → Option (List Fact)
    → Result (Unit {0}) DossierError
open_answer schema line probe None = Err (refused.Form line)
open_answer schema line probe (Some facts) =
    if is_countermodel schema probe (listed_world facts) then Ok tt else Err (refused.Verdict line)
