-- A probe in memory, and what a verdict says of it.
use Rattle.std.specs.Prelude.{Bool, List, [], ◌∷◌, Option, Some, None}
use Rattle.std.specs.Borrow.{Bor}
use Rattle.cqe_base.specs.Schema.{DatabaseSchema}
use Rattle.cqe_base.specs.Facts.{FactSet}
use Rattle.cqe_base.specs.Ground.{ground_of}
use Rattle.cqe_base.specs.SignedGround.{SignedGround}
use Rattle.cqe_base.specs.Entailment.{Signed, Entails, IsCountermodel}
use Rattle.cqe_base.specs.Outcome.{Outcome, Follows, Open, Spent, probe_list}
use Rattle.entailment.specs.GroundSentences.{sentence_of, IsGroundOver}
use Rattle.entailment.specs.declared.sentences.GroundSentence.{GroundSentence}
use Rattle.entailment.specs.declared.probes.Probe.{Probe}
use Rattle.entailment.specs.declared.probes.ProbeOutcome.{ProbeOutcome}
use Rattle.entailment.specs.declared.probes.ProbeOutcome.TheVariants as found
use Rattle.entailment.specs.declared.probes.Verdict.{Verdict}
use Rattle.entailment.specs.declared.probes.Verdict.TheVariants as verdict

-- the sentence or the negation that a reference with a sign means
abbrev pub signed_at : Bor GroundSentence × Bool → Signed
signed_at s = (sentence_of s.0.now, s.1)

-- the signed sentence that a further premise in memory means, if there is one
abbrev pub premise_list : Option (Bor GroundSentence × Bool) → List Signed
premise_list None = []
premise_list (Some s) = signed_at s ∷ []

-- the further premise of a probe, if it has one
abbrev pub premise_of : Probe → List Signed
premise_of probe = premise_list probe.premise

-- the goal of a probe
abbrev pub goal_of : Probe → Signed
goal_of probe = signed_at probe.goal

-- the further premise of a probe, if it has one, has its ground formula over this schema
abbrev pub IsGroundPremise : DatabaseSchema → Option (Bor GroundSentence × Bool) → Type 0
IsGroundPremise schema None = Unit {0}
IsGroundPremise schema (Some s) = IsGroundOver schema s.0.now

-- the ground formula in memory of a sentence, with its sign
abbrev pub prop_at : Bor GroundSentence × Bool → SignedGround
prop_at s = (ground_of s.0.now.prop, s.1)

-- that of the further premise, if there is one
abbrev pub premise_props : Option (Bor GroundSentence × Bool) → List SignedGround
premise_props None = []
premise_props (Some s) = prop_at s ∷ []

-- what a probe in memory adds to the form of its log
abbrev pub added_by : Probe → List SignedGround
added_by probe = probe_list (premise_props probe.premise) (prop_at probe.goal)

-- the outcome that a verdict is
abbrev pub outcome_of : Verdict → Outcome
outcome_of verdict.Follows = Follows
outcome_of (verdict.Open world) = Open
outcome_of verdict.Spent = Spent

-- the outcome that was found
abbrev pub outcome_found : ProbeOutcome → Outcome
outcome_found found.Follows = Follows
outcome_found found.Open = Open
outcome_found found.Spent = Spent

-- an outcome is true: the premises entail the goal, or there is a world in which they are true and
-- the goal false
abbrev pub IsTrueOutcome : DatabaseSchema → List Signed → Signed → Outcome → Type 0
IsTrueOutcome schema premises goal Follows = Entails schema premises goal
IsTrueOutcome schema premises goal Open =
    (world : FactSet) × IsCountermodel schema premises goal world
IsTrueOutcome schema premises goal Spent = Unit {0}

-- a verdict is true: the premises entail the goal, or the world that it carries is one in which
-- they are true and the goal false
abbrev pub IsTrueVerdict : DatabaseSchema → List Signed → Signed → Verdict → Type 0
IsTrueVerdict schema premises goal verdict.Follows = Entails schema premises goal
IsTrueVerdict schema premises goal (verdict.Open world) = IsCountermodel schema premises goal world
IsTrueVerdict schema premises goal verdict.Spent = Unit {0}
