-- Which world the other world for a secret is.
use Rattle.std.specs.Prelude.{◌≡◌, ℕ, true, Option, Some, None}
use Rattle.cqe_base.specs.declared.user.Method.TheVariants.{Lying}
use Rattle.cqe_base.specs.Schema.{DatabaseSchema}
use Rattle.cqe_base.specs.Facts.{FactSet}
use Rattle.cqe_base.specs.Entailment.{Signed}
use Rattle.cqe_base.specs.History.{UserProfile, History, log, user_at}
use Rattle.cqe_base.specs.Censor.{admission_budget}
use Rattle.cqe_base.specs.OtherWorlds.{guard_at}
use Rattle.entailment.specs.declared.probes.Verdict.{Verdict}
use Rattle.entailment.specs.declared.probes.Verdict.TheVariants.{Follows, Open, Spent}
use Rattle.entailment.specs.Verdicts.{verdict_of_probe}

-- the world that a verdict carries
abbrev pub world_in : Verdict → Option FactSet
world_in Follows = None
world_in (Open world) = Some world
world_in Spent = None

-- the other world for a secret of the user at the end of his history: that of the machine's model
-- of the log in which what is guarded for the secret is false; for lying that is the disjunction of
-- all secrets, whichever is asked for
abbrev pub other_world_of : DatabaseSchema → UserProfile → History → ℕ → Option FactSet
other_world_of schema user entries secret =
    let goal : Signed = (guard_at (user_at user entries) secret, true) in
    world_in (verdict_of_probe schema (log user entries) goal admission_budget)

-- a liar's other world is that of each of his secrets
abbrev pub IsOneForLies : DatabaseSchema → UserProfile → History → Option FactSet → Type 0
IsOneForLies schema user entries found =
    user.method ≡ Lying → (secret : ℕ) → found ≡ other_world_of schema user entries secret
