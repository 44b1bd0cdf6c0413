use Rattle.std.proofs.Common.{◌≡◌, ℕ, Bool, true, false, List, [], ◌∷◌, length, map, refl, sym, ◌∙◌, arith}
use Rattle.std.specs.Prelude.{◌==◌}
use Rattle.std.proofs.lemmas.Bool.{eqb-true, both_ways}
use Rattle.cqe_base.specs.Schema.{DatabaseSchema}
use Rattle.cqe_base.specs.Facts.{FactSet}
use Rattle.cqe_base.specs.History.{UserProfile, profile_of}
use Rattle.cqe_base.specs.Censor.{admitted}
use Rattle.censors.specs.Admitting.{admission_of}
use Rattle.censors.specs.declared.admittance.Admission.{Admission}
use Rattle.censors.specs.declared.admittance.Admission.TheVariants.{Open}
use Rattle.censors.proofs.Objections.{admitted_exactly}
use Rattle.log_journal.specs.declared.header.Record.{Record}
use Rattle.log_journal.specs.Opening.{recorded}
use Rattle.user_desk.proofs.recounting.replay_log.Goals as goal

-- who isn't open isn't admitted
closed : (schema : DatabaseSchema) (world : FactSet) (user : UserProfile) (admission : Admission) → admission ≡ admission_of schema world user
    → (admission ≡ Open → ⊥) → admitted schema world user ≡ false
closed schema world user admission is isnt = by (admitted schema world user) refl
  where
    by : (b : Bool) → admitted schema world user ≡ b → admitted schema world user ≡ false
    by true e = absurd (isnt (is ∙ (admitted_exactly schema world user).1 e))
    by false e = e

none : (records : List Record) → true ≡ (length records == 0) → map recorded records ≡ []
none [] e = refl
none (one ∷ records) e = let zero_is : length (one ∷ records) ≡ 0 = eqb-true _ _ (sym e) in absurd (omega (arith, zero_is))

some : (records : List Record) → false ≡ (length records == 0) → map recorded records ≡ [] → ⊥
some [] e is = both_ways _ (sym e) refl
some (one ∷ records) e is = absurd cc

pub replay_records-requires-clause-admitted : goal.replay_records-requires-clause-admitted
replay_records-requires-clause-admitted c =
    (admitted_exactly c.args.schema.now c.args.world.now (profile_of c.args.user.now)).0 (sym c.requires.admission ∙ c.in-Open.is)

pub returns-then-is_empty-clause-replay : goal.returns-then-is_empty-clause-replay
returns-then-is_empty-clause-replay c = (
  closed c.args.schema.now c.args.world.now (profile_of c.args.user.now) c.args.admission c.requires.admission c.in_default.not-Open,
  c.requires.admission,
  c.in_ok-log.ensures.empty,
  none c.args.records.now (sym c.if-is_empty.true ∙ c.is_empty.ensures),
)

pub returns-clause-replay : goal.returns-clause-replay
returns-clause-replay c = (
  c.in_ok-log.ensures.empty,
  closed c.args.schema.now c.args.world.now (profile_of c.args.user.now) c.args.admission c.requires.admission c.in_default.not-Open,
  c.requires.admission,
  some c.args.records.now (sym c.if-is_empty.false ∙ c.is_empty.ensures),
)
