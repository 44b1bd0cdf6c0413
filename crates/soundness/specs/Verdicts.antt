-- From the verdicts on the probes of a query, in their order, to its mark.
use Rattle.std.specs.Prelude.{◌≡◌, ℕ, Bool, true, false, List, [], ◌∷◌, length, map, take, drop}
use Rattle.std.specs.Prelude.{Some, None, if◌then◌else◌}
use Rattle.std.specs.List.{list_any}
use Rattle.cqe_base.specs.declared.user.Method.{Method}
use Rattle.cqe_base.specs.declared.user.Method.TheVariants.{Lying, Refusal, Combined}
use Rattle.cqe_base.specs.declared.user.Mark.{Mark}
use Rattle.cqe_base.specs.declared.user.Mark.TheVariants.{Undecided}
use Rattle.cqe_base.specs.Schema.{DatabaseSchema}
use Rattle.cqe_base.specs.Facts.{FactSet}
use Rattle.cqe_base.specs.Formula.{Formula}
use Rattle.cqe_base.specs.Truth.{true_in}
use Rattle.cqe_base.specs.Entailment.{Signed, entails}
use Rattle.cqe_base.specs.History.{UserProfile, History, log, user_at}
use Rattle.cqe_base.specs.Censor.{guarded, probes, mark_by}
use Rattle.soundness.specs.Sound.{unspent_mark}

-- what the probes of a query say: whether the premises of each entail its goal
abbrev pub verdicts_of : DatabaseSchema → UserProfile → List Signed → Formula → List Bool
verdicts_of schema user log query =
    map (λ probe. entails schema probe.premises probe.goal) (probes user log query)

-- whether some of so many first verdicts says yes
abbrev pub first_found : ℕ → List Bool → Bool
first_found count verdicts = list_any (λ verdict. verdict) (take count verdicts)

-- whether some verdict behind so many says yes
abbrev pub others_found : ℕ → List Bool → Bool
others_found count verdicts = list_any (λ verdict. verdict) (drop count verdicts)

-- the mark by verdicts, with so many guarded sentences: first the log with the query against each
-- of them, then with its negation; for refusal before these the log against the query and against
-- its negation, so that the verdicts are always two or more there, and of fewer any mark would do
abbrev pub mark_found : Method → ℕ → List Bool → Bool → Mark
mark_found Lying count verdicts truth =
    mark_by Lying false None (first_found count verdicts) (others_found count verdicts) truth
mark_found Refusal count [] truth = Undecided
mark_found Refusal count (holds ∷ []) truth = Undecided
mark_found Refusal count (holds ∷ fails ∷ verdicts) truth =
    mark_by Refusal false (if holds then Some true else if fails then Some false else None)
    (first_found count verdicts) (others_found count verdicts) truth
mark_found Combined count verdicts truth =
    mark_by Combined false None (first_found count verdicts) (others_found count verdicts) truth

-- right verdicts give the mark of the rule without its first line
abbrev pub VerdictsGiveMarks : Type 0
VerdictsGiveMarks =
    (schema : DatabaseSchema) (world : FactSet) (user : UserProfile) (entries : History)
    (query : Formula) (verdicts : List Bool)
    → verdicts ≡ verdicts_of schema (user_at user entries) (log user entries) query
    → mark_found user.method (length (guarded (user_at user entries))) verdicts
    (true_in schema world query) ≡ unspent_mark schema world user entries query
