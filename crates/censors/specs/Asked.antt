-- What several probes find together.
use Rattle.std.specs.Prelude.{◌≡◌, ℕ, Bool, true, false, ◌||◌, List, Option, Some, None}
use Rattle.std.specs.Prelude.{if◌then◌else◌}
use Rattle.std.specs.List.{list_any}
use Rattle.cqe_base.specs.declared.user.Method.{Method}
use Rattle.cqe_base.specs.declared.user.Method.TheVariants.{Lying, Refusal, Combined}
use Rattle.cqe_base.specs.Schema.{DatabaseSchema}
use Rattle.cqe_base.specs.Formula.{Formula}
use Rattle.cqe_base.specs.Entailment.{Signed, entails}
use Rattle.cqe_base.specs.Outcome.{outcome, is_spent}
use Rattle.cqe_base.specs.Censor.{with_query, with_negation, entails_some}
use Rattle.censors.specs.declared.examination.Findings.{Findings}
use Rattle.censors.specs.declared.examination.Answer.{Answer}
use Rattle.censors.specs.declared.examination.Harms.{Harms}
use Rattle.censors.specs.declared.examination.Implied.{Implied}

-- whether the probe of the premises against the goal is spent
abbrev pub is_spent_at : DatabaseSchema → ℕ → List Signed → Signed → Bool
is_spent_at schema budget premises goal = is_spent (outcome schema premises goal budget)

-- whether some of the probes against the sentences is
abbrev pub some_spent : DatabaseSchema → ℕ → List Signed → List Formula → Bool
some_spent schema budget premises goals =
    list_any (λ goal. is_spent_at schema budget premises (goal, true)) goals

-- the answer of one probe
pub record IsAnswer (schema : DatabaseSchema) (budget : ℕ) (premises : List Signed) (goal : Signed)
    (answer : Answer) : Type 0 where
  pub spent : answer.spent ≡ is_spent_at schema budget premises goal
  pub entailed : answer.spent ≡ false → answer.entailed ≡ entails schema premises goal

-- the answer of the probes against each of the sentences
pub record IsAnswerOfAll (schema : DatabaseSchema) (budget : ℕ) (premises : List Signed)
    (goals : List Formula) (answer : Answer) : Type 0 where
  pub spent : answer.spent ≡ some_spent schema budget premises goals
  pub entailed : answer.spent ≡ false → answer.entailed ≡ entails_some schema premises goals

-- what two answers say together: some probe is spent, some goal is entailed
abbrev pub together : Answer → Answer → Answer
together first second =
    record { spent = first.spent || second.spent; entailed = first.entailed || second.entailed }

-- what the log with the query, and with its negation, entails of the sentences
pub record AreHarms (schema : DatabaseSchema) (budget : ℕ) (log : List Signed) (query : Formula)
    (goals : List Formula) (harms : Harms) : Type 0 where
  pub spent : harms.spent
      ≡ (some_spent schema budget (with_query log query) goals
      || some_spent schema budget (with_negation log query) goals)
  pub yes : harms.spent ≡ false → harms.yes ≡ entails_some schema (with_query log query) goals
  pub no : harms.spent ≡ false → harms.no ≡ entails_some schema (with_negation log query) goals

-- the answer that the log implies
pub record IsImplied (schema : DatabaseSchema) (budget : ℕ) (log : List Signed) (query : Formula)
    (found : Implied) : Type 0 where
  pub spent : found.spent
      ≡ (is_spent_at schema budget log (query, true)
      || is_spent_at schema budget log (query, false))
  pub answer : found.spent ≡ false → found.answer
      ≡ (if entails schema log (query, true) then Some true
      else if entails schema log (query, false) then Some false else None)

-- what was found of it by a method: refusal alone asks for it
abbrev pub IsImpliedBy : Method → DatabaseSchema → (budget : ℕ) (log : List Signed)
    (query : Formula) → Option Implied → Type 0
IsImpliedBy Lying schema budget log query found = found ≡ None
IsImpliedBy Refusal schema budget log query None = ⊥
IsImpliedBy Refusal schema budget log query (Some found) =
    IsImplied schema budget log query found
IsImpliedBy Combined schema budget log query found = found ≡ None

-- the findings of both answers' harms and, for refusal, of the answer that the log implies
abbrev pub findings_of : Harms → Option Implied → Findings
findings_of harms None =
    record { spent = harms.spent; implied = None; yes_harm = harms.yes; no_harm = harms.no }
findings_of harms (Some found) =
    record {
      spent = found.spent || harms.spent;
      implied = found.answer;
      yes_harm =
          harms.yes;
      no_harm = harms.no;
    }
