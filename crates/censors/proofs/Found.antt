-- The findings of each method from what its probes found.
use Rattle.std.proofs.Common.{◌≡◌, ℕ, Bool, true, false, ◌||◌, List, [], ◌∷◌, ◌++◌, refl, sym, ap, subst, ◌∙◌}
use Rattle.std.specs.Prelude.{Option, Some, None}
use Rattle.std.specs.List.{list_any}
use Rattle.std.proofs.lemmas.Bool.{or_parts}
use Rattle.std.proofs.lemmas.List.Folds.{list_any-append}
use Rattle.cqe_base.specs.declared.user.Method.{Method}
use Rattle.cqe_base.specs.declared.user.Method.TheVariants.{Lying, Refusal, Combined}
use Rattle.cqe_base.specs.Schema.{DatabaseSchema}
use Rattle.cqe_base.specs.Formula.{Formula}
use Rattle.cqe_base.specs.Entailment.{Signed}
use Rattle.cqe_base.specs.Outcome.{outcome, is_spent}
use Rattle.cqe_base.specs.History.{UserProfile}
use Rattle.cqe_base.specs.Censor.{Probe, probes_against, probes_by, guarded, with_query, with_negation, implied_by, spent, yes_harm, no_harm}
use Rattle.cqe_base.specs.Censor.{implied}
use Rattle.cqe_base.proofs.Lists.{or_assoc}
use Rattle.censors.specs.declared.examination.Harms.{Harms}
use Rattle.censors.specs.declared.examination.Implied.{Implied}
use Rattle.censors.specs.Asked.{is_spent_at, some_spent, AreHarms, IsImplied, IsImpliedBy, findings_of}
use Rattle.censors.specs.Found.{HasFindings}

module _ (schema : DatabaseSchema) (user : UserProfile) (log : List Signed) (query : Formula) where
  -- whether a probe is spent at the user's budget
  abbrev probe_spent : Probe → Bool
  probe_spent probe = is_spent (outcome schema probe.premises probe.goal user.budget)

  against-spent : (premises : List Signed) (goals : List Formula)
      → list_any probe_spent (probes_against premises goals) ≡ some_spent schema user.budget premises goals
  against-spent premises [] = refl
  against-spent premises (goal ∷ goals) = ap (λ b. is_spent_at schema user.budget premises (goal, true) || b) (against-spent premises goals)

  -- the probes of both answers against the goals
  both-spent : (goals : List Formula) → list_any probe_spent (probes_against (with_query log query) goals ++ probes_against (with_negation log query) goals)
      ≡ (some_spent schema user.budget (with_query log query) goals || some_spent schema user.budget (with_negation log query) goals)
  both-spent goals =
      list_any-append probe_spent (probes_against (with_query log query) goals) (probes_against (with_negation log query) goals)
      ∙ (λ k. against-spent (with_query log query) goals k || against-spent (with_negation log query) goals k)

  -- the findings of a method that probes both answers alone
  found_plain : probes_by user.method (guarded user) log query
      ≡ probes_against (with_query log query) (guarded user) ++ probes_against (with_negation log query) (guarded user)
      → implied_by user.method schema log query ≡ None
      → (harms : Harms) → AreHarms schema user.budget log query (guarded user) harms → HasFindings schema user log query (findings_of harms None)
  unfolding spent implied yes_harm no_harm
  found_plain plain none harms are = record {
    is_spent = are.spent ∙ sym (ap (list_any probe_spent) plain ∙ both-spent (guarded user));
    is_implied = λ made. sym none;
    is_yes_harm = are.yes;
    is_no_harm = are.no;
  }

  -- refusal also probes the log against both answers
  refusal-spent : user.method ≡ Refusal → list_any probe_spent (probes_by user.method (guarded user) log query)
      ≡ ((is_spent_at schema user.budget log (query, true) || is_spent_at schema user.budget log (query, false))
      || (some_spent schema user.budget (with_query log query) (guarded user) || some_spent schema user.budget (with_negation log query) (guarded user)))
  refusal-spent is =
      ap (λ m. list_any probe_spent (probes_by m (guarded user) log query)) is
      ∙ ap (λ b. is_spent_at schema user.budget log (query, true) || (is_spent_at schema user.budget log (query, false) || b)) (both-spent (guarded user))
      ∙ sym (or_assoc (is_spent_at schema user.budget log (query, true)) (is_spent_at schema user.budget log (query, false)) _)

  refusal_found : user.method ≡ Refusal → (log_found : Implied) → IsImplied schema user.budget log query log_found
      → (harms : Harms) → AreHarms schema user.budget log query (guarded user) harms → HasFindings schema user log query (findings_of harms (Some log_found))
  unfolding spent implied yes_harm no_harm
  refusal_found is log_found implies harms are = record {
    is_spent = (λ k. implies.spent k || are.spent k) ∙ sym (refusal-spent is);
    is_implied = λ none. implies.answer (or_parts log_found.spent harms.spent none).0 ∙ sym (ap (λ m. implied_by m schema log query) is);
    is_yes_harm = λ none. are.yes (or_parts log_found.spent harms.spent none).1;
    is_no_harm = λ none. are.no (or_parts log_found.spent harms.spent none).1;
  }

  -- the findings, by the user's method
  pub found_by : (implied_found : Option Implied) → IsImpliedBy user.method schema user.budget log query implied_found
      → (harms : Harms) → AreHarms schema user.budget log query (guarded user) harms → HasFindings schema user log query (findings_of harms implied_found)
  found_by implied_found implies harms are = by user.method refl implied_found implies
    where
      plain : (m : Method) → user.method ≡ m → probes_by m (guarded user) log query
          ≡ probes_against (with_query log query) (guarded user) ++ probes_against (with_negation log query) (guarded user)
          → implied_by m schema log query ≡ None
          → (o : Option Implied) → o ≡ None → HasFindings schema user log query (findings_of harms o)
      plain m is probes none o is_none =
          subst (λ o. HasFindings schema user log query (findings_of harms o)) (sym is_none)
          (found_plain (ap (λ m. probes_by m (guarded user) log query) is ∙ probes) (ap (λ m. implied_by m schema log query) is ∙ none) harms are)

      by : (m : Method) → user.method ≡ m → (o : Option Implied) → IsImpliedBy m schema user.budget log query o
          → HasFindings schema user log query (findings_of harms o)
      by Lying is o none = plain Lying is refl refl o none
      by Refusal is None none = absurd none
      by Refusal is (Some log_found) implies = refusal_found is log_found implies harms are
      by Combined is o none = plain Combined is refl refl o none

-- what the probes of the same schema, log and goals found
pub same_harms : (schema schema' : DatabaseSchema) (log log' : List Signed) (goals goals' : List Formula) → schema ≡ schema' → log ≡ log' → goals ≡ goals'
    → (budget : ℕ) (query : Formula) (harms : Harms) → AreHarms schema budget log query goals harms → AreHarms schema' budget log' query goals' harms
same_harms schema schema' log log' goals goals' s l g budget query harms are =
    subst (λ goals. AreHarms schema' budget log' query goals harms) g
    (subst (λ log. AreHarms schema' budget log query goals harms) l (subst (λ schema. AreHarms schema budget log query goals harms) s are))
