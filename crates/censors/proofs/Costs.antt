-- Undecided comes by cost alone.
use Rattle.std.proofs.Common.{◌≡◌, ℕ, Bool, true, false, List, map, refl, sym, ap, ◌∙◌, ◌↔◌}
use Rattle.std.specs.Prelude.{Option, Some, None}
use Rattle.std.specs.List.{Any}
use Rattle.std.proofs.lemmas.List.Folds.{Any-from_list_any, list_any-from_Any}
use Rattle.cqe_base.specs.declared.user.Method.{Method}
use Rattle.cqe_base.specs.declared.user.Method.TheVariants.{Lying, Refusal, Combined}
use Rattle.cqe_base.specs.declared.user.Mark.TheVariants.{Undecided}
use Rattle.cqe_base.specs.Schema.{DatabaseSchema}
use Rattle.cqe_base.specs.Formula.{Formula}
use Rattle.cqe_base.specs.Entailment.{Signed}
use Rattle.cqe_base.specs.Truth.{true_in}
use Rattle.cqe_base.specs.Outcome.{Outcome, Follows, Open, Spent, outcome, is_spent, grounded_signed}
use Rattle.cqe_base.specs.MachineLaws.{SpentIsCost}
use Rattle.cqe_base.specs.History.{UserProfile}
use Rattle.cqe_base.specs.Censor.{Probe, probes, spent, implied, yes_harm, no_harm, mark_by, rule}
use Rattle.entailment.specs.Budgets.{CostsMore}
use Rattle.censors.specs.declared.examination.Findings.{Findings}
use Rattle.censors.specs.Found.{HasFindings}
use Rattle.censors.specs.Costs.{ProbeCostsMore, QueryCostsMore, AreSpentByCost, UndecidedIsCost, DecideUndecided}

any-weaker : {X : Type 0} (P Q : X → Type 0) → ((x : X) → P x → Q x) → (xs : List X) → Any P xs → Any Q xs
any-weaker P Q go xs h = (h.0, h.1, h.2, h.3, go h.1 h.4)

is_spent-at : (o : Outcome) → is_spent o ≡ true → o ≡ Spent
is_spent-at Follows e = absurd cc
is_spent-at Open e = absurd cc
is_spent-at Spent e = refl

probe-cost : SpentIsCost → (schema : DatabaseSchema) (premises : List Signed) (goal : Signed) (budget : ℕ)
    → (is_spent (outcome schema premises goal budget) ≡ true) ↔ CostsMore schema premises goal budget
unfolding outcome
probe-cost law schema premises goal budget =
    let both = law (map (grounded_signed schema) premises) (grounded_signed schema goal) budget in
    (λ h. both.0 (is_spent-at _ h), λ h. ap is_spent (both.1 h))

query-cost : SpentIsCost → (schema : DatabaseSchema) (user : UserProfile) (log : List Signed) (query : Formula)
    → (spent schema user log query ≡ true) ↔ QueryCostsMore schema user log query
unfolding spent
query-cost law schema user log query =
    let at : Probe → Bool = λ probe. is_spent (outcome schema probe.premises probe.goal user.budget) in
    let all : List Probe = probes user log query in (
      λ h. any-weaker (λ probe. at probe ≡ true) (ProbeCostsMore schema user) (λ probe. (probe-cost law schema probe.premises probe.goal user.budget).0) all
          (Any-from_list_any at all h),
      λ h. list_any-from_Any at all
          (any-weaker (ProbeCostsMore schema user) (λ probe. at probe ≡ true) (λ probe. (probe-cost law schema probe.premises probe.goal user.budget).1) all h),
    )

-- so findings that are those of a query are spent by cost
pub spent-by-cost : SpentIsCost → (schema : DatabaseSchema) (user : UserProfile) (log : List Signed) (query : Formula) (found : Findings)
    → HasFindings schema user log query found → AreSpentByCost schema user log query found
spent-by-cost law schema user log query found has =
    let both = query-cost law schema user log query in
    (λ h. both.0 (sym has.is_spent ∙ h), λ h. has.is_spent ∙ both.1 h)

-- the table gives undecided where some probe is spent, and nowhere else
undecided-at : (method : Method) (found : Option Bool) (as_yes as_no truth : Bool) → mark_by method true found as_yes as_no truth ≡ Undecided
undecided-at Lying found as_yes as_no truth = refl
undecided-at Refusal found as_yes as_no truth = refl
undecided-at Combined found as_yes as_no truth = refl

decided-at : (method : Method) (found : Option Bool) (as_yes as_no truth : Bool) → mark_by method false found as_yes as_no truth ≡ Undecided → ⊥
decided-at Lying found true true true e = cc
decided-at Lying found true false true e = cc
decided-at Lying found false true true e = cc
decided-at Lying found false false true e = cc
decided-at Lying found true true false e = cc
decided-at Lying found true false false e = cc
decided-at Lying found false true false e = cc
decided-at Lying found false false false e = cc
decided-at Refusal (Some true) as_yes as_no truth e = cc
decided-at Refusal (Some false) as_yes as_no truth e = cc
decided-at Refusal None true as_no truth e = cc
decided-at Refusal None false true truth e = cc
decided-at Refusal None false false true e = cc
decided-at Refusal None false false false e = cc
decided-at Combined found true true truth e = cc
decided-at Combined found true false true e = cc
decided-at Combined found true false false e = cc
decided-at Combined found false true true e = cc
decided-at Combined found false true false e = cc
decided-at Combined found false false true e = cc
decided-at Combined found false false false e = cc

undecided-is : (method : Method) (any : Bool) (found : Option Bool) (as_yes as_no truth : Bool)
    → (mark_by method any found as_yes as_no truth ≡ Undecided) ↔ (any ≡ true)
undecided-is method true found as_yes as_no truth = (λ h. refl, λ h. undecided-at method found as_yes as_no truth)
undecided-is method false found as_yes as_no truth = (λ h. absurd (decided-at method found as_yes as_no truth h), λ h. absurd cc)

pub undecided-is-cost : SpentIsCost → UndecidedIsCost
unfolding rule
undecided-is-cost law schema world user log query =
    let mark = undecided-is user.method (spent schema user log query) (implied schema user log query) (yes_harm schema user log query)
    (no_harm schema user log query) (true_in schema world query) in
    let cost = query-cost law schema user log query in
    (λ h. cost.0 (mark.0 h), λ h. mark.1 (cost.1 h))

-- so findings that are spent by cost decide undecided
pub decide-undecided : UndecidedIsCost → (schema : DatabaseSchema) (user : UserProfile)
    (log : List Signed) (query : Formula) (found : Findings)
    → AreSpentByCost schema user log query found → DecideUndecided schema user log query found
decide-undecided law schema user log query found spent world =
    let mark = law schema world user log query in
    (λ h. spent.1 (mark.0 h), λ h. mark.1 (spent.0 h))
