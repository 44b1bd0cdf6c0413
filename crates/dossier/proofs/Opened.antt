-- Blocks that are written: an end that a search found, the world of a model, and the sign of a literal.
use Rattle.std.proofs.Common.{◌≡◌, ◌≤◌, ◌+◌, ℕ, Bool, true, false, not, ◌&&◌, cond, List, [], ◌∷◌, ◌++◌, length, map, filter, refl, sym, ap, subst, ◌∙◌, arith}
use Rattle.std.specs.Prelude.{codes}
use Rattle.std.specs.FinSet as set
use Rattle.std.specs.List.Sorted.{IsStrictlySortedBy}
use Rattle.std.proofs.lemmas.List.{length-map, map-append}
use Rattle.std.proofs.lemmas.List.Filters.{length-filter_both}
use Rattle.cqe_base.specs.declared.world.Fact.{Fact}
use Rattle.cqe_base.specs.Schema.{DatabaseSchema, Text}
use Rattle.cqe_base.specs.Facts.{FactSet, fact_cmp}
use Rattle.cqe_base.specs.Formula.{nodes}
use Rattle.cqe_base.specs.Ground.{GroundingKeepsNodes}
use Rattle.cqe_base.specs.GroundParts.{nodes_of_list}
use Rattle.cqe_base.specs.Literal.{Literal, Positive, Negative, variable_of, sign_at}
use Rattle.cqe_base.specs.ClauseForm.{NumberedFact, numbering_of}
use Rattle.cqe_base.specs.ClauseForm as form
use Rattle.cqe_base.specs.Entailment.{Signed, holds_in, all_hold_in, IsCountermodel}
use Rattle.cqe_base.specs.Machine.{End, Model, Refuted}
use Rattle.cqe_base.specs.MachineLaws.{VariablesAreFew, NumberedFactsAreFew, BudgetIsWholeCost}
use Rattle.cqe_base.specs.Outcome.{grounded_signed, grounded_probe}
use Rattle.cqe_base.proofs.Worlds.{fact_cmp_total}
use Rattle.cqe_base.proofs.FactSets.{len-from_list}
use Rattle.std.specs.Prelude.{Option, Some, None}
use Rattle.entailment.specs.Logs.{log_nodes, sentence_nodes}
use Rattle.entailment.specs.Forms.{with_negated}
use Rattle.entailment.specs.Verdicts.{verdict_of_probe, verdict_of_end, end_of_probe}
use Rattle.entailment.specs.declared.probes.Verdict.TheVariants.{Open}
use Rattle.entailment.proofs.LogNodes.{grounded-nodes, probe-nodes}
use Rattle.audit_print.proofs.Atoms.{all_listed}
use Rattle.dossier.specs.Written.{sign_text, IsOpenBlock, IsOpenListing, ShowsEnd, ShowsMachine}

-- ---- signs

pub negative-sign : (literal : Literal) → (literal ≡ Positive (variable_of literal) → ⊥) → codes "-" ≡ sign_text literal
negative-sign (Positive v) isnt = absurd (isnt (λ i. Positive v))
negative-sign (Negative v) isnt = λ i. codes "-"

-- ---- ends

-- the model whose world was found
pub model-found : (facts : List NumberedFact) (end : Option End) (world : FactSet) → Open world ≡ verdict_of_end facts end
    → (signs : List Bool) × (end ≡ Some (Model signs)) × (world ≡ form.world_of facts (sign_at signs))
model-found facts None world at = absurd cc
model-found facts (Some (Refuted lines)) world at = absurd cc
model-found facts (Some (Model signs)) world at = (signs, refl, cc)

module _ (whole : BudgetIsWholeCost) (schema : DatabaseSchema) (premises : List Signed) (goal : Signed) (budget : ℕ) where
  -- what shows an end that was found shows the machine's
  pub end-shown : (end : End) (text : Text) → end_of_probe schema premises goal budget ≡ Some end
      → ShowsEnd schema (record { premises = premises; goal = goal }) end text → ShowsMachine schema (record { premises = premises; goal = goal }) text
  end-shown end text found shows =
      let formulas = grounded_probe schema premises goal in
      let (cost, ends, within) = (whole (form.clause_form formulas) (numbering_of formulas).variables budget end).0 found in
      (record { end = end; cost = cost }, ends, shows)

  -- and so does a listing of the world that was found
  pub world-shown : (world : FactSet) (text : Text) → Open world ≡ verdict_of_probe schema premises goal budget → IsOpenListing schema world text
      → ShowsMachine schema (record { premises = premises; goal = goal }) text
  world-shown world text verdict listing =
      let numbered = (numbering_of (grounded_probe schema premises goal)).facts in
      let (signs, found, same) = model-found numbered (end_of_probe schema premises goal budget) world verdict in
      end-shown (Model signs) text found (subst (λ w. IsOpenListing schema w text) same listing)

-- ---- how many facts a world has

-- the set of a list has no more facts than the list
len-at-most : (facts : List Fact) → set.len (set.from_list {R = fact_cmp} facts) ≤ length facts
len-at-most [] = let none = set.len-empty fact_cmp in omega (arith, none)
len-at-most (fact ∷ facts) =
    by (set.contains (set.from_list facts) fact) (set.len-insert fact_cmp_total (set.from_list facts) fact) (len-at-most facts)
  where
    by : (b : Bool)
        → set.len (set.from_list {R = fact_cmp} (fact ∷ facts))
        ≡ cond b (set.len (set.from_list {R = fact_cmp} facts)) (set.len (set.from_list {R = fact_cmp} facts) + 1)
        → set.len (set.from_list {R = fact_cmp} facts) ≤ length facts → set.len (set.from_list {R = fact_cmp} (fact ∷ facts)) ≤ length (fact ∷ facts)
    by true is rest = omega (arith, is, rest)
    by false is rest = omega (arith, is, rest)

filter-few : {X : Type 0} (p : X → Bool) (xs : List X) → length (filter p xs) ≤ length xs
filter-few p xs = let both = length-filter_both p (λ x. not (p x)) (λ x. λ i. not (p x)) xs in omega (arith, both)

-- the world of a model has no more facts than have a number
world-few : (facts : List NumberedFact) (signs : ℕ → Bool) (listing : List Fact) → set.from_list listing ≡ form.world_of facts signs
    → IsStrictlySortedBy fact_cmp listing → length listing ≤ length facts
world-few facts signs listing is sorted =
    let same = sym (len-from_list listing sorted) ∙ ap set.len is in
    let most = len-at-most (map (λ e. e.fact) (filter (λ e. signs e.number) facts)) in
    let mapped = length-map (filter (λ e. signs e.number) facts) (λ e. e.fact) in
    let few = filter-few (λ e. signs e.number) facts in
    omega (arith, same, most, mapped, few)

module _ (schema : DatabaseSchema) (log premise : List Signed) (goal : Signed) where
  -- the nodes of a probe's formulas
  pub formulas-few : GroundingKeepsNodes
      → nodes_of_list (grounded_probe schema (log ++ premise) goal) ≤ log_nodes schema log + sentence_nodes schema premise + nodes schema goal.0
  formulas-few keeps =
      let same : nodes_of_list (grounded_probe schema (log ++ premise) goal)
      ≡ nodes_of_list (map (grounded_signed schema) (with_negated (log ++ premise) goal)) =
      ap nodes_of_list (sym (map-append (grounded_signed schema) (log ++ premise) ((goal.0, not goal.1) ∷ []))) in
      let kept = grounded-nodes keeps schema (with_negated (log ++ premise) goal) in
      let within = probe-nodes schema log premise goal in
      omega (arith, same, kept, within)

  -- a world that a search found has at most 100,000 facts
  pub found-few : GroundingKeepsNodes → VariablesAreFew → NumberedFactsAreFew
      → log_nodes schema log + sentence_nodes schema premise + nodes schema goal.0 ≤ 100000 → (budget : ℕ) (world : FactSet)
      → Open world ≡ verdict_of_probe schema (log ++ premise) goal budget → (listing : List Fact) → set.from_list listing ≡ world
      → IsStrictlySortedBy fact_cmp listing → length listing ≤ 100000
  found-few keeps variables facts small budget world verdict listing is sorted =
      let numbered = (numbering_of (grounded_probe schema (log ++ premise) goal)).facts in
      let (signs, found, same) = model-found numbered (end_of_probe schema (log ++ premise) goal budget) world verdict in
      let most = world-few numbered (sign_at signs) listing (is ∙ same) sorted in
      let few = facts (grounded_probe schema (log ++ premise) goal) in
      let taken = variables (grounded_probe schema (log ++ premise) goal) in
      let all = formulas-few keeps in
      omega (arith, most, few, taken, all, small)

-- a listing of a world in which the premises are true and the goal is false is a block of the probe
pub open-listed : (schema : DatabaseSchema) (premises : List Signed) (goal : Signed) (world : FactSet) (text : Text)
    → IsCountermodel schema premises goal world → ((listing : List Fact) → set.from_list listing ≡ world → IsStrictlySortedBy fact_cmp listing
    → length listing ≤ 100000)
    → IsOpenListing schema world text → IsOpenBlock schema (record { premises = premises; goal = goal }) text
open-listed schema premises goal world text counter few (facts, (is, sorted), text_is) = (
  facts,
  sorted,
  few facts is sorted,
  all_listed schema world facts counter.of_schema is,
  subst (λ w. (all_hold_in schema w premises && not (holds_in schema w goal)) ≡ true) (sym is)
      (λ i. counter.premises_true i && not (counter.goal_false i)),
  text_is,
)
