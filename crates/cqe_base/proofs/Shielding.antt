-- Each mark of the table leaves a guarded sentence that the log doesn't entail unentailed, whether a probe counts as spent or not.
use Rattle.std.proofs.Common.{◌≡◌, Bool, true, false, not, List, [], ◌∷◌, ◌++◌, refl, sym, ap, subst, ◌∙◌, append-nil}
use Rattle.std.specs.Prelude.{Contains, Some, None, if◌then◌else◌}
use Rattle.cqe_base.specs.declared.user.Method.{Method}
use Rattle.cqe_base.specs.declared.user.Method.TheVariants.{Lying, Refusal, Combined}
use Rattle.cqe_base.specs.declared.user.Mark.{Mark}
use Rattle.cqe_base.specs.declared.user.Mark.TheVariants.{Yes, No}
use Rattle.cqe_base.specs.Schema.{DatabaseSchema}
use Rattle.cqe_base.specs.Facts.{FactSet}
use Rattle.cqe_base.specs.Formula.{Formula}
use Rattle.cqe_base.specs.Truth.{true_in}
use Rattle.cqe_base.specs.Entailment.{Signed, holds_in, Entails, entails, IsCountermodel}
use Rattle.cqe_base.specs.History.{UserProfile, told_by}
use Rattle.cqe_base.specs.Censor.{guarded, with_query, with_negation, entails_some, yes_harm, no_harm, implied, implied_by, mark_by}
use Rattle.cqe_base.proofs.Truths.{true_is_not_false, list_any-false}
use Rattle.cqe_base.proofs.Logs.{all_hold_in-both, all_hold_in-one}
use Rattle.cqe_base.proofs.Marks.{lying_mark, refusal_mark, combined_mark}
use Rattle.cqe_base.proofs.Worlds.{entails-true, entails-false}
use Rattle.cqe_base.proofs.Guarding.{lying_guards_one}

-- some world of the schema has the premises true and the sentence false
abbrev pub HasCountermodel : DatabaseSchema → List Signed → Formula → Type 0
HasCountermodel schema premises goal = (world : FactSet) × IsCountermodel schema premises (goal, true) world

module _ (schema : DatabaseSchema) (user : UserProfile) (g : Formula) (guards : Contains (guarded user) g) where
  -- some world has the premises true and the guarded sentence false
  abbrev Shielded : List Signed → Type 0
  Shielded premises = HasCountermodel schema premises g

  -- premises that entail no guarded sentence shield each
  shielded_by : (premises : List Signed) → entails_some schema premises (guarded user) ≡ false → Shielded premises
  shielded_by premises none = entails-false schema premises (g, true) (list_any-false _ (guarded user) none g guards)

  -- a countermodel stays one with a further premise that it makes true
  still_countermodel : (world : FactSet) (premises : List Signed) (s : Signed) → IsCountermodel schema premises (g, true) world → holds_in schema world s ≡ true
      → IsCountermodel schema (premises ++ s ∷ []) (g, true) world
  still_countermodel world premises s is holds = record {
    of_schema = is.of_schema;
    premises_true = all_hold_in-both schema world premises (s ∷ []) is.premises_true (all_hold_in-one schema world s holds);
    goal_false = is.goal_false;
  }

  -- where the premises with a signed sentence entail the goal, a countermodel of the premises makes it false
  refuted : (world : FactSet) (premises : List Signed) (s : Signed) → IsCountermodel schema premises (g, true) world
      → entails schema (premises ++ s ∷ []) (g, true) ≡ true → holds_in schema world s ≡ true → ⊥
  refuted world premises s is follows holds =
      let now = still_countermodel world premises s is holds in
      true_is_not_false (sym (entails-true schema (premises ++ s ∷ []) (g, true) follows world now.of_schema now.premises_true) ∙ now.goal_false)

  -- in a countermodel one of a sentence and its negation is true
  holds_query : (world : FactSet) (query : Formula) (b : Bool) → true_in schema world query ≡ b → (holds_in schema world (query, b) ≡ true)
  holds_query world query true e = e
  holds_query world query false e = ap not e

  shielded_with : (world : FactSet) (premises : List Signed) (query : Formula) (b : Bool) → IsCountermodel schema premises (g, true) world
      → true_in schema world query ≡ b → IsCountermodel schema (premises ++ (query, b) ∷ []) (g, true) world
  shielded_with world premises query b is e = still_countermodel world premises (query, b) is (holds_query world query b e)

  module _ (before : List Signed) (query : Formula) where
    -- lying: where the answer yes is harmful, a countermodel of the log has the query false
    lying_no : user.method ≡ Lying → yes_harm schema user before query ≡ true → Shielded before → Shielded (before ++ (query, false) ∷ [])
    unfolding yes_harm
    lying_no lies harm (world, is) = (world, at (true_in schema world query) refl)
      where
        follows : entails schema (with_query before query) (g, true) ≡ true
        follows = lying_guards_one schema (with_query before query) user.secrets user.method lies g guards harm

        at : (b : Bool) → true_in schema world query ≡ b → IsCountermodel schema (before ++ (query, false) ∷ []) (g, true) world
        at true e = absurd (refuted world before (query, true) is follows e)
        at false e = shielded_with world before query false is e

    -- and where the answer no is harmful, it has the query true
    lying_yes : user.method ≡ Lying → no_harm schema user before query ≡ true → Shielded before → Shielded (before ++ (query, true) ∷ [])
    unfolding no_harm
    lying_yes lies harm (world, is) = (world, at (true_in schema world query) refl)
      where
        follows : entails schema (with_negation before query) (g, true) ≡ true
        follows = lying_guards_one schema (with_negation before query) user.secrets user.method lies g guards harm

        at : (b : Bool) → true_in schema world query ≡ b → IsCountermodel schema (before ++ (query, true) ∷ []) (g, true) world
        at true e = shielded_with world before query true is e
        at false e = absurd (refuted world before (query, false) is follows (ap not e))

    -- where the log implies an answer, a countermodel of the log agrees with it
    implied_case : (m : Method) (b : Bool) → implied_by m schema before query ≡ Some b → Entails schema before (query, b)
    implied_case Lying b e = absurd cc
    implied_case Combined b e = absurd cc
    implied_case Refusal b e = by (entails schema before (query, true)) (entails schema before (query, false)) refl refl b e
      where
        by : (p q : Bool) → entails schema before (query, true) ≡ p → entails schema before (query, false) ≡ q → (b : Bool)
            → (if p then Some true else if q then Some false else None) ≡ Some b → Entails schema before (query, b)
        by true q pe qe true e = entails-true schema before (query, true) pe
        by true q pe qe false e = absurd cc
        by false true pe qe true e = absurd cc
        by false true pe qe false e = entails-true schema before (query, false) qe
        by false false pe qe b e = absurd cc

    implied_shields : (b : Bool) → implied schema user before query ≡ Some b → Shielded before → Shielded (before ++ (query, b) ∷ [])
    unfolding implied
    implied_shields b e (world, is) =
        (world, still_countermodel world before (query, b) is (implied_case user.method b e world is.of_schema is.premises_true))

    nothing_more : Shielded before → Shielded (before ++ [])
    nothing_more = subst Shielded (sym (append-nil before))

    -- what a mark tells leaves the guarded sentence shielded
    abbrev Shields : Mark → Type 0
    Shields mark = Shielded (before ++ told_by mark query)

    harmless_yes : yes_harm schema user before query ≡ false → Shields Yes
    unfolding yes_harm
    harmless_yes none = shielded_by (with_query before query) none

    harmless_no : no_harm schema user before query ≡ false → Shields No
    unfolding no_harm
    harmless_no none = shielded_by (with_negation before query) none

    -- each mark of the table shields, whatever the truth value is
    pub table_shields : (some_spent truth : Bool) → Shielded before
        → Shields (mark_by user.method some_spent (implied schema user before query) (yes_harm schema user before query) (no_harm schema user before query)
        truth)
    table_shields some_spent truth shielded = by user.method refl
      where
        by : (m : Method) → user.method ≡ m
            → Shields (mark_by m some_spent (implied schema user before query) (yes_harm schema user before query) (no_harm schema user before query) truth)
        by Lying is = lying_mark Shields _ _ _ _ _ (nothing_more shielded) harmless_yes harmless_no (λ h. lying_no is h shielded) (λ h. lying_yes is h shielded)
        by Refusal is = refusal_mark Shields _ _ _ _ _ (nothing_more shielded) (nothing_more shielded) (λ e. implied_shields true e shielded)
            (λ e. implied_shields false e shielded) harmless_yes harmless_no
        by Combined is = combined_mark Shields _ _ _ _ _ (nothing_more shielded) (nothing_more shielded) harmless_yes harmless_no
