-- What the outcome of a probe tells.
use Rattle.std.proofs.Common.{◌++◌, ◌≡◌, ℕ, Bool, true, false, cond, not, ◌&&◌, List, [], ◌∷◌, map, Option, Some, None, refl, sym, ap, ◌∙◌, subst}
use Rattle.std.specs.List.{AllByRecursion}
use Rattle.std.specs.FinSet as set
use Rattle.std.proofs.lemmas.Bool.{and_parts, and_from, both_ways}
use Rattle.std.proofs.lemmas.List.Folds.{list_all-append}
use Rattle.cqe_base.specs.declared.world.Fact.{Fact}
use Rattle.cqe_base.specs.Schema.{DatabaseSchema, is_valid_schema}
use Rattle.cqe_base.specs.Facts.{FactSet, is_fact_of}
use Rattle.cqe_base.specs.Formula.{is_sentence_of}
use Rattle.cqe_base.specs.Truth.{same_truth, true_in}
use Rattle.cqe_base.specs.Ground.{grounded}
use Rattle.cqe_base.specs.SignedGround.{SignedGround, true_signed, all_signed_true, negated}
use Rattle.cqe_base.specs.GroundParts.{facts_in, facts_in_list}
use Rattle.cqe_base.specs.Entailment.{Signed, holds_in, all_hold_in, Entails, are_sentences_of}
use Rattle.cqe_base.specs.Literal.{Literal, sign_at}
use Rattle.cqe_base.specs.ClauseForm.{same_fact, NumberedFact, clause_form, numbering_of, first_numbering, world_of}
use Rattle.cqe_base.specs.Refutation.{RefutationLine, is_refutation, is_model}
use Rattle.cqe_base.specs.Machine.{End, Model, Refuted, end_within_budget}
use Rattle.cqe_base.specs.Outcome.{Follows, Open, Spent, outcome_of_end, probe_list, grounded_signed, grounded_probe, ground_outcome, outcome}
use Rattle.cqe_base.specs.Outcome.{OpenHasCountermodel, FollowsEntails}
use Rattle.cqe_base.specs.MachineLaws.{GroundEntails, GroundFollowsEntails, GroundOpenIsOpen, RefutationEntails, ModelIsCountermodel, NumberedFactsAreOfSchema}
use Rattle.cqe_base.proofs.Grounding.{grounding_keeps_truth}
use Rattle.cqe_base.proofs.SameFact.{same_fact-true}
use Rattle.cqe_base.proofs.ClauseTruth.{refutation_sound}
use Rattle.cqe_base.proofs.ClauseWorlds.{sign_of_fact, world_gives_model}
use Rattle.cqe_base.proofs.ClauseLaws.{model_gives_world, world_of-sign}
use Rattle.cqe_base.proofs.Occurrences.{EachNumbered, each_append, each_listed, each_passing, passing_each, grounded_facts_are_of_schema}

-- ---- what the end of a search shows

judged_follows : (clauses : List (List Literal)) (o : Option End) → outcome_of_end clauses o ≡ Follows → (lines : List RefutationLine)
    × (is_refutation clauses lines ≡ true)
judged_follows clauses None h = cc
judged_follows clauses (Some (Refuted lines)) h = (lines, from_cond (is_refutation clauses lines) h)
  where
    from_cond : (b : Bool) → cond b Follows Spent ≡ Follows → b ≡ true
    from_cond true h = refl
    from_cond false h = cc
judged_follows clauses (Some (Model signs)) h = from_cond (is_model clauses signs) h
  where
    from_cond : (b : Bool) → cond b Open Spent ≡ Follows → (lines : List RefutationLine) × (is_refutation clauses lines ≡ true)
    from_cond true h = absurd (let x : ⊥ = cc in x)
    from_cond false h = absurd (let x : ⊥ = cc in x)

judged_open : (clauses : List (List Literal)) (o : Option End) → outcome_of_end clauses o ≡ Open → (signs : List Bool) × (is_model clauses signs ≡ true)
judged_open clauses None h = absurd (let x : ⊥ = cc in x)
judged_open clauses (Some (Model signs)) h = (signs, from_cond (is_model clauses signs) h)
  where
    from_cond : (b : Bool) → cond b Open Spent ≡ Open → b ≡ true
    from_cond true h = refl
    from_cond false h = cc
judged_open clauses (Some (Refuted lines)) h = from_cond (is_refutation clauses lines) h
  where
    from_cond : (b : Bool) → cond b Follows Spent ≡ Open → (signs : List Bool) × (is_model clauses signs ≡ true)
    from_cond true h = absurd (let x : ⊥ = cc in x)
    from_cond false h = absurd (let x : ⊥ = cc in x)

negated_true : (truth sign : Bool) → same_truth sign truth ≡ false → same_truth (not sign) truth ≡ true
negated_true truth true h = ap not h
negated_true true false h = refl
negated_true false false h = sym h

negated_false : (truth sign : Bool) → same_truth (not sign) truth ≡ true → same_truth sign truth ≡ false
negated_false true true h = sym h
negated_false false true h = refl
negated_false truth false h = ap not h

-- a right refutation of a probe shows that its premises entail its goal
pub refuted_entails : (premises : List SignedGround) (goal : SignedGround) (lines : List RefutationLine)
    → is_refutation (clause_form (probe_list premises goal)) lines ≡ true → GroundEntails premises goal
refuted_entails premises goal lines right facts t = by_truth (true_signed facts goal) refl
  where
    by_truth : (b : Bool) → true_signed facts goal ≡ b → b ≡ true
    by_truth true e = refl
    by_truth false e =
        let all : all_signed_true facts (probe_list premises goal) ≡ true =
        list_all-append (true_signed facts) premises (negated goal ∷ []) ∙ and_from _ _ t (and_from _ _ (negated_true _ goal.1 e) refl) in
        let model = world_gives_model facts (probe_list premises goal) all in
        absurd (refutation_sound _ lines right model.0 model.1)

-- the world of a right model of a probe has its premises true and its goal false
pub model_opens : (premises : List SignedGround) (goal : SignedGround) (signs : List Bool) → is_model (clause_form (probe_list premises goal)) signs ≡ true
    → let facts = set.contains (world_of (numbering_of (probe_list premises goal)).facts (sign_at signs)) in
    (all_signed_true facts premises ≡ true) × (true_signed facts goal ≡ false)
model_opens premises goal signs right =
    let facts = set.contains (world_of (numbering_of (probe_list premises goal)).facts (sign_at signs)) in
    let all = model_gives_world (probe_list premises goal) (sign_at signs) (and_parts _ _ right).1 in
    let parts = and_parts _ _ (sym (list_all-append (true_signed facts) premises (negated goal ∷ [])) ∙ all) in
    (parts.0, negated_false _ goal.1 (and_parts _ _ parts.1).0)

pub ground_follows_entails : GroundFollowsEntails
unfolding ground_outcome
ground_follows_entails premises goal budget h =
    let formulas = probe_list premises goal in
    let found = judged_follows (clause_form formulas) (end_within_budget (clause_form formulas) (numbering_of formulas).variables budget) h in
    refuted_entails premises goal found.0 found.1

pub ground_open_is_open : GroundOpenIsOpen
unfolding ground_outcome
ground_open_is_open premises goal budget h =
    let formulas = probe_list premises goal in
    let found = judged_open (clause_form formulas) (end_within_budget (clause_form formulas) (numbering_of formulas).variables budget) h in
    let opens = model_opens premises goal found.0 found.1 in
    (set.contains (world_of (numbering_of formulas).facts (sign_at found.0)), opens.0, opens.1)

-- ---- sentences

-- a sentence is true in a world exactly where its ground formula is
grounded_true : (schema : DatabaseSchema) (world : FactSet) (s : Signed) → true_signed (set.contains world) (grounded_signed schema s) ≡ holds_in schema world s
unfolding true_in
grounded_true schema world s = ap (same_truth s.1) (grounding_keeps_truth schema (set.contains world) [] s.0)

all_grounded_true : (schema : DatabaseSchema) (world : FactSet) (premises : List Signed)
    → all_signed_true (set.contains world) (map (grounded_signed schema) premises) ≡ all_hold_in schema world premises
unfolding all_hold_in
all_grounded_true schema world [] = refl
all_grounded_true schema world (s ∷ premises) = λ i. grounded_true schema world s i && all_grounded_true schema world premises i

grounded_entails : (schema : DatabaseSchema) (premises : List Signed) (goal : Signed)
    → GroundEntails (map (grounded_signed schema) premises) (grounded_signed schema goal) → Entails schema premises goal
grounded_entails schema premises goal all world is holds =
    sym (grounded_true schema world goal) ∙ all (set.contains world) (all_grounded_true schema world premises ∙ holds)

pub refutation_entails : RefutationEntails
refutation_entails schema premises goal lines right =
    grounded_entails schema premises goal (refuted_entails (map (grounded_signed schema) premises) (grounded_signed schema goal) lines right)

-- the facts of grounded sentences are of the schema
sentences_of_schema : (schema : DatabaseSchema) (sentences : List Signed) → is_valid_schema schema ≡ true → are_sentences_of schema sentences ≡ true
    → AllByRecursion (λ f. is_fact_of schema f ≡ true) (facts_in_list (map (grounded_signed schema) sentences))
sentences_of_schema schema [] valid all = tt
sentences_of_schema schema (s ∷ sentences) valid all =
    let parts = and_parts (is_sentence_of schema s.0) (are_sentences_of schema sentences) all in
    each_append (λ f. is_fact_of schema f ≡ true) (facts_in (grounded schema s.0)) (facts_in_list (map (grounded_signed schema) sentences))
    (each_passing (is_fact_of schema) (facts_in (grounded schema s.0)) (grounded_facts_are_of_schema schema s.0 valid parts.0))
    (sentences_of_schema schema sentences valid parts.1)

numbered_of_schema : (schema : DatabaseSchema) (sentences : List Signed) → is_valid_schema schema ≡ true → are_sentences_of schema sentences ≡ true
    → EachNumbered (λ f. is_fact_of schema f ≡ true) (numbering_of (map (grounded_signed schema) sentences)).facts
numbered_of_schema schema sentences valid all =
    each_listed (λ f. is_fact_of schema f ≡ true) (map (grounded_signed schema) sentences) first_numbering tt (sentences_of_schema schema sentences valid all)

pub numbered_facts_are_of_schema : NumberedFactsAreOfSchema
numbered_facts_are_of_schema schema sentences valid all =
    passing_each (λ e. is_fact_of schema e.fact) (numbering_of (map (grounded_signed schema) sentences)).facts (numbered_of_schema schema sentences valid all)

-- what a probe adds are the grounded premises and the grounded negation of the goal
probe_grounded : (schema : DatabaseSchema) (premises : List Signed) (goal : Signed)
    → map (grounded_signed schema) (premises ++ (goal.0, not goal.1) ∷ []) ≡ grounded_probe schema premises goal
probe_grounded schema [] goal = refl
probe_grounded schema (s ∷ premises) goal = ap (λ list. grounded_signed schema s ∷ list) (probe_grounded schema premises goal)

probe_sentences : (schema : DatabaseSchema) (premises : List Signed) (goal : Signed) → are_sentences_of schema premises ≡ true
    → is_sentence_of schema goal.0 ≡ true → are_sentences_of schema (premises ++ (goal.0, not goal.1) ∷ []) ≡ true
probe_sentences schema premises goal all well =
    list_all-append (λ (s : Signed). is_sentence_of schema s.0) premises ((goal.0, not goal.1) ∷ []) ∙ and_from _ _ all (and_from _ _ well refl)

-- a fact with a true sign is one that has a number
signed_of_schema : (P : Fact → Type 0) (facts : List NumberedFact) (signs : ℕ → Bool) (f : Fact) → EachNumbered P facts → sign_of_fact facts signs f ≡ true
    → P f
signed_of_schema P [] signs f h e = absurd (both_ways false refl e)
signed_of_schema P (d ∷ facts) signs f h e = by (same_fact f d.fact) refl e (λ k. signed_of_schema P facts signs f h.1 k)
  where
    by : (b : Bool) → same_fact f d.fact ≡ b → cond b (signs d.number) (sign_of_fact facts signs f) ≡ true → (sign_of_fact facts signs f ≡ true → P f) → P f
    by true s e go = subst P (sym (same_fact-true f d.fact s)) h.0
    by false s e go = go e

pub model_is_countermodel : ModelIsCountermodel
model_is_countermodel schema premises goal signs valid all well right =
    let formulas = grounded_probe schema premises goal in
    let world : FactSet = world_of (numbering_of formulas).facts (sign_at signs) in
    let opens = model_opens (map (grounded_signed schema) premises) (grounded_signed schema goal) signs right in
    let numbered : EachNumbered (λ f. is_fact_of schema f ≡ true) (numbering_of formulas).facts =
    subst (λ list. EachNumbered (λ f. is_fact_of schema f ≡ true) (numbering_of list).facts) (probe_grounded schema premises goal)
    (numbered_of_schema schema (premises ++ (goal.0, not goal.1) ∷ []) valid (probe_sentences schema premises goal all well)) in
    record {
      of_schema = λ fact within.
          signed_of_schema (λ f. is_fact_of schema f ≡ true) (numbering_of formulas).facts (sign_at signs) fact numbered
          (sym (world_of-sign formulas (sign_at signs) fact) ∙ within);
      premises_true = sym (all_grounded_true schema world premises) ∙ opens.0;
      goal_false = sym (grounded_true schema world goal) ∙ opens.1;
    }

-- an open probe has a countermodel
pub outcome-Open : OpenHasCountermodel
unfolding outcome ground_outcome
outcome-Open schema premises goal budget valid all well h =
    let formulas = grounded_probe schema premises goal in
    let found = judged_open (clause_form formulas) (end_within_budget (clause_form formulas) (numbering_of formulas).variables budget) h in
    (world_of (numbering_of formulas).facts (sign_at found.0), model_is_countermodel schema premises goal found.0 valid all well found.1)

-- the premises of a probe that follows entail its goal
pub outcome-Follows : FollowsEntails
unfolding outcome
outcome-Follows schema premises goal budget h =
    grounded_entails schema premises goal (ground_follows_entails (map (grounded_signed schema) premises) (grounded_signed schema goal) budget h)
