-- Models of the clauses of sentences are worlds of the schema, and worlds are models.
use Rattle.std.proofs.Common.{◌≡◌, ℕ, Bool, true, false, cond, ◌&&◌, ◌||◌, List, [], ◌∷◌, map, filter, refl, sym, ap, subst, ◌∙◌}
use Rattle.std.specs.Prelude.{◌↔◌}
use Rattle.std.specs.List.{list_any, list_all}
use Rattle.std.specs.Ordering.{eq_by_cmp}
use Rattle.std.specs.FinSet as set
use Rattle.std.proofs.lemmas.Bool.{and_parts, both_ways}
use Rattle.cqe_base.specs.declared.world.Fact.{Fact}
use Rattle.cqe_base.specs.Schema.{DatabaseSchema, is_valid_schema}
use Rattle.cqe_base.specs.Facts.{FactSet, IsWorldOf, fact_cmp, is_fact_of}
use Rattle.cqe_base.specs.Truth.{true_in, same_truth}
use Rattle.cqe_base.specs.Ground.{GroundingKeepsTruth}
use Rattle.cqe_base.specs.SignedGround.{true_signed, all_signed_true}
use Rattle.cqe_base.specs.Entailment.{Signed, holds_in, all_hold_in}
use Rattle.cqe_base.specs.ClauseForm.{NumberedFact, numbering_of, world_of}
use Rattle.cqe_base.specs.Outcome.{grounded_signed}
use Rattle.cqe_base.specs.MachineLaws.{HaveModel, ModelsAreWorlds, ModelGivesWorld, NumberedFactsAreOfSchema}
use Rattle.cqe_base.proofs.Worlds.{fact_cmp_total, tied_is}
use Rattle.clause_form.specs.Forms.{Form}
use Rattle.clause_form.specs.Models.{AreTrueSomewhere, ModelsAreWorldsOfSchema, ModelsOfFormAreWorlds}

-- ---- the truth of sentences and that of their ground formulas

module _ (keeps : GroundingKeepsTruth) (schema : DatabaseSchema) (world : FactSet) where
  -- a sentence is true in a world exactly where its ground formula is
  grounded-holds : (s : Signed)
      → true_signed (set.contains world) (grounded_signed schema s) ≡ holds_in schema world s
  unfolding true_in
  grounded-holds s = ap (same_truth s.1) (keeps schema (set.contains world) [] s.0)

  -- and so are all of a list
  all-grounded-hold : (sentences : List Signed)
      → all_signed_true (set.contains world) (map (grounded_signed schema) sentences)
      ≡ all_hold_in schema world sentences
  unfolding all_hold_in
  all-grounded-hold [] = refl
  all-grounded-hold (s ∷ sentences) = λ i. grounded-holds s i && all-grounded-hold sentences i

-- ---- the world of a model

-- the facts whose sign is true
abbrev true_facts : List NumberedFact → (ℕ → Bool) → List Fact
true_facts facts signs = map (λ e. e.fact) (filter (λ e. signs e.number) facts)

-- of numbered facts of the schema, each whose sign is true is of the schema
among : (schema : DatabaseSchema) (facts : List NumberedFact) (signs : ℕ → Bool) (f : Fact)
    → list_all (λ e. is_fact_of schema e.fact) facts ≡ true
    → list_any (eq_by_cmp fact_cmp f) (true_facts facts signs) ≡ true
    → is_fact_of schema f ≡ true
among schema [] signs f all h = absurd (both_ways false refl h)
among schema (e ∷ facts) signs f all h =
    let of_schema : NumberedFact → Bool = λ e. is_fact_of schema e.fact in
    let parts = and_parts (of_schema e) (list_all of_schema facts) all in
    by (signs e.number) (eq_by_cmp fact_cmp f e.fact) refl parts.0
    (λ k. among schema facts signs f parts.1 k) h
  where
    rest : List NumberedFact
    rest = filter (λ e. signs e.number) facts

    is_among : List NumberedFact → Bool
    is_among es = list_any (eq_by_cmp fact_cmp f) (map (λ e. e.fact) es)

    by : (sign same : Bool) → eq_by_cmp fact_cmp f e.fact ≡ same → is_fact_of schema e.fact ≡ true
        → (is_among rest ≡ true → is_fact_of schema f ≡ true)
        → is_among (cond sign (e ∷ rest) rest) ≡ true → is_fact_of schema f ≡ true
    by false same is first go h = go h
    by true true is first go h = ap (is_fact_of schema) (tied_is f e.fact is) ∙ first
    by true false is first go h = go (ap (λ b. b || is_among rest) (sym is) ∙ h)

-- so the world of a model is of the schema
of-schema : (schema : DatabaseSchema) (facts : List NumberedFact) (signs : ℕ → Bool)
    → list_all (λ e. is_fact_of schema e.fact) facts ≡ true
    → IsWorldOf schema (world_of facts signs)
of-schema schema facts signs all f within =
    among schema facts signs f all
    (sym (set.contains-from_list fact_cmp_total (true_facts facts signs) f) ∙ within)

-- ---- the law

pub models-are-worlds :
    GroundingKeepsTruth → ModelsAreWorlds → ModelGivesWorld → NumberedFactsAreOfSchema
    → ModelsAreWorldsOfSchema
models-are-worlds keeps models gives numbered schema sentences valid all =
    let formulas = map (grounded_signed schema) sentences in
    let facts = (numbering_of formulas).facts in (
      λ model. (
        world_of facts model.0,
        of-schema schema facts model.0 (numbered schema sentences valid all),
        sym (all-grounded-hold keeps schema (world_of facts model.0) sentences)
            ∙ gives formulas model.0 model.1,
      ),
      λ found. (models formulas).1
          (set.contains found.0, all-grounded-hold keeps schema found.0 sentences ∙ found.2),
    )

-- so it is for a form of a valid schema
pub models-of-form :
    ModelsAreWorldsOfSchema → (schema : DatabaseSchema) (form : Form) → is_valid_schema schema ≡ true
    → ModelsOfFormAreWorlds schema form
models-of-form law schema form valid sentences is all =
    subst (λ (f : Form). HaveModel f.clauses ↔ AreTrueSomewhere schema sentences) (sym is)
    (law schema sentences valid all)
