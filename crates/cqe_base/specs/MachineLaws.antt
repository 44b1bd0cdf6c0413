-- The laws of clause forms, refutations and the search machine, as statements. Each is proved as
-- the contract of a function of its own.
use Rattle.std.specs.Prelude.{◌≡◌, map, ◌↔◌, ℕ, ◌+◌, ◌*◌, ◌^◌, ◌<◌, ◌≤◌, Bool, true, false, List}
use Rattle.std.specs.Prelude.{◌++◌, length, Some, Contains}
use Rattle.std.specs.List.{list_all}
use Rattle.std.specs.FinSet as set
use Rattle.cqe_base.specs.declared.world.Fact.{Fact}
use Rattle.cqe_base.specs.Schema.{DatabaseSchema, is_valid_schema}
use Rattle.cqe_base.specs.Facts.{is_fact_of}
use Rattle.cqe_base.specs.Formula.{Formula, is_sentence_of}
use Rattle.cqe_base.specs.Ground.{grounded}
use Rattle.cqe_base.specs.SignedGround.{SignedGround, true_signed, all_signed_true}
use Rattle.cqe_base.specs.GroundParts.{facts_in, facts_in_list, nodes_of_list}
use Rattle.cqe_base.specs.Entailment.{Signed, Entails, IsCountermodel, are_sentences_of}
use Rattle.cqe_base.specs.Literal.{Literal, sign_at, clause_true, clauses_true, ClausesBelow}
use Rattle.cqe_base.specs.Literal.{HaveNoRepeat}
use Rattle.cqe_base.specs.ClauseForm.{NumberedFact, IsProper, clause_form, numbering_of}
use Rattle.cqe_base.specs.ClauseForm.{numbering_after_list, clauses_of_list, world_of}
use Rattle.cqe_base.specs.Refutation.{RefutationLine, single_resolvent, is_refutation, is_model}
use Rattle.cqe_base.specs.Machine.{End, Ended, MachineEnds, end_within_budget}
use Rattle.cqe_base.specs.Outcome.{Follows, Open, Spent, ground_outcome, grounded_signed}
use Rattle.cqe_base.specs.Outcome.{grounded_probe, is_right_end, probe_list}

-- ---- refutations

-- no signs make every clause true
abbrev pub HaveNoModel : List (List Literal) → Type 0
HaveNoModel clauses = (signs : ℕ → Bool) → clauses_true signs clauses ≡ true → ⊥

-- some signs make every clause true
abbrev pub HaveModel : List (List Literal) → Type 0
HaveModel clauses = (signs : ℕ → Bool) × (clauses_true signs clauses ≡ true)

-- the result of resolving two true clauses is true
abbrev pub ResolutionIsSound : Type 0
ResolutionIsSound =
    (signs : ℕ → Bool) (first second result : List Literal)
    → single_resolvent first second ≡ Some result
    → clause_true signs first ≡ true → clause_true signs second ≡ true
    → clause_true signs result ≡ true

-- clauses with a right refutation have no model
abbrev pub RefutationIsSound : Type 0
RefutationIsSound = (clauses : List (List Literal)) (lines : List RefutationLine)
    → is_refutation clauses lines ≡ true → HaveNoModel clauses

-- ---- clause forms

-- the whole list is true where certain facts are
abbrev pub IsSatisfiable : List SignedGround → Type 0
IsSatisfiable formulas = (facts : Fact → Bool) × (all_signed_true facts formulas ≡ true)

-- a clause form has a model exactly where its list can be made true
abbrev pub ModelsAreWorlds : Type 0
ModelsAreWorlds =
    (formulas : List SignedGround) → HaveModel (clause_form formulas) ↔ IsSatisfiable formulas

-- the numbered facts that a model of a clause form makes true are a world in which the list is true
abbrev pub ModelGivesWorld : Type 0
ModelGivesWorld =
    (formulas : List SignedGround) (signs : ℕ → Bool)
    → clauses_true signs (clause_form formulas) ≡ true
    → all_signed_true (set.contains (world_of (numbering_of formulas).facts signs)) formulas ≡ true

-- the clauses of a list are a prefix of those of each longer list that begins with it
abbrev pub ClauseFormIsPrefix : Type 0
ClauseFormIsPrefix =
    (formulas more : List SignedGround)
    → clause_form (formulas ++ more)
    ≡ clause_form formulas ++ clauses_of_list more (numbering_of formulas)

-- the numbering of a list goes on from that of each beginning of it
abbrev pub NumberingGoesOn : Type 0
NumberingGoesOn =
    (formulas more : List SignedGround)
    → numbering_of (formulas ++ more) ≡ numbering_after_list more (numbering_of formulas)

-- the facts that a list numbers are the first of those that each longer list numbers
abbrev pub NumberedFactsStay : Type 0
NumberedFactsStay =
    (formulas more : List SignedGround)
    → (added : List NumberedFact)
    × ((numbering_of (formulas ++ more)).facts ≡ (numbering_of formulas).facts ++ added)

-- a list numbers each fact once, and uses each number once
abbrev pub NumberingsAreProper : Type 0
NumberingsAreProper = (formulas : List SignedGround) → IsProper (numbering_of formulas)

-- the variables of a clause form are below the number of its numbering
abbrev pub ClauseFormUsesItsVariables : Type 0
ClauseFormUsesItsVariables =
    (formulas : List SignedGround)
    → ClausesBelow (numbering_of formulas).variables (clause_form formulas)

-- no clause of a clause form has a literal twice
abbrev pub ClauseFormHasNoRepeat : Type 0
ClauseFormHasNoRepeat = (formulas : List SignedGround) → HaveNoRepeat (clause_form formulas)

-- beside the constant a list takes at most one variable for each node
abbrev pub VariablesAreFew : Type 0
VariablesAreFew =
    (formulas : List SignedGround) → (numbering_of formulas).variables ≤ 1 + nodes_of_list formulas

-- a list numbers fewer facts than it takes variables
abbrev pub NumberedFactsAreFew : Type 0
NumberedFactsAreFew =
    (formulas : List SignedGround)
    → 1 + length (numbering_of formulas).facts ≤ (numbering_of formulas).variables

-- each fact that has a number occurs in a formula of the list
abbrev pub NumberedFactsOccur : Type 0
NumberedFactsOccur =
    (formulas : List SignedGround) (numbered : NumberedFact)
    → Contains (numbering_of formulas).facts numbered
    → Contains (facts_in_list formulas) numbered.fact

-- the facts that occur in a grounded sentence of a valid schema are facts of the schema
abbrev pub GroundedFactsAreOfSchema : Type 0
GroundedFactsAreOfSchema =
    (schema : DatabaseSchema) (sentence : Formula)
    → is_valid_schema schema ≡ true → is_sentence_of schema sentence ≡ true
    → list_all (is_fact_of schema) (facts_in (grounded schema sentence)) ≡ true

-- the facts that a list of grounded sentences of a valid schema numbers are facts of the schema
abbrev pub NumberedFactsAreOfSchema : Type 0
NumberedFactsAreOfSchema =
    (schema : DatabaseSchema) (sentences : List Signed)
    → is_valid_schema schema ≡ true → are_sentences_of schema sentences ≡ true
    → list_all (λ e. is_fact_of schema e.fact)
    (numbering_of (map (grounded_signed schema) sentences)).facts ≡ true

-- ---- the machine

-- the machine has at most one end, with one whole cost
abbrev pub MachineHasOneEnd : Type 0
MachineHasOneEnd =
    (clauses : List (List Literal)) (variables : ℕ) (first second : Ended)
    → MachineEnds clauses variables first → MachineEnds clauses variables second → first ≡ second

-- an end is found within a budget exactly where it is the machine's and its whole cost is at most
-- the budget
abbrev pub BudgetIsWholeCost : Type 0
BudgetIsWholeCost =
    (clauses : List (List Literal)) (variables budget : ℕ) (end : End)
    → (end_within_budget clauses variables budget ≡ Some end)
    ↔ ((cost : ℕ) × MachineEnds clauses variables record {
      end =
          end;
      cost = cost;
    } × (cost ≤ budget))

-- a cost that is enough for n variables
abbrev pub cost_bound : ℕ → ℕ
cost_bound n = (2 * n + 1) * (n + 1) ^ (n + 1)

-- on clauses with variables below n and no literal twice, the machine ends, and its whole cost is
-- within the bound
abbrev pub MachineEndsWithinBound : Type 0
MachineEndsWithinBound =
    (clauses : List (List Literal)) (n : ℕ)
    → ClausesBelow n clauses → HaveNoRepeat clauses
    → (e : Ended) × MachineEnds clauses n e × (e.cost ≤ cost_bound n)

-- on clauses with variables below n and no literal twice, each refutation and each model of the
-- machine is right
abbrev pub MachineEndsAreRight : Type 0
MachineEndsAreRight =
    (clauses : List (List Literal)) (n : ℕ) (e : Ended)
    → ClausesBelow n clauses → HaveNoRepeat clauses
    → MachineEnds clauses n e → is_right_end clauses e.end ≡ true

-- ---- outcomes

-- wherever the premises are true the goal is
abbrev pub GroundEntails : List SignedGround → SignedGround → Type 0
GroundEntails premises goal =
    (facts : Fact → Bool) → all_signed_true facts premises ≡ true → true_signed facts goal ≡ true

-- the premises are true and the goal is false where certain facts are true
abbrev pub GroundIsOpen : List SignedGround → SignedGround → Type 0
GroundIsOpen premises goal =
    (facts : Fact → Bool) × (all_signed_true facts premises ≡ true)
    × (true_signed facts goal ≡ false)

-- ground premises whose outcome is that the goal follows entail it
abbrev pub GroundFollowsEntails : Type 0
GroundFollowsEntails =
    (premises : List SignedGround) (goal : SignedGround) (budget : ℕ)
    → ground_outcome premises goal budget ≡ Follows → GroundEntails premises goal

-- where the outcome of ground premises and a goal is open, the premises can be true and the goal
-- false
abbrev pub GroundOpenIsOpen : Type 0
GroundOpenIsOpen =
    (premises : List SignedGround) (goal : SignedGround) (budget : ℕ)
    → ground_outcome premises goal budget ≡ Open → GroundIsOpen premises goal

-- a right refutation of a probe's clause form shows, without a search, that the premises entail the
-- goal
abbrev pub RefutationEntails : Type 0
RefutationEntails =
    (schema : DatabaseSchema) (premises : List Signed) (goal : Signed) (lines : List RefutationLine)
    → is_refutation (clause_form (grounded_probe schema premises goal)) lines ≡ true
    → Entails schema premises goal

-- the world of a right model of a probe's clause form is one of the valid schema, with the premises
-- true and the goal false
abbrev pub ModelIsCountermodel : Type 0
ModelIsCountermodel =
    (schema : DatabaseSchema) (premises : List Signed) (goal : Signed) (signs : List Bool)
    → is_valid_schema schema ≡ true → are_sentences_of schema premises ≡ true
    → is_sentence_of schema goal.0 ≡ true
    → is_model (clause_form (grounded_probe schema premises goal)) signs ≡ true
    → IsCountermodel schema premises goal
    (world_of (numbering_of (grounded_probe schema premises goal)).facts (sign_at signs))

-- a budget is spent exactly where the whole cost of the machine is above it
abbrev pub SpentIsCost : Type 0
SpentIsCost =
    (premises : List SignedGround) (goal : SignedGround) (budget : ℕ)
    → let formulas = probe_list premises goal in
    (ground_outcome premises goal budget ≡ Spent)
    ↔ ((e : Ended) × MachineEnds (clause_form formulas) (numbering_of formulas).variables e
    × (budget < e.cost))

-- a budget of at least the bound is never spent
abbrev pub EnoughIsNeverSpent : Type 0
EnoughIsNeverSpent =
    (premises : List SignedGround) (goal : SignedGround) (budget : ℕ)
    → cost_bound (numbering_of (probe_list premises goal)).variables ≤ budget
    → ground_outcome premises goal budget ≡ Spent → ⊥
