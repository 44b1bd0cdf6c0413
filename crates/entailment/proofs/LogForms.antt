-- The forms of logs: how they grow, how large they are, and what they tell of a probe.
use Rattle.std.proofs.Common.{◌≡◌, ◌+◌, ◌^◌, ◌<◌, ◌≤◌, Bool, true, List, [], ◌∷◌, ◌++◌, map, sym, ap, ◌∙◌, subst, refl, arith, append_assoc}
use Rattle.std.specs.Prelude.{Option, Some, None}
use Rattle.std.specs.Borrow.{Bor}
use Rattle.std.proofs.lemmas.List.{map-append, append-nil}
use Rattle.std.proofs.lemmas.List.Sums.{sum_by-append}
use Rattle.std.proofs.lemmas.List.Folds.{list_all-append}
use Rattle.std.proofs.lemmas.Bool.{and_from}
use Rattle.cqe_base.specs.Schema.{DatabaseSchema, is_valid_schema}
use Rattle.cqe_base.specs.Ground.{GroundingKeepsNodes, ground_nodes}
use Rattle.cqe_base.specs.SignedGround.{SignedGround}
use Rattle.cqe_base.specs.GroundParts.{nodes_of_list}
use Rattle.cqe_base.specs.Entailment.{Signed, are_sentences_of}
use Rattle.cqe_base.specs.Outcome.{grounded_signed, grounded_probe, probe_list}
use Rattle.cqe_base.specs.Formula.{nodes, is_sentence_of}
use Rattle.cqe_base.specs.MachineLaws.{ClauseFormUsesItsVariables, ClauseFormHasNoRepeat, VariablesAreFew, NumberedFactsAreFew, NumberedFactsAreOfSchema}
use Rattle.clause_form.specs.Forms.{Form, form_of, with_formula, AddedFormsGrow}
use Rattle.entailment.specs.Logs.{log_nodes, sentence_nodes}
use Rattle.entailment.specs.Forms.{form_of_log, with_negated, HasAdded, GoesOn, HasRoomFor, CanBeProbed, IsSearchable}
use Rattle.entailment.specs.GroundSentences.{IsGroundOver}
use Rattle.entailment.specs.Probes.{premise_list, premise_of, goal_of, IsGroundPremise, premise_props, added_by}
use Rattle.entailment.specs.declared.sentences.GroundSentence.{GroundSentence}
use Rattle.entailment.specs.declared.probes.Probe.{Probe}
use Rattle.entailment.proofs.ClauseCount.{clauses_are_few}
use Rattle.entailment.proofs.LogNodes.{grounded-nodes, sentence_nodes-le, probe-nodes}

-- a form with one more formula is that of the longer list
pub has_added : AddedFormsGrow → (formula : SignedGround) (before : Form) → HasAdded (formula ∷ []) before (with_formula before formula)
has_added grow formula before formulas is = ap (λ form. with_formula form formula) is ∙ grow formulas formula

-- nothing was added
pub has_added-nothing : (form : Form) → HasAdded [] form form
has_added-nothing form formulas is = is ∙ ap form_of (sym (append-nil formulas))

-- one list was added, and then another
pub has_added-both : (first rest : List SignedGround) (before middle after : Form) → HasAdded first before middle → HasAdded rest middle after
    → HasAdded (first ++ rest) before after
has_added-both first rest before middle after one other formulas is =
    other (formulas ++ first) (one formulas is) ∙ ap form_of (append_assoc formulas first rest)

-- what was added is some list
pub has_added-goes_on : (more : List SignedGround) (before after : Form) → HasAdded more before after → GoesOn before after
has_added-goes_on more before after added formulas is = (more, added formulas is)

-- beside the constant, a form takes at most one variable for each node of its formulas
form-variables : VariablesAreFew → (formulas : List SignedGround) (form : Form) → form ≡ form_of formulas
    → form.numbering.variables ≤ 1 + nodes_of_list formulas
form-variables few formulas form is =
    let a = few formulas in
    let e : form.numbering.variables ≡ (form_of formulas).numbering.variables = ap (λ f. f.numbering.variables) is in
    omega arith

-- so that the form of a log takes at most one for each node of its sentences
pub variables-few : VariablesAreFew → GroundingKeepsNodes → (schema : DatabaseSchema) (log : List Signed) (form : Form) → form ≡ form_of_log schema log
    → form.numbering.variables ≤ 1 + sentence_nodes schema log
variables-few few keeps schema log form is =
    let a = form-variables few (map (grounded_signed schema) log) form is in
    let b = grounded-nodes keeps schema log in
    omega arith

-- where there is room for a list there is for its beginning
pub room-for-first : (first rest : List SignedGround) (form : Form) → HasRoomFor (first ++ rest) form → HasRoomFor first form
room-for-first first rest form (formulas, is, small) =
    let sum : nodes_of_list (first ++ rest) ≡ nodes_of_list first + nodes_of_list rest = sum_by-append (λ signed. ground_nodes signed.0) first rest in
    (formulas, is, omega arith)

-- and, once that was added, for the rest
pub room-for-rest : (first rest : List SignedGround) (before after : Form) → HasRoomFor (first ++ rest) before → HasAdded first before after
    → HasRoomFor rest after
room-for-rest first rest before after (formulas, is, small) added =
    let sum : nodes_of_list (first ++ rest) ≡ nodes_of_list first + nodes_of_list rest = sum_by-append (λ signed. ground_nodes signed.0) first rest in
    let grown : nodes_of_list (formulas ++ first) ≡ nodes_of_list formulas + nodes_of_list first =
    sum_by-append (λ signed. ground_nodes signed.0) formulas first in
    (formulas ++ first, added formulas is, omega arith)

-- room for one formula is room for its variables
pub room-for-one : VariablesAreFew → (formula : SignedGround) (form : Form) → HasRoomFor (formula ∷ []) form
    → form.numbering.variables + ground_nodes formula.0 < 2 ^ 31
room-for-one few formula form (formulas, is, small) =
    let a = form-variables few formulas form is in
    let one : nodes_of_list (formula ∷ []) ≡ ground_nodes formula.0 = omega arith in
    omega arith

-- what a probe adds, as the sentences that it means
pub added-is : (schema : DatabaseSchema) (probe : Probe) → IsGroundPremise schema probe.premise → IsGroundOver schema probe.goal.0.now
    → added_by probe ≡ map (grounded_signed schema) (with_negated (premise_of probe) (goal_of probe))
added-is schema probe premise_is goal_is =
    (λ k. probe_list (premise-is schema probe.premise premise_is k) (goal_is k, probe.goal.1))
    ∙ sym (map-append (grounded_signed schema) (premise_of probe) (with_negated [] (goal_of probe)))
  where
    premise-is : (schema : DatabaseSchema) (premise : Option (Bor GroundSentence × Bool)) → IsGroundPremise schema premise
        → premise_props premise ≡ map (grounded_signed schema) (premise_list premise)
    premise-is schema None is = refl
    premise-is schema (Some s) is = ap (λ g. (g, s.1) ∷ []) is

-- there is room for what a probe adds to its log, which is small enough
pub probe-room : GroundingKeepsNodes → (schema : DatabaseSchema) (log premise : List Signed) (goal : Signed) (added : List SignedGround) (form : Form)
    → added ≡ map (grounded_signed schema) (with_negated premise goal) → CanBeProbed schema premise goal form log → HasRoomFor added form
probe-room keeps schema log premise goal added form is can =
    let all = can.all_nodes in
    let own = grounded-nodes keeps schema log in
    let within = sentence_nodes-le schema log in
    let more : nodes_of_list added ≡ sentence_nodes schema (with_negated premise goal) =
    ap nodes_of_list is ∙ grounded-nodes keeps schema (with_negated premise goal) in
    let sum = sum_by-append (λ signed. nodes schema signed.0) premise (with_negated [] goal) in
    (map (grounded_signed schema) log, can.form_is, omega arith)

-- and the form with it is that of the log, the premise and the negated goal
pub probe-added : (schema : DatabaseSchema) (log premise : List Signed) (goal : Signed) (added : List SignedGround) (before after : Form)
    → added ≡ map (grounded_signed schema) (with_negated premise goal) → HasAdded added before after → before ≡ form_of_log schema log
    → after ≡ form_of_log schema (with_negated (log ++ premise) goal)
probe-added schema log premise goal added before after is has before_is =
    has (map (grounded_signed schema) log) before_is
    ∙ ap (λ more. form_of (map (grounded_signed schema) log ++ more)) is
    ∙ ap form_of (sym (map-append (grounded_signed schema) log (with_negated premise goal)))
    ∙ ap (form_of_log schema) (sym (append_assoc log premise (with_negated [] goal)))

-- what a probe adds is the form of its premises and the negated goal
pub probe-form : (schema : DatabaseSchema) (premises : List Signed) (goal : Signed)
    → form_of_log schema (with_negated premises goal) ≡ form_of (grounded_probe schema premises goal)
probe-form schema premises goal = ap form_of (map-append (grounded_signed schema) premises (with_negated [] goal))

-- what a probe adds behind the formulas of its log makes the form of the probe
pub probe-whole : (schema : DatabaseSchema) (log : List Signed) (probe : Probe) → IsGroundPremise schema probe.premise
    → IsGroundOver schema probe.goal.0.now
    → form_of (map (grounded_signed schema) log ++ added_by probe) ≡ form_of (grounded_probe schema (log ++ premise_of probe) (goal_of probe))
probe-whole schema log probe premise_is goal_is =
    ap (λ more. form_of (map (grounded_signed schema) log ++ more)) (added-is schema probe premise_is goal_is)
    ∙ ap form_of (sym (map-append (grounded_signed schema) log (with_negated (premise_of probe) (goal_of probe))))
    ∙ ap (form_of_log schema) (sym (append_assoc log (premise_of probe) (with_negated [] (goal_of probe))))
    ∙ probe-form schema (log ++ premise_of probe) (goal_of probe)

-- the premises of a probe are of the schema where the log and the further premise are
pub premises-sentences : (schema : DatabaseSchema) (log premise : List Signed) → are_sentences_of schema log ≡ true → are_sentences_of schema premise ≡ true
    → are_sentences_of schema (log ++ premise) ≡ true
premises-sentences schema log premise of_log of_premise =
    list_all-append (λ signed. is_sentence_of schema signed.0) log premise ∙ and_from _ _ of_log of_premise

-- and so are all its sentences where the goal is too
pub probe-sentences : (schema : DatabaseSchema) (log premise : List Signed) (goal : Signed) → are_sentences_of schema log ≡ true
    → are_sentences_of schema premise ≡ true → is_sentence_of schema goal.0 ≡ true → are_sentences_of schema (with_negated (log ++ premise) goal) ≡ true
probe-sentences schema log premise goal of_log of_premise of_goal =
    list_all-append (λ signed. is_sentence_of schema signed.0) (log ++ premise) (with_negated [] goal)
    ∙ and_from _ _ (premises-sentences schema log premise of_log of_premise) (and_from _ _ of_goal refl)

-- the form of a log that is small enough can be searched
pub log-searchable : VariablesAreFew → GroundingKeepsNodes → ClauseFormUsesItsVariables → ClauseFormHasNoRepeat → NumberedFactsAreFew → NumberedFactsAreOfSchema
    → (schema : DatabaseSchema) (log : List Signed) → is_valid_schema schema ≡ true → are_sentences_of schema log ≡ true → sentence_nodes schema log ≤ 100000
    → IsSearchable schema (form_of_log schema log)
log-searchable few keeps below no_repeat few_facts of_schema schema log valid sentences small =
    let variables = variables-few few keeps schema log (form_of_log schema log) refl in
    let facts = few_facts (map (grounded_signed schema) log) in
    let clauses = clauses_are_few (map (grounded_signed schema) log) in
    let same = grounded-nodes keeps schema log in
    record {
      below = below (map (grounded_signed schema) log);
      no_repeat = no_repeat (map (grounded_signed schema) log);
      few_variables = omega arith;
      few_clauses = omega arith;
      few_facts = omega arith;
      of_schema = of_schema schema log valid sentences;
    }

-- so the form of a probe that is small enough can be
pub probe-searchable : VariablesAreFew → GroundingKeepsNodes → ClauseFormUsesItsVariables → ClauseFormHasNoRepeat → NumberedFactsAreFew
    → NumberedFactsAreOfSchema
    → (schema : DatabaseSchema) (log premise : List Signed) (goal : Signed) (form : Form) → form ≡ form_of_log schema (with_negated (log ++ premise) goal)
    → is_valid_schema schema ≡ true → are_sentences_of schema log ≡ true → are_sentences_of schema premise ≡ true → is_sentence_of schema goal.0 ≡ true
    → log_nodes schema log + sentence_nodes schema premise + nodes schema goal.0 ≤ 100000
    → IsSearchable schema form
probe-searchable few keeps below no_repeat few_facts of_schema schema log premise goal form is valid of_log of_premise of_goal small =
    let within = probe-nodes schema log premise goal in
    subst (IsSearchable schema) (sym is)
    (log-searchable few keeps below no_repeat few_facts of_schema schema (with_negated (log ++ premise) goal) valid
    (probe-sentences schema log premise goal of_log of_premise of_goal) (omega arith))

-- and so can the form of the log alone
pub own-searchable : VariablesAreFew → GroundingKeepsNodes → ClauseFormUsesItsVariables → ClauseFormHasNoRepeat → NumberedFactsAreFew
    → NumberedFactsAreOfSchema
    → (schema : DatabaseSchema) (log premise : List Signed) (goal : Signed) (form : Form) → is_valid_schema schema ≡ true
    → CanBeProbed schema premise goal form log → IsSearchable schema form
own-searchable few keeps below no_repeat few_facts of_schema schema log premise goal form valid can =
    let within = sentence_nodes-le schema log in
    let all = can.all_nodes in
    subst (IsSearchable schema) (sym can.form_is)
    (log-searchable few keeps below no_repeat few_facts of_schema schema log valid can.sentences (omega arith))
