-- A worked run of the machine: in the hospital it is known that whoever takes the drug has hiv, and
-- whether ann takes it.
use Rattle.std.specs.Prelude.{◌≡◌, ℕ, Bool, true, false, List, [], ◌∷◌, ◌++◌, map, zero, suc}
use Rattle.std.specs.Prelude.{Option, Some, None, option_and_then}
use Rattle.cqe_base.specs.Entailment.{Signed}
use Rattle.cqe_base.specs.SignedGround.{SignedGround}
use Rattle.cqe_base.specs.Literal.{Literal, Positive, Negative}
use Rattle.cqe_base.specs.ClauseForm.{clause_form}
use Rattle.cqe_base.specs.Machine.{Assigned, Decided, Because, State, start, Step, Continues, Ends}
use Rattle.cqe_base.specs.Machine.{step, Model, Refuted, MachineEnds}
use Rattle.cqe_base.specs.Outcome.{Follows, Open, Spent, outcome, grounded_probe}
use Rattle.cqe_base.specs.Examples.{hospital, all_drug_means_hiv, hiv, drug, ann}

-- what is known, with the answer whether ann takes the drug
abbrev pub told_of_ann : Bool → List Signed
told_of_ann answer =
    map (λ sentence. (sentence, true)) all_drug_means_hiv ++ (drug ann, answer) ∷ []

-- the probe whether it follows that ann has hiv
abbrev pub probe_of_ann : Bool → List SignedGround
probe_of_ann answer = grounded_probe hospital (told_of_ann answer) (hiv ann, true)

-- the clauses of the probe: variables 1 and 2 are that ann takes the drug and has hiv, 4 and 5 the
-- same of bob, 3 and 6 the instances, and 7 both
abbrev pub clauses_of_ann : Literal → List (List Literal)
clauses_of_ann answer =
    (Positive 0 ∷ [])
    ∷ (Positive 3 ∷ Positive 1 ∷ [])
    ∷ (Positive 3 ∷ Negative 2 ∷ [])
    ∷ (Negative 3 ∷ Negative 1 ∷ Positive 2 ∷ [])
    ∷ (Positive 6 ∷ Positive 4 ∷ [])
    ∷ (Positive 6 ∷ Negative 5 ∷ [])
    ∷ (Negative 6 ∷ Negative 4 ∷ Positive 5 ∷ [])
    ∷ (Negative 7 ∷ Positive 3 ∷ [])
    ∷ (Negative 7 ∷ Positive 6 ∷ [])
    ∷ (Positive 7 ∷ Negative 3 ∷ Negative 6 ∷ [])
    ∷ (Positive 7 ∷ [])
    ∷ (answer ∷ [])
    ∷ (Negative 2 ∷ [])
    ∷ []

-- the state after a step, unless it ends
abbrev pub next_state : Step → Option State
next_state (Continues cost state) = Some state
next_state (Ends cost end) = None

-- the trail after so many steps, its latest literal first
abbrev pub trail_after : (variables steps : ℕ) → State → Option (List Assigned)
trail_after n zero s = Some s.trail
trail_after n (suc k) s = option_and_then (trail_after n k) (next_state (step n s))

-- the two probes' clauses, trails, ends, whole costs and outcomes
pub record WorkedTrace : Type 0 where
  pub clauses_yes : clause_form (probe_of_ann true) ≡ clauses_of_ann (Positive 1)
  pub clauses_no : clause_form (probe_of_ann false) ≡ clauses_of_ann (Negative 1)
  -- six literals follow one from the other, before clause 12 is false
  pub trail_yes :
      trail_after 8 6 (start (clauses_of_ann (Positive 1))) ≡
      Some
      (Because 3 (Positive 2) ∷ Because 11 (Positive 1) ∷ Because 8 (Positive 6)
      ∷ Because 7 (Positive 3) ∷ Because 10 (Positive 7)
      ∷ Because 0 (Positive 0) ∷ [])
  -- six follow and two are decided, before the model
  pub trail_no :
      trail_after 8 8 (start (clauses_of_ann (Negative 1))) ≡
      Some
      (Decided (Negative 5) ∷ Decided (Negative 4) ∷ Because 12 (Negative 2)
      ∷ Because 11 (Negative 1) ∷ Because 8 (Positive 6)
      ∷ Because 7 (Positive 3) ∷ Because 10 (Positive 7) ∷ Because 0 (Positive 0) ∷ [])
  pub refuted :
      MachineEnds (clauses_of_ann (Positive 1)) 8
      record {
        end =
            Refuted (record { clause = []; chain = 12 ∷ 3 ∷ 11 ∷ 7 ∷ 10 ∷ [] } ∷ []);
        cost = 11;
      }
  pub satisfied :
      MachineEnds (clauses_of_ann (Negative 1)) 8
      record {
        end =
            Model (true ∷ false ∷ false ∷ true ∷ false ∷ false ∷ true ∷ true ∷ []);
        cost = 9;
      }
  pub follows_at_11 : outcome hospital (told_of_ann true) (hiv ann, true) 11 ≡ Follows
  pub spent_at_10 : outcome hospital (told_of_ann true) (hiv ann, true) 10 ≡ Spent
  pub open_at_9 : outcome hospital (told_of_ann false) (hiv ann, true) 9 ≡ Open
  pub spent_at_8 : outcome hospital (told_of_ann false) (hiv ann, true) 8 ≡ Spent
