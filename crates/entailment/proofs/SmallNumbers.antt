-- The numbers of a refutation with which the machine ends within a budget are small.
use Rattle.std.proofs.Common.{◌≡◌, ℕ, zero, suc, ◌+◌, ◌<◌, ◌≤◌, Bool, true, false, List, [], ◌∷◌, ◌++◌, length, Option, Some, None, Result, Ok, Err}
use Rattle.std.proofs.Common.{refl, ap, ◌∙◌, subst, arith, length-append}
use Rattle.std.specs.Prelude.{◌||◌, cond, nat_lt, slice_get, IfOk}
use Rattle.std.specs.List.{list_all, AllByRecursion}
use Rattle.std.proofs.lemmas.Bool.{and_parts, and_from, both_ways, cond_both, le-leb, lt-ltb, ltb-true}
use Rattle.cqe_base.specs.Schema.{DatabaseSchema}
use Rattle.cqe_base.specs.Literal.{Literal, variable_of, opposite, has_literal, ClauseBelow, ClausesBelow}
use Rattle.cqe_base.specs.Refutation.{RefutationLine, without_variable, resolvent, clashes, resolvent_on, single_resolvent, resolvent_with_next, chain_from}
use Rattle.cqe_base.specs.Refutation.{chain_result, is_result, lines_right}
use Rattle.cqe_base.specs.Machine.{State, start, Model, Refuted, Step, Continues, Ends, kept_count, conflict_line, conflict_cost, state_after_conflict}
use Rattle.cqe_base.specs.Machine.{conflict_step, first_unit, first_unassigned, decide_step, unit_step, conflict_or_unit_step, step}
use Rattle.cqe_base.specs.Machine.{Ended, with_cost, end_after, end_within}
use Rattle.cqe_base.specs.MachineLaws.{BudgetIsWholeCost}
use Rattle.cqe_base.proofs.Analysis.{each_filter, each_union}
use Rattle.cqe_base.proofs.MachineRules.{each_has}
use Rattle.cqe_base.proofs.MachineRuns.{analysis_chain}
use Rattle.cqe_base.proofs.Numberings.{ClausesBelow-append}
use Rattle.clause_store.specs.PlainLines.{lines_of}
use Rattle.clause_form.specs.Forms.{Form}
use Rattle.entailment.specs.Forms.{IsSearchable}
use Rattle.entailment.specs.Small.{is_small_literal, is_small_number, is_small_line}
use Rattle.entailment.specs.Verdicts.{searched_end}
use Rattle.entailment.specs.Certificates.{IsRightFor, IsMachines, HasSmallNumbers}
use Rattle.entailment.specs.declared.probes.Certified.{Certified}
use Rattle.entailment.specs.declared.probes.Certified.TheVariants.{Follows, Open, Spent}

-- ---- a refutation has no more lines than it costs

-- a step adds no more lines than it costs
abbrev LinesGrow : State → Step → Type 0
LinesGrow s (Continues cost new) = length new.lines ≤ length s.lines + cost
LinesGrow s (Ends cost (Model signs)) = Unit {0}
LinesGrow s (Ends cost (Refuted lines)) = length lines ≤ length s.lines + cost

conflict_grows : (s : State) (i : ℕ) → LinesGrow s (conflict_step s i)
conflict_grows s i =
    let line = conflict_line s i in
    let costs : 1 ≤ length line.chain = analysis_chain s.clauses s.trail (kept_count s.trail) (length s.trail) _ (omega arith) in
    let more : length (s.lines ++ line ∷ []) ≡ length s.lines + 1 = length-append s.lines (line ∷ []) in
    cond_both _ (Ends (conflict_cost line) (Refuted (s.lines ++ line ∷ []))) (Continues (conflict_cost line) (state_after_conflict s line))
    (LinesGrow s) (λ _. omega arith) (λ _. omega arith)

decide_grows : (n : ℕ) (s : State) (o : Option ℕ) → LinesGrow s (decide_step n s o)
decide_grows n s None = tt
decide_grows n s (Some v) = omega arith

unit_grows : (n : ℕ) (s : State) (o : Option (ℕ × Literal)) → LinesGrow s (unit_step n s o)
unit_grows n s None = decide_grows n s (first_unassigned s.trail n)
unit_grows n s (Some unit) = omega arith

rule_grows : (n : ℕ) (s : State) (o : Option ℕ) → LinesGrow s (conflict_or_unit_step n s o)
rule_grows n s None = unit_grows n s (first_unit s.trail 0 s.clauses)
rule_grows n s (Some i) = conflict_grows s i

step_grows : (n : ℕ) (s : State) → LinesGrow s (step n s)
unfolding step
step_grows n s = rule_grows n s _

-- the lines of a refutation that is reached from lines so far are few beside its cost
abbrev AreFewBeside : ℕ → Ended → Type 0
AreFewBeside before e = (lines : List RefutationLine) → e.end ≡ Refuted lines → length lines ≤ before + e.cost

few_after : (n k : ℕ) (s : State) (x : Step) (e : Ended) → LinesGrow s x
    → ((new : State) (f : Ended) → end_within n k new ≡ Some f → AreFewBeside (length new.lines) f)
    → end_after x (end_within n k) ≡ Some e → AreFewBeside (length s.lines) e
few_after n k s (Ends cost (Model signs)) e grows go h lines is =
    let same : record { end = Model signs; cost = cost } ≡ e = cc in
    let other : Model signs ≡ Refuted lines = ap (λ (f : Ended). f.end) same ∙ is in
    absurd (let x : ⊥ = cc in x)
few_after n k s (Ends cost (Refuted own)) e grows go h lines is =
    let same : record { end = Refuted own; cost = cost } ≡ e = cc in
    let costs : cost ≡ e.cost = ap (λ (f : Ended). f.cost) same in
    let both : Refuted own ≡ Refuted lines = ap (λ (f : Ended). f.end) same ∙ is in
    let alike : own ≡ lines = cc in
    let count : length own ≡ length lines = ap length alike in
    omega arith
few_after n k s (Continues cost new) e grows go h lines is = by_rest (end_within n k new) refl h
  where
    by_rest : (o : Option Ended) → end_within n k new ≡ o → with_cost cost o ≡ Some e → length lines ≤ length s.lines + e.cost
    by_rest None eq h = absurd (let x : ⊥ = cc in x)
    by_rest (Some f) eq h =
        let same : record { end = f.end; cost = cost + f.cost } ≡ e = cc in
        let costs : cost + f.cost ≡ e.cost = ap (λ (g : Ended). g.cost) same in
        let few = go new f eq lines (ap (λ (g : Ended). g.end) same ∙ is) in
        omega arith

few_lines : (n k : ℕ) (s : State) (e : Ended) → end_within n k s ≡ Some e → AreFewBeside (length s.lines) e
unfolding end_within
few_lines n zero s e h = absurd (let x : ⊥ = cc in x)
few_lines n (suc k) s e h = few_after n k s (step n s) e (step_grows n s) (λ new f eq. few_lines n k new f eq) h

-- ---- what a chain names is there, and its result uses what the clauses use

got_each : (P : List Literal → Type 0) (cs : List (List Literal)) (i : ℕ) (c : List Literal) → AllByRecursion P cs → slice_get cs i ≡ Some c
    → P c × (i < length cs)
got_each P [] i c all e = absurd (let x : ⊥ = cc in x)
got_each P (d ∷ cs) zero c all e = (subst P (let same : d ≡ c = cc in same) all.0, omega arith)
got_each P (d ∷ cs) (suc i) c all e =
    let rest = got_each P cs i c all.1 e in
    let lt = rest.1 in
    (rest.0, omega arith)

on_below : (n : ℕ) (ls c d r : List Literal) → resolvent_on ls c d ≡ Some r → ClauseBelow n c → ClauseBelow n d → ClauseBelow n r
on_below n [] c d r h bc bd = absurd (let x : ⊥ = cc in x)
on_below n (l ∷ []) c d r h bc bd = by_test (has_literal c (opposite l) || has_literal d l) h
  where
    by_test : (b : Bool) → cond b None (Some (resolvent (variable_of l) c d)) ≡ Some r → ClauseBelow n r
    by_test true h = absurd (let x : ⊥ = cc in x)
    by_test false h =
        let same : resolvent (variable_of l) c d ≡ r = cc in
        subst (ClauseBelow n) same
        (each_union (λ m. variable_of m < n) (without_variable (variable_of l) d) (without_variable (variable_of l) c)
        (each_filter (λ m. variable_of m < n) _ c bc) (each_filter (λ m. variable_of m < n) _ d bd))
on_below n (l ∷ m ∷ rest) c d r h bc bd = absurd (let x : ⊥ = cc in x)

-- the numbers of a chain are those of clauses, and its result uses variables below n
record IsChain (n : ℕ) (cs : List (List Literal)) (chain : List ℕ) (r : List Literal) : Type 0 where
  below : ClauseBelow n r
  named : list_all (λ i. nat_lt i (length cs)) chain ≡ true

module _ (n : ℕ) (cs : List (List Literal)) (bs : ClausesBelow n cs) where
  chain_more : (i : ℕ) (xs : List ℕ) (r c d : List Literal) (o : Option (List Literal)) → i < length cs → single_resolvent c d ≡ o → ClauseBelow n c
      → ClauseBelow n d → ((e : List Literal) → ClauseBelow n e → chain_from cs (Some e) xs ≡ Some r → IsChain n cs xs r)
      → chain_from cs o xs ≡ Some r → IsChain n cs (i ∷ xs) r
  chain_more i xs r c d None lt eq bc bd go h = absurd (let x : ⊥ = cc in x)
  chain_more i xs r c d (Some e) lt eq bc bd go h =
      let rest = go e (on_below n (clashes c d) c d e eq bc bd) h in
      record { below = rest.below; named = and_from _ _ (lt-ltb i (length cs) lt) rest.named }

  chain_with : (i : ℕ) (xs : List ℕ) (r c : List Literal) (o : Option (List Literal)) → slice_get cs i ≡ o → ClauseBelow n c
      → ((e : List Literal) → ClauseBelow n e → chain_from cs (Some e) xs ≡ Some r → IsChain n cs xs r)
      → chain_from cs (resolvent_with_next c o) xs ≡ Some r → IsChain n cs (i ∷ xs) r
  chain_with i xs r c None eq bc go h = absurd (let x : ⊥ = cc in x)
  chain_with i xs r c (Some d) eq bc go h =
      let got = got_each (ClauseBelow n) cs i d bs eq in
      chain_more i xs r c d (single_resolvent c d) got.1 refl bc got.0 go h

  chain_goes_on : (xs : List ℕ) (r c : List Literal) → ClauseBelow n c → chain_from cs (Some c) xs ≡ Some r → IsChain n cs xs r
  chain_goes_on [] r c bc h = record { below = subst (ClauseBelow n) (let same : c ≡ r = cc in same) bc; named = refl }
  chain_goes_on (i ∷ xs) r c bc h = chain_with i xs r c (slice_get cs i) refl bc (λ e be. chain_goes_on xs r e be) h

  chain_begins : (i : ℕ) (xs : List ℕ) (r : List Literal) (o : Option (List Literal)) → slice_get cs i ≡ o → chain_from cs o xs ≡ Some r
      → IsChain n cs (i ∷ xs) r
  chain_begins i xs r None eq h = absurd (let x : ⊥ = cc in x)
  chain_begins i xs r (Some c) eq h =
      let got = got_each (ClauseBelow n) cs i c bs eq in
      let rest = chain_goes_on xs r c got.0 h in
      record { below = rest.below; named = and_from _ _ (lt-ltb i (length cs) got.1) rest.named }

  is_chain : (xs : List ℕ) (r : List Literal) → chain_result cs xs ≡ Some r → IsChain n cs xs r
  is_chain [] r h = absurd (let x : ⊥ = cc in x)
  is_chain (i ∷ xs) r h = chain_begins i xs r (slice_get cs i) refl h

-- ---- lines

small_numbers : (k : ℕ) (xs : List ℕ) → k ≤ 2147483647 → list_all (λ i. nat_lt i k) xs ≡ true → list_all is_small_number xs ≡ true
small_numbers k [] low h = refl
small_numbers k (x ∷ xs) low h =
    let parts = and_parts (nat_lt x k) (list_all (λ i. nat_lt i k) xs) h in
    let lt : x < k = ltb-true x k parts.0 in
    and_from _ _ (le-leb x 2147483646 (omega arith)) (small_numbers k xs low parts.1)

small_literals : (n : ℕ) (c : List Literal) → n ≤ 2147483647 → ClauseBelow n c → list_all is_small_literal c ≡ true
small_literals n [] low h = refl
small_literals n (l ∷ c) low h =
    let lt : variable_of l < n = h.0 in
    and_from _ _ (le-leb (variable_of l) 2147483646 (omega arith)) (small_literals n c low h.1)

-- a clause whose literals another has uses what that uses
below_too : (n : ℕ) (r c : List Literal) → ClauseBelow n r → list_all (has_literal r) c ≡ true → ClauseBelow n c
below_too n r [] br h = tt
below_too n r (l ∷ c) br h =
    let parts = and_parts (has_literal r l) (list_all (has_literal r) c) h in
    (each_has (λ m. variable_of m < n) r l br parts.0, below_too n r c br parts.1)

-- a right line over few clauses
record IsSmallLine (n : ℕ) (line : RefutationLine) : Type 0 where
  below : ClauseBelow n line.clause
  small : is_small_line line ≡ true

module _ (n : ℕ) (low : n ≤ 2147483647) where
  small_line : (cs : List (List Literal)) (line : RefutationLine) (o : Option (List Literal)) → ClausesBelow n cs → length cs ≤ 2147483647
      → chain_result cs line.chain ≡ o → is_result line.clause o ≡ true → IsSmallLine n line
  small_line cs line None bs few eq h = absurd (both_ways false refl h)
  small_line cs line (Some r) bs few eq h =
      let chain = is_chain n cs bs line.chain r eq in
      let parts = and_parts (list_all (has_literal r) line.clause) (list_all (has_literal line.clause) r) h in
      let below = below_too n r line.clause chain.below parts.0 in
      record {
        below = below;
        small = and_from _ _ (small_literals n line.clause low below) (small_numbers (length cs) line.chain few chain.named);
      }

  small_lines : (cs : List (List Literal)) (lines : List RefutationLine) → ClausesBelow n cs → length cs + length lines ≤ 2147483647
      → lines_right cs lines ≡ true → list_all is_small_line lines ≡ true
  small_lines cs [] bs few h = refl
  small_lines cs (line ∷ lines) bs few h =
      let parts = and_parts (is_result line.clause (chain_result cs line.chain)) (lines_right (cs ++ line.clause ∷ []) lines) h in
      let first = small_line cs line (chain_result cs line.chain) bs (omega arith) refl parts.0 in
      let more : length (cs ++ line.clause ∷ []) ≡ length cs + 1 = length-append cs (line.clause ∷ []) in
      and_from _ _ first.small
      (small_lines (cs ++ line.clause ∷ []) lines (ClausesBelow-append n cs (line.clause ∷ []) bs (first.below, tt)) (omega arith) parts.1)

-- what is found on a small form within a budget that may be set has small numbers
pub small-found : BudgetIsWholeCost → (schema : DatabaseSchema) (form : Form) (budget : ℕ) (found : Certified) → IsSearchable schema form
    → budget ≤ 4000000 → IsRightFor form.clauses found → IsMachines (searched_end form budget) found → HasSmallNumbers found
small-found whole schema form budget (Follows refutation) can low right machines =
    let lines = lines_of refutation in
    let ended = (whole form.clauses form.numbering.variables budget (Refuted lines)).0 machines in
    let few : length lines ≤ 0 + ended.0 =
    few_lines form.numbering.variables ended.1.0 (start form.clauses) (record { end = Refuted lines; cost = ended.0 }) ended.1.1 lines refl in
    let within : ended.0 ≤ budget = ended.2 in
    let variables = can.few_variables in
    let clauses = can.few_clauses in
    let parts = and_parts (lines_right form.clauses lines) _ right in
    small_lines form.numbering.variables (omega arith) form.clauses lines can.below (omega arith) parts.0
small-found whole schema form budget (Open world) can low right machines = tt
small-found whole schema form budget Spent can low right machines = tt

pub small-result : {E : Type 0} → BudgetIsWholeCost → (schema : DatabaseSchema) (form : Form) (budget : ℕ) (found : Result Certified E)
    → IsSearchable schema form → budget ≤ 4000000 → IfOk found (IsRightFor form.clauses) → IfOk found (IsMachines (searched_end form budget))
    → IfOk found HasSmallNumbers
small-result whole schema form budget (Ok found) can low right machines = small-found whole schema form budget found can low right machines
small-result whole schema form budget (Err error) can low right machines = tt
