use Rattle.std.proofs.Common.{◌≡◌, ◌+◌, ◌-◌, ◌≤◌, suc, map, Some, refl, sym, ap, ◌∙◌, arith}
use Rattle.cqe_base.specs.Machine.{Continues, Ends, Model, Refuted as MachineRefuted, step}
use Rattle.clause_store.specs.PlainLines.{line_of}
use Rattle.clause_solver.specs.IndexedStates.{plain_of}
use Rattle.clause_solver.proofs.Budget.{went_on, went_past, ended_within, ended_past, no_step}
use Rattle.clause_solver.proofs.Costs.{cost_went_on, cost_went_past, cost_ended_within, cost_ended_past, cost_no_step, spent_cost, added_cost, end_from_start}
use Rattle.clause_solver.proofs.Costs.{cost_from_start}
use Rattle.clause_solver.proofs.run.run.Goals as goal

pub loop-steps-init : goal.loop-steps-init
loop-steps-init c =
    let n = c.args.variables in
    let budget = c.args.budget in
    let all : budget ≤ budget = omega arith in
    record {
      room = omega arith;
      left_room = all;
      variables = c.requires.same;
      indexed = c.requires.indexed;
      same = end_from_start n budget _ _ _ (omega arith) refl;
      cost = cost_from_start n budget _ _ _ (omega arith) refl;
      bases = λ b h. h;
    }

pub returns-then-left-cost : goal.returns-then-left-cost
returns-then-left-cost c =
    let n = c.args.variables in
    let left = c.loop-steps.left in
    let old = plain_of c.loop-steps.state in
    let new = plain_of c.step.new.state in
    let one : c.args.budget - c.loop-steps.steps ≡ suc (c.args.budget - (c.loop-steps.steps + 1)) = omega arith in
    let h : step n old ≡ Continues c.in-Went.cost new = rw c.in-Went.is at c.in_ok-cost.ensures.step in
    record {
      found = c.spent.ensures.found ∙ sym (went_past n left c.in-Went.cost _ _ old new one h c.if-left-cost.true) ∙ c.loop-steps.invariant.same;
      cost = c.spent.ensures.cost
          ∙ spent_cost c.args.budget left _ _ c.loop-steps.invariant.left_room
          (cost_went_past n left c.in-Went.cost _ _ old new one h c.if-left-cost.true) c.loop-steps.invariant.cost;
      variables = c.in_ok-cost.ensures.variables ∙ c.loop-steps.invariant.variables;
      looked = c.in_ok-cost.ensures.indexed.looked;
      bases = λ b h. c.in_ok-cost.ensures.bases b (c.loop-steps.invariant.bases b h);
    }

pub returns-then-left-cost-2 : goal.returns-then-left-cost-2
returns-then-left-cost-2 c =
    let n = c.args.variables in
    let left = c.loop-steps.left in
    let old = plain_of c.loop-steps.state in
    let new = plain_of c.step.new.state in
    let one : c.args.budget - c.loop-steps.steps ≡ suc (c.args.budget - (c.loop-steps.steps + 1)) = omega arith in
    let h : step n old ≡ Ends c.in-Refuted.cost (MachineRefuted new.lines) = rw c.in-Refuted.is at c.in_ok-cost.ensures.step in
    record {
      found = c.spent-then-left-cost-2.ensures.found ∙ sym (ended_past n left c.in-Refuted.cost _ _ old _ one h c.if-left-cost-2.true)
          ∙ c.loop-steps.invariant.same;
      cost = c.spent-then-left-cost-2.ensures.cost
          ∙ spent_cost c.args.budget left _ _ c.loop-steps.invariant.left_room
          (cost_ended_past n left c.in-Refuted.cost _ _ old _ one h c.if-left-cost-2.true) c.loop-steps.invariant.cost;
      variables = c.in_ok-cost.ensures.variables ∙ c.loop-steps.invariant.variables;
      looked = c.in_ok-cost.ensures.indexed.looked;
      bases = λ b h. c.in_ok-cost.ensures.bases b (c.loop-steps.invariant.bases b h);
    }

pub returns-in-Refuted : goal.returns-in-Refuted
returns-in-Refuted c =
    let n = c.args.variables in
    let left = c.loop-steps.left in
    let old = plain_of c.loop-steps.state in
    let new = plain_of c.step.new.state in
    let one : c.args.budget - c.loop-steps.steps ≡ suc (c.args.budget - (c.loop-steps.steps + 1)) = omega arith in
    let h : step n old ≡ Ends c.in-Refuted.cost (MachineRefuted new.lines) = rw c.in-Refuted.is at c.in_ok-cost.ensures.step in
    record {
      found = ap (λ ls. Some (MachineRefuted (map line_of ls.items))) c.replace-lines.ensures.value
          ∙ sym (ended_within n left c.in-Refuted.cost _ _ old _ one h c.if-left-cost-2.false) ∙ c.loop-steps.invariant.same;
      cost = sym (ap (λ k. c.args.budget - left + k) (cost_ended_within n left c.in-Refuted.cost _ _ old _ one h c.if-left-cost-2.false))
          ∙ c.loop-steps.invariant.cost;
      variables = c.in_ok-cost.ensures.variables ∙ c.loop-steps.invariant.variables;
      looked = (let k = c.in_ok-cost.ensures.indexed.looked in record { watches = k.watches; same = k.same; distinct = k.distinct; idle = k.idle });
      bases = λ b h. c.in_ok-cost.ensures.bases b (c.loop-steps.invariant.bases b h);
    }

pub returns-then-left-cost-3 : goal.returns-then-left-cost-3
returns-then-left-cost-3 c =
    let n = c.args.variables in
    let left = c.loop-steps.left in
    let old = plain_of c.loop-steps.state in
    let one : c.args.budget - c.loop-steps.steps ≡ suc (c.args.budget - (c.loop-steps.steps + 1)) = omega arith in
    let h : step n old ≡ Ends c.in-Satisfied.cost (Model c.in-Satisfied.signs.values.items) = rw c.in-Satisfied.is at c.in_ok-cost.ensures.step in
    record {
      found = c.spent-then-left-cost-3.ensures.found ∙ sym (ended_past n left c.in-Satisfied.cost _ _ old _ one h c.if-left-cost-3.true)
          ∙ c.loop-steps.invariant.same;
      cost = c.spent-then-left-cost-3.ensures.cost
          ∙ spent_cost c.args.budget left _ _ c.loop-steps.invariant.left_room
          (cost_ended_past n left c.in-Satisfied.cost _ _ old _ one h c.if-left-cost-3.true) c.loop-steps.invariant.cost;
      variables = c.in_ok-cost.ensures.variables ∙ c.loop-steps.invariant.variables;
      looked = c.in_ok-cost.ensures.indexed.looked;
      bases = λ b h. c.in_ok-cost.ensures.bases b (c.loop-steps.invariant.bases b h);
    }

pub returns-in-Satisfied : goal.returns-in-Satisfied
returns-in-Satisfied c =
    let n = c.args.variables in
    let left = c.loop-steps.left in
    let old = plain_of c.loop-steps.state in
    let one : c.args.budget - c.loop-steps.steps ≡ suc (c.args.budget - (c.loop-steps.steps + 1)) = omega arith in
    let h : step n old ≡ Ends c.in-Satisfied.cost (Model c.in-Satisfied.signs.values.items) = rw c.in-Satisfied.is at c.in_ok-cost.ensures.step in
    record {
      found = sym (ended_within n left c.in-Satisfied.cost _ _ old _ one h c.if-left-cost-3.false) ∙ c.loop-steps.invariant.same;
      cost = sym (ap (λ k. c.args.budget - left + k) (cost_ended_within n left c.in-Satisfied.cost _ _ old _ one h c.if-left-cost-3.false))
          ∙ c.loop-steps.invariant.cost;
      variables = c.in_ok-cost.ensures.variables ∙ c.loop-steps.invariant.variables;
      looked = c.in_ok-cost.ensures.indexed.looked;
      bases = λ b h. c.in_ok-cost.ensures.bases b (c.loop-steps.invariant.bases b h);
    }

pub loop-steps-preserved : goal.loop-steps-preserved
loop-steps-preserved c =
    let n = c.args.variables in
    let left = c.loop-steps.left in
    let old = plain_of c.loop-steps.state in
    let new = plain_of c.step.new.state in
    let one : c.args.budget - c.loop-steps.steps ≡ suc (c.args.budget - (c.loop-steps.steps + 1)) = omega arith in
    let h : step n old ≡ Continues c.in-Went.cost new = rw c.in-Went.is at c.in_ok-cost.ensures.step in
    record {
      room = omega (arith, c.in_ok-cost.ensures.grows);
      left_room = omega (arith, c.loop-steps.invariant.left_room);
      variables = c.in_ok-cost.ensures.variables ∙ c.loop-steps.invariant.variables;
      indexed = c.in_ok-cost.ensures.indexed;
      same = sym (went_on n left c.in-Went.cost _ _ old new one h c.if-left-cost.false) ∙ c.loop-steps.invariant.same;
      cost = added_cost c.args.budget left c.in-Went.cost _ _ _ c.loop-steps.invariant.left_room c.if-left-cost.false
          (cost_went_on n left c.in-Went.cost _ _ old new one h c.if-left-cost.false) c.loop-steps.invariant.cost;
      bases = λ b h. c.in_ok-cost.ensures.bases b (c.loop-steps.invariant.bases b h);
    }

pub returns : goal.returns
returns c =
    let none = cost_no_step c.args.variables c.loop-steps.left (c.args.budget - c.loop-steps.steps) (plain_of c.loop-steps.state) (omega arith) in
    record {
      found = c.spent-2.ensures.found
          ∙ sym (no_step c.args.variables c.loop-steps.left (c.args.budget - c.loop-steps.steps) (plain_of c.loop-steps.state) (omega arith))
          ∙ c.loop-steps.invariant.same;
      cost = c.spent-2.ensures.cost ∙ spent_cost c.args.budget c.loop-steps.left _ _ c.loop-steps.invariant.left_room none c.loop-steps.invariant.cost;
      variables = c.loop-steps.invariant.variables;
      looked = c.loop-steps.invariant.indexed.looked;
      bases = c.loop-steps.invariant.bases;
    }
