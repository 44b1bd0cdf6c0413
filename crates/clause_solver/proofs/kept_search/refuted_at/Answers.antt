use Rattle.std.proofs.Common.{◌≡◌, ◌+◌, [], ◌∷◌, ◌++◌, length, map, Some, inr, sym, ap, ◌∙◌, subst, arith}
use Rattle.cqe_base.specs.MachineStates.{IsReached}
use Rattle.cqe_base.specs.Machine.{Refuted}
use Rattle.cqe_base.proofs.KeptTrails.{level_kept}
use Rattle.clause_store.specs.Marking.{Marking}
use Rattle.clause_store.specs.PlainLines.{line_of}
use Rattle.clause_solver.specs.Lines.{state_at}
use Rattle.clause_solver.proofs.KeptEnds.{probe_reached, found_at, cost_at, spent_at, spends_at}
use Rattle.clause_solver.proofs.kept_search.refuted_at.Goals as goal

pub conflict_line-requires-clause-conflict : goal.conflict_line-requires-clause-conflict
conflict_line-requires-clause-conflict c =
    let s = c.args.state.now in
    inr (level_kept s.clauses s.assignment.trail c.requires.settled.state.kept, c.requires.first.falsified)

pub conflict_line-requires-clause-reached : goal.conflict_line-requires-clause-reached
conflict_line-requires-clause-reached c =
    let s = c.args.state.now in
    subst (λ m. IsReached m (state_at c.args.clauses.now s.assignment.trail)) (sym (ap (λ (m : Marking). m.variables) c.in_ok-resolvent.ensures))
    (probe_reached c.args.variables s.clauses c.requires.begins.0 c.args.clauses.now s.assignment.trail c.requires.begins.1 c.requires.below
    c.requires.no_repeat c.requires.settled.state.kept)

pub returns-then-budget-cost-clause-found : goal.returns-then-budget-cost-clause-found
returns-then-budget-cost-clause-found c =
    let s = c.args.state.now in
    let high = c.if-budget-cost.true in
    let cost = c.saturating_add-cost.ensures in
    let chain = c.len.ensures in
    let ok = c.in_ok-line.line.chain.ok.0 in
    c.spent.ensures.found
    ∙ sym (spent_at c.args.variables c.args.budget s.clauses c.requires.begins.0 c.args.clauses.now c.requires.begins.1 s.assignment.trail c.args.first
    (line_of c.in_ok-line.line) c.requires.below c.requires.no_repeat c.requires.settled.state.kept c.requires.settled.calm c.requires.first
    c.in_ok-line.ensures.line (omega arith))

pub returns-then-budget-cost-clause-cost : goal.returns-then-budget-cost-clause-cost
returns-then-budget-cost-clause-cost c =
    let s = c.args.state.now in
    let high = c.if-budget-cost.true in
    let cost = c.saturating_add-cost.ensures in
    let chain = c.len.ensures in
    let ok = c.in_ok-line.line.chain.ok.0 in
    c.spent.ensures.cost
    ∙ sym (spends_at c.args.variables c.args.budget s.clauses c.requires.begins.0 c.args.clauses.now c.requires.begins.1 s.assignment.trail c.args.first
    (line_of c.in_ok-line.line) c.requires.below c.requires.no_repeat c.requires.settled.state.kept c.requires.settled.calm c.requires.first
    c.in_ok-line.ensures.line (omega arith))

pub returns-clause-found : goal.returns-clause-found
returns-clause-found c =
    let s = c.args.state.now in
    let low = c.if-budget-cost.false in
    let cost = c.saturating_add-cost.ensures in
    let chain = c.len.ensures in
    let ok = c.in_ok-line.line.chain.ok.0 in
    let room = c.requires.room in
    ap (λ ls. Some (Refuted (map line_of ls))) (c.in_ok-push.ensures.items ∙ ap (λ xs. xs ++ c.in_ok-line.line ∷ []) c.new-lines.ensures.items)
    ∙ sym (found_at c.args.variables c.args.budget s.clauses c.requires.begins.0 c.args.clauses.now c.requires.begins.1 s.assignment.trail c.args.first
    (line_of c.in_ok-line.line) c.requires.below c.requires.no_repeat c.requires.settled.state.kept c.requires.settled.calm c.requires.first
    c.in_ok-line.ensures.line (omega arith))

pub returns-clause-cost : goal.returns-clause-cost
returns-clause-cost c =
    let s = c.args.state.now in
    let low = c.if-budget-cost.false in
    let cost = c.saturating_add-cost.ensures in
    let chain = c.len.ensures in
    let ok = c.in_ok-line.line.chain.ok.0 in
    let room = c.requires.room in
    let sum : c.saturating_add-cost.result ≡ c.args.first.place + length c.in_ok-line.line.chain.items = omega arith in
    sum
    ∙ sym (cost_at c.args.variables c.args.budget s.clauses c.requires.begins.0 c.args.clauses.now c.requires.begins.1 s.assignment.trail c.args.first
    (line_of c.in_ok-line.line) c.requires.below c.requires.no_repeat c.requires.settled.state.kept c.requires.settled.calm c.requires.first
    c.in_ok-line.ensures.line (omega arith))
