use Rattle.std.proofs.Common.{◌≡◌, ◌+◌, ◌-◌, min, length, take, drop, map, sym, ap, ◌∙◌, subst, arith}
use Rattle.std.proofs.lemmas.List.{length-reverse, length-append}
use Rattle.cqe_base.specs.Literal.{ClauseBelow, ClausesBelow}
use Rattle.cqe_base.specs.Machine.{end_within, end_within_budget}
use Rattle.clause_store.specs.PlainLines.{line_of}
use Rattle.clause_solver.specs.Bases.{StandsOn}
use Rattle.clause_solver.specs.Costs.{cost_within, cost_within_budget}
use Rattle.clause_solver.specs.IndexedStates.{plain_of}
use Rattle.clause_solver.proofs.Bases.{base_of, stands_on_all, drop_to_oldest}
use Rattle.clause_solver.proofs.StateMoves.{found_from, cost_from, moved_settled, each_first, take_first}
use Rattle.clause_solver.proofs.kept_search.search_from.Goals as goal
use Rattle.clause_solver.proofs.kept_search.search_from.Goals.{In_ok-searched}

size : (c : In_ok-searched) → length c.entries-entries.result.now ≡ length c.args.state.now.assignment.trail
size c = sym (length-reverse c.entries-entries.result.now) ∙ ap length c.entries-entries.ensures

steps : (c : In_ok-searched) → length c.entries-entries.result.now ≡ length c.enter_all.new.state.assignment.trail
steps c = size c ∙ ap length (sym (c.in_ok-enter_all.ensures.trail ∙ c.in_ok-set_variables.ensures.trail))

rest : (c : In_ok-searched) → c.saturating_sub.result ≡ c.args.budget - length c.enter_all.new.state.assignment.trail
rest c = c.saturating_sub.ensures ∙ ap (λ k. c.args.budget - k) (steps c)

-- what was searched still stands on what was kept
stands : (c : In_ok-searched) → StandsOn (base_of c.args.state.now) c.run.new.state
stands c =
    let s = c.args.state.now in
    c.in_ok-searched.ensures.bases (base_of s)
    (c.in_ok-enter_all.ensures.bases (base_of s) (c.in_ok-set_variables.ensures.bases (base_of s) (stands_on_all s c.requires.settled)))

pub go_back-requires-clause-clauses : goal.go_back-requires-clause-clauses
go_back-requires-clause-clauses c =
    let d = (goal.at.go_back-requires-clause-clauses c).In_ok-searched in
    let st = stands d in
    let more = ap length st.0.1 ∙ length-append c.args.state.now.clauses st.0.0 in
    let count = c.len-count.ensures in
    omega arith

pub returns-clause-found : goal.returns-clause-found
returns-clause-found c =
    let d = (goal.at.returns-clause-found c).In_ok-searched in
    c.in_ok-searched.ensures.found
    ∙ found_from c.enter_all.new.state c.args.variables c.args.budget c.saturating_sub.result c.in_ok-enter_all.ensures.kept (rest d)
    ∙ ap (λ cs. end_within_budget cs c.args.variables c.args.budget) c.in_ok-enter_all.ensures.clauses

pub returns-clause-cost : goal.returns-clause-cost
returns-clause-cost c =
    let d = (goal.at.returns-clause-cost c).In_ok-searched in
    let x = c.enter_all.new.state in
    let n = c.args.variables in
    let left = c.saturating_sub.result in
    let room = c.requires.room in
    let size = steps d in
    let least = c.min.ensures in
    let added = c.saturating_add.ensures in
    let spent = c.in_ok-searched.ensures.cost in
    let sum : c.min.result ≡ min c.args.budget (length x.assignment.trail + cost_within left (end_within n left (plain_of x))) = omega arith in
    sum ∙ cost_from x n c.args.budget left c.in_ok-enter_all.ensures.kept (rest d)
    ∙ ap (λ cs. cost_within_budget cs n c.args.budget) c.in_ok-enter_all.ensures.clauses

pub returns-clause-clauses : goal.returns-clause-clauses
returns-clause-clauses c =
    let s = c.args.state.now in
    let st = stands (goal.at.returns-clause-clauses c).In_ok-searched in
    c.go_back.ensures.clauses ∙ (λ i. take (c.len-count.ensures i) (st.0.1 i)) ∙ take_first s.clauses st.0.0

pub returns-clause-settled : goal.returns-clause-settled
returns-clause-settled c =
    let s = c.args.state.now in
    let e = c.go_back.ensures in
    let n = c.args.variables in
    let d = (goal.at.returns-clause-settled c).In_ok-searched in
    let st = stands d in
    let entries = length c.entries-entries.result.now in
    moved_settled s c.go_back.new.self n c.requires.settled (e.looked (base_of s) (sym c.len-count.ensures) (sym (size d)) st)
    (e.variables ∙ c.in_ok-searched.ensures.variables)
    (e.trail ∙ ap (λ t. drop (length t - entries) t) st.1.1 ∙ drop_to_oldest st.1.0 s.assignment.trail entries (sym (size d)))
    (returns-clause-clauses c) (ap (map line_of) e.lines) c.requires.variables
    (each_first (ClauseBelow n) s.clauses c.requires.begins.0 (subst (ClausesBelow n) c.requires.begins.1 c.requires.below))
    e.units e.falsified
