use Rattle.std.proofs.Common.{◌≤◌, reverse, sym, ◌∙◌, subst, inl, inr}
use Rattle.std.proofs.lemmas.Bool.{both_ways, cases_lt}
use Rattle.cqe_base.specs.Machine.{current_count}
use Rattle.clause_solver.specs.Lines.{line_with}
use Rattle.clause_solver.proofs.Walking.{walk_stops}
use Rattle.clause_solver.proofs.analysis.analyse.Goals as goal

pub returns-then-not-has_more_current-clause-line : goal.returns-then-not-has_more_current-clause-line
returns-then-not-has_more_current-clause-line c =
    let trail = c.args.assignment.now.trail in
    let line = line_with c.loop-entry.clause.clause c.loop-entry.chain.items in
    let few : current_count trail line.clause ≤ c.args.keep =
    subst (λ xs. current_count trail xs ≤ c.args.keep) c.literals.ensures (elim (cases_lt c.args.keep (current_count trail c.literals.result.now)) [
      | inl more ↦ absurd (both_ways _ c.if-not-has_more_current.true (c.has_more_current.ensures.1 more))
      | inr few ↦ few
    ])
    in
    sym (walk_stops c.args.clauses.now trail c.args.keep (reverse c.loop-entry.entry-iterator.iter.rest.now) line few) ∙ c.loop-entry.invariant.same
