use Rattle.std.proofs.Common.{◌≡◌, reverse}
use Rattle.cqe_base.proofs.Analysis.{walk_back}
use Rattle.clause_solver.specs.Lines.{line_with}
use Rattle.clause_solver.proofs.analysis.analyse.Given as goal

abbrev pub invariant-loop-entry : goal.invariant-loop-entry
invariant-loop-entry l = record {
  variables : l.clause.variables ≡ l.initial.clause.variables;
  same : walk_back l.clauses l.assignment.trail l.keep (reverse l.entry-iterator.iter.rest.now) (line_with l.clause.clause l.chain.items)
      ≡ walk_back l.clauses l.assignment.trail l.keep l.assignment.trail (line_with l.initial.clause.clause l.initial.chain.items);
}
