use Rattle.std.proofs.Common.{◌≡◌, ◌-◌, reverse, length}
use Rattle.cqe_base.specs.Machine.{analysis}
use Rattle.clause_store.specs.PlainLines.{line_of}
use Rattle.clause_solver.proofs.plain.conflict.analyse.Given as goal

abbrev pub invariant-loop-times : goal.invariant-loop-times
invariant-loop-times l =
    analysis l.clauses (reverse l.trail) l.keep (length l.trail - l.times) (line_of l.line)
    ≡ analysis l.clauses (reverse l.trail) l.keep (length l.trail) (line_of l.initial.line)
