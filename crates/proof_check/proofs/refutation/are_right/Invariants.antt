use Rattle.std.proofs.Common.{◌≡◌, ◌++◌, map, take, drop}
use Rattle.clause_store.specs.PlainLines.{line_of}
use Rattle.cqe_base.specs.Refutation.{lines_right}
use Rattle.proof_check.proofs.refutation.are_right.Given as goal

abbrev pub invariant-loop-k : goal.invariant-loop-k
invariant-loop-k l =
    let lines = l.refutation.lines.items in
    lines_right (l.clauses ++ map (λ x. x.clause.items) (take l.k lines)) (map line_of (drop l.k lines)) ≡ lines_right l.clauses (map line_of lines)
