use Rattle.std.proofs.Common.{◌≡◌, reverse, drop}
use Rattle.std.specs.List.{list_all, position_from}
use Rattle.cqe_base.specs.Machine.{is_false}
use Rattle.clause_solver.proofs.plain.scan.first_conflict.Given as goal

abbrev pub invariant-loop-i : goal.invariant-loop-i
invariant-loop-i l =
    position_from (list_all (is_false (reverse l.trail))) l.i (drop l.i l.clauses)
    ≡ position_from (list_all (is_false (reverse l.trail))) 0 l.clauses
