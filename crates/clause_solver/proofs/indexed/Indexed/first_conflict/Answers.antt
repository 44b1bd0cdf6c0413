use Rattle.std.proofs.Common.{Some, None, sym}
use Rattle.cqe_base.specs.Literal.{Positive}
use Rattle.clause_solver.specs.WatchesInside.{lists_of, units_of}
use Rattle.clause_solver.proofs.States.{first_falsified}
use Rattle.clause_solver.proofs.indexed.Indexed.first_conflict.Goals as goal

pub returns-in-Some-clause-first : goal.returns-in-Some-clause-first
returns-in-Some-clause-first c =
    let s = c.args.self.now in
    let k = c.requires.looked in
    first_falsified s.assignment.variables s.assignment.trail k.distinct s.clauses s.watches.sorted k.same (lists_of s.watches) s.watches.pairs.items
    (units_of s.watches) s.watches.falsified (Positive 0) k.watches (Some c.in-Some.number) (sym c.in-Some.is)

pub returns-in-None-clause-first : goal.returns-in-None-clause-first
returns-in-None-clause-first c =
    let s = c.args.self.now in
    let k = c.requires.looked in
    first_falsified s.assignment.variables s.assignment.trail k.distinct s.clauses s.watches.sorted k.same (lists_of s.watches) s.watches.pairs.items
    (units_of s.watches) s.watches.falsified (Positive 0) k.watches None (sym c.in-None.is)
