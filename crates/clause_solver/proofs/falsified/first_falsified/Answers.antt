use Rattle.std.proofs.Common.{◌<◌, [], length, sym, arith}
use Rattle.std.proofs.lemmas.List.{get_or_read}
use Rattle.clause_solver.proofs.falsified.first_falsified.Goals as goal

pub loop-number-preserved : goal.loop-number-preserved
loop-number-preserved c =
    let cs = c.args.clauses.now in
    let k = c.loop-number.number in
    let within : k < length cs = (let h = c.loop-number-test.true in let e = c.len-number-end.ensures in omega arith) in
    c.with_clause-first.ensures cs c.args.start (sym (get_or_read cs k c.clause.result.now within c.clause.ensures [])) c.loop-number.auto.number
    c.loop-number.invariant
