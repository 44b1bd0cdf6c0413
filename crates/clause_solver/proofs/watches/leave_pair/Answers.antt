use Rattle.std.proofs.Common.{List, [], map, get_or, ◌∙◌}
use Rattle.cqe_base.specs.Literal.{same_literal}
use Rattle.clause_solver.specs.declared.watches.Watch.{Watch}
use Rattle.clause_store.specs.Codes.{code_of}
use Rattle.clause_solver.specs.Watching.{one_if}
use Rattle.clause_solver.proofs.LeavingWatches.{loses_then}
use Rattle.clause_solver.proofs.watches.leave_pair.Goals as goal

pub returns-clause-left : goal.returns-clause-left
returns-clause-left c =
    let p = c.args.pair.now in
    let old : List (List Watch) = map (λ v. v.items) c.args.lists.now.items in
    let mid : List (List Watch) = map (λ v. v.items) c.leave_literal.new.lists.items in
    let new : List (List Watch) = map (λ v. v.items) c.leave_literal-2.new.lists.items in
    λ l. loses_then c.args.clauses (one_if (same_literal p.first l)) (one_if (same_literal p.second l)) (get_or old (code_of l) []) (get_or mid (code_of l) [])
    (get_or new (code_of l) []) (c.leave_literal.ensures.left l) (c.leave_literal-2.ensures.left l)

pub returns-clause-length : goal.returns-clause-length
returns-clause-length c = c.leave_literal-2.ensures.length ∙ c.leave_literal.ensures.length
