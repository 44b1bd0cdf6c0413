use Rattle.std.proofs.Common.{map, ◌∙◌}
use Rattle.std.proofs.lemmas.List.{length-map}
use Rattle.cqe_base.specs.Literal.{Positive}
use Rattle.clause_solver.specs.WatchesInside.{lists_of, units_of}
use Rattle.clause_solver.proofs.StateMoves.{resized}
use Rattle.clause_solver.proofs.watches.Watches.set_variables.Goals as goal

pub returns-clause-watches : goal.returns-clause-watches
returns-clause-watches c =
    let s = c.args.self.now in
    λ n t h low.
    resized n c.args.variables t s.sorted (lists_of s) (map (λ v. v.items) c.resize_lists.new.lists.items) s.pairs.items (units_of s) s.falsified (Positive 0) h
    low (length-map c.resize_lists.new.lists.items (λ v. v.items) ∙ c.in_ok-resize_lists.ensures.length) c.in_ok-resize_lists.ensures.same
