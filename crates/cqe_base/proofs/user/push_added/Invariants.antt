use Rattle.std.proofs.Common.{◌≡◌, ◌++◌, drop, map}
use Rattle.cqe_base.specs.Formula.{formula_of}
use Rattle.cqe_base.specs.History.{answered_query_of, added_secrets}
use Rattle.cqe_base.proofs.user.push_added.Given as goal

abbrev pub invariant-loop-entry : goal.invariant-loop-entry
invariant-loop-entry l =
    map formula_of l.secrets.items ++ added_secrets (map answered_query_of (drop l.entry-index l.entries))
    ≡ map formula_of l.fn.secrets.items ++ added_secrets (map answered_query_of l.entries)
