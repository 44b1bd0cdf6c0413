use Rattle.std.proofs.Common.{◌≡◌, ◌++◌, drop, map}
use Rattle.cqe_base.specs.Formula.{formula_of}
use Rattle.cqe_base.specs.Secrecies.{with_secrecies}
use Rattle.cqe_base.proofs.user.with_secrecies.Given as goal

-- behind the pairs so far stand those of the secrecies that are left, and the others
abbrev pub invariant-loop-secrecy : goal.invariant-loop-secrecy
invariant-loop-secrecy l =
    map formula_of l.made.items ++ with_secrecies (map formula_of (drop l.secrecy-index l.secrecies)) (map formula_of l.others.items)
    ≡ with_secrecies (map formula_of l.secrecies) (map formula_of l.others.items)
