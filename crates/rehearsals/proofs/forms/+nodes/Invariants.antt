use Rattle.std.proofs.Common.{◌≡◌, ◌+◌, map, drop}
use Rattle.cqe_base.specs.Ground.{parts_of, ground_of, part_nodes}
use Rattle.rehearsals.proofs.forms.+nodes.Given as goal

abbrev pub invariant-part_nodes-loop-part : goal.invariant-part_nodes-loop-part
invariant-part_nodes-loop-part l = l.count + part_nodes (parts_of (map ground_of (drop l.part-index l.parts))) ≡ part_nodes (parts_of (map ground_of l.parts))
