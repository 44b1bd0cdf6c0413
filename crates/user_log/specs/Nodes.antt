-- The nodes that an item adds.
use Rattle.std.specs.Prelude.{ℕ, ◌+◌}
use Rattle.cqe_base.specs.declared.user.Mark.{Mark}
use Rattle.cqe_base.specs.declared.user.Mark.TheVariants.{Yes, No, Refused, Undecided, Protected}
use Rattle.cqe_base.specs.Schema.{DatabaseSchema}
use Rattle.cqe_base.specs.Formula.{Formula, nodes}

-- what an item with this mark adds to the nodes of the view
abbrev pub told_nodes : DatabaseSchema → Mark → Formula → ℕ
told_nodes schema Yes query = nodes schema query
told_nodes schema No query = 1 + nodes schema query
told_nodes schema Refused query = 0
told_nodes schema Undecided query = 0
told_nodes schema Protected query = 1 + nodes schema query
