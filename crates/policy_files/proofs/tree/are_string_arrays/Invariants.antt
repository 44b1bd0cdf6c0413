use Rattle.std.proofs.Common.{◌≡◌}
use Rattle.toml.specs.View.{members_view, table_view}
use Rattle.policy_files.specs.Tree.{are_string_arrays}
use Rattle.policy_files.proofs.tree.are_string_arrays.Given as goal

-- the members that are left decide
abbrev pub invariant-loop-key : goal.invariant-loop-key
invariant-loop-key l = are_string_arrays (members_view l._key-iterator) ≡ are_string_arrays (table_view l.table)
