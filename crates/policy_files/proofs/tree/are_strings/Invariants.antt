use Rattle.std.proofs.Common.{◌≡◌, drop, map}
use Rattle.std.specs.List.{list_all}
use Rattle.toml.specs.View.{view}
use Rattle.policy_files.specs.Tree.{is_string}
use Rattle.policy_files.proofs.tree.are_strings.Given as goal

-- the values that are left decide
abbrev pub invariant-loop-value : goal.invariant-loop-value
invariant-loop-value l = list_all is_string (map view (drop l.value-index l.values)) ≡ list_all is_string (map view l.values)
