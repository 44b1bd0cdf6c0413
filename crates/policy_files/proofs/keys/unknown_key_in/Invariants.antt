use Rattle.std.proofs.Common.{◌≡◌}
use Rattle.toml.specs.View.{members_view, table_view}
use Rattle.policy_files.specs.Tree.{unknown_key}
use Rattle.policy_files.specs.Keys.{keys_at}
use Rattle.policy_files.proofs.Ordered.{Ascend}
use Rattle.policy_files.proofs.keys.unknown_key_in.Given as goal

-- the least unknown key is among the members that are left, which ascend
abbrev pub invariant-loop-key : goal.invariant-loop-key
invariant-loop-key l = record {
  left : unknown_key (keys_at l.version l.user) (members_view l.key-iterator) ≡ unknown_key (keys_at l.version l.user) (table_view l.table);
  ascend : Ascend l.key-iterator;
}
