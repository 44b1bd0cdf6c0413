use Rattle.std.proofs.Common.{◌≡◌, ◌++◌, map}
use Rattle.toml.specs.View.{members_view, table_view}
use Rattle.cqe_base.specs.Memory.{declaration_of}
use Rattle.policy_files.specs.Tree.{declarations}
use Rattle.policy_files.proofs.Ordered.{Ascend}
use Rattle.policy_files.proofs.tree.declarations.Given as goal

-- the declarations so far, and those of the members that are left, which ascend
abbrev pub invariant-loop-key : goal.invariant-loop-key
invariant-loop-key l = record {
  left : map declaration_of l.declared.items ++ declarations (members_view l.key-iterator) ≡ declarations (table_view l.table);
  ascend : Ascend l.key-iterator;
}
