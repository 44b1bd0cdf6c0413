use Rattle.std.proofs.Common.{◌≡◌, map, take}
use Rattle.std.specs.Prelude.{string_bytes}
use Rattle.toml.specs.View.{view}
use Rattle.policy_files.specs.Tree.{text_in}
use Rattle.policy_files.proofs.tree.texts_in.Given as goal

abbrev pub invariant-loop-element : goal.invariant-loop-element
invariant-loop-element l = map string_bytes l.texts.items ≡ map text_in (map view (take l.element-index l.values))
