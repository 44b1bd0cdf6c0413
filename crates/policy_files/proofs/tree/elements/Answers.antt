use Rattle.std.proofs.Common.{map, sym, ap, ◌∙◌, [], Option}
use Rattle.std.specs.Prelude.{unwrap_or, option_map}
use Rattle.toml.specs.Data.{Items}
use Rattle.toml.specs.View.{view}
use Rattle.policy_files.specs.Tree.{listed}
use Rattle.policy_files.proofs.Trees.{listed-items_of}
use Rattle.policy_files.proofs.tree.elements.Goals as goal

pub returns-in-Some : goal.returns-in-Some
returns-in-Some c =
    ap (map view) c.as_slice.ensures.value
    ∙ sym (listed-items_of (map view c.in-Some.array.now.items))
    ∙ ap (λ (found : Option Items). unwrap_or (option_map listed found) []) c.in-Some.ensures
