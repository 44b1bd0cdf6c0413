use Rattle.std.proofs.Common.{rules, sym, ◌∙◌}
use Rattle.std.specs.HashMap.{get_by_text}
use Rattle.std.proofs.lemmas.Map.Text.{hash_map_updates_text}
use Rattle.cqe_base.proofs.ByName.{gained}
use Rattle.cqe_base.proofs.constants.add_constant.Goals as goal

pub returns-in_ok-insert : goal.returns-in_ok-insert
returns-in_ok-insert c = λ text.
    gained (get_by_text c.args.by_name.now) (get_by_text c.insert.new.self) _ c.args.name.now c.args.constant c.in_ok-from_str.ensures.ok
    (hash_map_updates_text _ c.args.by_name.now c.insert.new.self _ c.in_ok-insert.ensures.updates)
    (sym c.contains_key.ensures ∙ (search rules)) text
