use Rattle.std.proofs.Common.{◌≡◌, ◌∙◌, ◌++◌, map, ap, sym, decimal, string_bytes, rules}
use Rattle.toml.specs.Data.{string}
use Rattle.toml.specs.View.{view}
use Rattle.workload.specs.Stated.{numbered}
use Rattle.workload.proofs.Trees.{one_text, numbered_more}
use Rattle.workload.proofs.policy.constants.Goals as goal

pub loop-number-preserved : goal.loop-number-preserved
loop-number-preserved c =
    let k = c.loop-number.number-counter in
    let text : string_bytes c.in_ok-format.field-0 ≡ c.args.letter.now ++ decimal k = search rules in
    ap (map view) c.in_ok-push.ensures.items
    ∙ one_text c.loop-number.names.items (numbered c.args.letter.now k) c.in_ok-format.field-0 (c.args.letter.now ++ decimal k) c.loop-number.invariant text
    ∙ ap (map string) (sym (numbered_more c.args.letter.now k))
