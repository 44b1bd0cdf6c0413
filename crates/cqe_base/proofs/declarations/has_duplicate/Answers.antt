use Rattle.std.proofs.Common.{◌∙◌, ap, sym, ◌||◌, is_some}
use native.Mathlib.Numerals.{unary_clauses}
use Rattle.std.proofs.Math.Seq.{drop-cons}
use Rattle.std.proofs.lemmas.Map.Text.{btree_map_updates_str}
use Rattle.cqe_base.specs.Schema.{has_duplicate}
use Rattle.cqe_base.specs.Memory.{texts_of}
use Rattle.cqe_base.proofs.Duplicates.{none_seen, next_text}
use Rattle.cqe_base.proofs.declarations.has_duplicate.Goals as goal

-- src/declarations.rt:16:5
pub loop-text-init : goal.loop-text-init
loop-text-init c =
    ap (λ b. b || has_duplicate (texts_of c.args.texts.now)) (sym (none_seen c.new-seen.result c.new-seen.ensures.empty (texts_of c.args.texts.now)))

-- src/declarations.rt:16:5
pub loop-text-preserved : goal.loop-text-preserved
loop-text-preserved c =
    simp unary_clauses
    (next_text c.args.texts.now c.loop-text.text-index _ _ c.loop-text.seen c.insert.new.self
    (drop-cons c.args.texts.now c.loop-text.text-index _ c.loop-text-test.true)
    (btree_map_updates_str _ c.loop-text.seen c.insert.new.self _ c.in_ok-insert.ensures.updates)
    (sym (ap is_some c.in_ok-insert.ensures.old) ∙ sym c.if-is_some.ensures) c.loop-text.invariant)
