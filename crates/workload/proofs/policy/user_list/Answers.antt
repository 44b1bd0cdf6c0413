use Rattle.std.proofs.Common.{◌∙◌, ◌+◌, ◌*◌, ◌∷◌, ◌++◌, [], ℕ, map, ap, sym, refl, arith}
use Rattle.std.proofs.lemmas.List.{map-append}
use Rattle.toml.specs.Data.{table}
use Rattle.toml.specs.View.{view}
use Rattle.toml.specs.declared.value.Value.{Table}
use Rattle.toml.proofs.Views.{view-Table}
use Rattle.workload.specs.Draws.{state_after}
use Rattle.workload.proofs.Trees.{no_trees, trees_more, one_tree}
use Rattle.workload.proofs.policy.user_list.Goals as goal

pub loop-number-init : goal.loop-number-init
loop-number-init c = record {
  trees = λ seed at. ap (map view) c.new-list.ensures.items ∙ sym (no_trees seed);
  after = λ seed n at. at ∙ ap (λ (m : ℕ). state_after seed m) {x = n} {y = n + 0} (omega arith);
}

pub loop-number-preserved : goal.loop-number-preserved
loop-number-preserved c =
    let k = c.loop-number.number in
    let so_far = c.loop-number.invariant in
    let made = c.in_ok-user_table.field-0 in
    let drawn = c.draw_persons-persons in
    record {
      trees = λ seed at.
          ap (map view) c.in_ok-push.ensures.items ∙ map-append view c.loop-number.list.items (Table made ∷ [])
          ∙ (λ i. so_far.trees seed at i
          ++ (view-Table made ∙ ap table c.in_ok-user_table.ensures
          ∙ one_tree seed k (620 + 3 * k) drawn.result refl (drawn.ensures.drawn seed (620 + 3 * k) (so_far.after seed 620 at))) i ∷ [])
          ∙ sym (trees_more seed k);
      after = λ seed n at. drawn.ensures.after seed (n + 3 * k) (so_far.after seed n at)
          ∙ ap (λ (m : ℕ). state_after seed m) {x = n + 3 * k + 3} {y = n + 3 * (k + 1)} (omega arith);
    }
