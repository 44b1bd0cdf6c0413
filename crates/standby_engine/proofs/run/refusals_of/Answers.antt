use Rattle.std.proofs.Common.{◌++◌, ◌∷◌, [], sym, ◌∙◌, arith}
use Rattle.desk_crew.proofs.Taken.{map_more}
use Rattle.standby_engine.specs.Opened.{place_refusal}
use Rattle.standby_engine.proofs.run.refusals_of.Goals as goal

pub loop-place-preserved : goal.loop-place-preserved
loop-place-preserved g c =
    let room = c.loop-place.invariant.room in
    let count = c.loop-place.invariant.count in
    let grown = c.push_reserved.ensures.len in
    let space = c.push_reserved.ensures.capacity in
    record {
      so_far = c.push_reserved.ensures.items ∙ (λ i. c.loop-place.invariant.so_far i ++ c.refusal.ensures i ∷ [])
          ∙ sym (map_more place_refusal c.args.places.now c.loop-place.place-index c.place-item.result c.loop-place-test.true c.place-item.is);
      room = omega (arith, room, space);
      count = omega (arith, count, grown);
    }
