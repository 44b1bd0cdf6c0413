use Rattle.std.proofs.Common.{◌≡◌, ◌∙◌, arith, length}
use Rattle.std.proofs.lemmas.List.{length-set}
use Rattle.open_queries.proofs.Choices.{at_place, quotient_less, rest_less, digit_made, zeros_behind}
use Rattle.open_queries.proofs.list.digits.Goals as goal

pub nonzero_div-digits : goal.nonzero_div-digits
nonzero_div-digits c =
    (at_place c.args.schema.now c.args.domains.now c.loop-place.place c.loop-place.rest c.combinations-others.result c.loop-place-test.true
    c.combinations-others.ensures.ways c.loop-place.invariant.left).some

pub overflow_cast-digits : goal.overflow_cast-digits
overflow_cast-digits c =
    let at = at_place c.args.schema.now c.args.domains.now c.loop-place.place c.loop-place.rest c.combinations-others.result c.loop-place-test.true
    c.combinations-others.ensures.ways c.loop-place.invariant.left in
    let less = quotient_less c.loop-place.rest c.combinations-others.result at.some in
    omega (arith, c.ranges.number.fits, c.loop-place.invariant.small)

pub nonzero_rem-rest : goal.nonzero_rem-rest
nonzero_rem-rest c =
    (at_place c.args.schema.now c.args.domains.now c.loop-place.place c.loop-place.rest c.combinations-others.result c.loop-place-test.true
    c.combinations-others.ensures.ways c.loop-place.invariant.left).some

pub loop-place-preserved : goal.loop-place-preserved
loop-place-preserved c =
    let at = at_place c.args.schema.now c.args.domains.now c.loop-place.place c.loop-place.rest c.combinations-others.result c.loop-place-test.true
    c.combinations-others.ensures.ways c.loop-place.invariant.left in
    let four : length c.loop-place.digits ≡ 4 = c.loop-place.invariant.four in
    record {
      four = length-set _ _ _ ∙ four;
      made = digit_made c.args.schema.now c.args.domains.now c.loop-place.digits c.loop-place.place c.loop-place.rest c.combinations-others.result _ at
          (omega arith) c.loop-place.invariant.made;
      zeros = zeros_behind c.loop-place.digits c.loop-place.place _ c.loop-place.invariant.zeros;
      small = rest_less c.loop-place.rest c.combinations-others.result c.args.number at.some c.loop-place.invariant.small;
      left = at.left;
    }
