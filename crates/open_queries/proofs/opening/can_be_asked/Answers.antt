use Rattle.std.proofs.Common.{◌<◌, subst}
use Rattle.open_queries.specs.Memory.{open_query}
use Rattle.open_queries.proofs.Printed.{is_too_deep, is_too_long, is_short, one_more_asked}
use Rattle.open_queries.proofs.opening.can_be_asked.Goals.{then-is_deep-via-then-is_deep, then-is_deep-via-else-is_deep+then-len-gt-GREATEST_TEXT}
use Rattle.open_queries.proofs.opening.can_be_asked.Goals as goal

pub returns-then-is_deep-clause-one : goal.returns-then-is_deep-clause-one
returns-then-is_deep-clause-one c =
    λ _. (
      c.loop-number.number,
      subst (λ n. c.loop-number.number < n) c.instances-number-end.ensures c.loop-number-test.true,
      elim c.then-is_deep.branch [
        | then-is_deep-via-then-is_deep w ↦
            is_too_deep c.args.schema.now (open_query c.args.list.now) c.loop-number.number _ c.enclosing_constructs-is_deep.ensures w.if-is_deep.true
        | then-is_deep-via-else-is_deep+then-len-gt-GREATEST_TEXT w ↦
            is_too_long c.args.schema.now (open_query c.args.list.now) c.loop-number.number c.in_ok-text.text c.in_ok-text.ensures.text w.len.result
            w.len.ensures w.if-len-gt-GREATEST_TEXT.true
      ],
    )

pub loop-number-preserved : goal.loop-number-preserved
loop-number-preserved c =
    one_more_asked c.args.schema.now (open_query c.args.list.now) c.loop-number.number c.loop-number.invariant
    (is_short c.args.schema.now (open_query c.args.list.now) c.loop-number.number c.in_ok-text.text c.in_ok-text.ensures.text c.len.result
    c.enclosing_constructs-is_deep.result c.len.ensures c.if-len-gt-GREATEST_TEXT.false c.enclosing_constructs-is_deep.ensures c.if-is_deep.false)
