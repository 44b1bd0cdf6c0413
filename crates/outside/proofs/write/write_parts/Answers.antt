use Rattle.std.proofs.Common.{subst}
use Rattle.outside.specs.Streams.{AppendsPart}
use Rattle.outside.proofs.Streams.{part_appended}
use Rattle.outside.proofs.write.write_parts.Goals as goal

pub returns-in-Err-clause-part : goal.returns-in-Err-clause-part
returns-in-Err-clause-part g c = λ told.
    part_appended g.P.AsSlice.items c.args.parts.now c.loop-part.part-index c.part-item.result _ _ _ c.loop-part-test.true c.part-item.is
    (c.loop-part.invariant.so_far told)
    (subst (AppendsPart _ _) c.as_slice.ensures (c.in-Err.ensures.part told))
