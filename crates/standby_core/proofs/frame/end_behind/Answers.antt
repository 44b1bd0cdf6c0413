use Rattle.std.proofs.Common.{length, sym, ap, arith}
use Rattle.standby_core.proofs.Frames.{ends_empty, ends_inside}
use Rattle.standby_core.proofs.frame.end_behind.Goals as goal

pub returns-then-length-eq0 : goal.returns-then-length-eq0
returns-then-length-eq0 c =
    let held = ap length c.bytes-length.ensures in
    sym (ends_empty c.args.room.now (omega (arith, held, c.if-length-eq0.true)))

pub returns : goal.returns
returns c =
    let held = ap length c.bytes-length.ensures in
    sym (ends_inside c.args.room.now (λ none. c.if-length-eq0.false (omega (arith, held, none))))
