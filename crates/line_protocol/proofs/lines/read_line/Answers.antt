use Rattle.std.proofs.Common.{◌<◌, length, ap, subst, arith}
use Rattle.line_protocol.specs.Reads.{BeginsTooLong}
use Rattle.line_protocol.proofs.FirstLine.{too_long}
use Rattle.line_protocol.proofs.lines.read_line.Goals as goal

pub returns-then-searched-gt-LINE-clause-reads : goal.returns-then-searched-gt-LINE-clause-reads
returns-then-searched-gt-LINE-clause-reads g c told =
    let ahead = c.loop-at.buffer.ahead in
    let same = c.loop-at.invariant.unread told in
    let long : 4096 < length ahead = omega (arith, ap length c.ahead-searched.ensures.ahead) in
    let begins = too_long ahead (g.S.Source.left c.loop-at.source) (length ahead) (omega arith) c.in_default.ensures.none long in
    (subst BeginsTooLong same begins, same, c.loop-at.invariant.no_line)
