use Rattle.std.proofs.Common.{◌<◌, length, arith}
use Rattle.dossier_engine.proofs.Reading.{all_read, too_many}
use Rattle.dossier_engine.proofs.input.read_input.Goals as goal

pub returns-then-count-eq0-clause-reads : goal.returns-then-count-eq0-clause-reads
returns-then-count-eq0-clause-reads g c = λ told.
    let before = c.loop-count.bytes.items in
    let took = c.in-Ok.ensures in
    all_read before c.take_piece.new.bytes.items (g.S.Source.left c.loop-count.source) (g.S.Source.left c.take_piece.new.source)
    (g.S.Source.left c.args.source.now) c.in-Ok.count c.if-count-eq0.true took.more (took.moved told) (took.end told c.if-count-eq0.true)
    (c.loop-count.invariant.read told) c.loop-count.invariant.few

pub returns-then-len-gt-MOST-clause-reads : goal.returns-then-len-gt-MOST-clause-reads
returns-then-len-gt-MOST-clause-reads g c = λ told.
    let took = c.in-Ok.ensures in
    let same = c.take_piece.new.bytes.ok.0 in
    let many : 67108864 < length c.take_piece.new.bytes.items = omega (arith, same, c.len.ensures, c.if-len-gt-MOST.true) in
    too_many c.loop-count.bytes.items c.take_piece.new.bytes.items (g.S.Source.left c.loop-count.source) (g.S.Source.left c.take_piece.new.source)
    (g.S.Source.left c.args.source.now) (took.moved told) (c.loop-count.invariant.read told) many took.most
