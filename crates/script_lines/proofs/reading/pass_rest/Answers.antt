use Rattle.std.proofs.Common.{refl}
use Rattle.script_lines.proofs.Passing.{passed}
use Rattle.script_lines.proofs.reading.pass_rest.Goals as goal

pub returns-in-End-clause-rest : goal.returns-in-End-clause-rest
returns-in-End-clause-rest g c = λ told. (
  refl,
  passed c.loop-next.next c.args.number c.next_line.result _ _ c.next_line.new.buffer.ahead (g.S.Source.left c.next_line.new.source) _
      (c.loop-next.invariant.cut told) c.in-End.is (c.next_line.ensures.reads told),
)
