use Rattle.std.proofs.Common.{refl, arith}
use Rattle.script_lines.proofs.Lines.{script_starts, script_ends}
use Rattle.script_lines.proofs.Passing.{cut_starts}
use Rattle.script_lines.proofs.reading.read_script.Goals as goal

pub loop-number-init : goal.loop-number-init
loop-number-init g c = record {
  so_far = λ told. script_starts g.T.Script.step (g.T.Script.said c.args.start) _ _ c.new-buffer.ensures.ahead;
  cut = λ told. cut_starts _ _ c.new-buffer.ensures.ahead;
  left = λ told bytes ends. ends;
  low = omega arith;
  held = refl;
  later = omega arith;
}

pub returns-in-End-clause-reads : goal.returns-in-End-clause-reads
returns-in-End-clause-reads g c = λ told.
    let reads = c.in-End.ensures.reads told in
    script_ends g.T.Script.step c.loop-number.number (g.T.Script.said c.args.start) (g.T.Script.said c.loop-number.script) _ _ _ _
    (c.loop-number.invariant.so_far told) reads.0 reads.1
