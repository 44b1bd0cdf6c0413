use Rattle.std.proofs.Common.{refl, arith}
use Rattle.cqe_base.proofs.TextLines.{nothing_left}
use Rattle.dimacs_text.proofs.Lines.{file_starts, file_ends, file_read}
use Rattle.dimacs_text.proofs.reading.read_cnf.Goals as goal

pub loop-number-init : goal.loop-number-init
loop-number-init g c = record {
  so_far = λ told. file_starts _ _ _ c.new-problem.ensures c.new-buffer.ensures.ahead;
  left = λ told bytes ends. ends;
  low = omega arith;
  held = refl;
  later = omega arith;
}

pub returns-in-End-clause-reads : goal.returns-in-End-clause-reads
returns-in-End-clause-reads g c = λ told.
    let reads = c.in-End.ensures.reads told in
    file_read _ _ _ _ (file_ends _ _ _ _ (c.loop-number.invariant.so_far told) reads.0) (nothing_left _ _ reads.1) c.finished.ensures
