use Rattle.std.proofs.Common.{◌≡◌, ◌≤◌}
use Rattle.cqe_base.specs.Lines.{text_lines}
use Rattle.line_protocol.specs.Buffer.{unread}
use Rattle.line_protocol.specs.Rests.{IsRest}
use Rattle.dimacs_text.specs.Dimacs.{cnf_in, cnf_after}
use Rattle.dimacs_text.proofs.reading.read_cnf.Given as goal

-- the problem so far goes on with the lines to come
abbrev pub invariant-loop-number : goal.invariant-loop-number
invariant-loop-number g l = record {
  so_far : g.S.Source.tells → cnf_after l.number l.problem (text_lines (unread l.buffer (g.S.Source.left l.source))) ≡ cnf_in (g.S.Source.left l.fn.source);
  left : g.S.Source.tells → IsRest (g.S.Source.left l.fn.source) (g.S.Source.left l.source);
  low : l.number ≤ 1000001;
  held : g.S.Source.held l.source ≡ g.S.Source.held l.fn.source;
  later : g.S.Source.faults l.fn.source ≤ g.S.Source.faults l.source;
}
