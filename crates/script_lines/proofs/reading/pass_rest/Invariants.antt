use Rattle.std.proofs.Common.{◌≡◌, ◌≤◌, true}
use Rattle.cqe_base.specs.Lines.{text_lines}
use Rattle.line_protocol.specs.Buffer.{unread}
use Rattle.line_protocol.specs.Rests.{IsRest}
use Rattle.script_lines.specs.Scripts.{is_cut_short}
use Rattle.script_lines.proofs.reading.pass_rest.Given as goal

-- a line to come that is refused whatever it says is one of those behind the refused line
abbrev pub invariant-loop-next : goal.invariant-loop-next
invariant-loop-next g l = record {
  cut : g.S.Source.tells → is_cut_short l.next (text_lines (unread l.buffer (g.S.Source.left l.source))) ≡ true
      → is_cut_short l.fn.number (text_lines (unread l.fn.buffer (g.S.Source.left l.fn.source))) ≡ true;
  left : g.S.Source.tells → IsRest (g.S.Source.left l.fn.source) (g.S.Source.left l.source);
  low : l.next ≤ 100001;
  held : g.S.Source.held l.source ≡ g.S.Source.held l.fn.source;
  later : g.S.Source.faults l.fn.source ≤ g.S.Source.faults l.source;
}
