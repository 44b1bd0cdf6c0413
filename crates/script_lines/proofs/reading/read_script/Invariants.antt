use Rattle.std.proofs.Common.{◌≡◌, ◌≤◌, true}
use Rattle.cqe_base.specs.Lines.{text_lines}
use Rattle.line_protocol.specs.Buffer.{unread}
use Rattle.line_protocol.specs.Rests.{IsRest}
use Rattle.script_lines.specs.Scripts.{script_after, script_from, is_cut_short}
use Rattle.script_lines.proofs.reading.read_script.Given as goal

-- the script so far goes on with the lines to come, and one of these that is refused whatever it says is a line of the whole
abbrev pub invariant-loop-number : goal.invariant-loop-number
invariant-loop-number g l = record {
  so_far : g.S.Source.tells
      → script_after g.T.Script.step l.number (g.T.Script.said l.script) (text_lines (unread l.buffer (g.S.Source.left l.source)))
      ≡ script_from g.T.Script.step (g.T.Script.said l.fn.start) (g.S.Source.left l.fn.source);
  cut : g.S.Source.tells → is_cut_short l.number (text_lines (unread l.buffer (g.S.Source.left l.source))) ≡ true
      → is_cut_short 1 (text_lines (g.S.Source.left l.fn.source)) ≡ true;
  left : g.S.Source.tells → IsRest (g.S.Source.left l.fn.source) (g.S.Source.left l.source);
  low : l.number ≤ 100001;
  held : g.S.Source.held l.source ≡ g.S.Source.held l.fn.source;
  later : g.S.Source.faults l.fn.source ≤ g.S.Source.faults l.source;
}
