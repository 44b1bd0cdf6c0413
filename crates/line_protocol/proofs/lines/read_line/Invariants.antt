use Rattle.std.proofs.Common.{◌≡◌, ◌≤◌, ◌-◌, [], length}
use Rattle.line_protocol.specs.Buffer.{unread}
use Rattle.line_protocol.specs.Rests.{IsRest}
use Rattle.line_protocol.proofs.Searched.{IsSearched}
use Rattle.line_protocol.proofs.lines.read_line.Given as goal

-- so many bytes have no line feed, and nothing is lost
abbrev pub invariant-loop-at : goal.invariant-loop-at
invariant-loop-at g l = record {
  searched : IsSearched l.searched l.buffer.ahead;
  no_line : l.buffer.line ≡ [];
  unread : g.S.Source.tells → unread l.buffer (g.S.Source.left l.source) ≡ unread l.fn.buffer (g.S.Source.left l.fn.source);
  left : g.S.Source.tells → IsRest (g.S.Source.left l.fn.source) (g.S.Source.left l.source);
  held : g.S.Source.held l.source ≡ g.S.Source.held l.fn.source;
  later : g.S.Source.faults l.fn.source ≤ g.S.Source.faults l.source;
}

abbrev pub decreases-loop-at : goal.decreases-loop-at
decreases-loop-at g l = 4097 - length l.buffer.ahead
