use Rattle.std.proofs.Common.{◌≡◌, ◌≤◌, ◌-◌, ◌++◌, length}
use Rattle.line_protocol.specs.Rests.{IsRest}
use Rattle.dossier_engine.proofs.input.read_input.Given as goal

-- so much of what the source had was read, and it isn't too much yet
abbrev pub invariant-loop-count : goal.invariant-loop-count
invariant-loop-count g l = record {
  few : length l.bytes.items ≤ 67108864;
  read : g.S.Source.tells → l.bytes.items ++ g.S.Source.left l.source ≡ g.S.Source.left l.fn.source;
  left : g.S.Source.tells → IsRest (g.S.Source.left l.fn.source) (g.S.Source.left l.source);
  held : g.S.Source.held l.source ≡ g.S.Source.held l.fn.source;
  later : g.S.Source.faults l.fn.source ≤ g.S.Source.faults l.source;
}

abbrev pub decreases-loop-count : goal.decreases-loop-count
decreases-loop-count g l = 67108865 - length l.bytes.items
