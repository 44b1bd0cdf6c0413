use Rattle.std.proofs.Common.{◌≡◌, ◌≤◌, ◌-◌, ◌++◌, length}
use Rattle.standby_core.specs.Frames.{EndsWithinFrame}
use Rattle.standby_core.proofs.frame.read_frame.Given as goal

-- the room has what was taken, which is no more than a frame has
abbrev pub invariant-loop-size : goal.invariant-loop-size
invariant-loop-size g l = record {
  within : EndsWithinFrame l.header l.room;
  room : length l.room ≤ 4212;
  taken : g.S.Source.tells → g.S.Source.left l.fn.source ≡ l.room ++ g.S.Source.left l.source;
  held : g.S.Source.held l.source ≡ g.S.Source.held l.fn.source;
  later : g.S.Source.faults l.fn.source ≤ g.S.Source.faults l.source;
}

abbrev pub decreases-loop-size : goal.decreases-loop-size
decreases-loop-size g l = 4212 - length l.room
