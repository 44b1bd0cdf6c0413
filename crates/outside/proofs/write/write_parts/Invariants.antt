use Rattle.std.proofs.Common.{◌≡◌, ◌≤◌, ◌++◌, take}
use Rattle.std.specs.List.{flat_map}
use Rattle.outside.proofs.write.write_parts.Given as goal

-- the parts so far were appended
abbrev pub invariant-loop-part : goal.invariant-loop-part
invariant-loop-part g l = record {
  so_far : g.K.Sink.tells → g.K.Sink.written l.sink ≡ g.K.Sink.written l.fn.sink ++ flat_map g.P.AsSlice.items (take l.part-index l.parts);
  answers : g.K.Sink.answers l.sink ≡ g.K.Sink.answers l.fn.sink;
  later : g.K.Sink.faults l.fn.sink ≤ g.K.Sink.faults l.sink;
}
