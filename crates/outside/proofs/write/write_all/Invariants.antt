use Rattle.std.proofs.Common.{◌≡◌, ◌++◌, ◌≤◌, ℕ, length, List}
use Rattle.outside.proofs.write.write_all.Given as goal

-- what was written and the rest make the whole
abbrev pub invariant-loop-rest : goal.invariant-loop-rest
invariant-loop-rest g l = record {
  so_far : g.K.Sink.tells → (done : List ℕ) × (l.bytes ≡ done ++ l.rest) × (g.K.Sink.written l.sink ≡ g.K.Sink.written l.fn.sink ++ done);
  answers : g.K.Sink.answers l.sink ≡ g.K.Sink.answers l.fn.sink;
  later : g.K.Sink.faults l.fn.sink ≤ g.K.Sink.faults l.sink;
}

abbrev pub decreases-loop-rest : goal.decreases-loop-rest
decreases-loop-rest g l = length l.rest
