use Rattle.std.proofs.Common.{◌≡◌, ◌≤◌, ◌++◌, ℕ, List, length, drop}
use Rattle.open_queries.specs.Instances.{chosen}
use Rattle.session_core.specs.Lists.{names_of}
use Rattle.session_core.proofs.asking.write_names.Given as goal

-- the names that were written, and those of what is left, are those of all
abbrev pub invariant-loop-domain : goal.invariant-loop-domain
invariant-loop-domain g l = record {
  so_far : g.K.Sink.tells → (begun : List ℕ)
      × (begun ++ names_of l.schema (chosen (drop (length l.yielded) l.domains) (drop (length l.yielded) l.indices))
      ≡ names_of l.schema (chosen l.domains l.indices))
      × (g.K.Sink.written l.sink ≡ g.K.Sink.written l.fn.sink ++ begun);
  answers : g.K.Sink.answers l.sink ≡ g.K.Sink.answers l.fn.sink;
  later : g.K.Sink.faults l.fn.sink ≤ g.K.Sink.faults l.sink;
}
