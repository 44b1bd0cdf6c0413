use Rattle.std.proofs.Common.{◌≡◌, ◌≤◌}
use Rattle.open_queries.specs.Memory.{open_query}
use Rattle.session_core.specs.Members.{ArePassesOf, fixeds_of, passes_in}
use Rattle.session_core.proofs.Listing.{SoFarAsked}
use Rattle.session_core.proofs.asking.ask_instances.Given as goal

-- the instances below the number were asked
abbrev pub invariant-loop-number : goal.invariant-loop-number
invariant-loop-number g l = record {
  so_far : SoFarAsked l.schema (open_query l.list) g.K.Sink.tells l.place (fixeds_of l.counters) (passes_in l.fn.passes) (g.K.Sink.written l.fn.sink)
      (passes_in l.passes) (g.K.Sink.written l.sink) l.number;
  passes : ArePassesOf l.passes l.counters;
  answers : g.K.Sink.answers l.sink ≡ g.K.Sink.answers l.fn.sink;
  later : g.K.Sink.faults l.fn.sink ≤ g.K.Sink.faults l.sink;
}
