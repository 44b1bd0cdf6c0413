use Rattle.std.proofs.Common.{◌≡◌, ◌≤◌, ◌<◌, length}
use Rattle.std.specs.Prelude.{IfSome}
use Rattle.line_protocol.specs.Buffer.{unread}
use Rattle.line_protocol.specs.Rests.{IsRest}
use Rattle.session_core.specs.Members.{ArePassesOf, users_of, fixeds_of, passes_in}
use Rattle.session_core.proofs.Serving.{SoFar}
use Rattle.session_core.proofs.session.serve_session.Given as goal

-- as many lines as were counted were answered
abbrev pub invariant-loop : goal.invariant-loop
invariant-loop g l = record {
  so_far : SoFar g.S.Source.tells g.K.Sink.tells (users_of l.counters) (fixeds_of l.counters) (g.S.Source.left l.fn.source) (passes_in l.fn.passes)
      (g.K.Sink.written l.fn.sink)
      (unread l.buffer (g.S.Source.left l.source)) (passes_in l.passes) (g.K.Sink.written l.sink) l.who l.counter;
  passes : ArePassesOf l.passes l.counters;
  place : IfSome l.who (λ place. place < length (fixeds_of l.counters));
  left : g.S.Source.tells → IsRest (g.S.Source.left l.fn.source) (g.S.Source.left l.source);
  held : g.S.Source.held l.source ≡ g.S.Source.held l.fn.source;
  answers : g.K.Sink.answers l.sink ≡ g.K.Sink.answers l.fn.sink;
  source_later : g.S.Source.faults l.fn.source ≤ g.S.Source.faults l.source;
  sink_later : g.K.Sink.faults l.fn.sink ≤ g.K.Sink.faults l.sink;
}
