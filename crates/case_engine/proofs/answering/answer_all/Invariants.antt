use Rattle.std.proofs.Common.{◌≡◌, ◌≤◌, take, map}
use Rattle.std.specs.Prelude.{string_bytes}
use Rattle.cqe_base.specs.History.{profile_of}
use Rattle.user_log.specs.UserLogs.{kept_schema, kept_world, kept_user, kept_history}
use Rattle.case_engine.proofs.Telling.{Told}
use Rattle.case_engine.proofs.answering.answer_all.Given as goal

-- the asks so far were answered with what was written
abbrev pub invariant-loop-text : goal.invariant-loop-text
invariant-loop-text g l = record {
  so_far : g.K.Sink.tells → Told l.parts.schema l.parts.facts (profile_of l.parts.user) l.is_open (map string_bytes (take l.text-index l.parts.asks.items))
      (g.K.Sink.written l.fn.sink) (g.K.Sink.written l.sink) (kept_history l.log);
  schema : kept_schema l.log ≡ l.parts.schema;
  world : kept_world l.log ≡ l.parts.facts;
  user : kept_user l.log ≡ profile_of l.parts.user;
  later : g.K.Sink.faults l.fn.sink ≤ g.K.Sink.faults l.sink;
}
