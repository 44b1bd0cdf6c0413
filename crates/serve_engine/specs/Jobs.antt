-- A job as contracts speak of it.
use Rattle.std.specs.Prelude.{◌≡◌, ℕ, List, [], ◌∷◌, ◌++◌}
use Rattle.outside.specs.Faults.{Rose}
use Rattle.outside.specs.Visits.{Visit}
use Rattle.outside.specs.declared.stream.Sink.{Ghosts as SinkGhosts}
use Rattle.outside.specs.declared.stream.Source.{Ghosts as SourceGhosts}
use Rattle.cqe_base.specs.declared.user.User.{User}
use Rattle.turnstile.specs.declared.pass.Pass.{Pass}
use Rattle.desk_counter.specs.declared.item.TurnItem.{TurnItem}
use Rattle.desk_counter.specs.declared.item.Fixed.{Fixed}
use Rattle.desk_counter.specs.declared.ticketed_desk.TicketedDesk.{TicketedDesk}
use Rattle.session_core.specs.declared.counters.CountersOf.{CountersOf}
use Rattle.session_core.specs.declared.counters.Passes.{Passes}
use Rattle.session_core.specs.declared.session.Ended.{Ended}
use Rattle.session_core.specs.declared.session.Ended.TheVariants.{ReadFault, WriteFault}
use Rattle.session_core.specs.Sessions.{Session}
use Rattle.serve_engine.specs.declared.job.SessionJobOf.{SessionJobOf}
use Rattle.serve_engine.specs.Members.{AreServedBy}

module _ {D G : Type 0} {g h : _} where
  -- the counters at which it serves
  abbrev pub job_counters : SessionJobOf (TicketedDesk D g) D G h
      → CountersOf (TicketedDesk D g) TurnItem (Fixed D) h
  job_counters job = job.counters.now

  -- its passes
  abbrev pub job_passes : SessionJobOf (TicketedDesk D g) D G h → Passes D
  job_passes job = job.passes

  -- how many connections it has served
  abbrev pub job_runs : SessionJobOf (TicketedDesk D g) D G h → ℕ
  job_runs job = job.runs

  -- behind all that a job has served, since it was as any first one, this visit is served by a run
  abbrev pub ServesOn : SessionJobOf (TicketedDesk D g) D G h
      → SessionJobOf (TicketedDesk D g) D G h → Visit → Type 0
  ServesOn before after visit =
      (first : SessionJobOf (TicketedDesk D g) D G h) (visits : List Visit)
      → AreServedBy (job_counters before) (job_passes first) (job_passes before) visits
      → AreServedBy (job_counters after) (job_passes first) (job_passes after)
      (visits ++ visit ∷ [])

-- A run is one session over a source and a sink: how it ended, and what it read, did with the
-- passes and wrote; where a stream failed, the count of its faults rose.
pub record RunsSession {S K D : Type 0} (Source : SourceGhosts S) (Sink : SinkGhosts K)
    (users : List User) (fixeds : List (Fixed D)) (old new : List (Pass TurnItem (Fixed D)))
    (source source' : S) (sink sink' : K) : Type 0 where
  pub ended : Ended
  pub session : Session Source.tells Sink.tells users fixeds ended (Source.left source) old new
      (Sink.written sink) (Sink.written sink')
  pub read_cause : ended ≡ ReadFault → Rose (Source.faults source) (Source.faults source')
  pub write_cause : ended ≡ WriteFault → Rose (Sink.faults sink) (Sink.faults sink')
