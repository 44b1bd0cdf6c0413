use Rattle.std.proofs.Common.{length, refl, arith}
use Rattle.session_core.specs.Members.{passes_in, counters_in, users_of, fixeds_of}
use Rattle.session_core.specs.Desks.{schemas_of}
use Rattle.session_core.proofs.Passing.{passes_many}
use Rattle.session_core.proofs.Serving.{counts_few}
use Rattle.session_core.proofs.Talking.{talks_few}
use Rattle.serve_engine.proofs.Owning.{marks_of, of_own}
use Rattle.serve_engine.proofs.Holding.{are_passes, at_each, each_opened, have_opened, each_legal, have_legal}
use Rattle.serve_engine.proofs.Later.{turns_enough, of_room, of_passes, sees_more, openings_later, members_later}
use Rattle.serve_engine.proofs.Standing.{served_more}
use Rattle.serve_engine.proofs.Visiting.{session_served}
use Rattle.serve_engine.proofs.job.SessionJobOfTicketedDeskJob.run.Goals as goal

pub serve_session-ended-requires-clause-passes : goal.serve_session-ended-requires-clause-passes
serve_session-ended-requires-clause-passes g c κs within =
    let job = c.args.self.now in
    let passes = passes_in job.passes in
    let counters = counters_in job.counters.now in
    let are = are_passes passes counters job.many job.held in
    record { are = are; legal = have_legal passes counters are job.legal }

pub serve_session-ended-requires-clause-turns : goal.serve_session-ended-requires-clause-turns
serve_session-ended-requires-clause-turns g c κs within = turns_enough (passes_in c.args.self.now.passes) c.requires.room

pub invariant_of-self : goal.invariant_of-self
invariant_of-self g c =
    let job = c.args.self.now in
    let old = passes_in job.passes in
    let new = passes_in c.serve_session-ended.new.passes in
    let counters = counters_in job.counters.now in
    let fixeds = fixeds_of job.counters.now in
    let session = c.serve_session-ended.ensures.session in
    let after = c.serve_session-ended.ensures.passes in
    let are = after.are in
    let openings = have_opened old counters (are_passes old counters job.many job.held) job.opened in
    record {
      many = passes_many new counters are;
      held = at_each new counters are;
      opened = each_opened new counters are
          (openings_later fixeds old new (sees_more old new (of_passes session.who fixeds old new session.asks session.desks)) openings);
      legal = each_legal new counters are after.legal;
    }

pub returns-clause-room : goal.returns-clause-room
returns-clause-room g c =
    let job = c.args.self.now in
    let session = c.serve_session-ended.ensures.session in
    let no_more = talks_few (users_of job.counters.now) (schemas_of (fixeds_of job.counters.now)) session.talks in
    of_room session.who (fixeds_of job.counters.now) (passes_in job.passes) (passes_in c.serve_session-ended.new.passes) session.asks
    (omega (arith, counts_few c.serve_session-ended.result (length session.lines) session.counted, no_more)) session.desks

pub returns-clause-keeps : goal.returns-clause-keeps
returns-clause-keeps g c =
    let job = c.args.self.now in
    let session = c.serve_session-ended.ensures.session in
    (refl, of_passes session.who (fixeds_of job.counters.now) (passes_in job.passes) (passes_in c.serve_session-ended.new.passes) session.asks session.desks)

pub returns-clause-visit : goal.returns-clause-visit
returns-clause-visit g c =
    let job = c.args.self.now in
    let old = passes_in job.passes in
    let counters = counters_in job.counters.now in
    let fixeds = fixeds_of job.counters.now in
    let now = c.serve_session-ended.new in
    let new = passes_in now.passes in
    let says = c.serve_session-ended.ensures in
    let session = says.session in
    let later = members_later fixeds old new (sees_more old new (of_passes session.who fixeds old new session.asks session.desks)) says.passes.legal in
    let openings = have_opened old counters (are_passes old counters job.many job.held) job.opened in
    λ untouched first visits stood.
    served_more job.counters.now first.passes job.passes now.passes visits _ (marks_of session.who fixeds old new session.asks session.desks) stood later
    (λ schema world within. session_served g.Src.Source.tells g.Snk.Sink.tells (users_of job.counters.now) fixeds c.serve_session-ended.result
    (g.Src.Source.held c.args.source.now) (g.Src.Source.held now.source) (g.Src.Source.left c.args.source.now) old new (g.Snk.Sink.written c.args.sink.now)
    (g.Snk.Sink.written now.sink)
    (g.Src.Source.faults c.args.source.now) (g.Snk.Sink.faults c.args.sink.now) (g.Src.Source.faults now.source) (g.Snk.Sink.faults now.sink)
    session untouched says.held says.read_cause says.write_cause schema world within openings)
    (λ weight place. of_own weight place session.who fixeds old new session.asks session.desks)

pub returns-clause-session : goal.returns-clause-session
returns-clause-session g c =
    let says = c.serve_session-ended.ensures in
    record { ended = c.serve_session-ended.result; session = says.session; read_cause = says.read_cause; write_cause = says.write_cause }
