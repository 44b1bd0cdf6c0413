use Rattle.session_core.specs.Members.{passes_in, counters_in}
use Rattle.serve_engine.specs.Jobs.{job_counters}
use Rattle.serve_engine.proofs.Holding.{are_passes, have_legal}
use Rattle.serve_engine.proofs.job.SessionJobOf+TicketedDesk+D+D+G.into_passes.Goals as goal

pub returns-clause-passes : goal.returns-clause-passes
returns-clause-passes g c =
    let passes = passes_in c.args.self.passes in
    let counters = counters_in (job_counters c.args.self) in
    let are = are_passes passes counters c.args.self.many c.args.self.held in
    record { are = are; legal = have_legal passes counters are c.args.self.legal }
