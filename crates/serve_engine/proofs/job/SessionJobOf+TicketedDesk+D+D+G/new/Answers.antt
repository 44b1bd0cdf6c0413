use Rattle.session_core.specs.Members.{passes_in, counters_in}
use Rattle.session_core.proofs.Passing.{passes_many}
use Rattle.serve_engine.proofs.Holding.{at_each, each_opened, each_legal}
use Rattle.serve_engine.proofs.job.SessionJobOf+TicketedDesk+D+D+G.new.Goals as goal

pub invariant_of-result : goal.invariant_of-result
invariant_of-result g c =
    let passes = passes_in c.args.passes in
    let counters = counters_in c.args.counters.now in
    let are = c.requires.passes.are in
    record {
      many = passes_many passes counters are;
      held = at_each passes counters are;
      opened = each_opened passes counters are c.requires.opened;
      legal = each_legal passes counters are c.requires.passes.legal;
    }
