use Rattle.std.proofs.Common.{◌≡◌}
use Rattle.desk_tests.proofs.counters.threads.SessionTicketedDeskWork.work.Given as goal

abbrev pub invariant-loop-session : goal.invariant-loop-session
invariant-loop-session g l = l.session.counter.now ≡ l.fn.self.counter.now

abbrev pub decreases-loop-session : goal.decreases-loop-session
decreases-loop-session g l = l.session.asks
