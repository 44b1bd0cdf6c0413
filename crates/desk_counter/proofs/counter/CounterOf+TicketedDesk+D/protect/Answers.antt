use Rattle.desk_counter.specs.Counters.{kept_by}
use Rattle.desk_counter.proofs.Asking.{looked_not, adds_reply, protected_mark, asked_tells, asked_none, asked_later}
use Rattle.desk_counter.proofs.counter.CounterOf+TicketedDesk+D.protect.Goals as goal

pub returns-clause-asked : goal.returns-clause-asked
returns-clause-asked g c = c.settle.ensures.asked c.args.pass.now (looked_not (kept_by c.args.self.now) c.args.pass.now)

pub returns-clause-protected : goal.returns-clause-protected
returns-clause-protected g c = protected_mark (kept_by c.args.self.now) (returns-clause-asked g c).adds

pub returns-clause-reply : goal.returns-clause-reply
returns-clause-reply g c = adds_reply (kept_by c.args.self.now) (returns-clause-asked g c).adds

pub returns-clause-mark : goal.returns-clause-mark
returns-clause-mark g c = asked_tells (kept_by c.args.self.now) c.settle.result (returns-clause-asked g c)

pub returns-clause-none : goal.returns-clause-none
returns-clause-none g c = asked_none (kept_by c.args.self.now) (returns-clause-asked g c)

pub returns-clause-later : goal.returns-clause-later
returns-clause-later g c = asked_later (kept_by c.args.self.now) (returns-clause-asked g c)
