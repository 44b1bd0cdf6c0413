use Rattle.std.proofs.Common.{◌∙◌, arith}
use Rattle.desk_counter.specs.Counters.{kept_by}
use Rattle.desk_counter.proofs.Asking.{adds_reply, asked_tells, asked_none, asked_later}
use Rattle.desk_counter.proofs.counter.CounterOf+TicketedDesk+D.ask.Goals as goal

pub settle-reply-requires-clause-turns : goal.settle-reply-requires-clause-turns
settle-reply-requires-clause-turns g c = omega (arith, c.requires.turns, c.examined-examined.ensures.used)

pub returns-clause-used : goal.returns-clause-used
returns-clause-used g c =
    let before = c.examined-examined.ensures in
    let behind = c.settle-reply.ensures.used in
    (behind.0 ∙ before.looked.same_shares, omega (arith, behind.1, before.used, c.requires.turns))

pub returns-clause-asked : goal.returns-clause-asked
returns-clause-asked g c = c.settle-reply.ensures.asked c.args.pass.now c.examined-examined.ensures.looked

pub returns-clause-reply : goal.returns-clause-reply
returns-clause-reply g c = adds_reply (kept_by c.args.self.now) (returns-clause-asked g c).adds

pub returns-clause-mark : goal.returns-clause-mark
returns-clause-mark g c = asked_tells (kept_by c.args.self.now) c.settle-reply.result (returns-clause-asked g c)

pub returns-clause-none : goal.returns-clause-none
returns-clause-none g c = asked_none (kept_by c.args.self.now) (returns-clause-asked g c)

pub returns-clause-later : goal.returns-clause-later
returns-clause-later g c = asked_later (kept_by c.args.self.now) (returns-clause-asked g c)
