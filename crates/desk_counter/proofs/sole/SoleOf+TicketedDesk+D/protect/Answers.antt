use Rattle.std.proofs.Common.{sym, subst}
use Rattle.cqe_base.specs.declared.user.Purpose.TheVariants.{Protecting}
use Rattle.turnstile.specs.Passes.{seen}
use Rattle.user_desk.specs.Lives.{IsState}
use Rattle.desk_counter.specs.declared.item.Fixed.{Fixed}
use Rattle.desk_counter.specs.Desks.{state_shown}
use Rattle.desk_counter.specs.Sole.{kept_in}
use Rattle.desk_counter.proofs.Lives.{adds_call}
use Rattle.desk_counter.proofs.sole.SoleOf+TicketedDesk+D.protect.Goals as goal

pub returns-clause-settled : goal.returns-clause-settled
returns-clause-settled g c state is =
    let kept : Fixed g.row.D.Denot = kept_in c.args.self.now in
    let asked = c.protect-reply.ensures.asked in
    adds_call kept Protecting c.args.text.now asked.found (seen c.protect-reply.new.pass) state
    (subst (λ ps. IsState kept.standing (state_shown kept ps) state) (sym (asked.whole c.args.self.now.all)) is) c.protect-reply.result asked.adds
