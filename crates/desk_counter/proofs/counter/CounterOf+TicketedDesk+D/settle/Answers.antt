use Rattle.std.proofs.Common.{ap, sym, ◌∙◌, subst, ◌≡◌, arith}
use Rattle.cqe_base.specs.Censor.{IsLegal}
use Rattle.cqe_base.specs.Limits.{KeepsSizes}
use Rattle.turnstile.specs.declared.view.View.{View}
use Rattle.turnstile.specs.Passes.{view_of, seen}
use Rattle.desk_counter.specs.declared.item.TurnItem.{TurnItem}
use Rattle.desk_counter.specs.declared.item.Fixed.{Fixed}
use Rattle.std.specs.Prelude.{◌↔◌, IsTrue}
use Rattle.user_log.specs.declared.reply.Reply.TheVariants.{Broken}
use Rattle.desk_counter.specs.Items.{history_of, has_broke, BrokeIsLast}
use Rattle.desk_counter.specs.Asks.{Adds}
use Rattle.desk_counter.specs.Tickets.{fixed_in, pairs_in}
use Rattle.desk_counter.specs.Counters.{kept_by}
use Rattle.desk_counter.proofs.Asking.{one_fixed, adds_at_most_one, asked_in_turn, turns_used}
use Rattle.desk_counter.proofs.Examining.{examined_later}
use Rattle.desk_counter.proofs.counter.CounterOf+TicketedDesk+D.settle.Goals as goal

pub settle-reply-requires-clause-examined : goal.settle-reply-requires-clause-examined
settle-reply-requires-clause-examined g c =
    let kept : Fixed g.row.D.Denot = kept_by c.args.self.now in
    let value = c.enter-turn.result.value in
    examined_later kept (fixed_in value) (seen c.args.pass.now) (pairs_in value) c.args.text.now c.args.examined
    (one_fixed _ (fixed_in value) kept c.enter-turn.ensures.fixed c.requires.pass.kept) c.enter-turn.ensures.later
    c.requires.examined

pub returns-clause-used : goal.returns-clause-used
returns-clause-used g c =
    let behind = turns_used (kept_by c.args.self.now) (view_of c.args.pass.now) (view_of c.leave.new.pass) _ c.enter-turn.result.ticket
    (pairs_in c.enter-turn.result.value) (pairs_in c.settle-reply.new.self) c.enter-turn.ensures.view c.leave.ensures.view in
    (behind.0, omega (arith, behind.1, c.requires.turns))

pub leave-requires-clause-grows : goal.leave-requires-clause-grows
leave-requires-clause-grows g c =
    adds_at_most_one (fixed_in c.enter-turn.result.value) _
    (view_of c.args.pass.now) c.ticket-ticket.ensures.0 c.enter-turn.ensures.view c.settle-reply.ensures.adds

pub returns-clause-asked : goal.returns-clause-asked
returns-clause-asked g c old looked =
    let kept : Fixed g.row.D.Denot = kept_by c.args.self.now in
    let value = c.enter-turn.result.value in
    let same = one_fixed _ (fixed_in value) kept c.enter-turn.ensures.fixed c.requires.pass.kept in
    let entered = c.enter-turn.ensures in
    let adds = subst (λ t.
    Adds (fixed_in value) t c.args.purpose c.args.text.now (pairs_in value) (pairs_in c.settle-reply.new.self) c.settle-reply.result) c.ticket-ticket.ensures.0
    c.settle-reply.ensures.adds in
    asked_in_turn kept c.enter-turn.result.ticket (pairs_in value)
    (pairs_in c.settle-reply.new.self) _ looked entered.view entered.later entered.whole entered.fresh entered.mine
    c.leave.ensures.view c.leave.ensures.mine
    (subst (λ f.
    Adds f c.enter-turn.result.ticket c.args.purpose c.args.text.now (pairs_in value) (pairs_in c.settle-reply.new.self) c.settle-reply.result) same adds)

pub returns-clause-legal : goal.returns-clause-legal
returns-clause-legal g c =
    let kept : Fixed g.row.D.Denot = kept_by c.args.self.now in
    let value = c.enter-turn.result.value in
    let same = c.settle-reply.ensures.fixed ∙ one_fixed _ (fixed_in value) kept c.enter-turn.ensures.fixed c.requires.pass.kept in
    let saw : seen c.leave.new.pass ≡ pairs_in c.settle-reply.new.self = ap (λ (v : View TurnItem (Fixed g.row.D.Denot)). v.seen) c.leave.ensures.view in
    subst (λ ps. IsLegal kept.schema kept.world kept.user (history_of ps)) (sym saw)
    (subst (λ (f : Fixed g.row.D.Denot). IsLegal f.schema f.world f.user (history_of (pairs_in c.settle-reply.new.self))) same c.known.ensures.legal)

pub returns-clause-sizes : goal.returns-clause-sizes
returns-clause-sizes g c =
    let kept : Fixed g.row.D.Denot = kept_by c.args.self.now in
    let value = c.enter-turn.result.value in
    let same = c.settle-reply.ensures.fixed ∙ one_fixed _ (fixed_in value) kept c.enter-turn.ensures.fixed c.requires.pass.kept in
    let saw : seen c.leave.new.pass ≡ pairs_in c.settle-reply.new.self = ap (λ (v : View TurnItem (Fixed g.row.D.Denot)). v.seen) c.leave.ensures.view in
    subst (λ ps. KeepsSizes kept.schema kept.user (history_of ps)) (sym saw)
    (subst (λ (f : Fixed g.row.D.Denot). KeepsSizes f.schema f.user (history_of (pairs_in c.settle-reply.new.self))) same c.known.ensures.sizes)

pub returns-clause-last : goal.returns-clause-last
returns-clause-last g c =
    let saw : seen c.leave.new.pass ≡ pairs_in c.settle-reply.new.self = ap (λ (v : View TurnItem (Fixed g.row.D.Denot)). v.seen) c.leave.ensures.view in
    subst (λ ps. BrokeIsLast ps) (sym saw) c.known.ensures.last

pub returns-clause-broken : goal.returns-clause-broken
returns-clause-broken g c =
    let saw : seen c.leave.new.pass ≡ pairs_in c.settle-reply.new.self = ap (λ (v : View TurnItem (Fixed g.row.D.Denot)). v.seen) c.leave.ensures.view in
    subst (λ ps. (c.settle-reply.result ≡ Broken) ↔ IsTrue (has_broke ps)) (sym saw) c.settle-reply.ensures.broken
