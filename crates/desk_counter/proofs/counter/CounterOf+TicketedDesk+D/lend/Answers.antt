use Rattle.std.proofs.Common.{ap, sym, ◌∙◌, subst, ◌≡◌, inl, arith}
use Rattle.std.specs.Prelude.{IfSome}
use Rattle.turnstile.specs.declared.view.View.{View}
use Rattle.turnstile.specs.Passes.{view_of, seen}
use Rattle.entailment.specs.GroundSentences.{sentence_of}
use Rattle.user_log.specs.Examining.{IsLent}
use Rattle.desk_counter.specs.declared.item.TurnItem.{TurnItem}
use Rattle.desk_counter.specs.declared.item.Fixed.{Fixed}
use Rattle.desk_counter.specs.Items.{history_of}
use Rattle.desk_counter.specs.Tickets.{fixed_in, pairs_in}
use Rattle.desk_counter.specs.Counters.{kept_by}
use Rattle.desk_counter.proofs.Asking.{one_fixed, looked_in_turn, turns_used}
use Rattle.desk_counter.proofs.counter.CounterOf+TicketedDesk+D.lend.Goals as goal

pub leave-requires-clause-grows : goal.leave-requires-clause-grows
leave-requires-clause-grows g c =
    let began = ap (λ (v : View TurnItem (Fixed g.row.D.Denot)). v.seen) c.enter-turn.ensures.view in
    inl (c.lend-lent.ensures.pairs ∙ sym began)

pub returns-clause-used : goal.returns-clause-used
returns-clause-used g c =
    let behind = turns_used (kept_by c.args.self.now) (view_of c.args.pass.now) (view_of c.leave.new.pass) _ c.enter-turn.result.ticket
    (pairs_in c.enter-turn.result.value) (pairs_in c.lend-lent.new.self) c.enter-turn.ensures.view c.leave.ensures.view in
    omega (arith, behind.1, c.requires.turns)

pub returns-clause-looked : goal.returns-clause-looked
returns-clause-looked g c =
    let entered = c.enter-turn.ensures in
    looked_in_turn (kept_by c.args.self.now) c.enter-turn.result.ticket (pairs_in c.enter-turn.result.value) (pairs_in c.lend-lent.new.self) _
    entered.view entered.later entered.whole entered.mine c.leave.ensures.view c.leave.ensures.mine c.lend-lent.ensures.pairs

pub returns-clause-lent : goal.returns-clause-lent
returns-clause-lent g c =
    let kept : Fixed g.row.D.Denot = kept_by c.args.self.now in
    let value = c.enter-turn.result.value in
    let query = sentence_of c.args.query.now in
    let same = one_fixed _ (fixed_in value) kept c.enter-turn.ensures.fixed c.requires.pass.kept in
    let saw : seen c.leave.new.pass ≡ pairs_in value =
    ap (λ (v : View TurnItem (Fixed g.row.D.Denot)). v.seen) c.leave.ensures.view ∙ c.lend-lent.ensures.pairs in
    subst (λ ps. IfSome c.lend-lent.result (IsLent kept.schema kept.user (history_of ps) query)) (sym saw)
    (subst (λ (f : Fixed g.row.D.Denot). IfSome c.lend-lent.result (IsLent f.schema f.user (history_of (pairs_in value)) query)) same
    c.lend-lent.ensures.lent)
