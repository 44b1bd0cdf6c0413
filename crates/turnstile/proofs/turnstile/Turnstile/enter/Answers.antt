use Rattle.std.proofs.Common.{rules, ◌≡◌, ℕ, ◌≤◌, ◌<◌, ◌∷◌, Some, sym, ap, ◌∙◌, subst}
use Rattle.atomic_table.specs.Table.{rest}
use Rattle.turnstile.specs.Views.{waiting_view}
use Rattle.turnstile.specs.History.{entries_with, count_of}
use Rattle.turnstile.specs.Passes.{view_of}
use Rattle.turnstile.specs.declared.view.View.{View}
use Rattle.turnstile.proofs.Idle.{idle_view}
use Rattle.turnstile.proofs.Mine.{mine_taken, ruled_taken}
use Rattle.turnstile.proofs.Keeps.{draws, looks}
use Rattle.turnstile.proofs.turnstile.Turnstile.enter.Goals as goal

pub fetch_add-ticket-requires : goal.fetch_add-ticket-requires
fetch_add-ticket-requires g c =
    let idle = idle_view c.replace-badge.result c.into_seat-seat.result.me.0 c.into_seat-seat.ensures.2 in
    let is : c.into_seat-seat.result.me.0 ≡ view_of c.args.pass.now = idle.0 ∙ ap view_of c.replace-badge.ensures.value in (
      search rules,
      search rules,
      draws g.V.Recorded.entries g.V.Recorded.fixed _ _ _ _ _ idle.1
          (subst (λ (v : View g.row.V-Item.Denot g.row.V-Fixed.Denot). 0 < v.turns) (sym is) c.requires.turns),
    )

pub load-serving-requires : goal.load-serving-requires
load-serving-requires g c =
    let drew = c.fetch_add-ticket.ensures.2.0 in (
      search rules,
      search rules,
      looks g.V.Recorded.entries g.V.Recorded.fixed _ _ _ _ _ c.fetch_add-ticket.result (ap (λ m. m.0.stage) (c.loop.invariant.2 ∙ drew))
          (ap (λ m. m.1) (c.loop.invariant.2 ∙ drew) ∙ c.into_seat-seat.ensures.3),
    )

pub exchange-requires : goal.exchange-requires
exchange-requires g c =
    let drew = c.fetch_add-ticket.ensures.2.0 in
    let took = (c.load-serving.ensures.2 c.fetch_add-ticket.result (ap (λ m. m.0.stage) (c.loop.invariant.2 ∙ drew))).1 c.if-serving-ticket.true in
    let hand = ap (λ m. m.1) took.1.taken in
    (search rules, (Some took.0, hand ∙ ap (λ cs. (0, Some took.0) ∷ rest cs) (sym hand)))

pub returns-then-serving-ticket-clause-own : goal.returns-then-serving-ticket-clause-own
returns-then-serving-ticket-clause-own g c =
    let t = c.fetch_add-ticket.result in
    let idle = idle_view c.replace-badge.result c.into_seat-seat.result.me.0 c.into_seat-seat.ensures.2 in
    let is : c.into_seat-seat.result.me.0 ≡ view_of c.args.pass.now = idle.0 ∙ ap view_of c.replace-badge.ensures.value in
    let waits = c.loop.invariant.2 ∙ c.fetch_add-ticket.ensures.2.0 in
    let took = (c.load-serving.ensures.2 t (ap (λ m. m.0.stage) waits)).1 c.if-serving-ticket.true in
    let both = mine_taken g.V.Recorded.entries g.V.Recorded.fixed (view_of c.args.pass.now) _ _ t _ _ _
    (ap (λ m. m.0) waits
    ∙ ap (λ (v : View g.row.V-Item.Denot g.row.V-Fixed.Denot). waiting_view v t) is) c.fetch_add-ticket.ensures.2.1 took c.exchange.ensures.2
    c.unwrap-value.ensures in
    both.0

pub returns-then-serving-ticket-clause-mine : goal.returns-then-serving-ticket-clause-mine
returns-then-serving-ticket-clause-mine g c =
    let t = c.fetch_add-ticket.result in
    let idle = idle_view c.replace-badge.result c.into_seat-seat.result.me.0 c.into_seat-seat.ensures.2 in
    let is : c.into_seat-seat.result.me.0 ≡ view_of c.args.pass.now = idle.0 ∙ ap view_of c.replace-badge.ensures.value in
    let waits = c.loop.invariant.2 ∙ c.fetch_add-ticket.ensures.2.0 in
    let took = (c.load-serving.ensures.2 t (ap (λ m. m.0.stage) waits)).1 c.if-serving-ticket.true in
    let both = mine_taken g.V.Recorded.entries g.V.Recorded.fixed (view_of c.args.pass.now) _ _ t _ _ _
    (ap (λ m. m.0) waits
    ∙ ap (λ (v : View g.row.V-Item.Denot g.row.V-Fixed.Denot). waiting_view v t) is) c.fetch_add-ticket.ensures.2.1 took c.exchange.ensures.2
    c.unwrap-value.ensures in
    ap (λ m. entries_with m.0.drawn m.0.seen) c.exchange.ensures.3 ∙ both.1

pub returns-then-serving-ticket-clause-fresh : goal.returns-then-serving-ticket-clause-fresh
returns-then-serving-ticket-clause-fresh g c =
    let idle = idle_view c.replace-badge.result c.into_seat-seat.result.me.0 c.into_seat-seat.ensures.2 in
    let is : c.into_seat-seat.result.me.0 ≡ view_of c.args.pass.now = idle.0 ∙ ap view_of c.replace-badge.ensures.value in
    subst (λ (v : View g.row.V-Item.Denot g.row.V-Fixed.Denot). (x : ℕ) → c.fetch_add-ticket.result ≤ x
    → count_of x v.drawn ≡ 0) is c.fetch_add-ticket.ensures.2.2

pub returns-then-serving-ticket-clause-rule : goal.returns-then-serving-ticket-clause-rule
returns-then-serving-ticket-clause-rule g c =
    let t = c.fetch_add-ticket.result in
    let waits = c.loop.invariant.2 ∙ c.fetch_add-ticket.ensures.2.0 in
    let took = (c.load-serving.ensures.2 t (ap (λ m. m.0.stage) waits)).1 c.if-serving-ticket.true in
    ruled_taken g.V.Recorded.entries g.V.Recorded.fixed _ _ t _ _ _ _ took c.exchange.ensures.2 c.unwrap-value.ensures (ap (λ m. m.0) c.exchange.ensures.3)
