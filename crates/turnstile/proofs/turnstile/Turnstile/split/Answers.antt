use Rattle.std.proofs.Common.{rules, arith, ◌≡◌, ◌<◌, ◌≤◌, ◌^◌, ⊎_elim, sym, ap, ◌∙◌}
use Rattle.turnstile.specs.declared.view.View.{View}
use Rattle.turnstile.specs.declared.pass.Pass.{Pass}
use Rattle.turnstile.specs.Passes.{view_of}
use Rattle.turnstile.proofs.Idle.{idle_view}
use Rattle.turnstile.proofs.Keeps.{parts}
use Rattle.turnstile.proofs.Mine.{mine_undrawn}
use Rattle.turnstile.proofs.turnstile.Turnstile.split.Goals as goal

pub split_seat-other-requires : goal.split_seat-other-requires
split_seat-other-requires g c =
    let idle = idle_view c.replace-badge.result c.into_seat-seat.result.me.0 c.into_seat-seat.ensures.2 in
    let is : c.into_seat-seat.result.me.0 ≡ view_of c.args.pass.now = idle.0 ∙ ap view_of c.replace-badge.ensures.value in
    let some_of = idle.2 in
    let same : c.args.pass.now.shares ≡ c.into_seat-seat.result.me.0.shares =
    ap (λ (p : Pass g.row.V-Item.Denot g.row.V-Fixed.Denot). p.shares) (sym c.replace-badge.ensures.value) ∙ idle.3 in
    let other = c.if-pass-eq1.false in
    let more : 1 < c.into_seat-seat.result.me.0.shares = omega arith in
    let shares_now = ap (λ (v : View g.row.V-Item.Denot g.row.V-Fixed.Denot). v.shares) is in
    let turns_now = ap (λ (v : View g.row.V-Item.Denot g.row.V-Fixed.Denot). v.turns) is in
    let room : 2 ^ 57 ≤ c.into_seat-seat.result.me.0.turns =
    ⊎_elim (λ (e : (view_of c.args.pass.now).shares ≡ 1). absurd (other (same ∙ (shares_now ∙ e))))
    (λ (l : 2 ^ 57 ≤ (view_of c.args.pass.now).turns). omega arith) c.requires.room in
    (search rules, search rules, parts g.V.Recorded.entries g.V.Recorded.fixed _ _ _ _ idle.1 more room)

pub returns-clause-mine : goal.returns-clause-mine
returns-clause-mine g c = mine_undrawn _ _ c.into_badge-2.ensures.2 (ap (λ m. m.0.drawn) c.split_seat-other.ensures.4)
