use Rattle.std.proofs.Common.{rules, arith, sym, ap, ◌∙◌}
use Rattle.turnstile.specs.declared.pass.Pass.{Pass}
use Rattle.turnstile.proofs.Idle.{idle_view}
use Rattle.turnstile.proofs.Joining.{joining}
use Rattle.turnstile.proofs.Keeps.{meets, compares}
use Rattle.turnstile.proofs.turnstile.Turnstile.meet.Goals as goal

pub join_seat-requires : goal.join_seat-requires
join_seat-requires g c =
    let one = idle_view c.replace-badge.result c.into_seat-seat.result.me.0 c.into_seat-seat.ensures.2 in
    let two = idle_view c.args.other c.into_seat.result.me.0 c.into_seat.ensures.2 in
    (search rules, search rules, search rules, search rules, meets g.V.Recorded.entries g.V.Recorded.fixed _ _ _ _ _ _ one.1 two.1 one.2 two.2)

pub load-requires : goal.load-requires
load-requires g c =
    let one = idle_view c.replace-badge.result c.into_seat-seat.result.me.0 c.into_seat-seat.ensures.2 in
    let now = c.join_seat.ensures.2 in
    let stage = ap (λ m. m.0.stage) now ∙ one.1 in
    let sum = ap (λ m. m.0.shares) now in
    let pos = one.2 in
    (search rules, search rules, compares g.V.Recorded.entries g.V.Recorded.fixed _ _ _ _ _ stage (omega arith))

pub returns-clause-fixed : goal.returns-clause-fixed
returns-clause-fixed g c =
    let here = ap (λ (p : Pass g.row.V-Item.Denot g.row.V-Fixed.Denot). p.badge.views) (sym c.replace-badge.ensures.value) ∙ c.into_seat-seat.ensures.2 in
    (joining g.V.Recorded.entries g.V.Recorded.fixed c.args.pass.now c.args.other _ _ here c.into_seat.ensures.2 _ _
    (ap (λ m. m.0) c.join_seat.ensures.2) c.load.ensures.2 _ c.into_badge.ensures.2).agreed

pub returns-clause-mine : goal.returns-clause-mine
returns-clause-mine g c =
    let here = ap (λ (p : Pass g.row.V-Item.Denot g.row.V-Fixed.Denot). p.badge.views) (sym c.replace-badge.ensures.value) ∙ c.into_seat-seat.ensures.2 in
    (joining g.V.Recorded.entries g.V.Recorded.fixed c.args.pass.now c.args.other _ _ here c.into_seat.ensures.2 _ _
    (ap (λ m. m.0) c.join_seat.ensures.2) c.load.ensures.2 _ c.into_badge.ensures.2).mine_of_both

pub returns-clause-apart : goal.returns-clause-apart
returns-clause-apart g c =
    let here = ap (λ (p : Pass g.row.V-Item.Denot g.row.V-Fixed.Denot). p.badge.views) (sym c.replace-badge.ensures.value) ∙ c.into_seat-seat.ensures.2 in
    (joining g.V.Recorded.entries g.V.Recorded.fixed c.args.pass.now c.args.other _ _ here c.into_seat.ensures.2 _ _
    (ap (λ m. m.0) c.join_seat.ensures.2) c.load.ensures.2 _ c.into_badge.ensures.2).apart
