use Rattle.std.proofs.Common.{rules, ◌≡◌, sym, ap, ◌∙◌, subst}
use Rattle.turnstile.specs.declared.view.View.{View}
use Rattle.turnstile.specs.History.{AddsAtMostOne}
use Rattle.turnstile.specs.Rule.{IsRuledSince}
use Rattle.turnstile.specs.Passes.{view_or_spent}
use Rattle.turnstile.proofs.Keeps.{goes_on}
use Rattle.turnstile.proofs.turnstile.Turnstile.leave.Goals as goal

pub fetch_add-requires : goal.fetch_add-requires
fetch_add-requires g c =
    let now = c.exchange-nothing.ensures.3 in
    let same : c.exchange-nothing.new.seat.me.0 ≡ c.args.turn.seat.me.0 = ap (λ m. m.0) now in (
      search rules,
      search rules,
      goes_on g.V.Recorded.entries g.V.Recorded.fixed _ _ _ _ _ c.args.turn.ticket c.args.turn.value
          (ap (λ (v : View g.row.V-Item.Denot g.row.V-Fixed.Denot). v.stage) same ∙ c.args.turn.served.0)
          (search rules)
          (ap (λ (v : View g.row.V-Item.Denot g.row.V-Fixed.Denot). v.fixed) same ∙ c.requires.fixed)
          (subst (λ (v : View g.row.V-Item.Denot g.row.V-Fixed.Denot). AddsAtMostOne c.args.turn.ticket v.seen (g.V.Recorded.entries c.args.turn.value))
          (sym same) c.requires.grows),
    )

pub returns-clause-rule : goal.returns-clause-rule
returns-clause-rule g c =
    let back = c.fetch_add.ensures.2 c.args.turn.value (search rules) in
    subst (λ v. IsRuledSince g.V.Recorded.entries g.V.Recorded.fixed (g.V.Recorded.fixed c.args.turn.value) v)
    (sym (ap view_or_spent c.into_badge.ensures.2)) back.ruled
