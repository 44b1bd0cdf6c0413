use Rattle.std.proofs.Common.{rules, ◌≡◌, List, [], ◌∷◌, Option, Some, refl, sym, subst}
use Rattle.std.proofs.lemmas.Grind.{common_steps}
use Rattle.std.proofs.Common.{arith}
use Rattle.atomic_table.specs.Table.{opening}
use Rattle.turnstile.specs.Rule.{TurnstileRule}
use Rattle.turnstile.specs.Views.{opening_view}
use Rattle.turnstile.proofs.Keeps.{opens}
use Rattle.turnstile.proofs.Mine.{mine_undrawn}
use Rattle.turnstile.proofs.turnstile.Turnstile.new.Goals as goal

pub new-requires : goal.new-requires
new-requires g c =
    let value : c.of-about.result.value ≡ c.args.value = search rules in
    let items : c.push.new.self.items ≡ Some c.args.value ∷ [] = (first_of (search rules, grind (arith, common_steps))) in
    subst (λ (x : g.row.V.Denot × List (Option g.row.V.Denot)).
    TurnstileRule g.V.Recorded.entries g.V.Recorded.fixed (g.V.Recorded.fixed x.0) (g.V.Recorded.entries x.0)
    (opening (1 ∷ 1 ∷ []) x.1 (opening_view (g.V.Recorded.entries x.0) (g.V.Recorded.fixed x.0))))
    (λ i. (sym value i, sym items i))
    (opens g.V.Recorded.entries g.V.Recorded.fixed (g.V.Recorded.fixed c.args.value) (g.V.Recorded.entries c.args.value) c.args.value c.requires refl refl)

pub returns-in-Ok-new-clause-mine : goal.returns-in-Ok-new-clause-mine
returns-in-Ok-new-clause-mine g c = mine_undrawn _ _ c.into_badge.ensures.2 (search rules)
