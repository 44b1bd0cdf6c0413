-- What the rule says of turns.
use Rattle.std.proofs.Common.{◌≡◌, ℕ, ◌<◌, [], ◌∷◌, sym, ap, ◌∙◌, arith}
use mathlib.Core.Logic.{dite}
use native.Mathlib.Decide.{ℕ_discrete}
use Rattle.turnstile.specs.declared.view.View.{View}
use Rattle.turnstile.specs.declared.view.Stage.{Stage}
use Rattle.turnstile.specs.declared.view.Stage.TheVariants.{Outside, Waiting, Inside}
use Rattle.turnstile.specs.History.{Entries, count_of}
use Rattle.turnstile.specs.Views.{tickets_at, held_tickets}
use Rattle.turnstile.specs.Rule.{EachIsHeld, OneIsInside}
use Rattle.list_sums.proofs.Sums.{sum_some}
use Rattle.turnstile.proofs.Counts.{count_of-else}
use Rattle.turnstile.proofs.Keeps.{held_once}

only_ticket : (x t : ℕ) → 0 < count_of x (t ∷ []) → (t ∷ []) ≡ (x ∷ [])
only_ticket x t some_of = dite (ℕ_discrete x t) (λ e. ap (λ (z : ℕ). z ∷ []) (sym e)) (λ e. let none = count_of-else x t e in absurd (omega arith))

held_at : (stage : Stage) (x : ℕ) → 0 < count_of x (tickets_at stage) → tickets_at stage ≡ x ∷ []
held_at Outside x some_of = absurd (omega arith)
held_at (Waiting t) x some_of = only_ticket x t some_of
held_at (Inside t) x some_of = only_ticket x t some_of

module _ {V I F : Type 0} (entries_of : V → Entries I) (fixed_of : V → F) where
  pub each_is_held : EachIsHeld entries_of fixed_of
  each_is_held fixed first s rule x low high =
      let once = rule.held.inside x low high in
      let found = sum_some (λ (v : View I F). count_of x (held_tickets v)) s.views (omega arith) in
      (found.0, found.1, found.2, held_at found.1.stage x found.3)

  pub one_is_inside : OneIsInside entries_of fixed_of
  one_is_inside fixed first s rule j k v w x y at there one two =
      let a = rule.in_turn j v at x one in
      let b = rule.in_turn k w there y two in
      let same : j ≡ k = dite (ℕ_discrete j k) (λ e. e)
      (λ e. absurd (held_once entries_of fixed_of fixed first s rule j k v w rule.serving e at there
      (ap tickets_at one ∙ ap (λ (z : ℕ). z ∷ []) a.0) (ap tickets_at two ∙ ap (λ (z : ℕ). z ∷ []) b.0))) in
      (same, a.2)
