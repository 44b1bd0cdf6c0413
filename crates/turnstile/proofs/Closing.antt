-- What a pass with all shares knows of the value that it takes out.
use Rattle.std.proofs.Common.{◌≡◌, ℕ, List, [], ◌∷◌, Option, Some, sym, ap, ◌∙◌, subst}
use mathlib.Core.Option.{some}
use lib.ListN.{get_elem?}
use Rattle.atomic_table.specs.Table.{Seen, Final}
use Rattle.turnstile.specs.declared.view.View.{View}
use Rattle.turnstile.specs.declared.pass.Pass.{Pass}
use Rattle.turnstile.specs.History.{Entries}
use Rattle.turnstile.specs.Passes.{view_of, shares}
use Rattle.turnstile.specs.Rule.{TurnstileRule, IsRuled}
use Rattle.turnstile.proofs.Idle.{idle_view}
use Rattle.turnstile.proofs.Keeps.{Closes, ends}

module _ {V I F : Type 0} (entries_of : V → Entries I) (fixed_of : V → F) where
  pub closing : (p : Pass I F) (v : View I F) → p.badge.views ≡ v ∷ [] → shares p ≡ 65
      → (fixed : F) (first : Entries I) (id : ℕ) (ws : List ℕ) (xs : List (Option V)) (x : Option V) → {y : V}
      → Final (Seen (TurnstileRule entries_of fixed_of fixed first) id v) ws xs → get_elem? xs 0 ≡ some x → x ≡ Some y
      → Closes entries_of fixed_of first (view_of p) y
  closing p v one all fixed first id ws xs x {y} final there is =
      let idle = idle_view p v one in
      let t = ends entries_of fixed_of fixed first id v ws xs x final idle.1 (ap (λ (u : View I F). u.shares) idle.0 ∙ all) there in
      let same : t.0 ≡ y = some_same t.0 y (sym t.1 ∙ is) in
      subst (λ (u : View I F × V). Closes entries_of fixed_of first u.0 u.1) (λ i. (idle.0 i, same i)) t.2
    where
      some_same : (a b : V) → Some a ≡ Some b → a ≡ b
      some_same a b e = cc

  -- the state in which the table was closed meets the rule, and has the pass's view
  pub ruled_in : (p : Pass I F) (v : View I F) → p.badge.views ≡ v ∷ [] → (fixed : F) (first : Entries I) (id : ℕ) (ws : List ℕ) (xs : List (Option V))
      → Final (Seen (TurnstileRule entries_of fixed_of fixed first) id v) ws xs → IsRuled entries_of fixed_of fixed first (view_of p)
  ruled_in p v one fixed first id ws xs final =
      record { state = final.0; rule = final.1.0; place = id; there = final.1.1 ∙ ap (λ (u : View I F). some u) (idle_view p v one).0 }
