-- What two passes that meet know of each other.
use Rattle.std.proofs.Common.{◌≡◌, ℕ, ◌≤◌, List, [], ◌∷◌, ◌++◌, sym, ap, ◌∙◌, subst}
use mathlib.Core.Option.{none}
use Rattle.atomic_table.specs.Table.{step}
use Rattle.turnstile.specs.declared.view.View.{View}
use Rattle.turnstile.specs.declared.pass.Pass.{Pass}
use Rattle.turnstile.specs.History.{Entries, count_of, entries_with, longer, Interleaves}
use Rattle.turnstile.specs.Views.{joined_view, compared_view, AllKnown, AllFixed}
use Rattle.turnstile.specs.Plays.{Hand, Compared}
use Rattle.turnstile.specs.Passes.{view_or_spent, view_of, mine, fixed}
use Rattle.turnstile.proofs.Histories.{entries_with_both}
use Rattle.turnstile.proofs.Idle.{idle_view}

module _ {I F : Type 0} where
  -- of the joined pass, whose views these are
  pub record Joined (p q : Pass I F) (views : List (View I F)) : Type 0 where
    pub agreed : fixed p ≡ fixed q
    pub mine_of_both : Interleaves (mine p) (mine q) (entries_with (view_or_spent views).drawn (view_or_spent views).seen)
    pub apart : (x : ℕ) → count_of x (view_or_spent views).drawn ≤ 1

  joined_views : (v w : View I F) → AllKnown (longer v.seen w.seen) (joined_view v w).joined → ((x : ℕ) → count_of x (v.drawn ++ w.drawn) ≤ 1)
      → Interleaves (entries_with v.drawn v.seen) (entries_with w.drawn w.seen) (entries_with (v.drawn ++ w.drawn) (longer v.seen w.seen))
  joined_views v w known apart =
      subst (λ (t : Entries I × Entries I). Interleaves t.0 t.1 (entries_with (v.drawn ++ w.drawn) (longer v.seen w.seen))) (λ i. (known.0.1 i, known.1.0.1 i))
      (entries_with_both v.drawn w.drawn (longer v.seen w.seen) apart)

module _ {V I F : Type 0} (entries_of : V → Entries I) (fixed_of : V → F) where
  -- what the look after the join told
  pub joining : (p q : Pass I F) (v w : View I F) → p.badge.views ≡ v ∷ [] → q.badge.views ≡ w ∷ [] → (m m' : Hand entries_of fixed_of) → m.0 ≡ joined_view v w
      → Compared entries_of fixed_of (step 0 0 0 0 none) m 0 m' → (views : List (View I F)) → views ≡ m'.0 ∷ [] → Joined p q views
  joining p q v w one two m m' both told views is =
      let this : v ≡ view_of p = (idle_view p v one).0 in
      let that : w ≡ view_of q = (idle_view q w two).0 in
      let now : compared_view (joined_view (view_of p) (view_of q)) ≡ view_or_spent views =
      sym (ap view_or_spent is ∙ (ap (λ h. h.0) told.0 ∙ ap compared_view (both ∙ λ i. joined_view (this i) (that i)))) in
      let known = subst (λ (u : View I F). AllKnown u.seen u.joined) (both ∙ λ i. joined_view (this i) (that i)) told.1 in
      let apart = subst (λ (u : View I F). (x : ℕ) → count_of x u.drawn ≤ 1) (both ∙ λ i. joined_view (this i) (that i)) told.3 in
      let same = subst (λ (u : View I F). AllFixed u.fixed u.joined) (both ∙ λ i. joined_view (this i) (that i)) told.5 in
      record {
        agreed = sym same.1.0;
        mine_of_both =
            subst (λ (u : View I F). Interleaves (mine p) (mine q) (entries_with u.drawn u.seen)) now (joined_views (view_of p) (view_of q) known apart);
        apart = subst (λ (u : View I F). (x : ℕ) → count_of x u.drawn ≤ 1) now apart;
      }
