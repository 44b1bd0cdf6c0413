-- The pairs that a pass has of its own.
use Rattle.std.proofs.Common.{◌≡◌, ℕ, ◌≤◌, Option, Some, List, [], ◌∷◌, ◌++◌, ap, ◌∙◌, sym, subst}
use Rattle.turnstile.specs.declared.view.View.{View}
use Rattle.turnstile.specs.History.{Entries, IsPrefix, entries_with}
use Rattle.turnstile.specs.Views.{waiting_view, inside_view}
use Rattle.turnstile.specs.Rule.{IsRuledSince}
use Rattle.turnstile.specs.Plays.{Hand, Lends}
use Rattle.turnstile.specs.Passes.{view_or_spent}
use Rattle.turnstile.proofs.Histories.{AllBelow, rising_below, below_front, entries_with_fresh, entries_with_none, none_of_none}
use Rattle.turnstile.proofs.Idle.{same_hand}

module _ {I F : Type 0} where
  -- a pass that drew no ticket has none
  pub mine_undrawn : (vs : List (View I F)) (v : View I F) → vs ≡ v ∷ [] → v.drawn ≡ [] → entries_with (view_or_spent vs).drawn (view_or_spent vs).seen ≡ []
  mine_undrawn vs v one none = ap (λ ws. entries_with (view_or_spent ws).drawn (view_or_spent ws).seen) one
      ∙ (ap (λ ts. entries_with ts v.seen) none ∙ entries_with_none [] v.seen (none_of_none v.seen))

  -- what a pass finds with its tickets is what it had, with the ticket that it has just drawn and without it
  pub mine_lent : (v : View I F) (ticket : ℕ) (es : Entries I) → entries_with (v.drawn ++ ticket ∷ []) es ≡ entries_with (v.drawn ++ ticket ∷ []) v.seen
      → AllBelow ticket es → IsPrefix v.seen es
      → (entries_with v.drawn es ≡ entries_with v.drawn v.seen) × (entries_with (v.drawn ++ ticket ∷ []) es ≡ entries_with v.drawn v.seen)
  mine_lent v ticket es own below prefix =
      let seen_below : AllBelow ticket v.seen = below_front ticket v.seen prefix.0 (subst (AllBelow ticket) prefix.1 below) in
      let all : entries_with (v.drawn ++ ticket ∷ []) es ≡ entries_with v.drawn v.seen = own ∙ entries_with_fresh v.drawn ticket v.seen seen_below in
      (sym (entries_with_fresh v.drawn ticket es below) ∙ all, all)

module _ {V I F : Type 0} (entries_of : V → Entries I) (fixed_of : V → F) where
  -- the value in hand is the one that was lent
  lent_is : (y : V) (m m' : Hand entries_of fixed_of) (ticket : ℕ) (slot : Option V) (value : V) (others : List (ℕ × Option V))
      → Lends entries_of fixed_of m ticket y m'
      → m'.1 ≡ (0, slot) ∷ others → slot ≡ Some value → y ≡ value
  lent_is y m m' ticket slot value others known took is = same_some y value (same_hand (Some y) slot _ _ (sym (ap (λ h. h.1) known.taken) ∙ took) ∙ is)
    where
      same_some : (a b : V) → Some a ≡ Some b → a ≡ b
      same_some a b e = cc

  -- the state in which it was lent meets the rule
  pub ruled_taken : (m m' : Hand entries_of fixed_of) (ticket : ℕ) (slot : Option V) (value : V) (others : List (ℕ × Option V)) (now : View I F)
      → ((y : V) × Lends entries_of fixed_of m ticket y m')
      → m'.1 ≡ (0, slot) ∷ others → slot ≡ Some value → now ≡ m'.0 → IsRuledSince entries_of fixed_of (fixed_of value) now
  ruled_taken m m' ticket slot value others now lent took is same =
      let value_is = lent_is lent.0 m m' ticket slot value others lent.1 took is in
      subst (λ (t : V × View I F). IsRuledSince entries_of fixed_of (fixed_of t.0) t.1) (λ i. (value_is i, sym same i)) lent.1.ruled

  -- the same of the value that a look took, and of what the pass then knows
  pub mine_taken : (v : View I F) (m m' : Hand entries_of fixed_of) (ticket : ℕ) (slot : Option V) (value : V) (others : List (ℕ × Option V))
      → m.0 ≡ waiting_view v ticket → 1 ≤ ticket
      → ((y : V) × Lends entries_of fixed_of m ticket y m') → m'.1 ≡ (0, slot) ∷ others → slot ≡ Some value
      → (entries_with v.drawn (entries_of value) ≡ entries_with v.drawn v.seen) × (entries_with m'.0.drawn m'.0.seen ≡ entries_with v.drawn v.seen)
  mine_taken v m m' ticket slot value others drew pos lent took is =
      let y : V = lent.0 in
      let known = lent.1 in
      let same : y ≡ value = lent_is y m m' ticket slot value others known took is in
      let found = subst (λ (u : View I F). (entries_with u.drawn (entries_of y) ≡ entries_with u.drawn u.seen)
      × IsPrefix u.seen (entries_of y)) drew (known.own, known.later) in
      let both = mine_lent v ticket (entries_of y) found.0 (rising_below 0 ticket (entries_of y) pos known.rising) found.1 in
      let now : m'.0 ≡ inside_view (waiting_view v ticket) ticket (entries_of y) =
      ap (λ h. h.0) known.taken ∙ ap (λ u. inside_view u ticket (entries_of y)) drew in
      (ap (λ z. entries_with v.drawn (entries_of z)) (sym same) ∙ both.0, ap (λ u. entries_with u.drawn u.seen) now ∙ both.1)
