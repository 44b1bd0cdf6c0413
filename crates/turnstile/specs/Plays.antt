-- What each kind of step on a word tells the pass that makes it.
use Rattle.std.specs.Prelude.{◌≡◌, ◌≢◌, ℕ, ◌≤◌, [], ◌∷◌, Option, Some}
use Rattle.atomic_table.specs.Table.{Me, Step}
use Rattle.turnstile.specs.declared.view.View.{View}
use Rattle.turnstile.specs.declared.view.Stage.TheVariants.{Waiting}
use Rattle.turnstile.specs.History.{Entries, count_of, IsPrefix, IsRising, entries_with}
use Rattle.turnstile.specs.Rule.{IsRuledSince}
use Rattle.turnstile.specs.Views.{waiting_view, inside_view, outside_view, compared_view, AllKnown}
use Rattle.turnstile.specs.Views.{AllFixed}

module _ {V I F : Type 0} (entries_of : V → Entries I) (fixed_of : V → F) where
  -- the view of a pass, and the slot in its hand
  abbrev pub Hand : Type 0
  Hand = Me (Option V) (View I F)

  -- The value is lent to a pass that holds the ticket: all that the pass has seen begins the
  -- value's entries, and it is all of them where the pass has all shares. Those that have its
  -- tickets are those that it knows, and all tickets are below this one
  pub record Lends (m : Hand) (ticket : ℕ) (y : V) (m' : Hand) : Type 0 where
    pub taken : m' ≡ (inside_view m.0 ticket (entries_of y), (0, Some y) ∷ m.1)
    pub later : IsPrefix m.0.seen (entries_of y)
    pub whole : m.0.shares ≡ 65 → entries_of y ≡ m.0.seen
    pub own : entries_with m.0.drawn (entries_of y) ≡ entries_with m.0.drawn m.0.seen
    pub rising : IsRising 0 ticket (entries_of y)
    pub fixed : m.0.fixed ≡ Some (fixed_of y)
    pub ruled : IsRuledSince entries_of fixed_of (fixed_of y) m'.0

  -- draw: the ticket is the number found
  abbrev pub Drew : Step (Option V) → Hand → ℕ → Hand → Type 0
  Drew at m found m' = (m' ≡ (waiting_view m.0 found, m.1)) × (1 ≤ found)
      × ((x : ℕ) → found ≤ x → count_of x m.0.drawn ≡ 0)

  -- look: nothing changes, or the ticket is served and the value is lent
  abbrev pub Looked : Step (Option V) → Hand → ℕ → Hand → Type 0
  Looked at m found m' = (ticket : ℕ) → m.0.stage ≡ Waiting ticket → (found ≢ ticket → m' ≡ m)
      × (found ≡ ticket → (y : V) × Lends m ticket y m')

  -- The value is given back: it is at home, and the pass has seen its entries.
  pub record GivesBack (m : Hand) (y : V) (m' : Hand) : Type 0 where
    pub given : m' ≡ (outside_view m.0 (entries_of y), [])
    pub ruled : IsRuledSince entries_of fixed_of (fixed_of y) m'.0

  -- next: what the pass had goes home
  abbrev pub WentOn : Step (Option V) → Hand → ℕ → Hand → Type 0
  WentOn at m found m' = (y : V) → m.1 ≡ (0, Some y) ∷ [] → GivesBack m y m'

  -- compare: a look after a join, which tells that both lists begin the longer one, and that no
  -- ticket was drawn twice
  abbrev pub Compared : Step (Option V) → Hand → ℕ → Hand → Type 0
  Compared at m found m' = (m' ≡ (compared_view m.0, m.1)) × AllKnown m.0.seen m.0.joined
      × (m.0.shares ≤ 65) × ((x : ℕ) → count_of x m.0.drawn ≤ 1) × ((n : ℕ) × IsRising 0 n m.0.seen)
      × AllFixed m.0.fixed m.0.joined
