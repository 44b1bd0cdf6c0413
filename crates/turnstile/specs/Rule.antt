-- The rule of the turnstile: what holds between any two steps.
use Rattle.std.specs.Prelude.{◌≡◌, ◌⊎◌, ℕ, ◌+◌, ◌*◌, ◌^◌, ◌<◌, ◌≤◌, List, [], ◌∷◌, ◌++◌, sum_by}
use Rattle.std.specs.Prelude.{Option, Some}
use mathlib.Core.Option.{Option as Option', none, some}
use lib.ListN.{get_elem?}
use Rattle.atomic_table.specs.Table.{State}
use Rattle.turnstile.specs.declared.view.View.{View}
use Rattle.turnstile.specs.declared.view.Stage.TheVariants.{Inside}
use Rattle.turnstile.specs.History.{Entries, count_of, OnceBetween, NoneWith, IsRising}
use Rattle.turnstile.specs.History.{turn_entries}
use Rattle.turnstile.specs.Views.{held_tickets, spent_view, AllKnown, AllFixed}

module _ {I F : Type 0} where
  -- What the rule says of one view, in words of the history. A view that isn't spent is live.
  pub record Fits (fixed : F) (history : Entries I) (v : View I F) : Type 0 where
    -- it has seen a beginning of the history
    pub behind : Entries I
    pub seen : history ≡ v.seen ++ behind
    -- none of the pairs behind has a ticket that it drew: its own are all among those that it has
    -- seen
    pub missed : NoneWith v.drawn behind
    -- the ticket that it holds is one that it drew
    pub own : (x : ℕ) → count_of x (held_tickets v) ≤ count_of x v.drawn
    -- a live view has a share, and the value's `fixed`
    pub live : ((0 < v.shares) × (v.fixed ≡ Some fixed)) ⊎ (v ≡ spent_view)
    -- what was put together in it begins what it has seen
    pub joined : AllKnown v.seen v.joined
    pub agreed : AllFixed v.fixed v.joined

module _ {V I F : Type 0} where
  -- where the view is that of a pass in its turn, it has the ticket that is served and has seen the
  -- whole history, and the slot is empty
  abbrev pub HasTurn : ℕ → Entries I → List (Option' (Option V)) → View I F → Type 0
  HasTurn serving history homes v = (ticket : ℕ) → v.stage ≡ Inside ticket → (ticket ≡ serving)
      × (v.seen ≡ history) × (homes ≡ none ∷ [])

module _ {V I F : Type 0} (entries_of : V → Entries I) (fixed_of : V → F) where
  -- the value is at home, with the history as its entries
  abbrev pub IsHome : F → Entries I → State (Option V) (View I F) → Type 0
  IsHome fixed history s =
      (y : V) × (s.homes ≡ some (Some y) ∷ []) × (entries_of y ≡ history) × (fixed_of y ≡ fixed)

  -- a pass has the value in its turn
  abbrev pub IsOut : State (Option V) (View I F) → Type 0
  IsOut s = (k : ℕ) × (v : View I F) × (ticket : ℕ) × (get_elem? s.views k ≡ some v)
      × (v.stage ≡ Inside ticket)

  -- the rule, between any two steps
  pub record TurnstileRule (fixed : F) (first : Entries I) (s : State (Option V) (View I F)) :
      Type 0 where
    -- the words are the ticket to be drawn next and the ticket that is served
    pub ticket : ℕ
    pub serving : ℕ
    pub words : s.words ≡ ticket ∷ serving ∷ []
    pub ordered : (1 ≤ serving) × (serving ≤ ticket)
    -- the tickets that are held are those from `serving` to `ticket - 1`, each once
    pub held : OnceBetween serving ticket (λ x. sum_by (λ v. count_of x (held_tickets v)) s.views)
    -- the tickets that were drawn are those from 1 to `ticket - 1`, each once
    pub drawn : OnceBetween 1 ticket (λ x. sum_by (λ v. count_of x v.drawn) s.views)
    -- there are 65 shares
    pub shares : sum_by (λ v. v.shares) s.views ≡ 65
    -- the next ticket and the turns that are left have one sum
    pub turns : ticket + sum_by (λ v. v.turns) s.views ≡ 65 * 2 ^ 57 + 1
    -- the history is the longest list that a live view has seen, and each view fits it
    pub history : Entries I
    pub longest : (k : ℕ) × (v : View I F) × (get_elem? s.views k ≡ some v) × (0 < v.shares)
        × (v.seen ≡ history)
    pub each : (k : ℕ) (v : View I F) → get_elem? s.views k ≡ some v → Fits fixed history v
    -- its tickets other than 0 rise strictly, and are below `serving`
    pub rising : IsRising 0 serving history
    -- it is what was there at the start, and behind that what turns added
    pub added : history ≡ first ++ turn_entries history
    -- the value is at home or in a turn
    pub slot : IsHome fixed history s ⊎ IsOut s
    pub in_turn : (k : ℕ) (v : View I F) → get_elem? s.views k ≡ some v
        → HasTurn serving history s.homes v

  -- the view is one of those in a state that meets the rule
  pub record IsRuled (fixed : F) (first : Entries I) (v : View I F) : Type 0 where
    pub state : State (Option V) (View I F)
    pub rule : TurnstileRule fixed first state
    pub place : ℕ
    pub there : get_elem? state.views place ≡ some v

  -- the same, whatever was there at the start, since a step isn't told that
  abbrev pub IsRuledSince : F → View I F → Type 0
  IsRuledSince fixed v = (first : Entries I) × IsRuled fixed first v

  -- Each ticket that was drawn and isn't done with is held by a pass, so none is lost.
  abbrev pub EachIsHeld : Type 0
  EachIsHeld = (fixed : F) (first : Entries I) (s : State (Option V) (View I F))
      → (rule : TurnstileRule fixed first s)
      → (x : ℕ) → rule.serving ≤ x → x < rule.ticket
      → (k : ℕ) × (v : View I F) × (get_elem? s.views k ≡ some v) × (held_tickets v ≡ x ∷ [])

  -- Two passes in their turns are one, and the value isn't at home meanwhile.
  abbrev pub OneIsInside : Type 0
  OneIsInside = (fixed : F) (first : Entries I) (s : State (Option V) (View I F))
      → TurnstileRule fixed first s
      → (j k : ℕ) (v w : View I F) (x y : ℕ) → get_elem? s.views j ≡ some v
      → get_elem? s.views k ≡ some w
      → v.stage ≡ Inside x → w.stage ≡ Inside y → (j ≡ k) × (s.homes ≡ none ∷ [])
