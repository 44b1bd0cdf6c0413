-- A pass and a turn as contracts speak of them.
use Rattle.std.specs.Prelude.{◌≡◌, ℕ, List, [], ◌∷◌, Option}
use Rattle.turnstile.specs.declared.steps.Recorded.{Ghosts}
use Rattle.turnstile.specs.declared.view.View.{View}
use Rattle.turnstile.specs.declared.pass.Pass.{Pass}
use Rattle.turnstile.specs.declared.turnstile.Turnstile.{Turnstile}
use Rattle.turnstile.specs.declared.turnstile.Turn.{Turn}
use Rattle.turnstile.specs.History.{Entries, entries_with}
use Rattle.turnstile.specs.Views.{spent_view}

module _ {I F : Type 0} where
  -- the only view in the list; where there is none, the spent one
  abbrev pub view_or_spent : List (View I F) → View I F
  view_or_spent [] = spent_view
  view_or_spent (v ∷ vs) = v

  -- what the pass knows
  abbrev pub view_of : Pass I F → View I F
  view_of p = view_or_spent p.badge.views

  -- the pass isn't in a turn
  abbrev pub IsReady : Pass I F → Type 0
  IsReady p = p.badge.views ≡ view_of p ∷ []

  -- the pass is in a turn, which has its view
  abbrev pub IsAway : Pass I F → Type 0
  IsAway p = p.badge.views ≡ []

  -- the pairs that the pass has seen
  abbrev pub seen : Pass I F → Entries I
  seen p = (view_of p).seen

  -- the tickets that it drew
  abbrev pub tickets : Pass I F → List ℕ
  tickets p = (view_of p).drawn

  -- the pairs that it has seen whose tickets it drew
  abbrev pub mine : Pass I F → Entries I
  mine p = entries_with (tickets p) (seen p)

  -- what no turn changes
  abbrev pub fixed : Pass I F → Option F
  fixed p = (view_of p).fixed

  -- how many shares it has
  abbrev pub shares : Pass I F → ℕ
  shares p = (view_of p).shares

  -- how many turns it may still make
  abbrev pub turns : Pass I F → ℕ
  turns p = (view_of p).turns

module _ {V I F : Type 0} where
  -- the pass is of this turnstile
  abbrev pub IsOf : Pass I F → Turnstile V I F → Type 0
  IsOf p t = p.badge.table_id ≡ t.table.shared.table_id

  -- the value as it was put under the turnstile
  abbrev pub first_value : Turnstile V I F → V
  first_value t = t.table.shared.key.value

module _ {V I F : Type 0} {G : Ghosts V I F} where
  -- the turn is at this turnstile
  abbrev pub IsAt : Turn V I F G → Turnstile V I F → Type 0
  IsAt turn t = turn.seat.table_id ≡ t.table.shared.table_id

  -- the ticket of the turn
  abbrev pub ticket_of : Turn V I F G → ℕ
  ticket_of turn = turn.ticket

  -- what the pass knows that is in this turn
  abbrev pub view_in : Turn V I F G → View I F
  view_in turn = turn.seat.me.0

  -- the entries at the start of the turn
  abbrev pub entries_before : Turn V I F G → Entries I
  entries_before turn = (view_in turn).seen

  -- those of them whose tickets the pass drew
  abbrev pub mine_before : Turn V I F G → Entries I
  mine_before turn = entries_with (view_in turn).drawn (entries_before turn)
