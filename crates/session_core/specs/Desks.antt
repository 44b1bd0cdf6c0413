-- What a session does with the passes.
use Rattle.std.specs.Prelude.{◌≡◌, ℕ, zero, suc, ◌≤◌, ◌+◌, ◌*◌, true, List, [], ◌∷◌, ◌++◌, length}
use Rattle.std.specs.Prelude.{Option, Some, None, map}
use Rattle.cqe_base.specs.Schema.{DatabaseSchema, Text}
use Rattle.cqe_base.specs.History.{AnsweredQuery, History}
use Rattle.cqe_base.specs.Run.{Reply}
use Rattle.turnstile.specs.declared.pass.Pass.{Pass}
use Rattle.turnstile.specs.History.{IsPrefix}
use Rattle.turnstile.specs.Passes.{seen, mine, shares, turns}
use Rattle.user_desk.specs.Standings.{standing_of}
use Rattle.desk_counter.specs.declared.item.TurnItem.{TurnItem}
use Rattle.desk_counter.specs.declared.item.Fixed.{Fixed}
use Rattle.desk_counter.specs.Items.{history_of, has_broke, items_of, items_with}
use Rattle.session_core.specs.Replied.{Replied}

module _ {D : Type 0} where
  -- the schema of each desk, in order
  abbrev pub schemas_of : List (Fixed D) → List DatabaseSchema
  schemas_of fixeds = map (λ fixed. fixed.schema) fixeds

  -- the replies to these asks are by what the pass has seen after them, in the order of the asks
  abbrev pub AreReplied : Fixed D → Pass TurnItem (Fixed D) → Pass TurnItem (Fixed D)
      → List (Text × Reply) → History → Option AnsweredQuery → Type 0
  AreReplied fixed old new asks entries in_flight =
      Replied fixed.schema fixed.world fixed.user (standing_of fixed.standing)
      (history_of (seen new)) (has_broke (seen new)) (length (history_of (seen old)))
      (has_broke (seen old)) asks entries in_flight

  -- What asks do with a pass: they were replied to by what it has seen since; and it has more of
  -- its own the entries of their marks, in order, each once, and behind them the entry of the very
  -- ask whose append failed, if one did. Where one had failed before, it has seen no more since.
  pub record Asks (fixed : Fixed D) (old new : Pass TurnItem (Fixed D))
      (asks : List (Text × Reply)) :
      Type 0 where
    pub entries : History
    pub in_flight : Option AnsweredQuery
    pub replied : AreReplied fixed old new asks entries in_flight
    pub own : items_of (mine new) ≡ items_of (mine old) ++ items_with entries in_flight
    pub later : IsPrefix (seen old) (seen new)
    pub still : has_broke (seen old) ≡ true → seen new ≡ seen old
    pub same_shares : shares new ≡ shares old
    pub used : turns old ≤ turns new + 2 * length asks

  -- The pass at a place was used for these asks, and no other changed.
  pub data AsksAt : ℕ → List (Fixed D) → List (Pass TurnItem (Fixed D))
      → List (Pass TurnItem (Fixed D))
      → List (Text × Reply) → Type 0 where
    here : {fixed : Fixed D} {others : List (Fixed D)} {old new : Pass TurnItem (Fixed D)}
        {rest : List (Pass TurnItem (Fixed D))} {asks : List (Text × Reply)}
        → Asks fixed old new asks → AsksAt zero (fixed ∷ others) (old ∷ rest) (new ∷ rest) asks
    further : {place : ℕ} {fixed : Fixed D} {others : List (Fixed D)}
        {same : Pass TurnItem (Fixed D)}
        {old new : List (Pass TurnItem (Fixed D))} {asks : List (Text × Reply)}
        → AsksAt place others old new asks
        → AsksAt (suc place) (fixed ∷ others) (same ∷ old) (same ∷ new) asks

  -- the passes of a session of which this is logged in at its end: without a login none changed
  abbrev pub AsksOf : Option ℕ → List (Fixed D) → List (Pass TurnItem (Fixed D))
      → List (Pass TurnItem (Fixed D)) → List (Text × Reply) → Type 0
  AsksOf None fixeds old new asks = (new ≡ old) × (asks ≡ [])
  AsksOf (Some place) fixeds old new asks = AsksAt place fixeds old new asks
