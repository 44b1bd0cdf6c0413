-- The pairs of a desk under a turnstile: its entries with their tickets, and then the entry in
-- flight, if there is one.
use Rattle.std.specs.Prelude.{◌≡◌, ℕ, Bool, List, [], ◌∷◌, ◌++◌, map, zip, Option, Some, None}
use Rattle.std.specs.Prelude.{is_some, option_to_list, true, false, ◌&&◌}
use Rattle.cqe_base.specs.History.{AnsweredQuery, History}
use Rattle.turnstile.specs.History.{Entries}
use Rattle.desk_counter.specs.declared.item.TurnItem.{TurnItem}
use Rattle.desk_counter.specs.declared.item.TurnItem.TheVariants.{Kept, Broke}

-- the pair of an item, where it is an entry of the journal
abbrev pub kept_pair : ℕ → TurnItem → Entries AnsweredQuery
kept_pair ticket (Kept entry) = (ticket, entry) ∷ []
kept_pair ticket (Broke entry) = []

-- the entries of the journal, with their tickets
abbrev pub kept_pairs : Entries TurnItem → Entries AnsweredQuery
kept_pairs [] = []
kept_pairs (p ∷ pairs) = kept_pair p.0 p.1 ++ kept_pairs pairs

-- the entries of the journal
abbrev pub history_of : Entries TurnItem → History
history_of pairs = map (λ p. p.1) (kept_pairs pairs)

-- the items, without their tickets
abbrev pub items_of : Entries TurnItem → List TurnItem
items_of pairs = map (λ p. p.1) pairs

-- entries of the journal as items, and behind them the entry in flight, if there is one
abbrev pub items_with : History → Option AnsweredQuery → List TurnItem
items_with entries in_flight = map Kept entries ++ map Broke (option_to_list in_flight)

-- the entry of an item, where its append failed, and else this
abbrev pub flying_or : Option AnsweredQuery → TurnItem → Option AnsweredQuery
flying_or rest (Kept entry) = rest
flying_or rest (Broke entry) = Some entry

-- the entry in flight, if an append failed
abbrev pub flying : Entries TurnItem → Option AnsweredQuery
flying [] = None
flying (p ∷ pairs) = flying_or (flying pairs) p.1

-- an append failed
abbrev pub has_broke : Entries TurnItem → Bool
has_broke pairs = is_some (flying pairs)

-- entries with these tickets, and then the entry in flight with that one
abbrev pub pairs_of : List ℕ → History → ℕ → Option AnsweredQuery → Entries TurnItem
pairs_of tickets entries broke in_flight =
    zip tickets (map Kept entries) ++ map (λ entry. (broke, Broke entry)) (option_to_list in_flight)

-- whether an item may stand before these pairs: one in flight only where there are none
abbrev pub may_precede : TurnItem → Entries TurnItem → Bool
may_precede (Kept entry) pairs = true
may_precede (Broke entry) [] = true
may_precede (Broke entry) (p ∷ pairs) = false

-- whether no pair stands behind an entry in flight
abbrev pub is_broke_last : Entries TurnItem → Bool
is_broke_last [] = true
is_broke_last (p ∷ pairs) = may_precede p.1 pairs && is_broke_last pairs

-- an entry in flight stands last
abbrev pub BrokeIsLast : Entries TurnItem → Type 0
BrokeIsLast pairs = (before after : Entries TurnItem) (ticket : ℕ) (entry : AnsweredQuery)
    → pairs ≡ before ++ (ticket, Broke entry) ∷ after → after ≡ []
