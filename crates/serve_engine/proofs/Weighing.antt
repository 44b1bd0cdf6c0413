-- What the entries of the journal among items weigh, and what those in flight do.
use Rattle.std.proofs.Common.{◌≡◌, ℕ, Bool, true, false, List, [], ◌∷◌, sum_by, refl, arith}
use Rattle.std.specs.Prelude.{Option, Some, None, option_to_list, if◌then◌else◌}
use Rattle.std.proofs.lemmas.List.Sums.{sum_by-cons}
use Rattle.cqe_base.specs.History.{AnsweredQuery, History}
use Rattle.turnstile.specs.History.{Entries}
use Rattle.desk_counter.specs.declared.item.TurnItem.{TurnItem}
use Rattle.desk_counter.specs.declared.item.TurnItem.TheVariants.{Kept, Broke}
use Rattle.desk_counter.specs.Items.{history_of, flying, items_of, items_with}
use Rattle.serve_engine.specs.Served.{SessionMarks, entries_told, failures_told, items_told, is_user_at}
use Rattle.serve_engine.proofs.Owning.{told_weight}

-- an entry of the journal weighs this, and one in flight nothing
abbrev pub kept_weight : (AnsweredQuery → ℕ) → TurnItem → ℕ
kept_weight weight (Kept entry) = weight entry
kept_weight weight (Broke entry) = 0

-- the other way round
abbrev pub failed_weight : (AnsweredQuery → ℕ) → TurnItem → ℕ
failed_weight weight (Kept entry) = 0
failed_weight weight (Broke entry) = weight entry

module _ (weight : AnsweredQuery → ℕ) where
  -- ---- pairs

  -- so pairs weigh what their history does
  pub kept_pairs_weigh : (pairs : Entries TurnItem) → sum_by (kept_weight weight) (items_of pairs) ≡ sum_by weight (history_of pairs)
  kept_pairs_weigh [] = refl
  kept_pairs_weigh ((t, Kept x) ∷ pairs) =
      let one = sum_by-cons (kept_weight weight) (Kept x) (items_of pairs) in
      let same = sum_by-cons weight x (history_of pairs) in
      let rest = kept_pairs_weigh pairs in
      omega (arith, one, same, rest)
  kept_pairs_weigh ((t, Broke x) ∷ pairs) =
      let one = sum_by-cons (kept_weight weight) (Broke x) (items_of pairs) in
      let rest = kept_pairs_weigh pairs in
      omega (arith, one, rest)

  -- and without an entry in flight nothing in the other way
  pub none_failed : (pairs : Entries TurnItem) → flying pairs ≡ None → sum_by (failed_weight weight) (items_of pairs) ≡ 0
  none_failed [] none = refl
  none_failed ((t, Kept x) ∷ pairs) none =
      let one = sum_by-cons (failed_weight weight) (Kept x) (items_of pairs) in
      let rest = none_failed pairs none in
      omega (arith, one, rest)
  none_failed ((t, Broke x) ∷ pairs) none = absurd cc

  -- ---- a history with the entry in flight

  pub kept_first : (entries : History) (in_flight : Option AnsweredQuery) → sum_by (kept_weight weight) (items_with entries in_flight) ≡ sum_by weight entries
  kept_first [] None = refl
  kept_first [] (Some x) = sum_by-cons (kept_weight weight) (Broke x) []
  kept_first (x ∷ entries) in_flight =
      let one = sum_by-cons (kept_weight weight) (Kept x) (items_with entries in_flight) in
      let same = sum_by-cons weight x entries in
      let rest = kept_first entries in_flight in
      omega (arith, one, same, rest)

  pub failed_last : (entries : History) (in_flight : Option AnsweredQuery)
      → sum_by (failed_weight weight) (items_with entries in_flight) ≡ sum_by weight (option_to_list in_flight)
  failed_last [] None = refl
  failed_last [] (Some x) =
      let one = sum_by-cons (failed_weight weight) (Broke x) [] in
      let same = sum_by-cons weight x [] in
      omega (arith, one, same)
  failed_last (x ∷ entries) in_flight =
      let one = sum_by-cons (failed_weight weight) (Kept x) (items_with entries in_flight) in
      let rest = failed_last entries in_flight in
      omega (arith, one, rest)

  -- ---- what connections told

  kept_if : (b : Bool) (entries : History) (in_flight : Option AnsweredQuery)
      → sum_by (kept_weight weight) (if b then items_with entries in_flight else []) ≡ sum_by weight (if b then entries else [])
  kept_if true entries in_flight = kept_first entries in_flight
  kept_if false entries in_flight = refl

  failed_if : (b : Bool) (entries : History) (in_flight : Option AnsweredQuery)
      → sum_by (failed_weight weight) (if b then items_with entries in_flight else [])
      ≡ sum_by weight (if b then option_to_list in_flight else [])
  failed_if true entries in_flight = failed_last entries in_flight
  failed_if false entries in_flight = refl

  pub kept_told : (place : ℕ) (told : List SessionMarks)
      → told_weight (kept_weight weight) place told ≡ sum_by (λ marks. sum_by weight (entries_told place marks)) told
  kept_told place [] = refl
  kept_told place (m ∷ told) =
      let one = sum_by-cons (λ marks. sum_by (kept_weight weight) (items_told place marks)) m told in
      let same = sum_by-cons (λ marks. sum_by weight (entries_told place marks)) m told in
      let here = kept_if (is_user_at place m.who) m.entries m.in_flight in
      let rest = kept_told place told in
      omega (arith, one, same, here, rest)

  pub failed_told : (place : ℕ) (told : List SessionMarks)
      → told_weight (failed_weight weight) place told ≡ sum_by (λ marks. sum_by weight (failures_told place marks)) told
  failed_told place [] = refl
  failed_told place (m ∷ told) =
      let one = sum_by-cons (λ marks. sum_by (failed_weight weight) (items_told place marks)) m told in
      let same = sum_by-cons (λ marks. sum_by weight (failures_told place marks)) m told in
      let here = failed_if (is_user_at place m.who) m.entries m.in_flight in
      let rest = failed_told place told in
      omega (arith, one, same, here, rest)
