-- A history: pairs of a ticket and an item, in order. Ticket 0 stands for what was there at the
-- start.
use Rattle.std.specs.Prelude.{◌≡◌, ◌⊎◌, ℕ, ◌<◌, ◌≤◌, ◌==◌, leb, cond, not, List, [], ◌∷◌, ◌++◌}
use Rattle.std.specs.Prelude.{length, filter, count_by, All}

-- how often the number x stands in the list
abbrev pub count_of : ℕ → List ℕ → ℕ
count_of x xs = count_by (λ y. y == x) xs

-- each number from `low` up to `high - 1` is counted once, and no other
pub record OnceBetween (low high : ℕ) (count : ℕ → ℕ) : Type 0 where
  pub inside : (x : ℕ) → low ≤ x → x < high → count x ≡ 1
  pub below : (x : ℕ) → x < low → count x ≡ 0
  pub above : (x : ℕ) → high ≤ x → count x ≡ 0

-- pairs of a ticket and an item, oldest first
abbrev pub Entries : Type 0 → Type 0
Entries I = List (ℕ × I)

module _ {I : Type 0} where
  -- `later` begins with all of `earlier`
  abbrev pub IsPrefix : Entries I → Entries I → Type 0
  IsPrefix earlier later = (rest : Entries I) × (later ≡ earlier ++ rest)

  -- the longer of two lists, the second where they are as long
  abbrev pub longer : Entries I → Entries I → Entries I
  longer xs ys = cond (leb (length xs) (length ys)) ys xs

  -- the pairs whose ticket is among these
  abbrev pub entries_with : List ℕ → Entries I → Entries I
  entries_with tickets entries = filter (λ e. not (count_of e.0 tickets == 0)) entries

  -- the pairs that turns added: those with another ticket than 0
  abbrev pub turn_entries : Entries I → Entries I
  turn_entries entries = filter (λ e. not (e.0 == 0)) entries

  -- every ticket is 0
  abbrev pub IsOpening : Entries I → Type 0
  IsOpening entries = All (λ e. e.0 ≡ 0) entries

  -- no pair has one of these tickets
  abbrev pub NoneWith : List ℕ → Entries I → Type 0
  NoneWith tickets entries = All (λ e. count_of e.0 tickets ≡ 0) entries

  -- the tickets other than 0 rise strictly, above `low` and below `high`
  abbrev pub IsRising : ℕ → ℕ → Entries I → Type 0
  IsRising low high [] = Unit {0}
  IsRising low high (e ∷ es) =
      ((e.0 ≡ 0) × IsRising low high es) ⊎ ((low < e.0) × (e.0 < high) × IsRising e.0 high es)

  -- the same entries, or these and one more with the ticket
  abbrev pub AddsAtMostOne : ℕ → Entries I → Entries I → Type 0
  AddsAtMostOne ticket before after =
      (after ≡ before) ⊎ ((x : I) × (after ≡ before ++ (ticket, x) ∷ []))

  -- the second pair of lists differs as the first does: not at all, or by one more pair at the end
  pub record AddsAlike (before after before' after' : Entries I) : Type 0 where
    pub none : after ≡ before → after' ≡ before'
    pub one : (e : ℕ × I) → after ≡ before ++ e ∷ [] → after' ≡ before' ++ e ∷ []

  -- the third list is the first and the second, put together with each in its order
  abbrev pub Interleaves : Entries I → Entries I → Entries I → Type 0
  Interleaves xs ys [] = (xs ≡ []) × (ys ≡ [])
  Interleaves xs ys (z ∷ zs) = ((rest : Entries I) × (xs ≡ z ∷ rest) × Interleaves rest ys zs)
      ⊎ ((rest : Entries I) × (ys ≡ z ∷ rest) × Interleaves xs rest zs)
