-- Bytes through which a reader walks with no damage are a journal.
use Rattle.std.proofs.Common.{◌≡◌, ◌≢◌, ℕ, zero, suc, ◌+◌, ◌<◌, ◌≤◌, Bool, true, false, ◌&&◌, ◌==◌, nat_le, nat_lt, List, [], ◌∷◌, ◌++◌, length, take, drop}
use Rattle.std.proofs.Common.{Some, None, refl, sym, ◌∙◌, ap, subst, arith, append_assoc, length-take, length-drop, take-append-drop, if◌then◌else◌}
use Rattle.std.proofs.lemmas.Bool.{and_parts}
use Rattle.std.proofs.lemmas.Bool.Decides.{nat_tests}
use Rattle.log_journal.specs.Records.{Recorded, IsJournal}
use Rattle.log_journal.specs.Walk.{length_of, opened, is_whole, damaged, IsWalked, JournalsAreWalked}
use Rattle.log_journal.specs.Bytes.{IsFront}
use Rattle.log_journal.proofs.Fronts.{opened_skip, damaged_skip, opened_closed, front_none, front_one, front_append, walked, journal_of}

-- bytes are these records, a closed gate and a rest
pub record IsSplit (all : List Recorded) (bytes : List ℕ) : Type 0 where
  pub front : List ℕ
  pub is_front : IsFront 5 front all
  pub gate : ℕ
  pub rest : List ℕ
  pub closed : gate ≢ 1
  pub is : bytes ≡ front ++ gate ∷ rest

-- what a whole record shows
pub record IsWhole (kind high low : ℕ) (rest : List ℕ) : Type 0 where
  pub low_kind : 1 ≤ kind
  pub high_kind : kind ≤ 5
  pub low_byte : low < 256
  pub short : length_of high low ≤ 4096
  pub long : length_of high low < length rest

whole_shows : (kind high low : ℕ) (rest : List ℕ) → is_whole 5 kind high low rest ≡ true → IsWhole kind high low rest
whole_shows kind high low rest is =
    let parts = and_parts ((nat_le 1 kind && nat_le kind 5) && nat_lt low 256) (nat_le (length_of high low) 4096
    && nat_lt (length_of high low) (length rest)) is in
    let front = and_parts (nat_le 1 kind && nat_le kind 5) (nat_lt low 256) parts.0 in
    let kinds = and_parts (nat_le 1 kind) (nat_le kind 5) front.0 in
    let sizes = and_parts (nat_le (length_of high low) 4096) (nat_lt (length_of high low) (length rest)) parts.1 in
    record {
      low_kind = most 1 kind kinds.0;
      high_kind = most kind 5 kinds.1;
      low_byte = less low 256 front.1;
      short = most (length_of high low) 4096 sizes.0;
      long = less (length_of high low) (length rest) sizes.1;
    }
  where
    most : (a b : ℕ) → nat_le a b ≡ true → a ≤ b
    most a b is = grind (arith, nat_tests)

    less : (a b : ℕ) → nat_lt a b ≡ true → a < b
    less a b is = grind (arith, nat_tests)

-- behind a closed gate nothing is said
closes : (gate : ℕ) (rest : List ℕ) → gate ≢ 1 → IsSplit (opened 0 (gate ∷ rest)) (gate ∷ rest)
closes gate rest shut = subst (λ (l : List Recorded). IsSplit l (gate ∷ rest)) (sym (opened_closed gate rest shut)) (record {
  front = [];
  is_front = front_none 5;
  gate = gate;
  rest = rest;
  closed = shut;
  is = refl;
})

not_open : (gate : ℕ) (number : ℕ) → (if gate == 1 then Some number else None) ≡ None → gate ≢ 1
not_open gate number none one = let is_open : Some number ≡ None = subst (λ g. (if g == 1 then Some number else None) ≡ None) one none in cc

module _ (kind high low : ℕ) (rest : List ℕ) where
  abbrev size : ℕ
  size = length_of high low

  parts_of : rest ≡ take size rest ++ drop size rest
  parts_of = sym (take-append-drop size rest)

  text_size : size < length rest → length (take size rest) ≡ size
  text_size long = omega (arith, length-take size rest, long)

  -- a whole record, and what follows it
  next_split : IsWhole kind high low rest → IsSplit (opened 0 (drop size rest)) (drop size rest)
      → IsSplit ((kind, take size rest) ∷ opened size rest) (1 ∷ kind ∷ high ∷ low ∷ rest)
  next_split whole split =
      let text = take size rest in
      let behind : opened size rest ≡ opened 0 (drop size rest) =
      ap (λ (l : List ℕ). opened size l) parts_of ∙ opened_skip size text (drop size rest) (text_size whole.long) in
      subst (λ (l : List Recorded). IsSplit ((kind, text) ∷ l) (1 ∷ kind ∷ high ∷ low ∷ rest)) (sym behind) (record {
        front = (1 ∷ kind ∷ high ∷ low ∷ text) ++ split.front;
        is_front = front_append 5 (1 ∷ kind ∷ high ∷ low ∷ text) split.front ((kind, text) ∷ []) (opened 0 (drop size rest))
            (front_one 5 kind high low text (text_size whole.long) whole.low_byte whole.low_kind whole.high_kind
            (omega (arith, text_size whole.long, whole.short))) split.is_front;
        gate = split.gate;
        rest = split.rest;
        closed = split.closed;
        is = ap (λ (l : List ℕ). 1 ∷ kind ∷ high ∷ low ∷ l) (parts_of ∙ ap (λ (l : List ℕ). text ++ l) split.is
            ∙ sym (append_assoc text split.front (split.gate ∷ split.rest)));
      })

  -- at a gate
  gate_split : (gate number : ℕ)
      → (IsWhole kind high low rest → damaged 5 (number + 1) 0 (drop size rest) ≡ None → IsSplit (opened 0 (drop size rest)) (drop size rest))
      → damaged 5 number 0 (gate ∷ kind ∷ high ∷ low ∷ rest) ≡ None → IsSplit (opened 0 (gate ∷ kind ∷ high ∷ low ∷ rest)) (gate ∷ kind ∷ high ∷ low ∷ rest)
  gate_split gate number further none = by_gate (gate == 1) refl
    where
      by_whole : gate ≡ 1 → (t : Bool) → is_whole 5 kind high low rest ≡ t → (if t then damaged 5 (number + 1) size rest else Some number) ≡ None
          → IsSplit ((kind, take size rest) ∷ opened size rest) (gate ∷ kind ∷ high ∷ low ∷ rest)
      by_whole one false is none = absurd cc
      by_whole one true is none =
          let whole = whole_shows kind high low rest is in
          let rest_none : damaged 5 (number + 1) 0 (drop size rest) ≡ None =
          sym (damaged_skip 5 (number + 1) size (take size rest) (drop size rest) (text_size whole.long))
          ∙ ap (λ (l : List ℕ). damaged 5 (number + 1) size l) (sym parts_of) ∙ none in
          subst (λ g. IsSplit ((kind, take size rest) ∷ opened size rest) (g ∷ kind ∷ high ∷ low ∷ rest)) (sym one) (next_split whole (further whole rest_none))

      by_gate : (t : Bool) → (gate == 1) ≡ t → IsSplit (opened 0 (gate ∷ kind ∷ high ∷ low ∷ rest)) (gate ∷ kind ∷ high ∷ low ∷ rest)
      by_gate false is = closes gate (kind ∷ high ∷ low ∷ rest) (shut is)
        where
          shut : (gate == 1) ≡ false → gate ≢ 1
          shut is one = grind (arith, nat_tests)
      by_gate true is =
          let one : gate ≡ 1 = grind (arith, nat_tests) in
          let opens : opened 0 (gate ∷ kind ∷ high ∷ low ∷ rest) ≡ (kind, take size rest) ∷ opened size rest =
          ap (λ (b : Bool). if b then (kind, take size rest) ∷ opened size rest else []) is in
          let left =
          sym (ap (λ (b : Bool). if b then (if is_whole 5 kind high low rest then damaged 5 (number + 1) size rest else Some number) else None) is) ∙ none in
          subst (λ (l : List Recorded). IsSplit l (gate ∷ kind ∷ high ∷ low ∷ rest)) (sym opens) (by_whole one (is_whole 5 kind high low rest) refl left)

-- from a gate on
split_at : (fuel number : ℕ) (bytes : List ℕ) → length bytes < fuel → 0 < length bytes → damaged 5 number 0 bytes ≡ None → IsSplit (opened 0 bytes) bytes
split_at zero number bytes few more none = absurd (omega (arith, few))
split_at (suc fuel) number [] few more none = absurd (omega (arith, more))
split_at (suc fuel) number (gate ∷ []) few more none = closes gate [] (not_open gate number none)
split_at (suc fuel) number (gate ∷ a ∷ []) few more none = closes gate (a ∷ []) (not_open gate number none)
split_at (suc fuel) number (gate ∷ a ∷ b ∷ []) few more none = closes gate (a ∷ b ∷ []) (not_open gate number none)
split_at (suc fuel) number (gate ∷ kind ∷ high ∷ low ∷ rest) few more none =
    gate_split kind high low rest gate number
    (λ whole left. split_at fuel (number + 1) (drop (length_of high low) rest) (omega (arith, few, length-drop (length_of high low) rest))
    (omega (arith, whole.long, length-drop (length_of high low) rest)) left)
    none

unwalked : (header : List ℕ) (all : List Recorded) (bytes : List ℕ) → IsWalked header all bytes → IsJournal header all bytes
unwalked header all bytes walk =
    let split = split_at (length bytes + 1) 0 (drop 72 bytes) (omega (arith, length-drop 72 bytes, walk.long))
    (omega (arith, length-drop 72 bytes, walk.long)) walk.whole in
    journal_of header split.front all split.gate split.rest bytes (omega (arith, ap length walk.begins, length-take 72 bytes, walk.long))
    (subst (λ (l : List Recorded). IsFront 5 split.front l) walk.are split.is_front) split.closed
    (sym (take-append-drop 72 bytes) ∙ (λ i. walk.begins i ++ split.is i) ∙ sym (append_assoc header split.front (split.gate ∷ split.rest)))

pub journals_are_walked : JournalsAreWalked
journals_are_walked header all bytes = (walked header all bytes, unwalked header all bytes)
