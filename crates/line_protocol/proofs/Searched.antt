-- How far a buffer was searched for a line feed.
use Rattle.std.proofs.Common.{◌≡◌, ◌≢◌, ℕ, ◌+◌, ◌-◌, ◌<◌, ◌≤◌, ◌==◌, Bool, true, false, List, length, take, drop, get_or, arith, sym, ap, ◌∙◌, refl}
use Rattle.std.specs.Prelude.{Option, Some, None, IfNone, nat_lt, position}
use Rattle.std.specs.List.{position_or_len}
use Rattle.std.proofs.lemmas.Bool.Decides.{nat_tests}
use Rattle.std.proofs.lemmas.List.{get_or-take, get_or-drop, length-drop}
use Rattle.std.proofs.lemmas.List.Sums.{fails_before_first}
use Rattle.std.proofs.lemmas.List.Quantifiers.{position-Some}
use Rattle.line_protocol.proofs.Positions.{past_end}
use Rattle.line_protocol.specs.Feeds.{HasNoFeedBelow, HasFeedAt}

-- the front of so many bytes has no line feed
pub record IsSearched (n : ℕ) (bytes : List ℕ) : Type 0 where
  pub within : n ≤ length bytes
  pub none : HasNoFeedBelow n bytes

-- more bytes behind them change nothing of those that were searched
pub searched_before : (old new : List ℕ) → length old ≤ length new → old ≡ take (length old) new → HasNoFeedBelow (length old) old → IsSearched (length old) new
searched_before old new longer front none = record {
  within = longer;
  none = λ k below feed.
      let same : get_or old k 0 ≡ get_or new k 0 = ap (λ (l : List ℕ). get_or l k 0) front ∙ get_or-take (length old) new k 0 below in
      none k below (same ∙ feed);
}

-- a test that fails at a byte
other_byte : (b : ℕ) → (b == 10) ≡ false → b ≢ 10
other_byte b test same = grind (arith, nat_tests)

same_byte : (b : ℕ) → (b == 10) ≡ true → b ≡ 10
same_byte b test = grind (arith, nat_tests)

-- what has no line feed behind the front that was searched
search_further : (bytes : List ℕ) (from n : ℕ) → HasNoFeedBelow from bytes → HasNoFeedBelow n (drop from bytes) → HasNoFeedBelow (from + n) bytes
search_further bytes from n front behind k below =
    elim (nat_lt k from) as (λ t. nat_lt k from ≡ t → get_or bytes k 0 ≢ 10) [
      | true ↦ λ earlier. front k (grind (arith, nat_tests))
      | false ↦ λ later.
          let place : k ≡ from + (k - from) = grind (arith, nat_tests) in
          let same : get_or (drop from bytes) (k - from) 0 ≡ get_or bytes k 0 =
          get_or-drop from bytes (k - from) 0 ∙ ap (λ (i : ℕ). get_or bytes i 0) (sym place) in
          λ feed. behind (k - from) (omega arith) (same ∙ feed)
    ] refl

-- the first line feed behind the front that was searched is the first of all
pub found_behind : (bytes : List ℕ) (from place : ℕ) → from ≤ length bytes → HasNoFeedBelow from bytes → position (λ b. b == 10) (drop from bytes) ≡ Some place
    → HasFeedAt (from + place) bytes
found_behind bytes from place within front is =
    let found = position-Some (λ (b : ℕ). b == 10) (drop from bytes) place 0 is in
    let inside : place < length (drop from bytes) = found.0 in
    record {
      within = omega (arith, length-drop from bytes);
      feed = sym (get_or-drop from bytes place 0) ∙ same_byte (get_or (drop from bytes) place 0) found.1;
      first = search_further bytes from place front (λ k below. other_byte (get_or (drop from bytes) k 0) (found.2 k below));
    }

-- no line feed is there
pub none_behind : (bytes : List ℕ) (from : ℕ) → from ≤ length bytes → HasNoFeedBelow from bytes → position (λ b. b == 10) (drop from bytes) ≡ None
    → HasNoFeedBelow (length bytes) bytes
none_behind bytes from within front is =
    let feed : ℕ → Bool = λ b. b == 10 in
    let past : length (drop from bytes) ≤ position_or_len feed (drop from bytes) =
    past_end (position_or_len feed (drop from bytes)) (length (drop from bytes)) is in
    let all : length bytes ≡ from + length (drop from bytes) = omega (arith, length-drop from bytes) in
    let whole = search_further bytes from (length (drop from bytes)) front (λ k below.
    other_byte (get_or (drop from bytes) k 0) (fails_before_first feed (drop from bytes) k 0 (omega arith))) in
    λ k below. whole k (omega arith)

-- what holds in any case holds of none
pub at_none : {A P : Type 0} (found : Option A) → P → IfNone found P
at_none (Some x) holds = tt
at_none None holds = holds
