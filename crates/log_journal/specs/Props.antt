-- A fact that holds in one way.
use Rattle.std.specs.Prelude.{◌≡◌, ◌≢◌, ℕ, Bool, List, ◌∷◌, ◌++◌, length, true, drop, get_or}
use Rattle.std.specs.List.{list_all}
use Rattle.std.proofs.Props.{props}
use Rattle.std.proofs.Common.{sym, ap, ◌∙◌}
use Rattle.std.proofs.lemmas.List.{append_cancel_left}
use mathlib.Core.HLevel.{is_prop→PathP}
use Rattle.log_journal.specs.Records.{Recorded, is_record, written, IsJournal}

same_number : (a b : ℕ) → IsProp (a ≡ b)
same_number a b = hlevel (props)

other_number : (a b : ℕ) → IsProp (a ≢ b)
other_number a b = hlevel (props)

same_test : (a b : Bool) → IsProp (a ≡ b)
same_test a b = hlevel (props)

same_list : (a b : List ℕ) → IsProp (a ≡ b)
same_list a b = hlevel (props)

-- bytes are a journal with this header and these records in one way: gate and rest are what is left
pub IsJournal-prop : (header : List ℕ) (all : List Recorded) (bytes : List ℕ)
    → IsProp (IsJournal header all bytes)
IsJournal-prop header all bytes one other =
    let front : List ℕ = header ++ written all in
    let left : one.gate ∷ one.rest ≡ other.gate ∷ other.rest =
    append_cancel_left front (one.gate ∷ one.rest) (other.gate ∷ other.rest)
    (sym one.is ∙ other.is) in
    let gates : one.gate ≡ other.gate = ap (λ (l : List ℕ). get_or l 0 0) left in
    let rests : one.rest ≡ other.rest = ap (λ (l : List ℕ). drop 1 l) left in
    λ i. record {
      size = same_number (length header) 72 one.size other.size i;
      each = same_test (list_all (is_record 5) all) true one.each other.each i;
      gate = gates i;
      rest = rests i;
      closed = is_prop→PathP (λ j. gates j ≢ 1) (λ j. other_number (gates j) 1) one.closed
          other.closed i;
      is = is_prop→PathP (λ j. bytes ≡ front ++ gates j ∷ rests j)
          (λ j. same_list bytes (front ++ gates j ∷ rests j)) one.is other.is i;
    }
