-- What a mirror gives its standby.
use Rattle.std.specs.Prelude.{◌≡◌, ◌⊎◌, ℕ, ◌≤◌, max, ◌∷◌, ◌++◌, List, [], length, get_or, Option}
use Rattle.std.specs.Prelude.{Some, None}
use Rattle.std.specs.List.{AllByRecursion, AllZip, slice_get}
use Rattle.outside.specs.Dials.{Exchange}
use Rattle.log_journal.specs.Walk.{IsNumbered}
use Rattle.log_journal.specs.declared.header.Header.{Header}
use Rattle.standby_core.specs.Frames.{Carried, frame_bytes}

-- the exchange with the standby at this address by which it is told of a record: it is given the
-- frame of the record, with this header, and has to answer a number above the record's
abbrev pub telling_of : List ℕ → Header → Carried → Option ℕ → Exchange
telling_of address header one answer = record {
  address = address;
  frame = frame_bytes header one;
  above = one.number;
  answer = answer;
}

-- an exchange told the standby at this address of some record of the user of this name
pub record IsExchangeOf (address : List ℕ) (header : Header) (name : List ℕ) (one : Exchange) :
    Type 0 where
  pub called : one.address ≡ address
  pub kind : ℕ
  pub text : List ℕ
  pub frame : one.frame ≡ frame_bytes header (record {
    name = name;
    number = one.above;
    kind = kind;
    text = text;
  })
  pub kind_from : 1 ≤ kind
  pub kind_to : kind ≤ 5
  pub short : length text ≤ 4096

-- an exchange of the dial of a mirror with these texts: it called that address, and told of some
-- record of that user, with that header
abbrev pub IsCallBy : List (List ℕ) → Exchange → Type 0
IsCallBy texts one = IsExchangeOf (get_or texts 1 []) (record {
  policy = get_or texts 3 [];
  facts = get_or texts 4 [];
}) (get_or texts 2 []) one

-- an exchange told of the record of this number, kind and text, of the user of this name
pub record TellsOf (header : Header) (name : List ℕ) (number : ℕ) (record' : ℕ × List ℕ)
    (one : Exchange) : Type 0 where
  pub above : one.above ≡ number
  pub frame : one.frame ≡ frame_bytes header (record {
    name = name;
    number = number;
    kind = record'.0;
    text = record'.1;
  })

-- so it is with the dial of one of these
abbrev pub IsCallAmong : List (List (List ℕ)) → Exchange → Type 0
IsCallAmong made one = (k : ℕ) × (texts : List (List ℕ)) × (slice_get made k ≡ Some texts)
    × IsCallBy texts one

-- the number that was answered, 0 where none was
abbrev pub number_answered : Option ℕ → ℕ
number_answered None = 0
number_answered (Some count) = count

-- the greatest number that was answered in exchanges, 0 where none was
abbrev pub greatest_answer : List Exchange → ℕ
greatest_answer [] = 0
greatest_answer (one ∷ all) = max (number_answered one.answer) (greatest_answer all)

-- this number is 0, or was answered in one of these exchanges, of which this holds
abbrev pub IsAnsweredIn : (Exchange → Type 0) → List Exchange → ℕ → Type 0
IsAnsweredIn Of all count = (count ≡ 0) ⊎ ((place : ℕ) × (one : Exchange)
    × (slice_get all place ≡ Some one) × Of one × (one.answer ≡ Some count))

-- so it is with the dial of one of these, and the record that it told of lies among the bytes under
-- the name of that, at its number
abbrev pub IsCallOn : List (List (List ℕ)) → (List ℕ → List ℕ) → Exchange → Type 0
IsCallOn made bytes one = (k : ℕ) × (texts : List (List ℕ)) × (slice_get made k ≡ Some texts)
    × (is : IsCallBy texts one)
    × IsNumbered (bytes (get_or texts 0 [])) one.above (is.kind, is.text)

-- what was exchanged behind the other are calls of such dials; and each of these numbers is 0, or
-- was answered to the dial in its place. Where the records that the dials told of lie among bytes,
-- by names, so it is said of each exchange.
pub record IsFromAmong (made : List (List (List ℕ))) (answers : List ℕ)
    (Lie : (List ℕ → List ℕ) → Type 0) (old new : List Exchange) : Type 0 where
  pub exchanges : List Exchange
  pub further : new ≡ old ++ exchanges
  pub each : AllByRecursion (IsCallAmong made) exchanges
  pub answered : AllZip (λ texts. IsAnsweredIn (IsCallBy texts) exchanges) made answers
  pub lie : (bytes : List ℕ → List ℕ) → Lie bytes
      → AllByRecursion (IsCallOn made bytes) exchanges
