-- The frame by which a record goes to a standby, and what bytes show of one.
use Rattle.std.specs.Prelude.{◌≡◌, ◌≢◌, ℕ, ◌+◌, ◌≤◌, ◌<◌, ◌^◌, Bool, true, false, ◌&&◌, ◌==◌}
use Rattle.std.specs.Prelude.{List, [], ◌∷◌, ◌++◌, length, take, drop, IsUtf8}
use Rattle.std.specs.Int.{w16, w64, to_be_bytes}
use Rattle.log_journal.specs.declared.header.Header.{Header}
use Rattle.standby_core.specs.declared.frame.FrameOutcome.{FrameOutcome}
use Rattle.standby_core.specs.declared.frame.FrameOutcome.TheVariants.{Whole, InputEnd, BadFrame}
use Rattle.standby_core.specs.declared.frame.FrameOutcome.TheVariants.{OtherHeader, ReadFault}
use Rattle.standby_core.specs.declared.frame.Frame.{Frame as FrameRead}
use Rattle.standby_core.specs.declared.frame.Judged.{Judged}
use Rattle.standby_core.specs.declared.frame.Judged.TheVariants.{Frame, Short, Bad, Other}

-- a record on its way: its user, its number from 0, its kind and its text
pub record Carried : Type 0 where
  pub name : List ℕ
  pub number : ℕ
  pub kind : ℕ
  pub text : List ℕ

-- its fields are in their ranges
pub record IsCarried (one : Carried) : Type 0 where
  pub named : 1 ≤ length one.name
  pub name_short : length one.name ≤ 32
  pub name_utf8 : IsUtf8 one.name
  pub numbered : one.number < 2 ^ 64
  pub kind_from : 1 ≤ one.kind
  pub kind_to : one.kind ≤ 5
  pub short : length one.text ≤ 4096

-- how a frame begins, `CQEMIRR1`
abbrev pub frame_mark : List ℕ
frame_mark = 67 ∷ 81 ∷ 69 ∷ 77 ∷ 73 ∷ 82 ∷ 82 ∷ 49 ∷ []

-- what stands behind the length of the name: the name, the number in eight bytes, the kind in one,
-- the length of the text in two, and the text; numbers have the higher bytes first
abbrev pub tail_bytes : Carried → List ℕ
tail_bytes one =
    one.name ++ to_be_bytes w64 one.number ++ (one.kind ∷ []) ++ to_be_bytes w16 (length one.text)
    ++ one.text

-- The frame: its first bytes, the digests of the policy and of the facts, the length of the name in
-- one byte, and what stands behind it, as above.
abbrev pub frame_bytes : Header → Carried → List ℕ
frame_bytes header one =
    frame_mark ++ header.policy ++ header.facts ++ (length one.name ∷ []) ++ one.name
    ++ to_be_bytes w64 one.number ++ (one.kind ∷ []) ++ to_be_bytes w16 (length one.text)
    ++ one.text

-- the answer to a frame: the standby's count of records of that user
abbrev pub answer_bytes : ℕ → List ℕ
answer_bytes count = to_be_bytes w64 count

-- the bytes are a whole frame with this header
pub record IsFrame (header : Header) (bytes : List ℕ) (one : Carried) : Type 0 where
  pub proper : IsCarried one
  pub is : bytes ≡ frame_bytes header one

-- two lists are the same as far as both go
abbrev pub agree : List ℕ → List ℕ → Bool
agree (x ∷ xs) (y ∷ ys) = (x == y) && agree xs ys
agree [] ys = true
agree xs [] = true

-- a digest differs, at a byte that is there
pub record IsOther (header : Header) (bytes : List ℕ) : Type 0 where
  pub marked : take 8 bytes ≡ frame_mark
  pub differs : agree (drop 8 bytes) (header.policy ++ header.facts) ≡ false

-- some bytes are no more than any frame has that goes on from them
abbrev pub EndsWithinFrame : Header → List ℕ → Type 0
EndsWithinFrame header bytes = (one : Carried) (rest more : List ℕ) → IsCarried one
    → bytes ++ rest ≡ frame_bytes header one ++ more
    → length bytes ≤ length (frame_bytes header one)

-- Some bytes are there, no whole frame stands in front, and no digest differs: the input ends
-- inside a frame, or a field is outside of its range.
pub record IsBad (header : Header) (bytes : List ℕ) : Type 0 where
  pub some : bytes ≢ []
  pub no_frame : (one : Carried) (rest : List ℕ) → IsCarried one
      → bytes ≡ frame_bytes header one ++ rest → ⊥
  pub same_header : IsOther header bytes → ⊥

-- the record that a frame was read as
abbrev pub carried_in : FrameRead → Carried
carried_in frame = record {
  name = frame.name.now;
  number = frame.number;
  kind = frame.kind;
  text = frame.text.now;
}

-- what the first bytes of a frame show: it whole, that it needs so many bytes at least, or what
-- refuses it whatever follows
abbrev pub Shows : Header → List ℕ → Judged → Type 0
Shows header bytes (Frame frame) = IsFrame header bytes (carried_in frame)
Shows header bytes (Short need) = (length bytes < need) × (need ≤ 4212)
    × ((one : Carried) (rest more : List ℕ) → IsCarried one
    → bytes ++ rest ≡ frame_bytes header one ++ more → need ≤ length (frame_bytes header one))
    × (IsOther header bytes → ⊥)
Shows header bytes Bad = (bytes ≢ []) × ((one : Carried) (rest more : List ℕ) → IsCarried one
    → bytes ++ rest ≡ frame_bytes header one ++ more → ⊥)
    × ((rest : List ℕ) → IsOther header (bytes ++ rest) → ⊥)
Shows header bytes Other = IsOther header bytes

-- the bytes and any rest go on as the tail of this record, whose name has this length
pub record GoesOn (named : ℕ) (bytes : List ℕ) (one : Carried) : Type 0 where
  pub proper : IsCarried one
  pub size : length one.name ≡ named
  pub rest : List ℕ
  pub more : List ℕ
  pub is : bytes ++ rest ≡ tail_bytes one ++ more

-- the same of what stands behind the length of the name
abbrev pub ShowsTail : ℕ → List ℕ → Judged → Type 0
ShowsTail named bytes (Frame frame) =
    IsCarried (carried_in frame) × (length (carried_in frame).name ≡ named)
    × (bytes ≡ tail_bytes (carried_in frame))
ShowsTail named bytes (Short need) = (73 + length bytes < need) × (need ≤ 4212)
    × ((one : Carried) → GoesOn named bytes one → need ≤ 73 + length (tail_bytes one))
ShowsTail named bytes Bad = (one : Carried) → GoesOn named bytes one → ⊥
ShowsTail named bytes Other = ⊥

-- where the input ends behind these bytes of a frame
abbrev pub end_behind : List ℕ → FrameOutcome
end_behind [] = InputEnd
end_behind (byte ∷ bytes) = BadFrame

-- what came of reading a frame from what was left, where the room has the frame afterwards
abbrev pub Reads : FrameOutcome → Header → List ℕ → List ℕ → List ℕ → Type 0
Reads Whole header before after room = before ≡ room ++ after
Reads InputEnd header before after room = before ≡ []
Reads BadFrame header before after room = IsBad header before
Reads OtherHeader header before after room = IsOther header before
Reads ReadFault header before after room = Unit {0}
