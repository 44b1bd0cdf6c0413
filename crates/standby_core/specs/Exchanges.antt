-- What a standby does with the bytes of a connection.
use Rattle.std.specs.Prelude.{◌≡◌, ℕ, ◌≤◌, List, [], ◌++◌, length, take, Result, Ok, Err, None}
use Rattle.log_journal.specs.declared.header.Header.{Header}
use Rattle.standby_core.specs.Frames.{Carried, IsCarried, IsFrame, frame_bytes, answer_bytes}
use Rattle.standby_core.specs.Frames.{IsBad, IsOther}
use Rattle.standby_core.specs.Copies.{Copy, copy_at, copies_after, HasCount, HasFailed, FailsAlone}
use Rattle.standby_core.specs.declared.book.TakeError.{TakeError}
use Rattle.standby_core.specs.declared.book.TakeError.TheVariants.{UnknownName, DiskFault}
use Rattle.standby_core.specs.declared.book.TakeError.TheVariants.{Broken, Memory}
use Rattle.standby_core.specs.declared.serve.StandbyEnd.{StandbyEnd}
use Rattle.standby_core.specs.declared.serve.StandbyEnd.TheVariants.{InputEnd, BadFrame}
use Rattle.standby_core.specs.declared.serve.StandbyEnd.TheVariants.{OtherHeader, Take, ReadFault}
use Rattle.standby_core.specs.declared.serve.StandbyEnd.TheVariants.{WriteFault}

-- Whole frames stood in front of the bytes, each was taken in order, these are the answers, and
-- these bytes are left and these copies are there then.
pub data Takes (header : Header) (bytes : List ℕ) (copies : List Copy)
    : List ℕ → List ℕ → List Copy → Type 0 where
  none : Takes header bytes copies [] bytes copies
  more : (answers left rest : List ℕ) (before : List Copy) (one : Carried) (count : ℕ)
      → Takes header bytes copies answers left before
      → IsCarried one → left ≡ frame_bytes header one ++ rest
      → (HasFailed before one.name → ⊥)
      → HasCount (copies_after before one) one.name count
      → Takes header bytes copies (answers ++ answer_bytes count) rest (copies_after before one)

-- a whole frame with this header stands in front, and this holds of its record
abbrev pub BeginsWithFrame : Header → List ℕ → (Carried → Type 0) → Type 0
BeginsWithFrame header bytes OfRecord = (one : Carried) × (rest : List ℕ) × IsCarried one
    × (bytes ≡ frame_bytes header one ++ rest) × OfRecord one

-- it is the next record of a copy whose appends haven't failed
abbrev pub IsAwaited : List Copy → Carried → Type 0
IsAwaited copies one = (HasFailed copies one.name → ⊥) × HasCount copies one.name one.number

-- Why these copies didn't take a record: none has its name, or an earlier append to the copy of
-- that name failed. Only where it was awaited its own append failed, or memory was wanting for it.
abbrev pub IsRefusedFor : TakeError → List Copy → Carried → Type 0
IsRefusedFor UnknownName copies one = copy_at copies one.name ≡ None
IsRefusedFor DiskFault copies one = IsAwaited copies one
IsRefusedFor Broken copies one = HasFailed copies one.name
IsRefusedFor Memory copies one = IsAwaited copies one

-- What a record that wasn't taken leaves: the same copies, but for the one whose disk failed.
abbrev pub RefusedLeaves : TakeError → List Copy → List Copy → Carried → Type 0
RefusedLeaves DiskFault copies copies' one = FailsAlone copies copies' one.name
RefusedLeaves why copies copies' one = copies' ≡ copies

-- Why it ended, where these bytes were left behind the frames that were answered, and these copies
-- were there then. The causes of the two faults are counts.
abbrev pub HasEnded : Header → List ℕ → List Copy → StandbyEnd → Type 0
HasEnded header left copies InputEnd = left ≡ []
HasEnded header left copies BadFrame = IsBad header left
HasEnded header left copies OtherHeader = IsOther header left
HasEnded header left copies (Take why) = BeginsWithFrame header left (IsRefusedFor why copies)
HasEnded header left copies ReadFault = Unit {0}
HasEnded header left copies WriteFault = Unit {0}

-- it ended at a frame that was whole
abbrev pub IsTaking : StandbyEnd → Type 0
IsTaking (Take why) = Unit {0}
IsTaking WriteFault = Unit {0}
IsTaking end = ⊥

-- a record was taken, by a copy whose appends hadn't failed, and this is the count then
pub record IsTakenAs (copies copies' : List Copy) (one : Carried) (count : ℕ) : Type 0 where
  pub whole : HasFailed copies one.name → ⊥
  pub left : copies' ≡ copies_after copies one
  pub counted : HasCount copies' one.name count

-- What came of the frame in a room: its record was taken and answered, or it wasn't taken, or a
-- part of the answer was written.
abbrev pub TookOne : Carried → List Copy → List Copy → List ℕ → List ℕ
    → Result (Unit {0}) StandbyEnd → Type 0
TookOne one copies copies' old new (Ok _) =
    (count : ℕ) × IsTakenAs copies copies' one count × (new ≡ old ++ answer_bytes count)
TookOne one copies copies' old new (Err WriteFault) = (count : ℕ)
    × IsTakenAs copies copies' one count
    × ((n : ℕ) × (n ≤ length (answer_bytes count)) × (new ≡ old ++ take n (answer_bytes count)))
TookOne one copies copies' old new (Err (Take why)) =
    IsRefusedFor why copies one × RefusedLeaves why copies copies' one × (new ≡ old)
TookOne one copies copies' old new (Err end) = ⊥

-- a frame stood in a room, and this came of it
abbrev pub Took : Header → List ℕ → List Copy → List Copy → List ℕ → List ℕ
    → Result (Unit {0}) StandbyEnd → Type 0
Took header room copies copies' old new result =
    (one : Carried) × IsFrame header room one × TookOne one copies copies' old new result

-- What was written: all answers, or where the sink failed the first bytes of them.
abbrev pub IsAnswered : StandbyEnd → List ℕ → List ℕ → List ℕ → Type 0
IsAnswered WriteFault answers old new =
    (n : ℕ) × (n ≤ length answers) × (new ≡ old ++ take n answers)
IsAnswered end answers old new = new ≡ old ++ answers

-- The copies afterwards: as the frames that were answered left them, but for the one whose disk
-- failed at the next frame.
abbrev pub AreLeft : Header → List ℕ → StandbyEnd → List Copy → List Copy → Type 0
AreLeft header left (Take why) copies copies' =
    BeginsWithFrame header left (RefusedLeaves why copies copies')
AreLeft header left end copies copies' = copies' ≡ copies

-- A connection was served with this end: the frames in front were taken and are answered, this is
-- why it ended behind them, and these copies are there afterwards.
pub record ServesConnection (header : Header) (bytes : List ℕ) (copies copies' : List Copy)
    (end : StandbyEnd) : Type 0 where
  pub answers : List ℕ
  pub left : List ℕ
  pub copies_left : List Copy
  pub took : Takes header bytes copies answers left copies_left
  pub ended : HasEnded header left copies_left end
  pub are_left : AreLeft header left end copies_left copies'
