-- What the records of a journal stand for: the items of a user.
use Rattle.std.specs.Prelude.{◌≡◌, ℕ, ◌+◌, ◌==◌, ◌≤◌, max, List, length, map, take, sum_by}
use Rattle.std.specs.Prelude.{Option, Some, None, Result, Ok, if◌then◌else◌}
use Rattle.cqe_base.specs.declared.user.Mark.{Mark}
use Rattle.cqe_base.specs.declared.user.Mark.TheVariants.{Yes, No, Refused, Undecided, Protected}
use Rattle.cqe_base.specs.declared.user.Purpose.{Purpose}
use Rattle.cqe_base.specs.declared.user.Purpose.TheVariants.{Asking, Protecting}
use Rattle.cqe_base.specs.Schema.{DatabaseSchema, Text}
use Rattle.cqe_base.specs.Formula.{Formula}
use Rattle.cqe_base.specs.Reading.{Refusal, reading}
use Rattle.cqe_base.specs.History.{AnsweredQuery, History}
use Rattle.log_journal.specs.Records.{Recorded, IsJournal}
use Rattle.log_journal.specs.Walk.{records}

-- the kind of a record with this mark
abbrev pub kind_of : Mark → ℕ
kind_of Yes = 1
kind_of No = 2
kind_of Refused = 3
kind_of Undecided = 4
kind_of Protected = 5

-- the mark of a record of this kind
abbrev pub mark_of : ℕ → Option Mark
mark_of kind =
    if kind == 1 then Some Yes
    else if kind == 2 then Some No
    else if kind == 3 then Some Refused
    else if kind == 4 then Some Undecided
    else if kind == 5 then Some Protected
    else None

-- what the call was made for whose record has this mark
abbrev pub purpose_by : Mark → Purpose
purpose_by Yes = Asking
purpose_by No = Asking
purpose_by Refused = Asking
purpose_by Undecided = Asking
purpose_by Protected = Protecting

-- the item of a text with this mark and this reading
abbrev pub entry_by : Text → Option Mark → Result Formula Refusal → Option AnsweredQuery
entry_by text (Some mark) (Ok query) =
    Some (record { query = query; mark = mark; length = length text })
entry_by text mark read = None

-- the item that a record stands for: the sentence that its text reads as, the mark of its kind, and
-- the text's length
abbrev pub entry_of : DatabaseSchema → Recorded → Option AnsweredQuery
entry_of schema one = entry_by one.1 (mark_of one.0) (reading schema one.1)

-- the bytes are a journal with this header, whose records stand for these entries, all and in order
pub record StandsFor (schema : DatabaseSchema) (header : List ℕ) (entries : History)
    (bytes : List ℕ) : Type 0 where
  pub journal : IsJournal header (records bytes) bytes
  pub are : map (entry_of schema) (records bytes) ≡ map Some entries

-- the bytes are a journal with this header, whose records stand for a beginning of these entries
-- that has at least so many
pub record StandsWithin (schema : DatabaseSchema) (header : List ℕ) (least : ℕ) (entries : History)
    (bytes : List ℕ) : Type 0 where
  pub journal : IsJournal header (records bytes) bytes
  pub enough : least ≤ length (records bytes)
  pub are : map (entry_of schema) (records bytes) ≡ map Some (take (length (records bytes)) entries)

-- how many bytes the journal of these entries needs: its header, a record with the text of each,
-- and its closed gate
abbrev pub bytes_needed : History → ℕ
bytes_needed entries = 73 + sum_by (λ entry. 4 + entry.length) entries

-- the bytes are no more than there were before, or than the journal of these entries needs
abbrev pub IsNoLonger : List ℕ → History → List ℕ → Type 0
IsNoLonger before entries bytes = length bytes ≤ max (length before) (bytes_needed entries)
