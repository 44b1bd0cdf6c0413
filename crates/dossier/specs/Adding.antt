-- The steps by which a dossier is written: items are added to those so far, and the text grows.
use Rattle.std.specs.Prelude.{◌≡◌, ◌≤◌, ℕ, false, List, ◌++◌, Some, Ok, length}
use Rattle.std.specs.List.{list_any}
use Rattle.cqe_base.specs.declared.user.Mark.{Mark}
use Rattle.cqe_base.specs.declared.user.Purpose.{Purpose}
use Rattle.cqe_base.specs.Schema.{DatabaseSchema, Text}
use Rattle.cqe_base.specs.Facts.{FactSet}
use Rattle.cqe_base.specs.Formula.{Formula}
use Rattle.cqe_base.specs.History.{UserProfile, AnsweredQuery, History}
use Rattle.cqe_base.specs.Censor.{Probe, IsLegalItem}
use Rattle.cqe_base.specs.Reading.{reading}
use Rattle.cqe_base.specs.Outcome.{outcome, is_spent}
use Rattle.cqe_base.specs.Limits.{KeepsSizesAt}
use Rattle.log_journal.specs.Records.{Recorded}
use Rattle.user_desk.specs.Entries.{entry_of, purpose_by}
use Rattle.dossier.specs.Written.{IsItem}
use Rattle.dossier.specs.Logs.{past_schema, past_user, past_history, HasAdded}
use Rattle.dossier.specs.declared.past.Past.{Past}

-- a text grew by one of this kind
abbrev pub Grows : (Text → Type 0) → (old new : Text) → Type 0
Grows Is old new = (more : Text) × Is more × (new ≡ old ++ more)

-- none of these probes is spent at a budget
abbrev pub AreUnspent : DatabaseSchema → ℕ → List Probe → Type 0
AreUnspent schema budget probes =
    list_any (λ probe. is_spent (outcome schema probe.premises probe.goal budget)) probes ≡ false

-- a text is that of an item with this mark within the limits, whose call was made for this purpose
abbrev pub IsWithin : DatabaseSchema → UserProfile → History → Purpose → Mark → Text → Type 0
IsWithin schema user before purpose mark text =
    (query : Formula) × (reading schema text ≡ Ok query) × (purpose_by mark ≡ purpose)
    × (length text ≤ 4096)
    × KeepsSizesAt schema user before
    (record { query = query; mark = mark; length = length text })

-- a record stands for an item that is legal behind these, and came within the limits
abbrev pub IsNextLegal : DatabaseSchema → FactSet → UserProfile → History → Recorded → Type 0
IsNextLegal schema world user before next =
    (entry : AnsweredQuery) × (entry_of schema next ≡ Some entry)
    × IsLegalItem schema world user before entry × KeepsSizesAt schema user before entry

-- the text grew by that of an item, which was added
abbrev pub Adds : AnsweredQuery → (said : Text) → (before after : Past) → (old new : Text) → Type 0
Adds entry said before after old new =
    Grows (IsItem (past_schema before) (past_user before) (past_history before) entry said) old new
    × HasAdded entry before after

-- the item that a record stands for
abbrev pub AddsItem : Recorded → (before after : Past) → (old new : Text) → Type 0
AddsItem next before after old new =
    (entry : AnsweredQuery) × (entry_of (past_schema before) next ≡ Some entry)
    × Adds entry next.1 before after old new

-- the item with this mark and the sentence that a text is
abbrev pub AddsSaid : Mark → (said : Text) → (before after : Past) → (old new : Text) → Type 0
AddsSaid mark said before after old new =
    (query : Formula) × (reading (past_schema before) said ≡ Ok query)
    × Adds (record { query = query; mark = mark; length = length said }) said before after old new
