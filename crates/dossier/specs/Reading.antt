-- How a dossier is read, line by line.
use Rattle.std.specs.Prelude.{◌≡◌, ◌<◌, ⊤, ℕ, Bool, List, [], ◌∷◌, ◌+◌, length}
use Rattle.std.specs.Prelude.{Option, Some, None, Result, Ok, Err}
use Rattle.std.specs.List.{list_any}
use Rattle.cqe_base.specs.Schema.{DatabaseSchema, Text}
use Rattle.cqe_base.specs.Facts.{FactSet}
use Rattle.cqe_base.specs.History.{UserProfile, History}
use Rattle.dossier.specs.Fields.{FieldSaid, lines_in, fields_from}
use Rattle.dossier.specs.Checked.{Awaited, checked_from}
use Rattle.dossier.specs.declared.cut.Field.{Field}
use Rattle.dossier.specs.declared.error.DossierError.{DossierError}
use Rattle.dossier.specs.declared.error.DossierError.TheVariants.{Form, Memory}

-- the text that is still to be read, and the number of its first line
pub record Unread : Type 0 where
  pub text : Text
  pub line : ℕ

-- the lines that are still to be read
abbrev pub fields_left : Unread → List FieldSaid
fields_left left = fields_from left.line (lines_in left.text)

-- how many bytes are still to be read
abbrev pub bytes_left : Unread → ℕ
bytes_left left = length left.text

-- the number of the next line
abbrev pub next_line : Unread → ℕ
next_line left = left.line

-- a field in memory as a line
abbrev pub field_said : Field → FieldSaid
field_said field = record { line = field.line; word = field.word.now; rest = field.rest.now }

-- the next line is passed, or there is none
abbrev pub PassesLine : Unread → Option Field → Unread → Type 0
PassesLine old None new = (fields_left old ≡ []) × (new ≡ old)
PassesLine old (Some field) new =
    (fields_left old ≡ field_said field ∷ fields_left new) × (field.line ≡ next_line old)
    × (next_line new ≡ next_line old + 1) × (bytes_left new < bytes_left old)

-- the next line is passed, or it is missing
abbrev pub TakesLine : Unread → Result Field DossierError → Unread → Type 0
TakesLine old (Ok field) new = PassesLine old (Some field) new
TakesLine old (Err why) new = PassesLine old None new × (why ≡ Form (next_line old))

module _ (schema : DatabaseSchema) (world : FactSet) (name : Text) (user : UserProfile) where
  -- what the unread text shows where this is awaited
  abbrev pub answer : Result Awaited DossierError → Unread → Result History DossierError
  answer awaited left =
      checked_from schema world name user awaited (next_line left) (fields_left left)

  -- where this was awaited the text is refused so; of want of memory nothing is said
  abbrev pub IsRefusedSo : Result Awaited DossierError → Unread → DossierError → Type 0
  IsRefusedSo awaited old Memory = ⊤
  IsRefusedSo awaited old why = answer awaited old ≡ Err why

  -- From an unread text on where this was awaited something was read: what the text showed is what
  -- the rest of it shows where that is awaited which stands behind what was read; or it was refused
  -- so.
  abbrev pub ReadsOn : {X : Type 0} → Result Awaited DossierError → Unread → Unread
      → (X → Result Awaited DossierError) → Result X DossierError → Type 0
  ReadsOn awaited old new then (Ok x) = answer awaited old ≡ answer (then x) new
  ReadsOn awaited old new then (Err why) = IsRefusedSo awaited old why

  -- The same of the blocks of so many probes: behind them stands what follows on their verdicts, of
  -- which the answer says whether some says yes.
  abbrev pub ReadsAll : Result Awaited DossierError → Unread → Unread → ℕ
      → (List Bool → Result Awaited DossierError) → Result Bool DossierError → Type 0
  ReadsAll awaited old new count then (Ok some) =
      (verdicts : List Bool) × (length verdicts ≡ count)
      × (some ≡ list_any (λ verdict. verdict) verdicts)
      × (answer awaited old ≡ answer (then verdicts) new)
  ReadsAll awaited old new count then (Err why) = IsRefusedSo awaited old why
