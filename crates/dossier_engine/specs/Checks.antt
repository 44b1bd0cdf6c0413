-- How the check of a dossier ends, by the bytes that the source gives.
use Rattle.std.specs.Prelude.{◌≡◌, ℕ, nat_lt, List, ◌++◌, length, Result, Ok, Err, codes, decimal}
use Rattle.std.specs.Prelude.{if◌then◌else◌}
use Rattle.std.specs.Str.{is_utf8}
use Rattle.outside.specs.Streams.{AppendsPart}
use Rattle.cqe_base.specs.Schema.{DatabaseSchema, Text}
use Rattle.cqe_base.specs.Facts.{FactSet}
use Rattle.cqe_base.specs.History.{UserProfile, History}
use Rattle.dossier.specs.Checked.{checked}
use Rattle.dossier.specs.Promised.{IsAccepted}
use Rattle.dossier.specs.declared.error.DossierError.{DossierError}
use Rattle.dossier.specs.declared.error.DossierError.TheVariants as errors
use Rattle.dossier_engine.specs.Input.{IsRead}
use Rattle.dossier_engine.specs.declared.end.CheckRefusal.{CheckRefusal}
use Rattle.dossier_engine.specs.declared.end.CheckRefusal.TheVariants.{TooLong, NotUtf8, Line}
use Rattle.dossier_engine.specs.declared.end.CheckEnd.{CheckEnd}
use Rattle.dossier_engine.specs.declared.end.CheckEnd.TheVariants.{Done, Refused, ReadFault}
use Rattle.dossier_engine.specs.declared.end.CheckEnd.TheVariants.{WriteFault, Memory}

-- the line that says that a dossier of so many items is accepted
abbrev pub sound_text : ℕ → Text
sound_text count = codes "sound " ++ decimal count ++ codes "\n"

-- the end of a check that refused a line; want of memory refuses none
abbrev pub refused_end : DossierError → CheckEnd
refused_end errors.Memory = Memory
refused_end why = Refused (Line why)

-- the line by which a text is refused as the refusal of its bytes
abbrev pub by_line : Result History DossierError → Result History CheckRefusal
by_line (Ok entries) = Ok entries
by_line (Err why) = Err (Line why)

module _ (schema : DatabaseSchema) (world : FactSet) (name : Text) (user : UserProfile) where
  -- the history that bytes show as a dossier of a user, or why they are refused: first their number
  -- is looked at, then whether they are UTF-8, and then each line
  abbrev pub checked_bytes : List ℕ → Result History CheckRefusal
  checked_bytes bytes =
      if nat_lt 67108864 (length bytes) then Err TooLong
      else if is_utf8 bytes then by_line (checked schema world name user bytes)
      else Err NotUtf8

  -- they are accepted with so many items: the user is admissible, and the history that they show is
  -- sound and hides soundly
  pub record AcceptsBytes (bytes : List ℕ) (count : ℕ) : Type 0 where
    pub accepted : IsAccepted schema world name user bytes count
    pub shown : checked_bytes bytes ≡ Ok accepted.entries

  -- what each end says of the input, whatever the output tells
  abbrev pub JudgesInput : CheckEnd → (left left' : List ℕ) → Type 0
  JudgesInput Done left left' = (count : ℕ) × AcceptsBytes left count × IsRead left left'
  JudgesInput (Refused why) left left' = (checked_bytes left ≡ Err why) × IsRead left left'
  JudgesInput ReadFault left left' = Unit {0}
  JudgesInput WriteFault left left' =
      (count : ℕ) × AcceptsBytes left count × IsRead left left'
  JudgesInput Memory left left' = Unit {0}

  -- what each end says of the input and of the output before and after
  abbrev pub EndsCheck : CheckEnd → (left left' old new : List ℕ) → Type 0
  EndsCheck Done left left' old new =
      (count : ℕ) × AcceptsBytes left count × IsRead left left' × (new ≡ old ++ sound_text count)
  EndsCheck (Refused why) left left' old new =
      (checked_bytes left ≡ Err why) × IsRead left left' × (new ≡ old)
  EndsCheck ReadFault left left' old new = new ≡ old
  EndsCheck WriteFault left left' old new =
      (count : ℕ) × AcceptsBytes left count × IsRead left left'
      × AppendsPart old new (sound_text count)
  EndsCheck Memory left left' old new = new ≡ old

-- the end of a check that wrote nothing
abbrev pub IsSilentCheck : CheckEnd → Type 0
IsSilentCheck Done = ⊥
IsSilentCheck (Refused why) = Unit {0}
IsSilentCheck ReadFault = Unit {0}
IsSilentCheck WriteFault = ⊥
IsSilentCheck Memory = Unit {0}
