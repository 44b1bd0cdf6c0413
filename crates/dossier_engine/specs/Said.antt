-- The steps by which a text that was read is checked: its answer, and the line that says so.
use Rattle.std.specs.Prelude.{◌≡◌, ℕ, List, ◌++◌, Err}
use Rattle.outside.specs.Streams.{AppendsPart}
use Rattle.cqe_base.specs.Schema.{DatabaseSchema, Text}
use Rattle.cqe_base.specs.Facts.{FactSet}
use Rattle.cqe_base.specs.History.{UserProfile}
use Rattle.dossier.specs.Checked.{checked}
use Rattle.dossier.specs.Promised.{IsAccepted}
use Rattle.dossier_engine.specs.Checks.{sound_text}
use Rattle.dossier_engine.specs.declared.end.CheckRefusal.TheVariants.{TooLong, NotUtf8, Line}
use Rattle.dossier_engine.specs.declared.end.CheckEnd.{CheckEnd}
use Rattle.dossier_engine.specs.declared.end.CheckEnd.TheVariants.{Done, Refused, ReadFault}
use Rattle.dossier_engine.specs.declared.end.CheckEnd.TheVariants.{WriteFault, Memory}

module _ (schema : DatabaseSchema) (world : FactSet) (name : Text) (user : UserProfile) where
  -- what each end says of a text that was read, and of the output before and after
  abbrev pub EndsText : Text → CheckEnd → (old new : List ℕ) → Type 0
  EndsText text Done old new =
      (count : ℕ) × IsAccepted schema world name user text count
      × (new ≡ old ++ sound_text count)
  EndsText text (Refused (Line why)) old new =
      (checked schema world name user text ≡ Err why) × (new ≡ old)
  EndsText text (Refused TooLong) old new = ⊥
  EndsText text (Refused NotUtf8) old new = ⊥
  EndsText text ReadFault old new = ⊥
  EndsText text WriteFault old new =
      (count : ℕ) × IsAccepted schema world name user text count
      × AppendsPart old new (sound_text count)
  EndsText text Memory old new = new ≡ old

  -- what each end says of a text that was read, whatever the output tells
  abbrev pub JudgesText : Text → CheckEnd → Type 0
  JudgesText text Done = (count : ℕ) × IsAccepted schema world name user text count
  JudgesText text (Refused (Line why)) = checked schema world name user text ≡ Err why
  JudgesText text (Refused TooLong) = ⊥
  JudgesText text (Refused NotUtf8) = ⊥
  JudgesText text ReadFault = Unit {0}
  JudgesText text WriteFault = (count : ℕ) × IsAccepted schema world name user text count
  JudgesText text Memory = Unit {0}

-- that a dossier of so many items is accepted was said, and the call ended so
abbrev pub IsSaid : ℕ → CheckEnd → (old new : List ℕ) → Type 0
IsSaid count Done old new = new ≡ old ++ sound_text count
IsSaid count (Refused why) old new = ⊥
IsSaid count ReadFault old new = ⊥
IsSaid count WriteFault old new = AppendsPart old new (sound_text count)
IsSaid count Memory old new = ⊥
