-- How the writing of a user's dossier ends, by the bytes of his journal.
use Rattle.std.specs.Prelude.{◌≡◌, ℕ, true, false, List, ◌++◌}
use Rattle.outside.specs.Streams.{AppendsPart}
use Rattle.cqe_base.specs.Schema.{DatabaseSchema, Text}
use Rattle.cqe_base.specs.Facts.{FactSet}
use Rattle.cqe_base.specs.History.{UserProfile, History}
use Rattle.log_journal.specs.Walk.{records}
use Rattle.user_desk.specs.Standings.{is_sealed}
use Rattle.user_desk.specs.declared.standing.Standing.{Standing}
use Rattle.user_desk.specs.declared.standing.Standing.TheVariants.{Sealed}
use Rattle.desk_crew.specs.Openings.{OpensWith}
use Rattle.desk_crew.specs.Refusals.{is_disk_fault}
use Rattle.audit_engine.specs.Ends.{HasStanding, GivesStanding}
use Rattle.dossier_engine.specs.Shown.{IsTextOf}
use Rattle.dossier_engine.specs.declared.end.DossierEnd.{DossierEnd}
use Rattle.dossier_engine.specs.declared.end.DossierEnd.TheVariants.{Done, Refused, WriteFault}
use Rattle.dossier_engine.specs.declared.end.DossierEnd.TheVariants.{ShelfFault, Memory}

module _ (schema : DatabaseSchema) (world : FactSet) (header : List ℕ) (name : Text)
    (user : UserProfile) (bytes : List ℕ) (before now : ℕ) where
  -- This is the dossier of a user with this standing. His entries are the legal history that the
  -- bytes of his journal stand for, the empty one where they open no desk. The text of one who is
  -- served shows the records of which they are the items.
  pub record IsDossierOf (standing : Standing) (text : Text) : Type 0 where
    pub entries : History
    pub opening_is : OpensWith schema world user header bytes entries
    pub standing_is : HasStanding schema world header name user bytes before now entries standing
    pub text_is : IsTextOf schema name user (records bytes) standing text

  -- what each end says of the journal, whatever the output tells
  abbrev pub JudgesDossier : DossierEnd → Type 0
  JudgesDossier Done = (standing : Standing) × (is_sealed standing ≡ false)
      × GivesStanding schema world header name user bytes before now standing
  JudgesDossier (Refused why) =
      GivesStanding schema world header name user bytes before now (Sealed why)
  JudgesDossier WriteFault = Unit {0}
  JudgesDossier ShelfFault = Unit {0}
  JudgesDossier Memory = Unit {0}

  -- all of it was appended
  abbrev pub AppendsDossier : Standing → List ℕ → List ℕ → Type 0
  AppendsDossier standing old new =
      (text : Text) × IsDossierOf standing text × (new ≡ old ++ text)

  -- what each end says of the output before and after
  abbrev pub EndsDossier : DossierEnd → List ℕ → List ℕ → Type 0
  EndsDossier Done old new =
      (standing : Standing) × (is_sealed standing ≡ false) × AppendsDossier standing old new
  EndsDossier (Refused why) old new = AppendsDossier (Sealed why) old new
  EndsDossier WriteFault old new =
      (standing : Standing) × (text : Text) × IsDossierOf standing text
      × AppendsPart old new text
  EndsDossier ShelfFault old new = new ≡ old
  EndsDossier Memory old new = new ≡ old

-- the end of a dossier of a user whose journal was refused for a fault of its disk
abbrev pub IsDiskRefusal : DossierEnd → Type 0
IsDiskRefusal Done = ⊥
IsDiskRefusal (Refused why) = is_disk_fault why ≡ true
IsDiskRefusal WriteFault = ⊥
IsDiskRefusal ShelfFault = ⊥
IsDiskRefusal Memory = ⊥

-- the end of a dossier of which nothing was written
abbrev pub IsSilent : DossierEnd → Type 0
IsSilent Done = ⊥
IsSilent (Refused why) = ⊥
IsSilent WriteFault = ⊥
IsSilent ShelfFault = Unit {0}
IsSilent Memory = Unit {0}
