-- What the records of a user's journal are shown as.
use Rattle.std.specs.Prelude.{◌≡◌, ◌≢◌, ℕ, false, List, ◌++◌, Result, Ok, Err, codes}
use Rattle.outside.specs.Streams.{AppendsPart}
use Rattle.cqe_base.specs.Schema.{DatabaseSchema, Text}
use Rattle.cqe_base.specs.Facts.{FactSet}
use Rattle.cqe_base.specs.History.{UserProfile, History}
use Rattle.cqe_base.specs.Censor.{IsLegal}
use Rattle.cqe_base.specs.Limits.{KeepsSizes}
use Rattle.log_journal.specs.Records.{Recorded}
use Rattle.log_journal.specs.declared.header.OpenError.{OpenError}
use Rattle.log_journal.specs.declared.header.OpenError.TheVariants as open_errors
use Rattle.user_desk.specs.Causes.{IsReplay}
use Rattle.user_desk.specs.Standings.{is_sealed}
use Rattle.user_desk.specs.declared.standing.DeskError.TheVariants.{Journal}
use Rattle.user_desk.specs.declared.standing.Standing.{Standing}
use Rattle.user_desk.specs.declared.standing.Standing.TheVariants.{Open, Closed, Sealed}
use Rattle.audit_print.specs.declared.printing.AuditError.{AuditError}
use Rattle.audit_print.specs.declared.printing.AuditError.TheVariants as audit_errors
use Rattle.dossier.specs.Written.{IsDossier, head_text}
use Rattle.dossier_engine.specs.declared.end.DossierEnd.{DossierEnd}
use Rattle.dossier_engine.specs.declared.end.DossierEnd.TheVariants.{Done, Refused, WriteFault}
use Rattle.dossier_engine.specs.declared.end.DossierEnd.TheVariants.{ShelfFault, Memory}

-- the end of a writing that ends so where all of it was written
abbrev pub end_of : DossierEnd → Result (Unit {0}) AuditError → DossierEnd
end_of good (Ok done) = good
end_of good (Err audit_errors.WriteFault) = WriteFault
end_of good (Err audit_errors.Memory) = Memory

-- the text of a user with this standing whose journal has these records: the dossier of one who is
-- served, and else his line alone
abbrev pub IsTextOf : DatabaseSchema → Text → UserProfile → List Recorded → Standing → Text
    → Type 0
IsTextOf schema name user all Open text = IsDossier schema name user all text
IsTextOf schema name user all (Closed admission) text = text ≡ head_text name user (codes "closed")
IsTextOf schema name user all (Sealed why) text = text ≡ head_text name user (codes "sealed")

module _ (schema : DatabaseSchema) (world : FactSet) (name : Text) (user : UserProfile)
    (all : List Recorded) where
  -- this is the text of a user whose journal has these records, which give him this standing
  pub record IsReplayText (standing : Standing) (text : Text) : Type 0 where
    pub entries : History
    pub replay : IsReplay schema world user all entries standing
    pub legal : IsLegal schema world user entries
    pub sizes : KeepsSizes schema user entries
    pub text_is : IsTextOf schema name user all standing text

  -- the records give him this standing
  pub record IsReplayed (standing : Standing) : Type 0 where
    pub entries : History
    pub replay : IsReplay schema world user all entries standing
    pub legal : IsLegal schema world user entries
    pub sizes : KeepsSizes schema user entries

  -- what each end says of the records, whatever the output tells
  abbrev pub JudgesRecords : DossierEnd → Type 0
  JudgesRecords Done =
      (standing : Standing) × (is_sealed standing ≡ false) × IsReplayed standing
  JudgesRecords (Refused why) = IsReplayed (Sealed why)
  JudgesRecords WriteFault = Unit {0}
  JudgesRecords ShelfFault = Unit {0}
  JudgesRecords Memory = Unit {0}

  -- it was appended
  abbrev pub AppendsText : Standing → List ℕ → List ℕ → Type 0
  AppendsText standing old new = (text : Text) × IsReplayText standing text × (new ≡ old ++ text)

  -- the records were shown, and the call ended so
  abbrev pub IsShown : DossierEnd → List ℕ → List ℕ → Type 0
  IsShown Done old new =
      (standing : Standing) × (is_sealed standing ≡ false) × AppendsText standing old new
  IsShown (Refused why) old new = AppendsText (Sealed why) old new
  IsShown WriteFault old new =
      (standing : Standing) × (text : Text) × IsReplayText standing text
      × AppendsPart old new text
  IsShown ShelfFault old new = ⊥
  IsShown Memory old new = new ≡ old

-- a journal that isn't opened for this reason was shown, and the call ended so, whatever the output
-- tells
abbrev pub JudgesRefusal : OpenError → DossierEnd → Type 0
JudgesRefusal why Done = ⊥
JudgesRefusal why (Refused other) = (why ≢ open_errors.Memory) × (other ≡ Journal why)
JudgesRefusal why WriteFault = Unit {0}
JudgesRefusal why ShelfFault = Unit {0}
JudgesRefusal why Memory = Unit {0}

-- a journal that isn't opened for this reason was shown so, and the call ended so
abbrev pub IsRefusalShown : Text → UserProfile → OpenError → DossierEnd → List ℕ → List ℕ → Type 0
IsRefusalShown name user why Done old new = ⊥
IsRefusalShown name user why (Refused other) old new =
    (why ≢ open_errors.Memory) × (other ≡ Journal why)
    × (new ≡ old ++ head_text name user (codes "sealed"))
IsRefusalShown name user why WriteFault old new =
    (why ≢ open_errors.Memory) × AppendsPart old new (head_text name user (codes "sealed"))
IsRefusalShown name user why ShelfFault old new = ⊥
IsRefusalShown name user why Memory old new = new ≡ old
