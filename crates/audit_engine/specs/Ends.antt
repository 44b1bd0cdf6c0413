-- How the audit of a user ends, by the bytes of his journal.
use Rattle.std.specs.Prelude.{◌≡◌, ℕ, Bool, true, false, List, ◌++◌}
use Rattle.outside.specs.Faults.{Rose}
use Rattle.outside.specs.Streams.{AppendsPart}
use Rattle.cqe_base.specs.Schema.{DatabaseSchema, Text}
use Rattle.cqe_base.specs.Facts.{FactSet}
use Rattle.cqe_base.specs.History.{UserProfile, History}
use Rattle.cqe_base.specs.Censor.{admitted}
use Rattle.censors.specs.Admitting.{admission_of}
use Rattle.user_desk.specs.Causes.{Opens, IsSealedBy}
use Rattle.user_desk.specs.Standings.{is_sealed}
use Rattle.user_desk.specs.declared.standing.Standing.{Standing}
use Rattle.user_desk.specs.declared.standing.Standing.TheVariants.{Open, Closed, Sealed}
use Rattle.desk_crew.specs.Openings.{OpensWith}
use Rattle.desk_crew.specs.Refusals.{is_disk_fault}
use Rattle.audit_text.specs.Said.{AuditSaid}
use Rattle.audit_text.specs.Json.{audit_text}
use Rattle.audit_print.specs.Audits.{Audits}
use Rattle.audit_engine.specs.declared.end.AuditEnd.{AuditEnd}
use Rattle.audit_engine.specs.declared.end.AuditEnd.TheVariants.{Done, Refused, WriteFault}
use Rattle.audit_engine.specs.declared.end.AuditEnd.TheVariants.{ShelfFault, Memory}

module _ (schema : DatabaseSchema) (world : FactSet) (header : List ℕ) (name : Text)
    (user : UserProfile) (bytes : List ℕ) (before now : ℕ) where
  -- Why a user whose journal stands for these entries has this standing. He is served where he is
  -- admitted and the bytes of his journal open a desk; he is closed where they do and he isn't; and
  -- his journal is refused for a reason that the bytes show, or where the count of its disk's
  -- faults rose.
  abbrev pub HasStanding : History → Standing → Type 0
  HasStanding entries Open =
      (admitted schema world user ≡ true) × Opens schema world user header entries bytes
  HasStanding entries (Closed admission) = (admitted schema world user ≡ false)
      × (admission ≡ admission_of schema world user) × Opens schema world user header entries bytes
  HasStanding entries (Sealed why) =
      IsSealedBy schema world user (Unit {0}) header bytes before now why
      × (Opens schema world user header entries bytes → Rose before now)

  -- the bytes of his journal give the user this standing, with the legal history that they stand
  -- for, the empty one where they open no desk
  pub record GivesStanding (standing : Standing) : Type 0 where
    pub entries : History
    pub opening_is : OpensWith schema world user header bytes entries
    pub standing_is : HasStanding entries standing

  -- what each end says of the journal, whatever the output tells
  abbrev pub JudgesJournal : AuditEnd → Type 0
  JudgesJournal Done =
      (standing : Standing) × (is_sealed standing ≡ false) × GivesStanding standing
  JudgesJournal (Refused why) = GivesStanding (Sealed why)
  JudgesJournal WriteFault = Unit {0}
  JudgesJournal ShelfFault = Unit {0}
  JudgesJournal Memory = Unit {0}

  -- this is said of the user: the audit of his standing and of the legal history that the bytes of
  -- his journal stand for, the empty one where they open no desk
  pub record IsAuditOf (standing : Standing) (said : AuditSaid) : Type 0 where
    pub entries : History
    pub opening_is : OpensWith schema world user header bytes entries
    pub standing_is : HasStanding entries standing
    pub audits : Audits schema name user standing entries said

  -- all of it was appended
  abbrev pub AppendsSaid : Bool → Standing → List ℕ → List ℕ → Type 0
  AppendsSaid json standing old new =
      (said : AuditSaid) × IsAuditOf standing said × (new ≡ old ++ audit_text json said)

  -- what each end says of the output before and after
  abbrev pub EndsAudit : Bool → AuditEnd → List ℕ → List ℕ → Type 0
  EndsAudit json Done old new =
      (standing : Standing) × (is_sealed standing ≡ false) × AppendsSaid json standing old new
  EndsAudit json (Refused why) old new = AppendsSaid json (Sealed why) old new
  EndsAudit json WriteFault old new =
      (standing : Standing) × (said : AuditSaid) × IsAuditOf standing said
      × AppendsPart old new (audit_text json said)
  EndsAudit json ShelfFault old new = new ≡ old
  EndsAudit json Memory old new = new ≡ old

-- the end of an audit of a user whose journal was refused for a fault of its disk
abbrev pub IsDiskRefusal : AuditEnd → Type 0
IsDiskRefusal Done = ⊥
IsDiskRefusal (Refused why) = is_disk_fault why ≡ true
IsDiskRefusal WriteFault = ⊥
IsDiskRefusal ShelfFault = ⊥
IsDiskRefusal Memory = ⊥

-- the end of an audit of which nothing was written
abbrev pub IsSilent : AuditEnd → Type 0
IsSilent Done = ⊥
IsSilent (Refused why) = ⊥
IsSilent WriteFault = ⊥
IsSilent ShelfFault = Unit {0}
IsSilent Memory = Unit {0}
