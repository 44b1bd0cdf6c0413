-- What the audit of a desk writes.
use Rattle.std.specs.Prelude.{◌≡◌, ℕ, Bool, List, ◌++◌}
use Rattle.outside.specs.Streams.{AppendsPart}
use Rattle.cqe_base.specs.Schema.{DatabaseSchema, Text}
use Rattle.cqe_base.specs.History.{UserProfile, History}
use Rattle.user_desk.specs.declared.standing.Standing.{Standing}
use Rattle.user_desk.specs.declared.standing.Standing.TheVariants.{Open, Closed, Sealed}
use Rattle.audit_text.specs.Said.{AuditSaid}
use Rattle.audit_text.specs.Json.{audit_text}
use Rattle.audit_print.specs.Audits.{Audits}
use Rattle.audit_engine.specs.declared.end.AuditEnd.{AuditEnd}
use Rattle.audit_engine.specs.declared.end.AuditEnd.TheVariants.{Done, Refused, WriteFault}
use Rattle.audit_engine.specs.declared.end.AuditEnd.TheVariants.{ShelfFault, Memory}

-- the end of an audit that was written of a user with this standing
abbrev pub end_of : Standing → AuditEnd
end_of Open = Done
end_of (Closed admission) = Done
end_of (Sealed why) = Refused why

-- so an audit of a user with this standing may end: as one that was written, by a fault of the
-- output, or for want of memory
abbrev pub EndsBy : Standing → AuditEnd → Type 0
EndsBy standing Done = Done ≡ end_of standing
EndsBy standing (Refused why) = Refused why ≡ end_of standing
EndsBy standing WriteFault = Unit {0}
EndsBy standing ShelfFault = ⊥
EndsBy standing Memory = Unit {0}

module _ (schema : DatabaseSchema) (name : Text) (user : UserProfile) (standing : Standing)
    (entries : History) where
  -- the audit was appended
  abbrev pub AppendsAudit : Bool → List ℕ → List ℕ → Type 0
  AppendsAudit json old new = (said : AuditSaid) × Audits schema name user standing entries said
      × (new ≡ old ++ audit_text json said)

  -- a beginning of it was
  abbrev pub AppendsPartOfAudit : Bool → List ℕ → List ℕ → Type 0
  AppendsPartOfAudit json old new = (said : AuditSaid)
      × Audits schema name user standing entries said × AppendsPart old new (audit_text json said)

  -- the audit of a desk with this standing and these entries ended so
  abbrev pub IsPrinted : Bool → AuditEnd → List ℕ → List ℕ → Type 0
  IsPrinted json WriteFault old new = AppendsPartOfAudit json old new
  IsPrinted json Memory old new = new ≡ old
  IsPrinted json ShelfFault old new = ⊥
  IsPrinted json Done old new = (Done ≡ end_of standing) × AppendsAudit json old new
  IsPrinted json (Refused why) old new = (Refused why ≡ end_of standing) × AppendsAudit json old new
