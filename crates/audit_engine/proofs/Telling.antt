-- What the audit of a desk writes, as what the bytes of the journal say.
use Rattle.std.proofs.Common.{◌≡◌, ◌⊎◌, ◌∙◌, inl, inr, ℕ, Bool, false, List, [], refl, ap, subst}
use Rattle.outside.specs.Faults.{Rose}
use Rattle.cqe_base.specs.Schema.{DatabaseSchema, Text}
use Rattle.cqe_base.specs.Facts.{FactSet}
use Rattle.cqe_base.specs.History.{UserProfile, History}
use Rattle.log_journal.specs.Opening.{header_bytes}
use Rattle.log_journal.specs.declared.header.Header.{Header}
use Rattle.log_journal.specs.declared.header.OpenError.TheVariants.{NotAJournal, OtherPolicy, Damaged, DiskFault, Memory, OldVersion}
use Rattle.user_desk.specs.Causes.{Opens, OpensOrNot, OpensUnrefused, IsSealedBy, IsStanding}
use Rattle.user_desk.specs.Standings.{is_sealed}
use Rattle.user_desk.specs.declared.standing.DeskError.{DeskError}
use Rattle.user_desk.specs.declared.standing.DeskError.TheVariants.{Journal, Stale, Unlawful, Size, NotAdmitted, Unsafe}
use Rattle.user_desk.specs.declared.standing.Standing.{Standing}
use Rattle.user_desk.specs.declared.standing.Standing.TheVariants.{Open, Closed, Sealed}
use Rattle.audit_text.specs.Said.{AuditSaid}
use Rattle.audit_print.specs.Audits.{Audits}
use Rattle.audit_engine.specs.Printed.{IsPrinted, EndsBy, end_of}
use Rattle.desk_crew.proofs.Faulting.{faulted}
use Rattle.desk_crew.specs.Refusals.{is_disk_fault}
use Rattle.audit_engine.specs.Ends.{IsAuditOf, GivesStanding, EndsAudit, JudgesJournal, IsDiskRefusal}
use Rattle.audit_engine.specs.declared.end.AuditEnd.{AuditEnd}
use Rattle.audit_engine.specs.declared.end.AuditEnd.TheVariants as ends

module _ (schema : DatabaseSchema) (world : FactSet) (header : Header) (name : Text) (user : UserProfile) (bytes : List ℕ) (before now : ℕ)
    (decided : OpensOrNot) (unrefused : OpensUnrefused) where
  -- a journal that is refused though its bytes open a desk had a fault of its disk
  pub rose : (entries : History) (why : DeskError) → IsSealedBy schema world user (Unit {0}) (header_bytes header) bytes before now why
      → Opens schema world user (header_bytes header) entries bytes → Rose before now
  rose entries (Journal NotAJournal) refused opens = absurd (unrefused schema world user header bytes entries (Journal NotAJournal) opens (refused tt))
  rose entries (Journal OtherPolicy) refused opens = absurd (unrefused schema world user header bytes entries (Journal OtherPolicy) opens (refused tt))
  rose entries (Journal (Damaged number)) refused opens =
      absurd (unrefused schema world user header bytes entries (Journal (Damaged number)) opens (refused tt))
  rose entries (Journal OldVersion) refused opens = absurd (unrefused schema world user header bytes entries (Journal OldVersion) opens (refused tt))
  rose entries (Journal DiskFault) refused opens = refused
  rose entries (Journal Memory) refused opens = absurd refused
  rose entries (Stale number) refused opens = absurd (unrefused schema world user header bytes entries (Stale number) opens (refused tt))
  rose entries (Unlawful number stored computed) refused opens =
      absurd (unrefused schema world user header bytes entries (Unlawful number stored computed) opens (refused tt))
  rose entries (Size number) refused opens = absurd (unrefused schema world user header bytes entries (Size number) opens (refused tt))
  rose entries (Unsafe number) refused opens = absurd (unrefused schema world user header bytes entries (Unsafe number) opens (refused tt))
  rose entries (NotAdmitted admission) refused opens = absurd (unrefused schema world user header bytes entries (NotAdmitted admission) opens (refused tt))

  -- where clauses are told of the bytes
  pub sealed_by : (told : Type 0) → told → (why : DeskError) → IsSealedBy schema world user told (header_bytes header) bytes before now why
      → IsSealedBy schema world user (Unit {0}) (header_bytes header) bytes before now why
  sealed_by told is (Journal NotAJournal) refused = λ _. refused is
  sealed_by told is (Journal OtherPolicy) refused = λ _. refused is
  sealed_by told is (Journal (Damaged number)) refused = λ _. refused is
  sealed_by told is (Journal OldVersion) refused = λ _. refused is
  sealed_by told is (Journal DiskFault) refused = refused
  sealed_by told is (Journal Memory) refused = absurd refused
  sealed_by told is (Stale number) refused = λ _. refused is
  sealed_by told is (Unlawful number stored computed) refused = λ _. refused is
  sealed_by told is (Size number) refused = λ _. refused is
  sealed_by told is (Unsafe number) refused = λ _. refused is
  sealed_by told is (NotAdmitted admission) refused = λ _. refused is

  -- the audit of a journal that is refused doesn't tell its entries
  any_entries : (entries entries' : History) (why : DeskError) (said : AuditSaid) → Audits schema name user (Sealed why) entries said
      → Audits schema name user (Sealed why) entries' said
  any_entries entries entries' why said audits =
      record { worlds = audits.worlds; listings = audits.listings; listed = λ served. absurd (cc); others = λ served. absurd (cc); whole = audits.whole }

  -- the audit of a desk says what the bytes say
  pub says : (told : Type 0) → told → (entries : History) (standing : Standing) (said : AuditSaid)
      → IsStanding schema world user told (header_bytes header) bytes entries before now standing
      → Audits schema name user standing entries said → IsAuditOf schema world (header_bytes header) name user bytes before now standing said
  says told is entries Open said stands audits =
      record { entries = entries; opening_is = inl (stands.1 is); standing_is = (stands.0, stands.1 is); audits = audits }
  says told is entries (Closed admission) said stands audits =
      record { entries = entries; opening_is = inl (stands.3 is); standing_is = (stands.0, stands.1, stands.3 is); audits = audits }
  says told is entries (Sealed why) said stands audits = by (decided schema world user (header_bytes header) bytes)
    where
      why_is : IsSealedBy schema world user (Unit {0}) (header_bytes header) bytes before now why
      why_is = sealed_by told is why stands.1

      by : ((opened : History) × Opens schema world user (header_bytes header) opened bytes)
          ⊎ ((opened : History) → Opens schema world user (header_bytes header) opened bytes → ⊥)
          → IsAuditOf schema world (header_bytes header) name user bytes before now (Sealed why) said
      by (inl (opened, opens)) =
          record {
            entries =
                opened;
            opening_is = inl opens;
            standing_is = (why_is, rose opened why why_is);
            audits = any_entries entries opened why said audits;
          }
      by (inr none) =
          record { entries = []; opening_is = inr (none, refl); standing_is = (why_is, rose [] why why_is); audits = any_entries entries [] why said audits }

  -- the bytes give him the standing of the desk
  pub gives : (told : Type 0) → told → (entries : History) (standing : Standing)
      → IsStanding schema world user told (header_bytes header) bytes entries before now standing
      → GivesStanding schema world (header_bytes header) name user bytes before now standing
  gives told is entries Open stands = record { entries = entries; opening_is = inl (stands.1 is); standing_is = (stands.0, stands.1 is) }
  gives told is entries (Closed admission) stands =
      record { entries = entries; opening_is = inl (stands.3 is); standing_is = (stands.0, stands.1, stands.3 is) }
  gives told is entries (Sealed why) stands = by (decided schema world user (header_bytes header) bytes)
    where
      why_is : IsSealedBy schema world user (Unit {0}) (header_bytes header) bytes before now why
      why_is = sealed_by told is why stands.1

      by : ((opened : History) × Opens schema world user (header_bytes header) opened bytes)
          ⊎ ((opened : History) → Opens schema world user (header_bytes header) opened bytes → ⊥)
          → GivesStanding schema world (header_bytes header) name user bytes before now (Sealed why)
      by (inl (opened, opens)) = record { entries = opened; opening_is = inl opens; standing_is = (why_is, rose opened why why_is) }
      by (inr none) = record { entries = []; opening_is = inr (none, refl); standing_is = (why_is, rose [] why why_is) }

  -- so the end of an audit judges the journal
  pub judges_so : (told : Type 0) → told → (entries : History) (end : AuditEnd) (standing : Standing)
      → IsStanding schema world user told (header_bytes header) bytes entries before now standing → EndsBy standing end
      → JudgesJournal schema world (header_bytes header) name user bytes before now end
  judges_so told is entries ends.Done Open stands same = (Open, refl, gives told is entries Open stands)
  judges_so told is entries ends.Done (Closed admission) stands same = (Closed admission, refl, gives told is entries (Closed admission) stands)
  judges_so told is entries ends.Done (Sealed why) stands same = absurd (cc)
  judges_so told is entries (ends.Refused why) Open stands same = absurd (cc)
  judges_so told is entries (ends.Refused why) (Closed admission) stands same = absurd (cc)
  judges_so told is entries (ends.Refused why) (Sealed why') stands same =
      let one : why' ≡ why = cc in
      subst (λ w. GivesStanding schema world (header_bytes header) name user bytes before now (Sealed w)) one (gives told is entries (Sealed why') stands)
  judges_so told is entries ends.WriteFault standing stands same = tt
  judges_so told is entries ends.ShelfFault standing stands same = tt
  judges_so told is entries ends.Memory standing stands same = tt

  module _ (told : Type 0) (is : told) (entries : History) (json : Bool) (old new : List ℕ) where
    done : (standing : Standing) → IsStanding schema world user told (header_bytes header) bytes entries before now standing
        → IsPrinted schema name user standing entries json ends.Done old new
        → EndsAudit schema world (header_bytes header) name user bytes before now json ends.Done old new
    done Open stands (same, (said, audits, whole)) = (Open, refl, (said, says told is entries Open said stands audits, whole))
    done (Closed admission) stands (same, (said, audits, whole)) =
        (Closed admission, refl, (said, says told is entries (Closed admission) said stands audits, whole))
    done (Sealed why) stands (same, (said, audits, whole)) = absurd (cc)

    refused : (why : DeskError) (standing : Standing) → IsStanding schema world user told (header_bytes header) bytes entries before now standing
        → IsPrinted schema name user standing entries json (ends.Refused why) old new
        → EndsAudit schema world (header_bytes header) name user bytes before now json (ends.Refused why) old new
    refused why Open stands (same, (said, audits, whole)) = absurd (cc)
    refused why (Closed admission) stands (same, (said, audits, whole)) = absurd (cc)
    refused why (Sealed why') stands (same, (said, audits, whole)) =
        let one : why' ≡ why = cc in (
          said,
          subst (λ w. IsAuditOf schema world (header_bytes header) name user bytes before now (Sealed w) said) one
              (says told is entries (Sealed why') said stands audits),
          whole,
        )

    -- so is the end of the audit of a desk
    pub ends_so : (end : AuditEnd) (standing : Standing) → IsStanding schema world user told (header_bytes header) bytes entries before now standing
        → IsPrinted schema name user standing entries json end old new
        → EndsAudit schema world (header_bytes header) name user bytes before now json end old new
    ends_so ends.Done standing stands printed = done standing stands printed
    ends_so (ends.Refused why) standing stands printed = refused why standing stands printed
    ends_so ends.WriteFault standing stands (said, audits, part) = (standing, said, says told is entries standing said stands audits, part)
    ends_so ends.ShelfFault standing stands printed = absurd printed
    ends_so ends.Memory standing stands printed = printed

-- an audit that was written of a user who isn't refused
pub done_served : (standing : Standing) → end_of standing ≡ ends.Done → is_sealed standing ≡ false
done_served Open is = refl
done_served (Closed admission) is = refl
done_served (Sealed why) is = absurd cc

-- the end of an audit that was written is that of the standing
pub ends_by : (standing : Standing) → EndsBy standing (end_of standing)
ends_by Open = refl
ends_by (Closed admission) = refl
ends_by (Sealed why) = refl

-- where the end says that the disk failed, the count of its faults rose
pub disk_refused : (schema : DatabaseSchema) (world : FactSet) (user : UserProfile) (told : Type 0) (header bytes : List ℕ) (before now : ℕ)
    (entries : History) (standing : Standing) (end : AuditEnd) → IsStanding schema world user told header bytes entries before now standing
    → EndsBy standing end → IsDiskRefusal end → Rose before now
disk_refused schema world user told header bytes before now entries standing ends.Done stands same is = absurd is
disk_refused schema world user told header bytes before now entries Open (ends.Refused why) stands same is = absurd (cc)
disk_refused schema world user told header bytes before now entries (Closed admission) (ends.Refused why) stands same is = absurd (cc)
disk_refused schema world user told header bytes before now entries (Sealed why') (ends.Refused why) stands same is =
    let one : why' ≡ why = cc in
    faulted schema world user told header bytes before now why' stands.1 (ap is_disk_fault one ∙ is)
disk_refused schema world user told header bytes before now entries standing ends.WriteFault stands same is = absurd is
disk_refused schema world user told header bytes before now entries standing ends.ShelfFault stands same is = absurd is
disk_refused schema world user told header bytes before now entries standing ends.Memory stands same is = absurd is
