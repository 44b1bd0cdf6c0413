-- What is shown of the records of a journal, as what the bytes of the journal say.
use Rattle.std.proofs.Common.{◌≡◌, ◌⊎◌, inl, inr, ℕ, List, [], refl, sym, subst}
use Rattle.std.specs.Prelude.{codes}
use Rattle.cqe_base.specs.Schema.{DatabaseSchema, Text}
use Rattle.cqe_base.specs.Facts.{FactSet}
use Rattle.cqe_base.specs.History.{UserProfile, History}
use Rattle.log_journal.specs.Opening.{header_bytes, IsRefused}
use Rattle.log_journal.specs.Walk.{records}
use Rattle.log_journal.specs.Records.{Recorded, IsJournal}
use Rattle.log_journal.specs.declared.header.Header.{Header}
use Rattle.log_journal.specs.declared.header.OpenError.{OpenError}
use Rattle.user_desk.specs.Causes.{Opens, OpensOrNot, OpensUnrefused, IsStanding}
use Rattle.user_desk.specs.declared.standing.DeskError.{DeskError}
use Rattle.user_desk.specs.declared.standing.DeskError.TheVariants.{Journal}
use Rattle.user_desk.specs.declared.standing.Standing.{Standing}
use Rattle.user_desk.specs.declared.standing.Standing.TheVariants.{Open, Closed, Sealed}
use Rattle.user_desk.proofs.Bytes.{records_are}
use Rattle.user_desk.proofs.Keeping.{standing_sealed_by}
use Rattle.user_desk.proofs.Refusing.{standing_from}
use Rattle.audit_engine.proofs.Telling.{rose, sealed_by, gives}
use Rattle.audit_engine.specs.Ends.{GivesStanding}
use Rattle.dossier.specs.Written.{head_text}
use Rattle.dossier_engine.specs.Ends.{IsDossierOf, EndsDossier, JudgesDossier}
use Rattle.dossier_engine.specs.Shown.{IsTextOf, IsReplayText, IsReplayed, IsShown, IsRefusalShown, JudgesRecords, JudgesRefusal}
use Rattle.dossier_engine.specs.declared.end.DossierEnd.{DossierEnd}
use Rattle.dossier_engine.specs.declared.end.DossierEnd.TheVariants as ends

module _ (schema : DatabaseSchema) (world : FactSet) (header : Header) (name : Text) (user : UserProfile) (bytes : List ℕ) (before now : ℕ)
    (decided : OpensOrNot) (unrefused : OpensUnrefused) (told : Type 0) (is : told) where
  abbrev Stands : History → Standing → Type 0
  Stands entries standing = IsStanding schema world user told (header_bytes header) bytes entries before now standing

  abbrev Dossier : Standing → Text → Type 0
  Dossier standing text = IsDossierOf schema world (header_bytes header) name user bytes before now standing text

  -- of a journal that is refused there is the line of its user
  sealed_says : (entries : History) (why : DeskError) (text : Text) → Stands entries (Sealed why) → text ≡ head_text name user (codes "sealed")
      → Dossier (Sealed why) text
  sealed_says entries why text stands text_is = by (decided schema world user (header_bytes header) bytes)
    where
      by : ((opened : History) × Opens schema world user (header_bytes header) opened bytes)
          ⊎ ((opened : History) → Opens schema world user (header_bytes header) opened bytes → ⊥) → Dossier (Sealed why) text
      by (inl (opened, opens)) =
          let why_is = sealed_by schema world header name user bytes before now decided unrefused told is why stands.1 in
          record {
            entries =
                opened;
            opening_is = inl opens;
            standing_is = (why_is, rose schema world header name user bytes before now decided unrefused opened why why_is);
            text_is = text_is;
          }
      by (inr none) =
          let why_is = sealed_by schema world header name user bytes before now decided unrefused told is why stands.1 in
          record {
            entries =
                [];
            opening_is = inr (none, refl);
            standing_is = (why_is, rose schema world header name user bytes before now decided unrefused [] why why_is);
            text_is = text_is;
          }

  -- ---- a journal that was opened

  module _ (all : List Recorded) (journal : told → IsJournal (header_bytes header) all bytes) where
    -- the text of its records is that of its bytes
    says : (standing : Standing) (text : Text) → IsReplayText schema world name user all standing text → Dossier standing text
    says standing text shown =
        by standing (standing_from schema world user told (header_bytes header) bytes all shown.entries before now standing journal shown.legal shown.sizes
        shown.replay) (subst (λ l. IsTextOf schema name user l standing text) (sym (records_are (header_bytes header) all bytes (journal is))) shown.text_is)
      where
        by : (standing : Standing) → Stands shown.entries standing → IsTextOf schema name user (records bytes) standing text → Dossier standing text
        by Open stands text_is =
            record { entries = shown.entries; opening_is = inl (stands.1 is); standing_is = (stands.0, stands.1 is); text_is = text_is }
        by (Closed admission) stands text_is =
            record { entries = shown.entries; opening_is = inl (stands.3 is); standing_is = (stands.0, stands.1, stands.3 is); text_is = text_is }
        by (Sealed why) stands text_is = sealed_says shown.entries why text stands text_is

    -- the records give him the standing that the bytes give
    replays : (standing : Standing) → IsReplayed schema world name user all standing
        → GivesStanding schema world (header_bytes header) name user bytes before now standing
    replays standing replayed =
        gives schema world header name user bytes before now decided unrefused told is replayed.entries standing
        (standing_from schema world user told (header_bytes header) bytes all replayed.entries before now standing journal replayed.legal replayed.sizes
        replayed.replay)

    -- so the end of the writing judges the journal
    pub judges_so : (end : DossierEnd) → JudgesRecords schema world name user all end
        → JudgesDossier schema world (header_bytes header) name user bytes before now end
    judges_so ends.Done (standing, unsealed, replayed) = (standing, unsealed, replays standing replayed)
    judges_so (ends.Refused why) replayed = replays (Sealed why) replayed
    judges_so ends.WriteFault judged = tt
    judges_so ends.ShelfFault judged = tt
    judges_so ends.Memory judged = tt

    -- so ends the writing of its records
    pub ends_so : (end : DossierEnd) (old new : List ℕ) → IsShown schema world name user all end old new
        → EndsDossier schema world (header_bytes header) name user bytes before now end old new
    ends_so ends.Done old new (standing, unsealed, (text, shown, whole)) = (standing, unsealed, (text, says standing text shown, whole))
    ends_so (ends.Refused why) old new (text, shown, whole) = (text, says (Sealed why) text shown, whole)
    ends_so ends.WriteFault old new (standing, text, shown, part) = (standing, text, says standing text shown, part)
    ends_so ends.ShelfFault old new shown = absurd shown
    ends_so ends.Memory old new shown = shown

  -- ---- a journal that wasn't

  pub refused_judges : (why : OpenError) → IsRefused told (header_bytes header) bytes before now why → (end : DossierEnd) → JudgesRefusal why end
      → JudgesDossier schema world (header_bytes header) name user bytes before now end
  refused_judges why refused ends.Done judged = absurd judged
  refused_judges why refused (ends.Refused other) (some, same) =
      let stands = standing_sealed_by schema world user told (header_bytes header) bytes [] before now why refl refused some in
      subst (λ w. GivesStanding schema world (header_bytes header) name user bytes before now (Sealed w)) (sym same)
      (gives schema world header name user bytes before now decided unrefused told is [] (Sealed (Journal why)) stands)
  refused_judges why refused ends.WriteFault judged = tt
  refused_judges why refused ends.ShelfFault judged = tt
  refused_judges why refused ends.Memory judged = tt

  pub refused_so : (why : OpenError) → IsRefused told (header_bytes header) bytes before now why → (end : DossierEnd) (old new : List ℕ)
      → IsRefusalShown name user why end old new → EndsDossier schema world (header_bytes header) name user bytes before now end old new
  refused_so why refused ends.Done old new shown = absurd shown
  refused_so why refused (ends.Refused other) old new (some, same, whole) =
      let text = head_text name user (codes "sealed") in
      let stands = standing_sealed_by schema world user told (header_bytes header) bytes [] before now why refl refused some in
      (text, subst (λ w. Dossier (Sealed w) text) (sym same) (sealed_says [] (Journal why) text stands refl), whole)
  refused_so why refused ends.WriteFault old new (some, part) =
      let text = head_text name user (codes "sealed") in
      let stands = standing_sealed_by schema world user told (header_bytes header) bytes [] before now why refl refused some in
      (Sealed (Journal why), text, sealed_says [] (Journal why) text stands refl, part)
  refused_so why refused ends.ShelfFault old new shown = absurd shown
  refused_so why refused ends.Memory old new shown = shown
