-- What was written of records, by what the writing answered.
use Rattle.std.proofs.Common.{◌≡◌, ◌≢◌, List, ℕ, [], ◌∷◌, ◌++◌, refl}
use Rattle.std.specs.Prelude.{Result, Ok, Err, OnOk, codes}
use Rattle.outside.specs.Streams.{AppendsPart}
use Rattle.cqe_base.specs.Schema.{DatabaseSchema, Text}
use Rattle.cqe_base.specs.Facts.{FactSet}
use Rattle.cqe_base.specs.History.{UserProfile, AnsweredQuery, History}
use Rattle.cqe_base.specs.Censor.{IsLegal, IsLegalItem}
use Rattle.cqe_base.specs.Limits.{KeepsSizes, KeepsSizesAt}
use Rattle.log_journal.specs.Records.{Recorded}
use Rattle.log_journal.specs.declared.header.OpenError.{OpenError}
use Rattle.log_journal.specs.declared.header.OpenError.TheVariants as open_errors
use Rattle.user_desk.specs.Causes.{IsReplay}
use Rattle.user_desk.specs.declared.standing.DeskError.{DeskError}
use Rattle.user_desk.specs.declared.standing.DeskError.TheVariants.{Journal}
use Rattle.user_desk.specs.declared.standing.Standing.{Standing}
use Rattle.user_desk.specs.declared.standing.Standing.TheVariants.{Open, Closed, Sealed}
use Rattle.audit_print.specs.declared.printing.AuditError.{AuditError}
use Rattle.audit_print.specs.declared.printing.AuditError.TheVariants as audit_errors
use Rattle.dossier.specs.Written.{head_text}
use Rattle.dossier_engine.specs.Shown.{IsTextOf, IsReplayText, IsShown, IsRefusalShown, IsReplayed, JudgesRecords, JudgesRefusal, end_of}
use Rattle.dossier_engine.specs.declared.end.DossierEnd.{DossierEnd}
use Rattle.dossier_engine.specs.declared.end.DossierEnd.TheVariants as ends

-- the end of a dossier that was written whole of a user with this standing
abbrev pub good_end : Standing → DossierEnd
good_end Open = ends.Done
good_end (Closed admission) = ends.Done
good_end (Sealed why) = ends.Refused why

-- no item stands in the empty history
no_item : {P : Type 0} (before : History) (item : AnsweredQuery) (after : History) → [] ≡ before ++ item ∷ after → P
no_item [] item after is = let clash : [] ≡ item ∷ after = is in absurd cc
no_item (first ∷ before) item after is = let clash : [] ≡ first ∷ (before ++ item ∷ after) = is in absurd cc

pub none_legal : (schema : DatabaseSchema) (world : FactSet) (user : UserProfile) → IsLegal schema world user []
none_legal schema world user before item after is = no_item {P = IsLegalItem schema world user before item} before item after is

pub none_sized : (schema : DatabaseSchema) (user : UserProfile) → KeepsSizes schema user []
none_sized schema user before item after is = no_item {P = KeepsSizesAt schema user before item} before item after is

-- what was written of a user with this standing was shown
pub shown_so : (schema : DatabaseSchema) (world : FactSet) (name : Text) (user : UserProfile) (all : List Recorded) (standing : Standing)
    → ((text : Text) → IsTextOf schema name user all standing text → IsReplayText schema world name user all standing text)
    → (written : Result (Unit {0}) AuditError) (old new : List ℕ)
    → OnOk written ((text : Text) × IsTextOf schema name user all standing text × (new ≡ old ++ text))
    → (written ≡ Err audit_errors.WriteFault → (text : Text) × IsTextOf schema name user all standing text × AppendsPart old new text)
    → (written ≡ Err audit_errors.Memory → new ≡ old)
    → IsShown schema world name user all (end_of (good_end standing) written) old new
shown_so schema world name user all Open shows (Ok done) old new whole part nothing = (Open, refl, (whole.0, shows whole.0 whole.1, whole.2))
shown_so schema world name user all (Closed admission) shows (Ok done) old new whole part nothing =
    (Closed admission, refl, (whole.0, shows whole.0 whole.1, whole.2))
shown_so schema world name user all (Sealed why) shows (Ok done) old new whole part nothing = (whole.0, shows whole.0 whole.1, whole.2)
shown_so schema world name user all standing shows (Err audit_errors.WriteFault) old new whole part nothing =
    let some = part refl in (standing, some.0, shows some.0 some.1, some.2)
shown_so schema world name user all standing shows (Err audit_errors.Memory) old new whole part nothing = nothing refl

-- and its end judges the records that give him this standing
pub judged_so : (schema : DatabaseSchema) (world : FactSet) (name : Text) (user : UserProfile) (all : List Recorded) (standing : Standing)
    → IsReplayed schema world name user all standing → (written : Result (Unit {0}) AuditError)
    → JudgesRecords schema world name user all (end_of (good_end standing) written)
judged_so schema world name user all Open replayed (Ok done) = (Open, refl, replayed)
judged_so schema world name user all (Closed admission) replayed (Ok done) = (Closed admission, refl, replayed)
judged_so schema world name user all (Sealed why) replayed (Ok done) = replayed
judged_so schema world name user all standing replayed (Err audit_errors.WriteFault) = tt
judged_so schema world name user all standing replayed (Err audit_errors.Memory) = tt

-- so do the records of one who isn't served, by no entries
pub line_judged : (schema : DatabaseSchema) (world : FactSet) (name : Text) (user : UserProfile) (all : List Recorded) (standing : Standing)
    → IsReplay schema world user all [] standing → (written : Result (Unit {0}) AuditError)
    → JudgesRecords schema world name user all (end_of (good_end standing) written)
line_judged schema world name user all standing replay =
    judged_so schema world name user all standing
    (record { entries = []; replay = replay; legal = none_legal schema world user; sizes = none_sized schema user })

-- the end of a journal that isn't opened judges why
pub refusal_judged : (why : OpenError) → why ≢ open_errors.Memory → (written : Result (Unit {0}) AuditError)
    → JudgesRefusal why (end_of (ends.Refused (Journal why)) written)
refusal_judged why some (Ok done) = (some, refl)
refusal_judged why some (Err audit_errors.WriteFault) = tt
refusal_judged why some (Err audit_errors.Memory) = tt

-- so was the line of one who isn't served
pub line_so : (schema : DatabaseSchema) (world : FactSet) (name : Text) (user : UserProfile) (all : List Recorded) (standing : Standing) (line : Text)
    → IsTextOf schema name user all standing line → IsReplay schema world user all [] standing
    → (written : Result (Unit {0}) AuditError) (old new : List ℕ) → OnOk written (new ≡ old ++ line)
    → (written ≡ Err audit_errors.WriteFault → AppendsPart old new line) → (written ≡ Err audit_errors.Memory → new ≡ old)
    → IsShown schema world name user all (end_of (good_end standing) written) old new
line_so schema world name user all standing line is replay written old new whole part nothing = by written whole part nothing
  where
    shows : (text : Text) → IsTextOf schema name user all standing text → IsReplayText schema world name user all standing text
    shows text text_is =
        record { entries = []; replay = replay; legal = none_legal schema world user; sizes = none_sized schema user; text_is = text_is }

    by : (written : Result (Unit {0}) AuditError) → OnOk written (new ≡ old ++ line)
        → (written ≡ Err audit_errors.WriteFault → AppendsPart old new line) → (written ≡ Err audit_errors.Memory → new ≡ old)
        → IsShown schema world name user all (end_of (good_end standing) written) old new
    by (Ok done) whole part nothing =
        shown_so schema world name user all standing shows (Ok done) old new (line, is, whole) (λ e. (line, is, part e)) nothing
    by (Err why) whole part nothing =
        shown_so schema world name user all standing shows (Err why) old new whole (λ e. (line, is, part e)) nothing

-- so was that of a user whose journal isn't opened
pub line_shown : (name : Text) (user : UserProfile) (why : OpenError) → why ≢ open_errors.Memory → (written : Result (Unit {0}) AuditError) (old new : List ℕ)
    → OnOk written (new ≡ old ++ head_text name user (codes "sealed"))
    → (written ≡ Err audit_errors.WriteFault → AppendsPart old new (head_text name user (codes "sealed")))
    → (written ≡ Err audit_errors.Memory → new ≡ old)
    → IsRefusalShown name user why (end_of (ends.Refused (Journal why)) written) old new
line_shown name user why some (Ok done) old new whole part nothing = (some, refl, whole)
line_shown name user why some (Err audit_errors.WriteFault) old new whole part nothing = (some, part refl)
line_shown name user why some (Err audit_errors.Memory) old new whole part nothing = nothing refl

-- ---- what an end says of the answer

pub wanted : (standing : Standing) (written : Result (Unit {0}) AuditError) → end_of (good_end standing) written ≡ ends.Memory
    → written ≡ Err audit_errors.Memory
wanted Open (Ok done) is = absurd cc
wanted (Closed admission) (Ok done) is = absurd cc
wanted (Sealed why) (Ok done) is = absurd cc
wanted standing (Err audit_errors.WriteFault) is = absurd cc
wanted standing (Err audit_errors.Memory) is = refl

pub failed : (standing : Standing) (written : Result (Unit {0}) AuditError) → end_of (good_end standing) written ≡ ends.WriteFault
    → written ≡ Err audit_errors.WriteFault
failed Open (Ok done) is = absurd cc
failed (Closed admission) (Ok done) is = absurd cc
failed (Sealed why) (Ok done) is = absurd cc
failed standing (Err audit_errors.WriteFault) is = refl
failed standing (Err audit_errors.Memory) is = absurd cc

pub no_shelf : (standing : Standing) (written : Result (Unit {0}) AuditError) → end_of (good_end standing) written ≡ ends.ShelfFault → ⊥
no_shelf Open (Ok done) is = cc
no_shelf (Closed admission) (Ok done) is = cc
no_shelf (Sealed why) (Ok done) is = cc
no_shelf standing (Err audit_errors.WriteFault) is = cc
no_shelf standing (Err audit_errors.Memory) is = cc

-- the line of a user whose journal is refused is no dossier
pub never_done : (why : DeskError) (written : Result (Unit {0}) AuditError) → end_of (ends.Refused why) written ≡ ends.Done → ⊥
never_done why (Ok done) is = cc
never_done why (Err audit_errors.WriteFault) is = cc
never_done why (Err audit_errors.Memory) is = cc
