-- Which bytes open a desk, and why other bytes are refused.
use Rattle.std.specs.Prelude.{◌≡◌, ◌≢◌, ◌⊎◌, ℕ, ◌≤◌, Bool, true, false, ◌||◌, List, [], ◌∷◌, ◌++◌}
use Rattle.std.specs.Prelude.{length, map, take, Some, Ok, Err}
use Rattle.cqe_base.specs.declared.user.Mark.{Mark}
use Rattle.cqe_base.specs.declared.user.Mark.TheVariants.{Protected}
use Rattle.cqe_base.specs.declared.user.Purpose.{Purpose}
use Rattle.cqe_base.specs.declared.user.Purpose.TheVariants.{Asking, Protecting}
use Rattle.cqe_base.specs.Schema.{DatabaseSchema}
use Rattle.cqe_base.specs.Facts.{FactSet}
use Rattle.cqe_base.specs.Formula.{Formula}
use Rattle.cqe_base.specs.Reading.{Refusal, reading}
use Rattle.cqe_base.specs.History.{UserProfile, History, is_added}
use Rattle.cqe_base.specs.Censor.{IsLegal, mark_after, safe_after, admitted}
use Rattle.cqe_base.specs.Limits.{KeepsSizes}
use Rattle.cqe_base.specs.Run.{is_full, is_too_large, is_too_large_secret, has_all_secrets}
use Rattle.outside.specs.Faults.{Rose}
use Rattle.log_journal.specs.Records.{Recorded, IsJournal}
use Rattle.log_journal.specs.Walk.{records}
use Rattle.log_journal.specs.Opening as journal
use Rattle.log_journal.specs.declared.header.Header.{Header}
use Rattle.log_journal.specs.declared.header.OpenError.TheVariants.{DiskFault, Memory}
use Rattle.censors.specs.Admitting.{admission_of}
use Rattle.user_desk.specs.Entries.{mark_of, purpose_by, entry_of, StandsFor, StandsWithin}
use Rattle.user_desk.specs.declared.standing.DeskError.{DeskError}
use Rattle.user_desk.specs.declared.standing.DeskError.TheVariants.{Journal, Stale, Unlawful, Size}
use Rattle.user_desk.specs.declared.standing.DeskError.TheVariants.{NotAdmitted, Unsafe}
use Rattle.user_desk.specs.declared.standing.Standing.{Standing}
use Rattle.user_desk.specs.declared.standing.Standing.TheVariants.{Open, Closed, Sealed}

-- whether the history is full for a text of this length, or its sentence too large for the view; or
-- it is to be added, and is too large for a secret or finds no room
abbrev pub is_beyond : DatabaseSchema → UserProfile → History → Purpose → ℕ → Formula → Bool
is_beyond schema user before Asking size query =
    is_full before size || is_too_large schema user before query
is_beyond schema user before Protecting size secret = is_full before size
    || (is_too_large_secret schema user before secret || has_all_secrets user before)

module _ (schema : DatabaseSchema) (world : FactSet) (user : UserProfile) where
  -- the bytes open a desk with these entries: they stand for them, and they are a legal history
  -- within the limits, which is empty where the user isn't admitted
  pub record Opens (header : List ℕ) (entries : History) (bytes : List ℕ) : Type 0 where
    pub stands : StandsFor schema header entries bytes
    pub legal : IsLegal schema world user entries
    pub sizes : KeepsSizes schema user entries
    pub none : admitted schema world user ≡ false → entries ≡ []

  -- the bytes open a desk with a beginning of these entries that has at least so many
  pub record OpensWithin (header : List ℕ) (least : ℕ) (entries : History) (bytes : List ℕ) :
      Type 0 where
    pub count : ℕ
    pub enough : least ≤ count
    pub opens : Opens header (take count entries) bytes

  -- Behind these items a record is refused for this reason, and for none that stands before it: its
  -- text isn't a sentence; its text or its sentence is beyond the limits; it was asked, and the
  -- rule gives another mark than the stored one; or it was added, and isn't safe.
  abbrev pub RefusesRecord : History → Recorded → DeskError → Type 0
  RefusesRecord before next (Stale number) =
      (number ≡ length before) × (why : Refusal) × (reading schema next.1 ≡ Err why)
  RefusesRecord before next (Size number) =
      (number ≡ length before) × (query : Formula) × (reading schema next.1 ≡ Ok query)
      × (mark : Mark) × (mark_of next.0 ≡ Some mark)
      × (is_beyond schema user before (purpose_by mark) (length next.1) query ≡ true)
  RefusesRecord before next (Unlawful number stored computed) =
      (number ≡ length before) × (query : Formula) × (reading schema next.1 ≡ Ok query)
      × (is_beyond schema user before Asking (length next.1) query ≡ false)
      × (mark_of next.0 ≡ Some stored) × (is_added stored ≡ false)
      × (computed ≡ mark_after schema world user before query) × (stored ≢ computed)
  RefusesRecord before next (Unsafe number) =
      (number ≡ length before) × (secret : Formula) × (reading schema next.1 ≡ Ok secret)
      × (is_beyond schema user before Protecting (length next.1) secret ≡ false)
      × (mark_of next.0 ≡ Some Protected) × (safe_after schema user before secret ≡ false)
  RefusesRecord before next why = ⊥

  -- of these records one is refused for this reason, and those before it stand for a legal history
  -- within the limits
  pub record RefusesRecords (all : List Recorded) (why : DeskError) : Type 0 where
    pub read : List Recorded
    pub next : Recorded
    pub rest : List Recorded
    pub before : History
    pub split : all ≡ read ++ next ∷ rest
    pub are : map (entry_of schema) read ≡ map Some before
    pub legal : IsLegal schema world user before
    pub sizes : KeepsSizes schema user before
    pub refused : RefusesRecord before next why

  -- The bytes show this reason to refuse them, and none that stands before it: those of the journal
  -- come first; then that a user has records who isn't admitted; then the first record that is
  -- refused.
  abbrev pub Refuses : List ℕ → List ℕ → DeskError → Type 0
  Refuses header bytes (Journal why) = journal.Refuses header bytes why
  Refuses header bytes (NotAdmitted admission) =
      IsJournal header (records bytes) bytes × (admitted schema world user ≡ false)
      × (admission ≡ admission_of schema world user) × (records bytes ≢ [])
  Refuses header bytes why = IsJournal header (records bytes) bytes
      × (admitted schema world user ≡ true) × RefusesRecords (records bytes) why

  -- why a desk is sealed: a fault of the disk, whose count of faults rose, or the bytes, where
  -- clauses are told of them
  abbrev pub IsSealedBy : Type 0 → List ℕ → List ℕ → ℕ → ℕ → DeskError → Type 0
  IsSealedBy told header bytes before now (Journal Memory) = ⊥
  IsSealedBy told header bytes before now (Journal DiskFault) = Rose before now
  IsSealedBy told header bytes before now why = told → Refuses header bytes why

  -- The standing of a desk that was opened from these bytes with these entries. Only of a user who
  -- is admitted, or has no entry, are the bytes not refused.
  abbrev pub IsStanding : Type 0 → List ℕ → List ℕ → History → ℕ → ℕ → Standing → Type 0
  IsStanding told header bytes entries before now Open =
      (admitted schema world user ≡ true) × (told → Opens header entries bytes)
  IsStanding told header bytes entries before now (Closed admission) =
      (admitted schema world user ≡ false) × (admission ≡ admission_of schema world user)
      × (entries ≡ []) × (told → Opens header entries bytes)
  IsStanding told header bytes entries before now (Sealed why) =
      (entries ≡ []) × IsSealedBy told header bytes before now why

  -- The standing and the entries of a desk whose journal has these records. Of a user who isn't
  -- admitted none is looked at.
  abbrev pub IsReplay : List Recorded → History → Standing → Type 0
  IsReplay all entries Open =
      (admitted schema world user ≡ true) × (map (entry_of schema) all ≡ map Some entries)
  IsReplay all entries (Closed admission) = (admitted schema world user ≡ false)
      × (admission ≡ admission_of schema world user) × (entries ≡ []) × (all ≡ [])
  IsReplay all entries (Sealed (NotAdmitted admission)) = (entries ≡ [])
      × (admitted schema world user ≡ false) × (admission ≡ admission_of schema world user)
      × (all ≢ [])
  IsReplay all entries (Sealed why) =
      (entries ≡ []) × (admitted schema world user ≡ true) × RefusesRecords all why

-- whatever bytes a disk has, they open a desk with some entries, or with none
abbrev pub OpensOrNot : Type 0
OpensOrNot =
    (schema : DatabaseSchema) (world : FactSet) (user : UserProfile) (header bytes : List ℕ)
    → ((entries : History) × Opens schema world user header entries bytes)
    ⊎ ((entries : History) → Opens schema world user header entries bytes → ⊥)

-- the entries that bytes open a desk with are one list
abbrev pub OpensOnce : Type 0
OpensOnce =
    (schema : DatabaseSchema) (world : FactSet) (user : UserProfile) (header : List ℕ)
    (first second : History) (bytes : List ℕ)
    → Opens schema world user header first bytes → Opens schema world user header second bytes
    → first ≡ second

-- bytes that open a desk show no reason to refuse them
abbrev pub OpensUnrefused : Type 0
OpensUnrefused =
    (schema : DatabaseSchema) (world : FactSet) (user : UserProfile) (header : Header)
    (bytes : List ℕ) (entries : History) (why : DeskError)
    → Opens schema world user (journal.header_bytes header) entries bytes
    → Refuses schema world user (journal.header_bytes header) bytes why → ⊥

-- bytes that stand for a beginning of a legal history within the limits, which is empty where the
-- user isn't admitted, open a desk with that beginning
abbrev pub OpensWhereStands : Type 0
OpensWhereStands =
    (schema : DatabaseSchema) (world : FactSet) (user : UserProfile) (header : List ℕ) (least : ℕ)
    (entries : History) (bytes : List ℕ)
    → StandsWithin schema header least entries bytes → IsLegal schema world user entries
    → KeepsSizes schema user entries → (admitted schema world user ≡ false → entries ≡ [])
    → OpensWithin schema world user header least entries bytes
