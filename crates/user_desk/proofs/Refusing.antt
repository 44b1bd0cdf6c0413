-- Bytes that open a desk aren't refused, and what going through the records shows of them.
use Rattle.std.proofs.Common.{◌≡◌, ℕ, ◌≤◌, ◌<◌, Bool, true, false, ◌||◌, List, [], ◌∷◌, ◌++◌, length, map, refl, sym, ap, ◌∙◌, subst, ⊎_elim, arith}
use Rattle.std.proofs.Common.{length-append}
use Rattle.std.specs.Prelude.{Option, Some, None, Result, Ok, Err}
use Rattle.std.proofs.lemmas.Grind.{common_steps}
use Rattle.std.proofs.lemmas.List.{map-append}
use Rattle.std.proofs.lemmas.Bool.Decides.{nat_tests}
use Rattle.cqe_base.specs.declared.user.Mark.{Mark}
use Rattle.cqe_base.specs.declared.user.Mark.TheVariants.{Yes, No, Refused, Undecided, Protected}
use Rattle.cqe_base.specs.declared.user.Purpose.TheVariants.{Asking}
use Rattle.cqe_base.specs.Schema.{DatabaseSchema, Text}
use Rattle.cqe_base.specs.Facts.{FactSet}
use Rattle.cqe_base.specs.Formula.{Formula}
use Rattle.cqe_base.specs.Reading.{Refusal, reading}
use Rattle.cqe_base.specs.History.{UserProfile, AnsweredQuery, History, is_added}
use Rattle.cqe_base.specs.Censor.{IsLegalItem, IsLegal, mark_after, safe_after, admitted}
use Rattle.cqe_base.specs.Limits.{KeepsSizes, KeepsSizesAt}
use Rattle.cqe_base.specs.Run.{is_full, is_too_large, is_too_large_secret, has_all_secrets}
use Rattle.outside.specs.Faults.{Rose}
use Rattle.log_journal.specs.Records.{Recorded, IsJournal}
use Rattle.log_journal.specs.Walk.{records}
use Rattle.log_journal.proofs.Refusals.{unrefused}
use Rattle.log_journal.specs.Opening as journal
use Rattle.log_journal.specs.Opening.{header_bytes}
use Rattle.log_journal.specs.declared.header.Header.{Header}
use Rattle.log_journal.specs.declared.header.OpenError.TheVariants.{NotAJournal, OtherPolicy, Damaged, DiskFault, Memory, OldVersion}
use Rattle.user_desk.specs.Entries.{mark_of, purpose_by, entry_by, entry_of}
use Rattle.user_desk.specs.Causes.{Opens, is_beyond, RefusesRecord, RefusesRecords, Refuses, IsSealedBy, IsStanding, IsReplay}
use Rattle.user_desk.specs.declared.standing.DeskError.{DeskError}
use Rattle.user_desk.specs.declared.standing.DeskError.TheVariants.{Journal, Stale, Unlawful, Size, NotAdmitted, Unsafe}
use Rattle.user_desk.specs.declared.standing.Standing.{Standing}
use Rattle.user_desk.specs.declared.standing.Standing.TheVariants.{Open, Closed, Sealed}
use Rattle.user_desk.proofs.Bytes.{records_are}

-- ---- one record

-- what an entry shows of its record
pub record IsEntryOf (text : Text) (mark : Option Mark) (read : Result Formula Refusal) (entry : AnsweredQuery) : Type 0 where
  pub marks : mark ≡ Some entry.mark
  pub reads : read ≡ Ok entry.query
  pub size : entry.length ≡ length text

pub entry_shows : (text : Text) (mark : Option Mark) (read : Result Formula Refusal) (entry : AnsweredQuery) → entry_by text mark read ≡ Some entry
    → IsEntryOf text mark read entry
entry_shows text (Some mark) (Ok query) entry e =
    let made : AnsweredQuery = record { query = query; mark = mark; length = length text } in
    let same : made ≡ entry = cc in
    record {
      marks = ap (λ (x : AnsweredQuery). Some x.mark) same;
      reads = ap (λ (x : AnsweredQuery). let read : Result Formula Refusal = Ok x.query in
          read) same;
      size = sym (ap (λ (x : AnsweredQuery). x.length) same);
    }
entry_shows text (Some mark) (Err why) entry e = absurd cc
entry_shows text None (Ok query) entry e = absurd cc
entry_shows text None (Err why) entry e = absurd cc

pub entry_is : (text : Text) (marks : Option Mark) (read : Result Formula Refusal) (mark : Mark) (query : Formula) → marks ≡ Some mark → read ≡ Ok query
    → entry_by text marks read ≡ Some (record { query = query; mark = mark; length = length text })
entry_is text marks read mark query is reads = ap (λ m. entry_by text m read) is ∙ ap (λ r. entry_by text (Some mark) r) reads

same_ok : (read : Result Formula Refusal) (a b : Formula) → read ≡ Ok a → read ≡ Ok b → a ≡ b
same_ok read a b is other = same_in_ok (sym is ∙ other)
  where
    same_in_ok : (let left : Result Formula Refusal = Ok a in left) ≡ Ok b → a ≡ b
    same_in_ok e = cc

same_some : (marks : Option Mark) (a b : Mark) → marks ≡ Some a → marks ≡ Some b → a ≡ b
same_some marks a b is other = let e : Some a ≡ Some b = sym is ∙ other in cc

no_err : (read : Result Formula Refusal) (query : Formula) (why : Refusal) → read ≡ Ok query → read ≡ Err why → ⊥
no_err read query why is other = let e : Ok query ≡ Err why = sym is ∙ other in cc

no_true : (b : Bool) → b ≡ false → b ≡ true → ⊥
no_true b isnt is = let e : false ≡ true = sym isnt ∙ is in cc

module _ (schema : DatabaseSchema) (world : FactSet) (user : UserProfile) where
  -- the limits let an item through that was asked
  fits_asked : (before : History) (entry : AnsweredQuery) → KeepsSizesAt schema user before entry
      → is_beyond schema user before Asking entry.length entry.query ≡ false
  fits_asked before entry sizes = ap (λ b. b || is_too_large schema user before entry.query) sizes.room ∙ sizes.small

  -- the limits let an item through, by what its call was made for
  fits_by : (before : History) (entry : AnsweredQuery) (mark : Mark) → KeepsSizesAt schema user before entry → entry.mark ≡ mark
      → is_beyond schema user before (purpose_by mark) entry.length entry.query ≡ false
  fits_by before entry Yes sizes is = fits_asked before entry sizes
  fits_by before entry No sizes is = fits_asked before entry sizes
  fits_by before entry Refused sizes is = fits_asked before entry sizes
  fits_by before entry Undecided sizes is = fits_asked before entry sizes
  fits_by before entry Protected sizes is =
      ap (λ b. b || (is_too_large_secret schema user before entry.query || has_all_secrets user before)) sizes.room
      ∙ ap (λ b. b || has_all_secrets user before) (sizes.small_secret (ap is_added is)) ∙ sizes.secret_room (ap is_added is)

  fits : (before : History) (text : Text) (entry : AnsweredQuery) (query : Formula) (mark : Mark) → KeepsSizesAt schema user before entry
      → entry.length ≡ length text → query ≡ entry.query → entry.mark ≡ mark
      → is_beyond schema user before (purpose_by mark) (length text) query ≡ false
  fits before text entry query mark sizes size same is =
      (λ k. is_beyond schema user before (purpose_by mark) (sym size k) (same k)) ∙ fits_by before entry mark sizes is

  -- the record of a lawful item isn't refused
  lawful : (before : History) (next : Recorded) (entry : AnsweredQuery) (why : DeskError) → entry_of schema next ≡ Some entry
      → IsLegalItem schema world user before entry → KeepsSizesAt schema user before entry
      → RefusesRecord schema world user before next why → ⊥
  lawful before next entry (Stale number) is legal sizes refused =
      let shows = entry_shows next.1 (mark_of next.0) (reading schema next.1) entry is in
      no_err (reading schema next.1) entry.query refused.1 shows.reads refused.2
  lawful before next entry (Size number) is legal sizes refused =
      let shows = entry_shows next.1 (mark_of next.0) (reading schema next.1) entry is in
      let same = same_ok (reading schema next.1) refused.1 entry.query refused.2 shows.reads in
      let marked = same_some (mark_of next.0) entry.mark refused.3 shows.marks refused.4 in
      no_true (is_beyond schema user before (purpose_by refused.3) (length next.1) refused.1)
      (fits before next.1 entry refused.1 refused.3 sizes shows.size same marked) refused.5
  lawful before next entry (Unlawful number stored computed) is legal sizes refused =
      let shows = entry_shows next.1 (mark_of next.0) (reading schema next.1) entry is in
      let same = same_ok (reading schema next.1) refused.1 entry.query refused.2 shows.reads in
      let is_stored = same_some (mark_of next.0) stored entry.mark refused.4 shows.marks in
      let marks = legal.has_mark (ap is_added (sym is_stored) ∙ refused.5) in
      refused.7 (is_stored ∙ marks ∙ ap (λ q. mark_after schema world user before q) (sym same) ∙ sym refused.6)
  lawful before next entry (Unsafe number) is legal sizes refused =
      let shows = entry_shows next.1 (mark_of next.0) (reading schema next.1) entry is in
      let same = same_ok (reading schema next.1) refused.1 entry.query refused.2 shows.reads in
      let added : entry.mark ≡ Protected = same_some (mark_of next.0) entry.mark Protected shows.marks refused.4 in
      no_true (safe_after schema user before refused.1) refused.5
      (ap (λ s. safe_after schema user before s) same ∙ legal.is_safe (ap is_added added))
  lawful before next entry (Journal why) is legal sizes refused = refused
  lawful before next entry (NotAdmitted admission) is legal sizes refused = refused

-- ---- a list of records

-- where entries and a record stand in a list of entries
split_entries : (before : History) (next : Option AnsweredQuery) (rest : List (Option AnsweredQuery)) (entries : History)
    → map Some before ++ next ∷ rest ≡ map Some entries
    → (entry : AnsweredQuery) × (after : History) × (entries ≡ before ++ entry ∷ after) × (next ≡ Some entry)
split_entries [] next rest [] e = absurd cc
split_entries [] next rest (x ∷ entries) e = let is : next ≡ Some x = cc in (x, entries, refl, is)
split_entries (b ∷ before) next rest [] e = absurd cc
split_entries (b ∷ before) next rest (x ∷ entries) e =
    let heads : b ≡ x = cc in
    let tails : map Some before ++ next ∷ rest ≡ map Some entries = cc in
    let found = split_entries before next rest entries tails in
    (found.0, found.1, ap (λ h. h ∷ entries) (sym heads) ∙ ap (λ t. b ∷ t) found.2, found.3)

module _ (schema : DatabaseSchema) (world : FactSet) (user : UserProfile) where
  -- records of a legal history within the limits aren't refused
  all_lawful : (all : List Recorded) (entries : History) (why : DeskError) → map (entry_of schema) all ≡ map Some entries → IsLegal schema world user entries
      → KeepsSizes schema user entries → RefusesRecords schema world user all why → ⊥
  all_lawful all entries why are legal sizes refused =
      let f = entry_of schema in
      let joined : map Some refused.before ++ f refused.next ∷ map f refused.rest ≡ map Some entries =
      ap (λ l. l ++ f refused.next ∷ map f refused.rest) (sym refused.are) ∙ sym (map-append f refused.read (refused.next ∷ refused.rest))
      ∙ ap (λ l. map f l) (sym refused.split) ∙ are in
      let found = split_entries refused.before (f refused.next) (map f refused.rest) entries joined in
      lawful schema world user refused.before refused.next found.0 why found.3 (legal refused.before found.0 found.1 found.2)
      (sizes refused.before found.0 found.1 found.2) refused.refused

  -- ---- bytes

  no_records : (all : List Recorded) (entries : History) → map (entry_of schema) all ≡ map Some entries → entries ≡ [] → all ≡ []
  no_records [] entries are none = refl
  no_records (one ∷ all) [] are none = absurd cc
  no_records (one ∷ all) (x ∷ entries) are none = absurd cc

  -- bytes that open a desk show no reason to refuse them
  pub not_refused : (header : Header) (bytes : List ℕ) (entries : History) (why : DeskError) → Opens schema world user (header_bytes header) entries bytes
      → Refuses schema world user (header_bytes header) bytes why → ⊥
  not_refused header bytes entries (Journal why) opens refused =
      unrefused 5 (header_bytes header) (records bytes) bytes (opens.stands.journal, opens.stands.journal.each) why refused
  not_refused header bytes entries (NotAdmitted admission) opens refused =
      refused.3 (no_records (records bytes) entries opens.stands.are (opens.none refused.1))
  not_refused header bytes entries (Stale number) opens refused =
      all_lawful (records bytes) entries (Stale number) opens.stands.are opens.legal opens.sizes refused.2
  not_refused header bytes entries (Size number) opens refused =
      all_lawful (records bytes) entries (Size number) opens.stands.are opens.legal opens.sizes refused.2
  not_refused header bytes entries (Unlawful number stored computed) opens refused =
      all_lawful (records bytes) entries (Unlawful number stored computed) opens.stands.are opens.legal opens.sizes refused.2
  not_refused header bytes entries (Unsafe number) opens refused =
      all_lawful (records bytes) entries (Unsafe number) opens.stands.are opens.legal opens.sizes refused.2

  -- where they open a desk, only a fault of the disk seals it
  pub sealed_by_fault : (told : Type 0) (header : Header) (bytes : List ℕ) (entries : History) (before now : ℕ) (why : DeskError) → told
      → Opens schema world user (header_bytes header) entries bytes → IsSealedBy schema world user told (header_bytes header) bytes before now why
      → Rose before now
  sealed_by_fault told header bytes entries before now (Journal Memory) is opens sealed = absurd sealed
  sealed_by_fault told header bytes entries before now (Journal DiskFault) is opens sealed = sealed
  sealed_by_fault told header bytes entries before now (Journal NotAJournal) is opens sealed =
      absurd (not_refused header bytes entries (Journal NotAJournal) opens (sealed is))
  sealed_by_fault told header bytes entries before now (Journal OtherPolicy) is opens sealed =
      absurd (not_refused header bytes entries (Journal OtherPolicy) opens (sealed is))
  sealed_by_fault told header bytes entries before now (Journal (Damaged number)) is opens sealed =
      absurd (not_refused header bytes entries (Journal (Damaged number)) opens (sealed is))
  sealed_by_fault told header bytes entries before now (Journal OldVersion) is opens sealed =
      absurd (not_refused header bytes entries (Journal OldVersion) opens (sealed is))
  sealed_by_fault told header bytes entries before now (NotAdmitted admission) is opens sealed =
      absurd (not_refused header bytes entries (NotAdmitted admission) opens (sealed is))
  sealed_by_fault told header bytes entries before now (Stale number) is opens sealed =
      absurd (not_refused header bytes entries (Stale number) opens (sealed is))
  sealed_by_fault told header bytes entries before now (Size number) is opens sealed = absurd (not_refused header bytes entries (Size number) opens (sealed is))
  sealed_by_fault told header bytes entries before now (Unlawful number stored computed) is opens sealed =
      absurd (not_refused header bytes entries (Unlawful number stored computed) opens (sealed is))
  sealed_by_fault told header bytes entries before now (Unsafe number) is opens sealed =
      absurd (not_refused header bytes entries (Unsafe number) opens (sealed is))

  -- ---- from the records to the standing

  true_no : (b : Bool) → b ≡ true → b ≡ false → {A : Type 0} → A
  true_no b is isnt = absurd (no_true b isnt is)

  journal_of : (header : List ℕ) (bytes : List ℕ) (all : List Recorded) → IsJournal header all bytes → IsJournal header (records bytes) bytes
  journal_of header bytes all is = subst (λ l. IsJournal header l bytes) (sym (records_are header all bytes is)) is

  opens_of : (header : List ℕ) (bytes : List ℕ) (all : List Recorded) (entries : History) → IsJournal header all bytes
      → map (entry_of schema) all ≡ map Some entries → IsLegal schema world user entries → KeepsSizes schema user entries
      → (admitted schema world user ≡ false → entries ≡ []) → Opens schema world user header entries bytes
  opens_of header bytes all entries is are legal sizes none = record {
    stands = record { journal = journal_of header bytes all is; are = ap (λ l. map (entry_of schema) l) (records_are header all bytes is) ∙ are };
    legal = legal;
    sizes = sizes;
    none = none;
  }

  -- what was found of the records gives the standing
  pub standing_from : (told : Type 0) (header : List ℕ) (bytes : List ℕ) (all : List Recorded) (entries : History) (before now : ℕ) (standing : Standing)
      → (told → IsJournal header all bytes)
      → IsLegal schema world user entries → KeepsSizes schema user entries → IsReplay schema world user all entries standing
      → IsStanding schema world user told header bytes entries before now standing
  standing_from told header bytes all entries before now Open journal legal sizes replay =
      (replay.0, λ is. opens_of header bytes all entries (journal is) replay.1 legal sizes (λ isnt. true_no (admitted schema world user) replay.0 isnt))
  standing_from told header bytes all entries before now (Closed admission) journal legal sizes replay = (
    replay.0,
    replay.1,
    replay.2,
    λ is. opens_of header bytes all entries (journal is) (ap (λ l. map (entry_of schema) l) replay.3
        ∙ ap (λ l. map Some l) (sym replay.2)) legal sizes (λ isnt. replay.2),
  )
  standing_from told header bytes all entries before now (Sealed (Journal why)) journal legal sizes replay = absurd replay.2.refused
  standing_from told header bytes all entries before now (Sealed (NotAdmitted admission)) journal legal sizes replay = (
    replay.0,
    λ is.
        (journal_of header bytes all (journal is), replay.1, replay.2, λ none. replay.3 (sym (records_are header all bytes (journal is)) ∙ none)),
  )
  standing_from told header bytes all entries before now (Sealed (Stale number)) journal legal sizes replay = (
    replay.0,
    λ is. (
      journal_of header bytes all (journal is),
      replay.1,
      subst (λ l. RefusesRecords schema world user l (Stale number)) (sym (records_are header all bytes (journal is))) replay.2,
    ),
  )
  standing_from told header bytes all entries before now (Sealed (Size number)) journal legal sizes replay = (
    replay.0,
    λ is. (
      journal_of header bytes all (journal is),
      replay.1,
      subst (λ l. RefusesRecords schema world user l (Size number)) (sym (records_are header all bytes (journal is))) replay.2,
    ),
  )
  standing_from told header bytes all entries before now (Sealed (Unlawful number stored computed)) journal legal sizes replay = (
    replay.0,
    λ is. (
      journal_of header bytes all (journal is),
      replay.1,
      subst (λ l. RefusesRecords schema world user l (Unlawful number stored computed)) (sym (records_are header all bytes (journal is))) replay.2,
    ),
  )
  standing_from told header bytes all entries before now (Sealed (Unsafe number)) journal legal sizes replay = (
    replay.0,
    λ is. (
      journal_of header bytes all (journal is),
      replay.1,
      subst (λ l. RefusesRecords schema world user l (Unsafe number)) (sym (records_are header all bytes (journal is))) replay.2,
    ),
  )

  -- ---- how many entries there are

  ends : (x : AnsweredQuery) (xs : History) → (before : History) × (last : AnsweredQuery) × (x ∷ xs ≡ before ++ last ∷ [])
  ends x [] = ([], x, refl)
  ends x (y ∷ ys) = let rest = ends y ys in (x ∷ rest.0, rest.1, ap (λ l. x ∷ l) rest.2)

  few_before : (before : History) (size : ℕ) → is_full before size ≡ false → length before < 4096
  few_before before size room = grind (arith, nat_tests, common_steps)

  -- a history within the limits has at most 4,096 entries
  pub few : (entries : History) → KeepsSizes schema user entries → length entries ≤ 4096
  few [] sizes = omega arith
  few (x ∷ xs) sizes =
      let split = ends x xs in
      let below = few_before split.0 split.1.length (sizes split.0 split.1 [] split.2).room in
      omega (arith, below, ap length split.2, length-append split.0 (split.1 ∷ []))
