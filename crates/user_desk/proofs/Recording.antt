-- What the append of an entry makes of a desk.
use Rattle.std.proofs.Common.{◌≡◌, ℕ, ◌≤◌, Bool, true, false, List, [], ◌∷◌, ◌++◌, length, sym, ap, ◌∙◌, subst, inl, inr, ⊎_elim, arith}
use Rattle.std.specs.Prelude.{Option, Some, None, Ok, is_some}
use Rattle.std.proofs.lemmas.List.{append-nil}
use Rattle.cqe_base.specs.declared.user.Mark.{Mark}
use Rattle.cqe_base.specs.declared.user.Purpose.{Purpose}
use Rattle.cqe_base.specs.Schema.{DatabaseSchema, Text}
use Rattle.cqe_base.specs.Facts.{FactSet}
use Rattle.cqe_base.specs.Formula.{Formula}
use Rattle.cqe_base.specs.Reading.{reading}
use Rattle.cqe_base.specs.History.{UserProfile, AnsweredQuery, History}
use Rattle.cqe_base.specs.Censor.{IsLegal, admitted}
use Rattle.cqe_base.specs.Limits.{KeepsSizes}
use Rattle.cqe_base.specs.Run.{stop, after_event}
use Rattle.log_journal.specs.Records.{Recorded, Adds, KeepsOrAdds}
use Rattle.user_log.specs.Asked.{IsAnswer}
use Rattle.user_desk.specs.Entries.{mark_of, entry_of, StandsFor}
use Rattle.user_desk.specs.Standings.{standing_of, is_open, is_sealed}
use Rattle.user_desk.specs.Kept.{IsConsistentDesk}
use Rattle.user_desk.specs.Lives.{shown, Holds, AddsNone}
use Rattle.user_desk.specs.declared.standing.Standing.{Standing}
use Rattle.user_desk.specs.declared.standing.Standing.TheVariants.{Open}
use Rattle.user_desk.proofs.Bytes.{stands_more, stands_either, within_more, within_all}
use Rattle.user_desk.proofs.Refusing.{entry_is}
use Rattle.user_desk.proofs.Asking.{stop_keeps, stop_leaves, stop_holds, entry_of_answer}
use Rattle.user_desk.proofs.Restarting.{holds_image, stands_image}
use Rattle.user_desk.proofs.Keeping.{kept_open}

-- the entry that a record of the text and of the mark's kind stands for
pub record_of_answer : (schema : DatabaseSchema) (text bytes : Text) (query : Formula) (mark : Mark) (kind : ℕ) → bytes ≡ text → mark_of kind ≡ Some mark
    → reading schema text ≡ Ok query
    → entry_of schema (kind, bytes) ≡ Some (record { query = query; mark = mark; length = length text })
record_of_answer schema text bytes query mark kind same back read =
    ap (λ t. entry_of schema (kind, t)) same ∙ entry_is text (mark_of kind) (reading schema text) mark query back read

-- entries with one more, at an equal log
pub legal_back : (schema schema' : DatabaseSchema) (world world' : FactSet) (user user' : UserProfile) (entries entries' : History)
    (entry entry' : AnsweredQuery) → schema' ≡ schema → world' ≡ world → user' ≡ user → entries' ≡ entries → entry' ≡ entry
    → IsLegal schema' world' user' (entries' ++ entry' ∷ []) → IsLegal schema world user (entries ++ entry ∷ [])
legal_back schema schema' world world' user user' entries entries' entry entry' s w u h e legal =
    subst (λ x. IsLegal x world user (entries ++ entry ∷ [])) s
    (subst (λ x. IsLegal schema' x user (entries ++ entry ∷ [])) w
    (subst (λ x. IsLegal schema' world' x (entries ++ entry ∷ [])) u
    (subst (λ (x : History). IsLegal schema' world' user' (x ++ entry ∷ [])) h (subst (λ x. IsLegal schema' world' user' (entries' ++ x ∷ [])) e legal))))

pub sizes_back : (schema schema' : DatabaseSchema) (user user' : UserProfile) (entries entries' : History) (entry entry' : AnsweredQuery) → schema' ≡ schema
    → user' ≡ user → entries' ≡ entries → entry' ≡ entry
    → KeepsSizes schema' user' (entries' ++ entry' ∷ []) → KeepsSizes schema user (entries ++ entry ∷ [])
sizes_back schema schema' user user' entries entries' entry entry' s u h e sizes =
    subst (λ x. KeepsSizes x user (entries ++ entry ∷ [])) s
    (subst (λ x. KeepsSizes schema' x (entries ++ entry ∷ [])) u
    (subst (λ (x : History). KeepsSizes schema' user' (x ++ entry ∷ [])) h (subst (λ x. KeepsSizes schema' user' (entries' ++ x ∷ [])) e sizes)))

-- of a call where nothing was written
pub still_holds : (told : Type 0) (image : List ℕ → Type 0) (schema : DatabaseSchema) (world : FactSet) (user : UserProfile) (header : List ℕ)
    (standing : Standing) (entries : History) (in_flight : Option AnsweredQuery) (has_journal has_failed : Bool)
    → IsConsistentDesk told image schema world user header standing entries in_flight has_journal has_failed → IsLegal schema world user entries
    → KeepsSizes schema user entries → (purpose : Purpose) (text : Text) → is_sealed standing ≡ false → in_flight ≡ None
    → told → (c : List ℕ) → image c
    → Holds schema world user header (after_event schema world user (shown entries (standing_of standing) in_flight) (stop purpose text)) c
still_holds told image schema world user header standing entries in_flight has_journal has_failed kept legal sizes purpose text served idle is c here =
    stop_keeps schema world user header (shown entries (standing_of standing) in_flight) purpose text c idle
    (holds_image schema world user told image header standing entries in_flight has_journal has_failed kept legal sizes is served c here)

-- the same where the text adds no entry
pub code_holds : (told : Type 0) (image : List ℕ → Type 0) (schema : DatabaseSchema) (world : FactSet) (user : UserProfile) (header : List ℕ)
    (standing : Standing) (entries : History) (in_flight : Option AnsweredQuery) (has_journal has_failed : Bool)
    → IsConsistentDesk told image schema world user header standing entries in_flight has_journal has_failed → IsLegal schema world user entries
    → KeepsSizes schema user entries → (purpose : Purpose) (text : Text) → is_sealed standing ≡ false
    → AddsNone schema world user (shown entries (standing_of standing) in_flight)
    → told → (c : List ℕ) → image c
    → Holds schema world user header (after_event schema world user (shown entries (standing_of standing) in_flight) (stop purpose text)) c
code_holds told image schema world user header standing entries in_flight has_journal has_failed kept legal sizes purpose text served none is c here =
    stop_leaves schema world user header (shown entries (standing_of standing) in_flight) purpose text c (none purpose text)
    (holds_image schema world user told image header standing entries in_flight has_journal has_failed kept legal sizes is served c here)

-- an open desk, an entry that is lawful behind its own, and the record of that entry
pub record IsGrowing (told : Type 0) (image : List ℕ → Type 0) (schema : DatabaseSchema) (world : FactSet) (user : UserProfile) (header : List ℕ)
    (standing : Standing) (entries : History) (in_flight : Option AnsweredQuery)
    (entry : AnsweredQuery) (next : Recorded) (bytes : List ℕ) : Type 0 where
  pub opened : standing ≡ Open
  pub idle : in_flight ≡ None
  pub admits : admitted schema world user ≡ true
  pub legal : IsLegal schema world user entries
  pub sizes : KeepsSizes schema user entries
  pub legal_more : IsLegal schema world user (entries ++ entry ∷ [])
  pub sizes_more : KeepsSizes schema user (entries ++ entry ∷ [])
  pub stands : told → StandsFor schema header entries bytes
  pub is : entry_of schema next ≡ Some entry

pub growing : (told : Type 0) (image : List ℕ → Type 0) (schema : DatabaseSchema) (world : FactSet) (user : UserProfile) (header : List ℕ) (standing : Standing)
    (entries : History) (in_flight : Option AnsweredQuery) (has_journal has_failed : Bool)
    (entry : AnsweredQuery) (next : Recorded) (bytes : List ℕ)
    → IsConsistentDesk told image schema world user header standing entries in_flight has_journal has_failed
    → standing ≡ Open → in_flight ≡ None
    → IsLegal schema world user entries → KeepsSizes schema user entries → IsLegal schema world user (entries ++ entry ∷ [])
    → KeepsSizes schema user (entries ++ entry ∷ []) → (told → image bytes) → entry_of schema next ≡ Some entry
    → IsGrowing told image schema world user header standing entries in_flight entry next bytes
growing told image schema world user header standing entries in_flight has_journal has_failed entry next bytes kept opened idle legal sizes legal_more
    sizes_more read is = record {
      opened = opened;
      idle = idle;
      admits = kept.admits (ap is_open opened);
      legal = legal;
      sizes = sizes;
      legal_more = legal_more;
      sizes_more = sizes_more;
      stands = λ told_is.
          stands_image schema world user told image header standing entries in_flight has_journal has_failed kept told_is (ap is_sealed opened)
          (ap (λ (o : Option AnsweredQuery). is_some o) idle) bytes (read told_is);
      is = is;
    }

module _ {told : Type 0} {image : List ℕ → Type 0} {schema : DatabaseSchema} {world : FactSet} {user : UserProfile} {header : List ℕ} {standing : Standing}
    {entries : History} {in_flight : Option AnsweredQuery} {entry : AnsweredQuery} {next : Recorded} {bytes : List ℕ}
    (grows : IsGrowing told image schema world user header standing entries in_flight entry next bytes) where
  -- the entry is added
  pub kept_added : (image' : List ℕ → Type 0) (schema' : DatabaseSchema) (world' : FactSet) (user' : UserProfile) (entries' : History)
      (has_journal has_failed : Bool) → schema' ≡ schema → world' ≡ world → user' ≡ user → entries' ≡ entries ++ entry ∷ []
      → has_journal ≡ true → has_failed ≡ false → (told → (c : List ℕ) → image' c → Adds bytes next c)
      → IsConsistentDesk told image' schema' world' user' header standing entries' in_flight has_journal has_failed
  kept_added image' schema' world' user' entries' has_journal has_failed s w u h journal whole adds =
      subst (λ x. IsConsistentDesk told image' x world' user' header standing entries' in_flight has_journal has_failed) (sym s)
      (subst (λ x. IsConsistentDesk told image' schema x user' header standing entries' in_flight has_journal has_failed) (sym w)
      (subst (λ x. IsConsistentDesk told image' schema world x header standing entries' in_flight has_journal has_failed) (sym u)
      (subst (λ x. IsConsistentDesk told image' schema world user header standing x in_flight has_journal has_failed) (sym h)
      (subst (λ x. IsConsistentDesk told image' schema world user header standing (entries ++ entry ∷ []) x has_journal has_failed) (sym grows.idle)
      (kept_open told image' schema world user header standing (entries ++ entry ∷ []) None has_journal has_failed grows.opened grows.admits
      (subst (λ x. IsLegal schema world user x) (sym (append-nil (entries ++ entry ∷ []))) grows.legal_more)
      (subst (λ x. KeepsSizes schema user x) (sym (append-nil (entries ++ entry ∷ []))) grows.sizes_more)
      journal whole
      (λ told_is c here.
      within_more schema header (entries ++ entry ∷ []) [] c
      (stands_more schema header entries next entry bytes c grows.is (grows.stands told_is) (adds told_is c here))))))))

  -- the entry is in flight
  pub kept_flying : (image' : List ℕ → Type 0) (schema' : DatabaseSchema) (world' : FactSet) (user' : UserProfile) (entries' : History) (entry' : AnsweredQuery)
      (has_journal has_failed : Bool) → schema' ≡ schema → world' ≡ world → user' ≡ user → entries' ≡ entries → entry' ≡ entry
      → has_journal ≡ true → has_failed ≡ true → (told → (c : List ℕ) → image' c → KeepsOrAdds bytes next c)
      → IsConsistentDesk told image' schema' world' user' header standing entries' (Some entry') has_journal has_failed
  kept_flying image' schema' world' user' entries' entry' has_journal has_failed s w u h e journal broken either =
      subst (λ x. IsConsistentDesk told image' x world' user' header standing entries' (Some entry') has_journal has_failed) (sym s)
      (subst (λ x. IsConsistentDesk told image' schema x user' header standing entries' (Some entry') has_journal has_failed) (sym w)
      (subst (λ x. IsConsistentDesk told image' schema world x header standing entries' (Some entry') has_journal has_failed) (sym u)
      (subst (λ x. IsConsistentDesk told image' schema world user header standing x (Some entry') has_journal has_failed) (sym h)
      (subst (λ x. IsConsistentDesk told image' schema world user header standing entries (Some x) has_journal has_failed) (sym e)
      (kept_open told image' schema world user header standing entries
      (Some entry) has_journal has_failed grows.opened grows.admits grows.legal_more grows.sizes_more journal broken
      (λ told_is c here. ⊎_elim
      (λ stands. within_more schema header entries (entry ∷ []) c stands)
      (λ stands. within_all schema header (entries ++ entry ∷ []) (length entries) c (more entries) stands)
      (stands_either schema header entries next entry bytes c grows.is (grows.stands told_is) (either told_is c here))))))))
    where
      more : (xs : History) → length xs ≤ length (xs ++ entry ∷ [])
      more [] = omega arith
      more (x ∷ xs) = let rest = more xs in omega arith

  no_one : (h : History) → admitted schema world user ≡ false → h ≡ []
  no_one h isnt = let e : true ≡ false = sym grows.admits ∙ isnt in absurd cc

  -- at each moment of the append
  pub moment_holds : (purpose : Purpose) (text : Text) (query : Formula) (mark : Mark) → IsAnswer schema world user entries purpose text query mark
      → entry ≡ record {
        query =
            query;
        mark = mark;
        length = length text;
      } → told → (c : List ℕ) → KeepsOrAdds bytes next c
      → Holds schema world user header (after_event schema world user (shown entries (standing_of standing) in_flight) (stop purpose text)) c
  moment_holds purpose text query mark answer is_entry told_is c either =
      let state = shown entries (standing_of standing) in_flight in
      let found = entry_of_answer schema world user state purpose text query mark (ap standing_of grows.opened)
      (ap (λ (o : Option AnsweredQuery). is_some o) grows.idle) answer in
      stop_holds schema world user header state purpose text entry c (found.1 ∙ ap (λ x. Some x) (sym is_entry))
      (⊎_elim
      (λ stands. inl (record { stands = stands; legal = grows.legal; sizes = grows.sizes; none = λ isnt. no_one entries isnt }))
      (λ stands. inr (record { stands = stands; legal = grows.legal_more; sizes = grows.sizes_more; none = λ isnt. no_one (entries ++ entry ∷ []) isnt }))
      (stands_either schema header entries next entry bytes c grows.is (grows.stands told_is) either))
