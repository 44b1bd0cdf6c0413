-- What weighing the text of a record shows of it.
use Rattle.std.proofs.Common.{◌≡◌, ℕ, suc, ◌+◌, ◌<◌, Bool, true, false, ◌||◌, List, [], ◌∷◌, ◌++◌, length, map, take, drop, get_or, refl, sym, ap, ◌∙◌, subst}
use Rattle.std.proofs.Common.{add-one, drop-cons}
use Rattle.std.specs.Prelude.{Some, None, Result, Ok, Err, if◌then◌else◌, IsUtf8}
use Rattle.std.proofs.lemmas.List.{length-map, map-append, take-append-drop}
use Rattle.cqe_base.specs.declared.user.Mark.{Mark}
use Rattle.cqe_base.specs.declared.user.Mark.TheVariants.{Yes, No, Refused, Undecided, Protected}
use Rattle.cqe_base.specs.declared.user.Purpose.{Purpose}
use Rattle.cqe_base.specs.declared.user.Purpose.TheVariants.{Asking, Protecting}
use Rattle.cqe_base.specs.declared.user.Entry.{Entry}
use Rattle.cqe_base.specs.Schema.{DatabaseSchema, Text}
use Rattle.cqe_base.specs.Facts.{FactSet}
use Rattle.cqe_base.specs.Formula.{Formula}
use Rattle.cqe_base.specs.Reading.{Refusal, reading}
use Rattle.cqe_base.specs.History.{UserProfile, History, answered_query_of, is_added}
use Rattle.cqe_base.specs.Censor.{IsLegal, mark_after, safe_after, admitted}
use Rattle.cqe_base.specs.Limits.{KeepsSizes}
use Rattle.cqe_base.specs.Run
use Rattle.cqe_base.specs.Run.{is_full, is_too_large, is_too_large_secret, has_all_secrets, protection_by, reply_to, reply_by, standing_open, marked}
use Rattle.cqe_base.specs.Run.{no_sentence, history_full, too_large, unsafe_secret, entry_added}
use Rattle.sentence_text.specs.Laws.{SentencesAreAscii}
use Rattle.log_journal.specs.Records.{Recorded}
use Rattle.log_journal.specs.Opening.{recorded}
use Rattle.log_journal.specs.declared.header.Record.{Record}
use Rattle.user_log.specs.Asked.{open_reply, IsAnswer}
use Rattle.user_log.specs.Replies.{reply_of}
use Rattle.user_log.specs.declared.reply.Reply.{Reply}
use Rattle.user_log.specs.declared.reply.Reply.TheVariants as replies
use Rattle.user_log.proofs.Keeping.{protection_means}
use Rattle.user_desk.specs.Entries.{mark_of, purpose_by, entry_of}
use Rattle.user_desk.specs.Causes.{is_beyond, RefusesRecord, RefusesRecords, IsReplay}
use Rattle.user_desk.specs.Replays.{refused_by}
use Rattle.user_desk.specs.declared.standing.DeskError.{DeskError}
use Rattle.user_desk.specs.declared.standing.DeskError.TheVariants.{Journal, Stale, Unlawful, Size, NotAdmitted, Unsafe}
use Rattle.user_desk.specs.declared.standing.Standing.TheVariants.{Sealed}

-- how many entries there are
pub count_of : (entries : List Entry) (history : History) → map answered_query_of entries ≡ history → length entries ≡ length history
count_of entries history is = sym (length-map entries answered_query_of) ∙ ap length is

-- what doesn't read is refused
read_or : (read : Result Formula Refusal) → ((query : Formula) → read ≡ Ok query → ⊥) → (why : Refusal) × (read ≡ Err why)
read_or (Ok query) never = absurd (never query refl)
read_or (Err why) never = (why, refl)

-- bytes that are no text are no sentence
pub no_text : (schema : DatabaseSchema) (text bytes : Text) → SentencesAreAscii → bytes ≡ text → (IsUtf8 bytes → ⊥) → (why : Refusal)
    × (reading schema text ≡ Err why)
no_text schema text bytes ascii same broken =
    read_or (reading schema text) (λ query is. broken (subst (λ t. IsUtf8 t) (sym same) (ascii schema text query is).1))

-- a code that a query's text has, where it adds no item, is by its size
beyond : (text : Text) (query : Formula) (told : Run.Reply) (full large : Bool) (mark : Mark)
    → told ≡ (if full then history_full else if large then too_large else marked mark) → entry_added text (Ok query) told ≡ None → (full || large) ≡ true
beyond text query told true large mark is none = refl
beyond text query told false true mark is none = refl
beyond text query told false false mark is none = let adds = sym (ap (λ r. entry_added text (Ok query) r) is) ∙ none in absurd cc

-- a code that such a sentence has, other than that it isn't safe, is by its size or by the room
beyond_secret : (text : Text) (secret : Formula) (told : Run.Reply) (full large most safe : Bool) → told ≡ protection_by full large most safe
    → entry_added text (Ok secret) told ≡ None → (told ≡ unsafe_secret → ⊥) → (full || (large || most)) ≡ true
beyond_secret text secret told true large most safe is none fine = refl
beyond_secret text secret told false true most safe is none fine = refl
beyond_secret text secret told false false true safe is none fine = refl
beyond_secret text secret told false false false true is none fine = let adds = sym (ap (λ r. entry_added text (Ok secret) r) is) ∙ none in absurd cc
beyond_secret text secret told false false false false is none fine = absurd (fine is)

-- what such a reply says
unsafe_means : (full large most safe : Bool) → unsafe_secret ≡ protection_by full large most safe → ((full || (large || most)) ≡ false) × (safe ≡ false)
unsafe_means true large most safe is = absurd cc
unsafe_means false true most safe is = absurd cc
unsafe_means false false true safe is = absurd cc
unsafe_means false false false true is = absurd cc
unsafe_means false false false false is = (refl, refl)

-- no query is unsafe
no_query_unsafe : (full large : Bool) (mark : Mark) → unsafe_secret ≡ (if full then history_full else if large then too_large else marked mark) → ⊥
no_query_unsafe true large mark is = cc
no_query_unsafe false true mark is = cc
no_query_unsafe false false mark is = cc

-- no sentence is none
no_size : (kind place : ℕ) (full large : Bool) (mark : Mark)
    → no_sentence kind place ≡ (if full then history_full else if large then too_large else marked mark) → ⊥
no_size kind place true large mark is = cc
no_size kind place false true mark is = cc
no_size kind place false false mark is = cc

no_secret_size : (kind place : ℕ) (full large most safe : Bool) → no_sentence kind place ≡ protection_by full large most safe → ⊥
no_secret_size kind place true large most safe is = cc
no_secret_size kind place false true most safe is = cc
no_secret_size kind place false false true safe is = cc
no_secret_size kind place false false false true is = cc
no_secret_size kind place false false false false is = cc

module _ (schema : DatabaseSchema) (world : FactSet) (user : UserProfile) (before : History) (kind : ℕ) (text : Text) where
  beyond_by : (purpose : Purpose) (sentence : Formula) (told : Run.Reply) → told ≡ reply_to schema world user before purpose (length text) sentence
      → entry_added text (Ok sentence) told ≡ None → (told ≡ unsafe_secret → ⊥)
      → is_beyond schema user before purpose (length text) sentence ≡ true
  beyond_by Asking query told is none fine =
      beyond text query told (is_full before (length text)) (is_too_large schema user before query) (mark_after schema world user before query) is none
  beyond_by Protecting secret told is none fine =
      beyond_secret text secret told (is_full before (length text)) (is_too_large_secret schema user before secret) (has_all_secrets user before)
      (safe_after schema user before secret) is none fine

  no_sentence_by : (purpose : Purpose) (sentence : Formula) (kind' place : ℕ)
      → no_sentence kind' place ≡ reply_to schema world user before purpose (length text) sentence → ⊥
  no_sentence_by Asking query kind' place is =
      no_size kind' place (is_full before (length text)) (is_too_large schema user before query) (mark_after schema world user before query) is
  no_sentence_by Protecting secret kind' place is =
      no_secret_size kind' place (is_full before (length text)) (is_too_large_secret schema user before secret) (has_all_secrets user before)
      (safe_after schema user before secret) is

  module _ (stored : Mark) (has : mark_of kind ≡ Some stored) where
    by_size : (code : Reply) (read : Result Formula Refusal) (number : ℕ) → reading schema text ≡ read → number ≡ length before
        → reply_of code ≡ reply_by schema world user before standing_open false (purpose_by stored) text read
        → entry_added text read (reply_of code) ≡ None
        → ((refused : ℕ) (place : ℕ) → reply_of code ≡ no_sentence refused place → ⊥) → (reply_of code ≡ unsafe_secret → ⊥)
        → RefusesRecord schema world user before (kind, text) (Size number)
    by_size code (Ok query) number reads is told none never fine =
        (is, query, reads, stored, has, beyond_by (purpose_by stored) query (reply_of code) told none fine)
    by_size code (Err why) number reads is told none never fine = absurd (never why.kind why.place told)

    by_text : (kind' place : ℕ) (read : Result Formula Refusal) (number : ℕ) → reading schema text ≡ read → number ≡ length before
        → no_sentence kind' place ≡ reply_by schema world user before standing_open false (purpose_by stored) text read
        → RefusesRecord schema world user before (kind, text) (Stale number)
    by_text kind' place (Ok query) number reads is told = absurd (no_sentence_by (purpose_by stored) query kind' place told)
    by_text kind' place (Err why) number reads is told = (is, why, reads)

  -- a sentence that isn't safe was to be added
  by_safety : (stored : Mark) → mark_of kind ≡ Some stored → (read : Result Formula Refusal) (number : ℕ) → reading schema text ≡ read
      → number ≡ length before → unsafe_secret ≡ reply_by schema world user before standing_open false (purpose_by stored) text read
      → RefusesRecord schema world user before (kind, text) (Unsafe number)
  by_safety stored has (Err why) number reads is told = absurd cc
  by_safety Protected has (Ok secret) number reads is told =
      let means =
      unsafe_means (is_full before (length text)) (is_too_large_secret schema user before secret) (has_all_secrets user before)
      (safe_after schema user before secret) told in
      (is, secret, reads, means.0, has, means.1)
  by_safety Yes has (Ok query) number reads is told = absurd (no_query_unsafe _ _ _ told)
  by_safety No has (Ok query) number reads is told = absurd (no_query_unsafe _ _ _ told)
  by_safety Refused has (Ok query) number reads is told = absurd (no_query_unsafe _ _ _ told)
  by_safety Undecided has (Ok query) number reads is told = absurd (no_query_unsafe _ _ _ told)

  -- a record whose text is answered by a code is refused
  pub code_refuses : (stored : Mark) → mark_of kind ≡ Some stored → (code : Reply) (number : ℕ) → number ≡ length before
      → (reply_of code ≡ open_reply schema world user before (purpose_by stored) text) × (entry_added text (reading schema text) (reply_of code) ≡ None)
      → RefusesRecord schema world user before (kind, text) (refused_by code number)
  code_refuses stored has (replies.Syntax refusal) number is weighed =
      by_text stored has refusal.kind refusal.place (reading schema text) number refl is weighed.0
  code_refuses stored has replies.Unsafe number is weighed = by_safety stored has (reading schema text) number refl is weighed.0
  code_refuses stored has (replies.Mark mark) number is weighed =
      by_size stored has (replies.Mark mark) (reading schema text) number refl is weighed.0 weighed.1 (λ k p e. cc) (λ e. cc)
  code_refuses stored has replies.Full number is weighed =
      by_size stored has replies.Full (reading schema text) number refl is weighed.0 weighed.1 (λ k p e. cc) (λ e. cc)
  code_refuses stored has replies.Size number is weighed =
      by_size stored has replies.Size (reading schema text) number refl is weighed.0 weighed.1 (λ k p e. cc) (λ e. cc)
  code_refuses stored has replies.Secrets number is weighed =
      by_size stored has replies.Secrets (reading schema text) number refl is weighed.0 weighed.1 (λ k p e. cc) (λ e. cc)
  code_refuses stored has replies.Closed number is weighed =
      by_size stored has replies.Closed (reading schema text) number refl is weighed.0 weighed.1 (λ k p e. cc) (λ e. cc)
  code_refuses stored has replies.Sealed number is weighed =
      by_size stored has replies.Sealed (reading schema text) number refl is weighed.0 weighed.1 (λ k p e. cc) (λ e. cc)
  code_refuses stored has replies.Broken number is weighed =
      by_size stored has replies.Broken (reading schema text) number refl is weighed.0 weighed.1 (λ k p e. cc) (λ e. cc)
  code_refuses stored has replies.Memory number is weighed =
      by_size stored has replies.Memory (reading schema text) number refl is weighed.0 weighed.1 (λ k p e. cc) (λ e. cc)

  lawful_by : (full large : Bool) (told mark : Mark) → (if full then history_full else if large then too_large else marked told) ≡ marked mark
      → ((full || large) ≡ false) × (mark ≡ told)
  lawful_by true large told mark e = absurd cc
  lawful_by false true told mark e = absurd cc
  lawful_by false false told mark e = (refl, cc)

  asked_refuses : (query : Formula) (stored computed : Mark) (number : ℕ) → number ≡ length before
      → IsAnswer schema world user before Asking text query computed → mark_of kind ≡ Some stored → is_added stored ≡ false → (stored ≡ computed → ⊥)
      → RefusesRecord schema world user before (kind, text) (Unlawful number stored computed)
  asked_refuses query stored computed number is answer has asked other =
      let told : reply_by schema world user before standing_open false Asking text (Ok query) ≡ marked computed =
      ap (λ r. reply_by schema world user before standing_open false Asking text r) (sym answer.read) ∙ answer.answer in
      let means =
      lawful_by (is_full before (length text)) (is_too_large schema user before query) (mark_after schema world user before query) computed told in
      (is, query, answer.read, means.0, has, asked, means.1, other)

  -- one that adds a secret has none other
  other_refuses : (query : Formula) (stored computed : Mark) (number : ℕ) → number ≡ length before
      → IsAnswer schema world user before (purpose_by stored) text query computed → mark_of kind ≡ Some stored → (stored ≡ computed → ⊥)
      → RefusesRecord schema world user before (kind, text) (Unlawful number stored computed)
  other_refuses query Yes computed number is answer has other = asked_refuses query Yes computed number is answer has refl other
  other_refuses query No computed number is answer has other = asked_refuses query No computed number is answer has refl other
  other_refuses query Refused computed number is answer has other = asked_refuses query Refused computed number is answer has refl other
  other_refuses query Undecided computed number is answer has other = asked_refuses query Undecided computed number is answer has refl other
  other_refuses query Protected computed number is answer has other =
      let told : reply_by schema world user before standing_open false Protecting text (Ok query) ≡ marked computed =
      ap (λ r. reply_by schema world user before standing_open false Protecting text r) (sym answer.read) ∙ answer.answer in
      let means =
      protection_means (is_full before (length text)) (is_too_large_secret schema user before query) (has_all_secrets user before)
      (safe_after schema user before query) computed told in
      absurd (other (sym means.4))

  -- a record that has another mark is refused
  pub mark_refuses : (purpose : Purpose) (query : Formula) (stored computed : Mark) (number : ℕ) → number ≡ length before → purpose ≡ purpose_by stored
      → IsAnswer schema world user before purpose text query computed → mark_of kind ≡ Some stored → (stored ≡ computed → ⊥)
      → RefusesRecord schema world user before (kind, text) (Unlawful number stored computed)
  mark_refuses purpose query stored computed number is made answer has other =
      other_refuses query stored computed number is (subst (λ p. IsAnswer schema world user before p text query computed) made answer) has other

-- ---- a list of records

-- a record in its list
pub split_records : (all : List Record) (i : ℕ) (next : Record) → i < length all → next ≡ get_or all i next
    → map recorded all ≡ map recorded (take i all) ++ recorded next ∷ map recorded (drop (i + 1) all)
split_records all i next within is = ap (λ l. map recorded l) (split all i next within is) ∙ map-append recorded (take i all) (next ∷ drop (i + 1) all)
  where
    split : (xs : List Record) (k : ℕ) (one : Record) → k < length xs → one ≡ get_or xs k one → xs ≡ take k xs ++ one ∷ drop (k + 1) xs
    split xs k one within is =
        sym (take-append-drop k xs) ∙ ap (λ t. take k xs ++ t) (drop-cons xs k one within ∙ ap (λ x. x ∷ drop (suc k) xs) (sym is))
        ∙ ap (λ n. take k xs ++ one ∷ drop n xs) (sym (add-one k))

module _ (schema : DatabaseSchema) (world : FactSet) (user : UserProfile) where
  -- the first record that is refused seals the desk
  pub replay_sealed : (all : List Recorded) (entries : History) (why : DeskError) → entries ≡ [] → admitted schema world user ≡ true
      → RefusesRecords schema world user all why → IsReplay schema world user all entries (Sealed why)
  replay_sealed all entries (Journal why) none admits refused = absurd refused.refused
  replay_sealed all entries (NotAdmitted admission) none admits refused = absurd refused.refused
  replay_sealed all entries (Stale number) none admits refused = (none, admits, refused)
  replay_sealed all entries (Size number) none admits refused = (none, admits, refused)
  replay_sealed all entries (Unsafe number) none admits refused = (none, admits, refused)
  replay_sealed all entries (Unlawful number stored computed) none admits refused = (none, admits, refused)

  -- the record after these seals it, where it isn't taken
  pub replay_refused : (all : List Record) (i : ℕ) (next : Record) (before entries : History) (why : DeskError) → i < length all → next ≡ get_or all i next
      → map (entry_of schema) (map recorded (take i all)) ≡ map Some before
      → IsLegal schema world user before → KeepsSizes schema user before → RefusesRecord schema world user before (recorded next) why → entries ≡ []
      → admitted schema world user ≡ true
      → IsReplay schema world user (map recorded all) entries (Sealed why)
  replay_refused all i next before entries why within is are legal sizes refused none admits =
      replay_sealed (map recorded all) entries why none admits (record {
        read = map recorded (take i all);
        next = recorded next;
        rest = map recorded (drop (i + 1) all);
        before = before;
        split = split_records all i next within is;
        are = are;
        legal = legal;
        sizes = sizes;
        refused = refused;
      })

-- the same for a log that is of this user
pub replay_refused_of : (schema schema' : DatabaseSchema) (world world' : FactSet) (user user' : UserProfile) → schema' ≡ schema → world' ≡ world → user' ≡ user
    → (all : List Record) (i : ℕ) (next : Record) (before entries : History) (why : DeskError) → i < length all → next ≡ get_or all i next
    → map (entry_of schema) (map recorded (take i all)) ≡ map Some before
    → IsLegal schema' world' user' before → KeepsSizes schema' user' before → RefusesRecord schema' world' user' before (recorded next) why → entries ≡ []
    → admitted schema world user ≡ true
    → IsReplay schema world user (map recorded all) entries (Sealed why)
replay_refused_of schema schema' world world' user user' same_schema same_world same_user all i next before entries why within is are legal sizes refused none
    admits =
    replay_refused schema world user all i next before entries why within is are
    (subst (λ s. IsLegal s world user before) same_schema
    (subst (λ w. IsLegal schema' w user before) same_world (subst (λ u. IsLegal schema' world' u before) same_user legal)))
    (subst (λ s. KeepsSizes s user before) same_schema (subst (λ u. KeepsSizes schema' u before) same_user sizes))
    (subst (λ s. RefusesRecord s world user before (recorded next) why) same_schema
    (subst (λ w. RefusesRecord schema' w user before (recorded next) why) same_world
    (subst (λ u. RefusesRecord schema' world' u before (recorded next) why) same_user refused)))
    none admits
