-- The workload, from the making of its journals to the tally of its replies.
use Rattle.std.proofs.Common.{◌≡◌, ◌∙◌, sym, ap, subst, refl, ℕ, zero, suc, ◌+◌, ◌%◌, ◌<◌, ◌≤◌, Bool, true, false, List, [], ◌∷◌, ◌++◌, map, length, Option}
use Rattle.std.proofs.Common.{Some, None, Result, Ok, arith}
use Rattle.std.specs.Prelude.{find, cond, bytes_eq, slice_get, String, string_bytes}
use Rattle.std.specs.declared.alloc.Global.{Global}
use Rattle.std.specs.List.{flat_map, list_all, range_with_len, AllByRecursion}
use Rattle.std.proofs.Math.Nat.{mod-lt}
use Rattle.std.proofs.lemmas.Slice.Eq.{bytes_eq-Decides}
use Rattle.std.proofs.lemmas.List.Folds.{flat_map-map}
use Rattle.outside.specs.Shelf.{bytes_on}
use Rattle.outside.specs.declared.disk.Disk.{Ghosts as DiskGhosts}
use Rattle.cqe_base.specs.declared.user.Purpose.TheVariants.{Asking}
use Rattle.cqe_base.specs.Schema.{Text, DatabaseSchema, has_duplicate}
use Rattle.cqe_base.specs.Facts.{FactSet}
use Rattle.cqe_base.specs.History.{UserProfile, AnsweredQuery}
use Rattle.cqe_base.specs.Run.{is_answer, Ending, want, kept, failed, UserState, reply_at, entry_at, reply_at_failure, reply_to_call}
use Rattle.cqe_base.specs.Transcript.{NamedUser, Caller, purpose_of, ScriptEvent, script_call, script_stop, script_restart, script_opening, reply_line}
use Rattle.cqe_base.specs.Transcript.{state_after, told_after, lines_after, transcript}
use Rattle.cqe_base.specs.declared.user.User.{User}
use Rattle.cqe_base.proofs.Runs.{asks_are_answered}
use Rattle.log_journal.specs.Walk.{records}
use Rattle.log_journal.proofs.Walks.{journals_are_walked}
use Rattle.log_journal.specs.Names.{journal_name}
use Rattle.init_engine.specs.Disks.{user_names, Readies}
use Rattle.batch_engine.specs.BatchLines.{BatchItem, asked, restarted, batch_of}
use Rattle.batch_engine.specs.Batch.{AreEventsOf, with_opening}
use Rattle.desk_crew.specs.Crew.{named_user}
use Rattle.policy_files.specs.declared.error.PolicyError.{PolicyError}
use Rattle.policy_files.specs.declared.error.FactsError.{FactsError}
use Rattle.policy_files.specs.Policy.{policy_in}
use Rattle.policy_files.specs.Facts.{facts_of}
use Rattle.policy_files.specs.Policies.{PolicyValue}
use Rattle.policy_files.specs.Memory.{policy_user_of, policy_value_of}
use Rattle.policy_files.specs.Users
use Rattle.policy_files.specs.Laws.{IsKeptPolicy}
use Rattle.policy_files.specs.declared.policy.Policy.{Policy}
use Rattle.workload.specs.Stated.{workload_schema, workload_world}
use Rattle.workload.specs.Policies.{user_name, workload_user, workload_policy}
use Rattle.workload.specs.Scripts.{workload_ask, workload_script}
use Rattle.selfrun_engine.specs.Counting.{tally_in}
use Rattle.selfrun_engine.specs.Outputs.{IsOfUser, IsOutput}
use Rattle.selfrun_engine.specs.Runs.{without_entries, workload_users, IsTally}
use Rattle.selfrun_engine.specs.declared.tally.Tally.{Tally}
use Rattle.selfrun_engine.proofs.Counting.{is_inside, decimal_inside, IsPlain, tally_is}

-- ---- names

-- the names of a policy's users are those that it says
names_are : (users : List User) → user_names users ≡ Users.names_of (map policy_user_of users)
names_are [] = refl
names_are (user ∷ users) = ap (λ names. string_bytes user.name ∷ names) (names_are users)

pub batch_names_are : (users : List User) → map (λ user. user.name) (map named_user users) ≡ user_names users
batch_names_are [] = refl
batch_names_are (user ∷ users) = ap (λ names. string_bytes user.name ∷ names) (batch_names_are users)

-- they differ
pub names_differ : (policy : Policy) → IsKeptPolicy (policy_value_of policy) → has_duplicate (user_names policy.users.items) ≡ false
names_differ policy is = ap has_duplicate (names_are policy.users.items) ∙ is.differ

-- ---- journals that were made

module _ {D : Type 0} (Disk : DiskGhosts D) (header directory : List ℕ) (old new : List ℕ → Option D) where
  -- what holds of the name at each place holds of all users
  by_place : (P : Text → Type 0) (users : List User)
      → ((i : ℕ) (name : Text) → i < length (user_names users) → slice_get (user_names users) i ≡ Some name → P name)
      → AllByRecursion (λ (u : NamedUser). P u.name) (map named_user users)
  by_place P [] each = tt
  by_place P (user ∷ users) each =
      (each 0 (string_bytes user.name) (omega arith) refl, by_place P users (λ i name low at. each (suc i) name (omega (arith, low)) at))

  -- a journal that was made where there was no disk has no record
  pub all_empty : (users others : List User) → others ≡ users → ((name : List ℕ) → old name ≡ None)
      → Readies Disk header directory (user_names others) old new (length (user_names others)) (length (user_names others))
      → AllByRecursion (λ (u : NamedUser). records (bytes_on Disk.reads (new (journal_name directory u.name))) ≡ []) (map named_user users)
  all_empty users others same none ready =
      subst (λ us. AllByRecursion (λ (u : NamedUser). records (bytes_on Disk.reads (new (journal_name directory u.name))) ≡ []) (map named_user us)) same
      (by_place (λ name. records (bytes_on Disk.reads (new (journal_name directory name))) ≡ []) others (λ i name low at.
      let one = ready.are i name low at in
      ap (λ d. records (bytes_on Disk.reads d)) one.stands
      ∙ ((journals_are_walked header [] (Disk.reads one.disk)).0
      (one.made.empty (ap (bytes_on Disk.reads) (none (journal_name directory name)))).1).are))

-- ---- the asks of the script

-- a user of the workload has the name of a number below their count
has_user : (seed k a n : ℕ) → a ≤ k → k < a + n → (user : NamedUser)
    × (find (λ u. bytes_eq u.name (user_name k)) (map without_entries (map (workload_user seed) (range_with_len a n))) ≡ Some user)
has_user seed k a zero low high = absurd (omega (arith, low, high))
has_user seed k a (suc n) low high = by (bytes_eq (user_name a) (user_name k)) refl (λ later. has_user seed k (a + 1) n later (omega (arith, high)))
  where
    rest : List NamedUser
    rest = map without_entries (map (workload_user seed) (range_with_len (a + 1) n))

    first : NamedUser
    first = without_entries (workload_user seed a)

    apart : (a ≡ k → ⊥) → a + 1 ≤ k
    apart differ = grind (arith, low, differ)

    by : (t : Bool) → bytes_eq (user_name a) (user_name k) ≡ t → (a + 1 ≤ k → (user : NamedUser) × (find (λ u. bytes_eq u.name (user_name k)) rest ≡ Some user))
        → (user : NamedUser) × (cond (bytes_eq (user_name a) (user_name k)) (Some first) (find (λ u. bytes_eq u.name (user_name k)) rest) ≡ Some user)
    by true is later = (first, ap (λ t. cond t (Some first) (find (λ u. bytes_eq u.name (user_name k)) rest)) is)
    by false is later =
        let further = later (apart (λ same. let clash : true ≡ false = sym ((bytes_eq-Decides (user_name a) (user_name k)).1 (ap user_name same)) ∙ is in
        cc)) in
        (further.0, ap (λ t. cond t (Some first) (find (λ u. bytes_eq u.name (user_name k)) rest)) is ∙ further.1)

of_users : (seed users : ℕ) → 0 < users → (numbers : List ℕ) → AllByRecursion (IsOfUser (workload_users seed users)) (map (workload_ask seed users) numbers)
of_users seed users some [] = tt
of_users seed users some (t ∷ numbers) =
    (has_user seed (t % users) 0 users (omega arith) (let less = mod-lt t {m = users} some in omega (arith, less)), of_users seed users some numbers)

-- an ask is a session's, and its name is one word
abbrev IsPlainItem : BatchItem → Type 0
IsPlainItem (asked ask) = (list_all is_inside ask.name ≡ true) × (purpose_of ask.caller ≡ Asking)
IsPlainItem restarted = Unit {0}

plain_asks : (seed users : ℕ) (numbers : List ℕ) → AllByRecursion IsPlainItem (map (workload_ask seed users) numbers)
plain_asks seed users [] = tt
plain_asks seed users (t ∷ numbers) = ((decimal_inside (t % users), refl), plain_asks seed users numbers)

-- what a session is told is the answer to an ask
answer_told : (schema : DatabaseSchema) (world : FactSet) (user : UserProfile) (state : UserState) (text : Text) (ending : Ending)
    → is_answer (reply_to_call schema world user state Asking text ending) ≡ true
answer_told schema world user state text want = refl
answer_told schema world user state text kept = asks_are_answered schema world user state.entries state.standing state.broken text
answer_told schema world user state text failed = by (entry_at schema world user state Asking text)
  where
    by : (added : Option AnsweredQuery) → is_answer (reply_at_failure schema world user (reply_at schema world user state Asking text) added) ≡ true
    by None = asks_are_answered schema world user state.entries state.standing state.broken text
    by (Some item) = refl

plain_told : (schema : DatabaseSchema) (world : FactSet) (name : Text) (caller : Caller) (earlier : List ScriptEvent) (text : Text) (ending : Ending)
    (asker : Option NamedUser) → list_all is_inside name ≡ true → purpose_of caller ≡ Asking
    → IsPlain (reply_line name caller (told_after schema world earlier (purpose_of caller) text ending asker))
plain_told schema world name caller earlier text ending None plain asks = plain
plain_told schema world name caller earlier text ending (Some user) plain asks = (
  plain,
  ap (λ p. is_answer (reply_to_call schema world user.profile (state_after schema world user earlier) p text ending)) asks
      ∙ answer_told schema world user.profile (state_after schema world user earlier) text ending,
)

plain_lines : (schema : DatabaseSchema) (world : FactSet) (users : List NamedUser) (earlier events : List ScriptEvent) (items : List BatchItem)
    → AreEventsOf items events → AllByRecursion IsPlainItem items
    → AllByRecursion IsPlain (lines_after schema world users earlier events)
plain_lines schema world users earlier [] items of plain = tt
plain_lines schema world users earlier (event ∷ events) [] of plain = absurd of
plain_lines schema world users earlier (script_call name caller text ending ∷ events) (asked one ∷ items) of plain = (
  plain_told schema world name caller earlier text ending (find (λ u. bytes_eq u.name name) users) (ap (list_all is_inside) of.0.0 ∙ plain.0.0)
      (ap purpose_of of.0.1 ∙ plain.0.1),
  plain_lines schema world users (earlier ++ script_call name caller text ending ∷ []) events items of.1 plain.1,
)
plain_lines schema world users earlier (script_restart found opened ∷ events) (restarted ∷ items) of plain =
    (tt, plain_lines schema world users (earlier ++ script_restart found opened ∷ []) events items of.1 plain.1)
plain_lines schema world users earlier (script_stop name purpose text ∷ events) (asked one ∷ items) of plain = absurd of.0
plain_lines schema world users earlier (script_restart found opened ∷ events) (asked one ∷ items) of plain = absurd of.0
plain_lines schema world users earlier (script_opening found opened ∷ events) (asked one ∷ items) of plain = absurd of.0
plain_lines schema world users earlier (script_call name caller text ending ∷ events) (restarted ∷ items) of plain = absurd of.0
plain_lines schema world users earlier (script_stop name purpose text ∷ events) (restarted ∷ items) of plain = absurd of.0
plain_lines schema world users earlier (script_opening found opened ∷ events) (restarted ∷ items) of plain = absurd of.0

-- ---- the tally

one_policy : (a b : PolicyValue) (read : Result PolicyValue PolicyError) → read ≡ Ok a → read ≡ Ok b → a ≡ b
one_policy a b read first second = cc

one_world : (a b : FactSet) (read : Result FactSet FactsError) → read ≡ Ok a → read ≡ Ok b → a ≡ b
one_world a b read first second = cc

same_users : (users : List User) → map named_user users ≡ map without_entries (map policy_user_of users)
same_users [] = refl
same_users (user ∷ users) = ap (λ more. named_user user ∷ more) (same_users users)

module _ (seed users asks : ℕ) (some : 0 < users) where
  counted : (tally : Tally) (bytes : List ℕ) → tally ≡ tally_in bytes
      → IsOutput workload_schema (workload_world seed) (workload_users seed users) (workload_script seed users asks) bytes → IsTally seed users asks tally
  unfolding transcript
  counted tally bytes is output = record {
    found = output.found;
    opened = output.opened;
    events = output.events;
    of_script = output.of_items;
    all_kept = output.all_kept;
    all_opened = output.all_opened;
    counts = is ∙ ap tally_in output.lines
        ∙ tally_is (transcript workload_schema (workload_world seed) (workload_users seed users) (with_opening output.found output.opened output.events))
        (plain_lines workload_schema (workload_world seed) (workload_users seed users) (script_opening output.found output.opened ∷ []) output.events
        (workload_script seed users asks) output.of_items (plain_asks seed users (range_with_len 0 asks)));
  }

  -- the tally of the lines of a batch over what the workload's files say
  pub tally_from : (policy : Policy) (world : FactSet) (script bytes : List ℕ) (tally : Tally) → policy_value_of policy ≡ workload_policy seed users
      → world ≡ workload_world seed
      → batch_of script ≡ Ok (workload_script seed users asks) → tally ≡ tally_in bytes
      → ((items : List BatchItem) → batch_of script ≡ Ok items → AllByRecursion (IsOfUser (map named_user policy.users.items)) items
      → IsOutput policy.schema world (map named_user policy.users.items) items bytes)
      → IsTally seed users asks tally
  tally_from policy world script bytes tally value same_world read is output =
      let named : map named_user policy.users.items ≡ workload_users seed users =
      same_users policy.users.items ∙ ap (λ (p : PolicyValue). map without_entries p.users) value in
      let written = output (workload_script seed users asks) read
      (subst (λ us. AllByRecursion (IsOfUser us) (workload_script seed users asks)) (sym named) (of_users seed users some (range_with_len 0 asks))) in
      counted tally bytes is
      (subst (λ us. IsOutput workload_schema (workload_world seed) us (workload_script seed users asks) bytes) named
      (subst (λ w. IsOutput workload_schema w (map named_user policy.users.items) (workload_script seed users asks) bytes) same_world
      (subst (λ s. IsOutput s world (map named_user policy.users.items) (workload_script seed users asks) bytes)
      (ap (λ (p : PolicyValue). p.schema) value) written)))

  -- the same, by what was read of the workload's files
  pub tallied : (policy : Policy) (world : FactSet) (given given' facts facts' script bytes : List ℕ) (tally : Tally)
      → given' ≡ given → policy_in given ≡ Ok (workload_policy seed users) → policy_in given' ≡ Ok (policy_value_of policy)
      → facts' ≡ facts → facts_of workload_schema facts ≡ Ok (workload_world seed) → facts_of policy.schema facts' ≡ Ok world
      → batch_of script ≡ Ok (workload_script seed users asks) → tally ≡ tally_in bytes
      → ((items : List BatchItem) → batch_of script ≡ Ok items → AllByRecursion (IsOfUser (map named_user policy.users.items)) items
      → IsOutput policy.schema world (map named_user policy.users.items) items bytes)
      → IsTally seed users asks tally
  tallied policy world given given' facts facts' script bytes tally same says read same_facts states stated said is output =
      let value : policy_value_of policy ≡ workload_policy seed users =
      one_policy (policy_value_of policy) (workload_policy seed users) (policy_in given') read (ap policy_in same ∙ says) in
      let schema : policy.schema ≡ workload_schema = ap (λ (p : PolicyValue). p.schema) value in
      let here : world ≡ workload_world seed =
      one_world world (workload_world seed) (facts_of policy.schema facts') stated ((λ i. facts_of (schema i) (same_facts i)) ∙ states) in
      tally_from policy world script bytes tally value here said is output

-- lines, and their texts
pub texts_are : (lines : List (String Global)) (texts : List Text) → map string_bytes lines ≡ texts
    → flat_map string_bytes lines ≡ flat_map (λ line. line) texts
texts_are lines texts are = sym (flat_map-map (λ line. line) string_bytes lines) ∙ ap (flat_map (λ line. line)) are
