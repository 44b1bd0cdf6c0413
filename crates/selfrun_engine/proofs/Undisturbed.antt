-- A batch over empty journals in which nothing failed.
use Rattle.std.proofs.Common.{◌≡◌, ◌∙◌, sym, ap, subst, refl, inl, inr, ℕ, ◌+◌, Bool, true, false, List, [], ◌∷◌, ◌++◌, map, Option, Some, None, Result, Ok}
use Rattle.std.proofs.Common.{is_some, append_assoc, append-nil}
use Rattle.std.specs.Prelude.{find, bytes_eq, if◌then◌else◌}
use Rattle.std.specs.List.{list_any, AllByRecursion}
use Rattle.std.proofs.lemmas.Slice.Eq.{bytes_eq-Decides}
use Rattle.std.proofs.lemmas.Bool.{or_parts}
use Rattle.cqe_base.specs.declared.text.ScriptError.{ScriptError}
use Rattle.cqe_base.specs.Schema.{Text, DatabaseSchema}
use Rattle.cqe_base.specs.Facts.{FactSet}
use Rattle.cqe_base.specs.History.{UserProfile, History, AnsweredQuery}
use Rattle.cqe_base.specs.Run.{Reply, desk_broken, Event, call, restart, want, kept, failed, UserState, entry_at, reply_at, reply_at_failure, after_event}
use Rattle.cqe_base.specs.Run.{after_events, opening}
use Rattle.cqe_base.specs.Transcript.{NamedUser, Caller, purpose_of, ScriptEvent, script_call, script_stop, script_restart, script_opening, reply_line}
use Rattle.cqe_base.specs.Transcript.{own_event, own_events}
use Rattle.cqe_base.specs.Transcript.{state_after, told_after, lines_after, transcript}
use Rattle.cqe_base.proofs.Lists.{one_found}
use Rattle.log_journal.specs.Walk.{records}
use Rattle.user_desk.specs.Entries.{entry_of}
use Rattle.user_desk.specs.declared.standing.DeskError.{DeskError}
use Rattle.batch_engine.specs.BatchLines.{BatchItem, asked, restarted, batch_of}
use Rattle.desk_crew.specs.Shelved.{Journals}
use Rattle.batch_engine.specs.Batch.{ServesUser, AreEventsOf, AreRefusals, AppendsAll, is_broken_line, unopened, with_opening}
use Rattle.desk_crew.specs.Openings.{OpensWith}
use Rattle.batch_engine.specs.Lives.{is_refused, AreCaused}
use Rattle.selfrun_engine.specs.Outputs.{IsNoFailedAsk, IsOfUser, IsOutput}

-- ---- lists

one_script : (a b : List BatchItem) (read : Result (List BatchItem) ScriptError) → read ≡ Ok a → read ≡ Ok b → a ≡ b
one_script a b read first second = cc

-- ---- a user's own events

own-append : (name : Text) (earlier events : List ScriptEvent) → own_events name (earlier ++ events) ≡ own_events name earlier ++ own_events name events
own-append name [] events = refl
own-append name (event ∷ earlier) events =
    ap (λ l. own_event name event ++ l) (own-append name earlier events)
    ∙ sym (append_assoc (own_event name event) (own_events name earlier) (own_events name events))

module _ (schema : DatabaseSchema) (world : FactSet) where
  after-append : (user : UserProfile) (state : UserState) (first second : List Event)
      → after_events schema world user state (first ++ second) ≡ after_events schema world user (after_events schema world user state first) second
  after-append user state [] second = refl
  after-append user state (event ∷ first) second = after-append user (after_event schema world user state event) first second

  caused_behind : (user : UserProfile) (state : UserState) (first second : List Event) → AreCaused schema world user state (first ++ second)
      → AreCaused schema world user (after_events schema world user state first) second
  caused_behind user state [] second caused = caused
  caused_behind user state (event ∷ first) second caused = caused_behind user (after_event schema world user state event) first second caused.1

  -- behind earlier events the rest of a user's events has its causes
  abbrev pub IsCausedFrom : List ScriptEvent → List ScriptEvent → NamedUser → Type 0
  IsCausedFrom earlier events user = AreCaused schema world user.profile (state_after schema world user earlier) (own_events user.name events)

  one_later : (earlier events : List ScriptEvent) (event : ScriptEvent) (user : NamedUser) → IsCausedFrom earlier (event ∷ events) user
      → IsCausedFrom (earlier ++ event ∷ []) events user
  one_later earlier events event user caused =
      let start = opening schema world user.profile user.opened in
      let own = own_event user.name event in
      let behind = caused_behind user.profile (state_after schema world user earlier) own (own_events user.name events) caused in
      let no_more : own_events user.name (event ∷ []) ≡ own = append-nil own in
      let state : state_after schema world user (earlier ++ event ∷ []) ≡ after_events schema world user.profile (state_after schema world user earlier) own =
      ap (after_events schema world user.profile start) (own-append user.name earlier (event ∷ []) ∙ ap (λ l. own_events user.name earlier ++ l) no_more)
      ∙ after-append user.profile start (own_events user.name earlier) own in
      subst (λ s. AreCaused schema world user.profile s (own_events user.name events)) (sym state) behind

  all_later : (earlier events : List ScriptEvent) (event : ScriptEvent) (users : List NamedUser) → AllByRecursion (IsCausedFrom earlier (event ∷ events)) users
      → AllByRecursion (IsCausedFrom (earlier ++ event ∷ []) events) users
  all_later earlier events event [] all = tt
  all_later earlier events event (user ∷ users) all = (one_later earlier events event user all.0, all_later earlier events event users all.1)

  -- an append that failed is told
  broken_told : (user : UserProfile) (told : Reply) (added : Option AnsweredQuery) → is_some added ≡ true
      → reply_at_failure schema world user told added ≡ desk_broken
  broken_told user told None some = let clash : false ≡ true = some in absurd cc
  broken_told user told (Some entry) some = refl

  module _ (users : List NamedUser) where
    ask_kept : (earlier events : List ScriptEvent) (name : Text) (caller : Caller) (text : Text) (ending : _) (user : NamedUser)
        → find (λ u. bytes_eq u.name name) users ≡ Some user
        → AllByRecursion (IsCausedFrom earlier (script_call name caller text ending ∷ events)) users
        → is_broken_line (reply_line name caller (told_after schema world earlier (purpose_of caller) text ending (find
        (λ u. bytes_eq u.name name) users))) ≡ false
        → IsNoFailedAsk (script_call name caller text ending)
    ask_kept earlier events name caller text want user found all whole = tt
    ask_kept earlier events name caller text kept user found all whole = tt
    ask_kept earlier events name caller text failed user found all whole =
        let one = one_found (IsCausedFrom earlier (script_call name caller text failed ∷ events)) (λ u. bytes_eq u.name name) users user all found in
        let named : user.name ≡ name = (bytes_eq-Decides user.name name).0 one.1 in
        let own : bytes_eq name user.name ≡ true = (bytes_eq-Decides name user.name).1 (sym named) in
        let caused : AreCaused schema world user.profile (state_after schema world user earlier)
        ((if bytes_eq name user.name then call (purpose_of caller) text failed ∷ [] else []) ++ own_events user.name events) = one.0 in
        let first = subst (λ (t : Bool).
        AreCaused schema world user.profile (state_after schema world user earlier)
        ((if t then call (purpose_of caller) text failed ∷ [] else []) ++ own_events user.name events)) own caused in
        let told = broken_told user.profile (reply_at schema world user.profile (state_after schema world user earlier) (purpose_of caller) text)
        (entry_at schema world user.profile (state_after schema world user earlier) (purpose_of caller) text) first.0 in
        let said : is_broken_line (reply_line name caller (told_after schema world earlier (purpose_of caller) text failed (Some user))) ≡ true =
        ap (λ r. is_broken_line (reply_line name caller (Some r))) told in
        let clash : true ≡ false =
        sym said ∙ ap (λ u. is_broken_line (reply_line name caller (told_after schema world earlier (purpose_of caller) text failed u))) (sym found)
        ∙ whole in absurd cc

    pub kept_from : (earlier events : List ScriptEvent) (items : List BatchItem) → AreEventsOf items events → AllByRecursion (IsOfUser users) items
        → AllByRecursion (IsCausedFrom earlier events) users
        → list_any is_broken_line (lines_after schema world users earlier events) ≡ false → AllByRecursion IsNoFailedAsk events
    kept_from earlier [] items of named all whole = tt
    kept_from earlier (event ∷ events) [] of named all whole = absurd of
    kept_from earlier (script_call name caller text ending ∷ events) (asked one ∷ items) of named all whole =
        let parts = or_parts _ _ whole in
        let found : find (λ u. bytes_eq u.name name) users ≡ Some named.0.0 = ap (λ n. find (λ u. bytes_eq u.name n) users) of.0.0 ∙ named.0.1 in (
          ask_kept earlier events name caller text ending named.0.0 found all parts.0,
          kept_from (earlier ++ script_call name caller text ending ∷ []) events items of.1 named.1
              (all_later earlier events (script_call name caller text ending) users all) parts.1,
        )
    kept_from earlier (script_restart found opened ∷ events) (restarted ∷ items) of named all whole = (
      tt,
      kept_from (earlier ++ script_restart found opened ∷ []) events items of.1 named.1
          (all_later earlier events (script_restart found opened) users all) whole,
    )
    kept_from earlier (script_stop name purpose text ∷ events) (asked one ∷ items) of named all whole = absurd of.0
    kept_from earlier (script_restart found opened ∷ events) (asked one ∷ items) of named all whole = absurd of.0
    kept_from earlier (script_opening found opened ∷ events) (asked one ∷ items) of named all whole = absurd of.0
    kept_from earlier (script_call name caller text ending ∷ events) (restarted ∷ items) of named all whole = absurd of.0
    kept_from earlier (script_stop name purpose text ∷ events) (restarted ∷ items) of named all whole = absurd of.0
    kept_from earlier (script_opening found opened ∷ events) (restarted ∷ items) of named all whole = absurd of.0

-- ---- openings

module _ (schema : DatabaseSchema) (world : FactSet) (header : List ℕ) (journals : Journals) where
  -- the bytes of a user's journal have no record
  abbrev pub IsEmpty : NamedUser → Type 0
  IsEmpty user = records (journals.bytes user.name) ≡ []

  no_entries : (user : NamedUser) → IsEmpty user → OpensWith schema world user.profile header (journals.bytes user.name) user.opened → user.opened ≡ []
  no_entries user empty (inl opens) = none user.opened (sym opens.stands.are ∙ ap (map (entry_of schema)) empty)
    where
      none : (entries : History) → map Some entries ≡ [] → entries ≡ []
      none [] are = refl
      none (entry ∷ entries) are = let clash : Some entry ∷ map Some entries ≡ [] = are in absurd cc
  no_entries user empty (inr none) = none.1

  module _ (users : List NamedUser) (events : List ScriptEvent) where
    as_they_were : (some : List NamedUser) → AllByRecursion IsEmpty (map unopened some)
        → AllByRecursion (ServesUser schema world header journals users events) some
        → some ≡ map unopened some
    as_they_were [] empty serve = refl
    as_they_were (user ∷ some) empty serve = λ i. record user { opened = no_entries user empty.0 serve.0.opening_is i } ∷ as_they_were some empty.1 serve.1 i

    causes : (found opened : Text → Bool) (more : List ScriptEvent) → events ≡ with_opening found opened more → (some : List NamedUser)
        → AllByRecursion (ServesUser schema world header journals users events) some
        → AllByRecursion (IsCausedFrom schema world (script_opening found opened ∷ []) more) some
    causes found opened more is [] serve = tt
    causes found opened more is (user ∷ some) serve = (
      (subst (λ e. AreCaused schema world user.profile (opening schema world user.profile user.opened) (own_events user.name e)) is serve.0.caused).1,
      causes found opened more is some serve.1,
    )

  all_open : (found opened : Text → Bool) (more : List ScriptEvent) (some : List NamedUser) (refusals : List (Option DeskError))
      → AreRefusals schema world header journals (with_opening found opened more) some refusals → list_any is_some refusals ≡ false
      → AllByRecursion (λ user. opened user.name ≡ true) some
  all_open found opened more [] refusals are none = tt
  all_open found opened more (user ∷ some) [] are none = absurd are
  all_open found opened more (user ∷ some) (Some why ∷ refusals) are none = let clash : true ≡ false = none in absurd cc
  all_open found opened more (user ∷ some) (None ∷ refusals) are none = (is_open (opened user.name) are.0, all_open found opened more some refusals are.1 none)
    where
      is_open : (t : Bool) → list_any is_refused (restart (found user.name) t ∷ own_events user.name more) ≡ false → t ≡ true
      is_open true none = refl
      is_open false none = let clash : true ≡ false = none in absurd cc

  -- what was written over empty journals, without a refusal and without a line that says that an append failed
  pub undisturbed : (policy : List NamedUser) (items : List BatchItem) (new : List ℕ) (refusals : List (Option DeskError)) → AllByRecursion IsEmpty policy
      → AllByRecursion (IsOfUser policy) items
      → AppendsAll schema world header journals policy items [] new refusals false → list_any is_some refusals ≡ false → IsOutput schema world policy items new
  unfolding transcript
  undisturbed policy items new refusals empty named all none =
      let answers = all.answers in
      let events = with_opening answers.found answers.opened answers.events in
      let are : answers.users ≡ policy =
      as_they_were answers.users events answers.users (subst (AllByRecursion IsEmpty) (sym answers.of_policy) empty) answers.each_user ∙ answers.of_policy in
      subst (λ users. IsOutput schema world users items new) are (record {
        found = answers.found;
        opened = answers.opened;
        events = answers.events;
        of_items = answers.of_items;
        all_kept = kept_from schema world answers.users (script_opening answers.found answers.opened ∷ []) answers.events items answers.of_items
            (subst (λ users. AllByRecursion (IsOfUser users) items) (sym are) named)
            (causes answers.users events answers.found answers.opened answers.events refl answers.users answers.each_user) (sym all.broken);
        all_opened = all_open answers.found answers.opened answers.events answers.users refusals all.refused none;
        lines = all.appended ∙ answers.lines;
      })

  -- the same of the batch of a script, whose output was empty before
  pub batch_undisturbed : (policy : List NamedUser) (items : List BatchItem) (script left after old new : List ℕ) (policy' : List NamedUser)
      (refusals : List (Option DeskError)) (is_broken : Bool)
      → left ≡ script → batch_of script ≡ Ok items → old ≡ [] → is_broken ≡ false → policy' ≡ policy → list_any is_some refusals ≡ false
      → AllByRecursion IsEmpty policy → AllByRecursion (IsOfUser policy) items
      → (after ≡ []) × (items' : List BatchItem) × (batch_of left ≡ Ok items')
      × AppendsAll schema world header journals policy' items' old new refusals is_broken
      → IsOutput schema world policy items new
  batch_undisturbed policy items script left after old new policy' refusals is_broken same read none whole same_policy unrefused empty named
      (ended, items', read', all) =
      let again : items' ≡ items = one_script items' items (batch_of left) read' (ap batch_of same ∙ read) in
      undisturbed policy items new refusals empty named
      (subst (λ b. AppendsAll schema world header journals policy items [] new refusals b) whole
      (subst (λ o. AppendsAll schema world header journals policy items o new refusals is_broken) none
      (subst (λ l. AppendsAll schema world header journals policy l old new refusals is_broken) again
      (subst (λ p. AppendsAll schema world header journals p items' old new refusals is_broken) same_policy all)))) unrefused
