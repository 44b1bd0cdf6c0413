-- One user over asks and openings: what his journal shows of his run.
use Rattle.std.proofs.Common.{◌≡◌, ◌⊎◌, inl, inr, ℕ, ◌+◌, ◌≤◌, Bool, true, false, List, [], ◌∷◌, ◌++◌, refl, sym, ap, subst, ◌∙◌, append-nil, arith}
use Rattle.std.specs.Prelude.{if◌then◌else◌, Option, Some, None, is_some, ◌&&◌, ◌||◌, option_to_list, Result, Ok, Err}
use Rattle.std.specs.List.{list_any}
use Rattle.std.proofs.Math.Bool.{and-true, or-false, or-true}
use Rattle.std.proofs.lemmas.Bool.{and_left, or_left, or_right}
use Rattle.outside.specs.Faults.{Rose}
use Rattle.outside.proofs.Rises.{rose_wide}
use Rattle.cqe_base.specs.declared.user.Purpose.{Purpose}
use Rattle.cqe_base.specs.Schema.{DatabaseSchema, Text}
use Rattle.cqe_base.specs.Facts.{FactSet}
use Rattle.cqe_base.specs.Formula.{Formula}
use Rattle.cqe_base.specs.Reading.{Refusal, reading}
use Rattle.cqe_base.specs.History.{UserProfile, AnsweredQuery, History}
use Rattle.cqe_base.specs.Censor.{admitted}
use Rattle.cqe_base.specs.Run
use Rattle.cqe_base.specs.Run.{Reply, Ending, want, kept, failed, Event, call, restart, UserState, opening, after_event, after_events, reply_to_call}
use Rattle.cqe_base.specs.Run.{entry_at, standing_sealed}
use Rattle.cqe_base.proofs.Runs.{after_events-push}
use Rattle.log_journal.specs.declared.header.OpenError.TheVariants as journal_error
use Rattle.user_desk.specs.Causes.{Opens, IsSealedBy, IsStanding, Refuses}
use Rattle.user_desk.specs.Entries.{bytes_needed, IsNoLonger}
use Rattle.user_desk.specs.Lives.{Holds, Restarts, IsState, shown}
use Rattle.desk_counter.specs.Lives.{IsCallOf}
use Rattle.user_desk.specs.Standings.{is_sealed, standing_of}
use Rattle.user_desk.specs.declared.standing.DeskError.{DeskError}
use Rattle.user_desk.specs.declared.standing.DeskError.TheVariants.{Journal, Stale, Unlawful, Size, NotAdmitted, Unsafe}
use Rattle.user_desk.specs.declared.standing.Standing.{Standing}
use Rattle.user_desk.specs.declared.standing.Standing.TheVariants.{Open, Closed, Sealed}
use Rattle.desk_crew.specs.Crew.{first_refusal}
use Rattle.desk_crew.specs.Openings.{OpensNone}
use Rattle.batch_engine.specs.Lives.{RoseBy, is_call, is_opened, is_failed_append, is_refused, failures_in, failures, IsCaused, AreCaused, IsFirstRefusal}
use Rattle.batch_engine.proofs.Events.{rose_more, rose_again, failures-push, any-push, unfailed-push, never_broken, no_longer_on, caused-push, once}
use Rattle.batch_engine.proofs.Events.{broken_adds}

module _ (schema : DatabaseSchema) (world : FactSet) (user : UserProfile) where
  -- bytes that open a desk show no reason to refuse them
  abbrev pub IsExclusive : List ℕ → Type 0
  IsExclusive header =
      (entries : History) (c : List ℕ) (why : DeskError) → Opens schema world user header entries c → Refuses schema world user header c why → ⊥

  module _ (header bytes : List ℕ) (before : ℕ) (first_image : List ℕ → Type 0) where
    -- the bytes opened a desk with this history, and the journal holds the state that the events made of it, at a count that rose for each failure; or they
    -- open none, are still there, and no opening held
    abbrev pub Fits : History → List Event → List ℕ → ℕ → Type 0
    Fits opened events reads now =
        (Opens schema world user header opened bytes
        × Holds schema world user header (after_events schema world user (opening schema world user opened) events) reads
        × RoseBy (failures events) before now)
        ⊎ (OpensNone schema world user header bytes × (opened ≡ []) × (reads ≡ bytes) × (list_any is_opened events ≡ false))

    -- the course of a user's run, by what his journal reads, its count of faults and his first refusal
    pub record Course (opened : History) (events : List Event) (reads : List ℕ) (now : ℕ) (refusal : Option DeskError) : Type 0 where
      pub later : before ≤ now
      pub caused : AreCaused schema world user (opening schema world user opened) events
      pub fits : Fits opened events reads now
      pub refused : IsFirstRefusal schema world user header bytes before now events refusal

    -- a disk reads as it did first, and has no image that it hadn't
    abbrev pub IsStill : (List ℕ → Type 0) → List ℕ → Type 0
    IsStill image reads = (reads ≡ bytes) × ((c : List ℕ) → image c → first_image c)

    -- where an opening held, each image holds the state that the events made; and unless one held and he asked, his disk is as it was
    pub record Stays (opened : History) (events : List Event) (image : List ℕ → Type 0) (reads : List ℕ) : Type 0 where
      pub stands : list_any is_opened events ≡ true → (c : List ℕ) → image c
          → Holds schema world user header (after_events schema world user (opening schema world user opened) events) c
      pub size : list_any is_failed_append events ≡ false
          → IsNoLonger bytes (after_events schema world user (opening schema world user opened) events).entries reads
      pub kept : (list_any is_opened events && list_any is_call events) ≡ false → IsStill image reads

    -- the same at a disk that an opening left
    pub stays_on : (opened : History) (events : List Event) (image image' : List ℕ → Type 0) (reads reads' : List ℕ) → reads' ≡ reads
        → ((c : List ℕ) → image' c → image c) → Stays opened events image reads → Stays opened events image' reads'
    stays_on opened events image image' reads reads' same fewer stays = record {
      stands = λ held c at. stays.stands held c (fewer c at);
      size = λ whole.
          subst (λ r. IsNoLonger bytes (after_events schema world user (opening schema world user opened) events).entries r) (sym same) (stays.size whole);
      kept = λ idle. (same ∙ (stays.kept idle).0, λ c at. (stays.kept idle).1 c (fewer c at));
    }

    -- his run at a desk
    pub record IsRunning (opened : History) (events : List Event) (standing : Standing) (state : UserState) (image : List ℕ → Type 0) (reads : List ℕ) (now : ℕ)
        (refusal : Option DeskError) : Type 0 where
      pub is_in : IsState standing state (after_events schema world user (opening schema world user opened) events)
      pub course : Course opened events reads now refusal
      pub shut : OpensNone schema world user header bytes → is_sealed standing ≡ true
      pub held : is_sealed standing ≡ false → list_any is_opened events ≡ true
      pub stays : Stays opened events image reads

    -- ---- what goes on

    sealed_on : (now later : ℕ) → now ≤ later → (why : DeskError) → IsSealedBy schema world user (Unit {0}) header bytes before now why
        → IsSealedBy schema world user (Unit {0}) header bytes before later why
    sealed_on now later on (Journal journal_error.Memory) is = is
    sealed_on now later on (Journal journal_error.DiskFault) is = rose_wide before before now later (omega arith) on is
    sealed_on now later on (Journal journal_error.NotAJournal) is = is
    sealed_on now later on (Journal journal_error.OtherPolicy) is = is
    sealed_on now later on (Journal (journal_error.Damaged number)) is = is
    sealed_on now later on (Journal journal_error.OldVersion) is = is
    sealed_on now later on (Stale number) is = is
    sealed_on now later on (Unlawful number stored computed) is = is
    sealed_on now later on (Size number) is = is
    sealed_on now later on (Unsafe number) is = is
    sealed_on now later on (NotAdmitted admission) is = is

    refused_later : (now later : ℕ) → now ≤ later → (events : List Event) (refusal : Option DeskError)
        → IsFirstRefusal schema world user header bytes before now events refusal
        → IsFirstRefusal schema world user header bytes before later events refusal
    refused_later now later on events None none = none
    refused_later now later on events (Some why) is = (is.0, sealed_on now later on why is.1)

    -- a refusal is still the first behind an event that is none
    refusal_on : (now later : ℕ) → now ≤ later → (events : List Event) (event : Event) → is_refused event ≡ false → (refusal : Option DeskError)
        → IsFirstRefusal schema world user header bytes before now events refusal
        → IsFirstRefusal schema world user header bytes before later (events ++ event ∷ []) refusal
    refusal_on now later on events event isnt None none = any-push is_refused events event ∙ ap (λ b. b || is_refused event) none ∙ isnt
    refusal_on now later on events event isnt (Some why) is =
        (any-push is_refused events event ∙ or_left (list_any is_refused events) (is_refused event) is.0, sealed_on now later on why is.1)

    -- the course at a later count
    pub course_on : (opened : History) (events : List Event) (reads reads' : List ℕ) (now later : ℕ) (refusal : Option DeskError) → reads' ≡ reads → now ≤ later
        → Course opened events reads now refusal
        → Course opened events reads' later refusal
    course_on opened events reads reads' now later refusal same on course = record {
      later = omega (arith, course.later, on);
      caused = course.caused;
      fits = fits_on course.fits;
      refused = refused_later now later on events refusal course.refused;
    }
      where
        fits_on : Fits opened events reads now → Fits opened events reads' later
        fits_on (inl (opens, holds, rose)) =
            inl (
              opens,
              subst (Holds schema world user header (after_events schema world user (opening schema world user opened) events)) (sym same) holds,
              rose_more (failures events) before now later rose on,
            )
        fits_on (inr (none, empty, is, never)) = inr (none, empty, same ∙ is, never)

    -- ---- an ask

    -- a state whose journal was refused adds nothing
    pub adds_none : (state : UserState) (purpose : Purpose) (text : Text) → state.standing ≡ standing_sealed
        → entry_at schema world user state purpose text ≡ None
    adds_none state purpose text sealed =
        ap (λ s. Run.entry_added text (reading schema text) (Run.reply schema world user state.entries s state.broken purpose text)) sealed
        ∙ by (reading schema text)
      where
        by : (read : Result Formula Refusal) → Run.entry_added text read Run.desk_sealed ≡ None
        by (Ok query) = refl
        by (Err why) = refl

    sealed_still : (state : UserState) (purpose : Purpose) (text : Text) (ending : Ending) → state.standing ≡ standing_sealed
        → after_event schema world user state (call purpose text ending) ≡ state
    sealed_still state purpose text want sealed = refl
    sealed_still state purpose text kept sealed =
        ap (λ e. record state { entries = state.entries ++ option_to_list e }) (adds_none state purpose text sealed)
        ∙ ap (λ es. record state { entries = es }) (append-nil state.entries)
    sealed_still state purpose text failed sealed = ap (λ e. Run.after_failure schema world user state e) (adds_none state purpose text sealed)

    -- the state of a desk that isn't sealed is the one that it shows
    shown_is : (standing : Standing) (desk_state state : UserState) → is_sealed standing ≡ false → IsState standing desk_state state → state ≡ desk_state
    shown_is Open desk_state state served is = is
    shown_is (Closed admission) desk_state state served is = is
    shown_is (Sealed why) desk_state state served is = absurd cc

    sealed_is : (standing : Standing) (desk_state state : UserState) → is_sealed standing ≡ true → IsState standing desk_state state
        → state.standing ≡ standing_sealed
    sealed_is Open desk_state state sealed is = absurd cc
    sealed_is (Closed admission) desk_state state sealed is = absurd cc
    sealed_is (Sealed why) desk_state state sealed is = is

    none_refused : (purpose : Purpose) (text : Text) (ending : Ending) → is_refused (call purpose text ending) ≡ false
    none_refused purpose text ending = refl

    -- The count of his disk at its desk's opening rose for each failure; or for all but the last, an append that failed since.
    pub data RoseBut (events : List Event) (standing : Standing) (state : UserState) (now : ℕ) : Type 0 where
      all_rose : RoseBy (failures events) before now → RoseBut events standing state now
      last_flies : (earlier : ℕ) → failures events ≡ earlier + 1 → RoseBy earlier before now → is_sealed standing ≡ false → state.broken ≡ true
          → RoseBut events standing state now

    -- What is known of his disk as his desk was opened: the bytes opened a desk, where the desk is sealed it holds the state
    -- that the events made, and its count rose; or they open none, and are still there.
    abbrev pub FitsLiving : History → List Event → Standing → UserState → List ℕ → ℕ → Type 0
    FitsLiving opened events standing state reads now =
        (Opens schema world user header opened bytes
        × (is_sealed standing ≡ true → Holds schema world user header (after_events schema world user (opening schema world user opened) events) reads)
        × RoseBut events standing state now)
        ⊎ (OpensNone schema world user header bytes × (opened ≡ []) × (reads ≡ bytes) × (list_any is_opened events ≡ false))

    -- his run at a desk that stands under a counter, whose disk is known as it was at the desk's opening
    pub record IsLiving (opened : History) (events : List Event) (standing : Standing) (state : UserState) (image : List ℕ → Type 0) (reads : List ℕ) (now : ℕ)
        (refusal : Option DeskError) : Type 0 where
      pub is_in : IsState standing state (after_events schema world user (opening schema world user opened) events)
      pub later : before ≤ now
      pub caused : AreCaused schema world user (opening schema world user opened) events
      pub refused : IsFirstRefusal schema world user header bytes before now events refusal
      pub shut : OpensNone schema world user header bytes → is_sealed standing ≡ true
      pub fits : FitsLiving opened events standing state reads now
      pub held : is_sealed standing ≡ false → list_any is_opened events ≡ true
      pub stands : is_sealed standing ≡ true → list_any is_opened events ≡ true → (c : List ℕ) → image c
          → Holds schema world user header (after_events schema world user (opening schema world user opened) events) c
      pub size : list_any is_failed_append events ≡ false
          → IsNoLonger bytes (after_events schema world user (opening schema world user opened) events).entries reads
      pub kept : (list_any is_opened events && list_any is_call events) ≡ false → IsStill image reads

    -- the desk was just opened
    pub live : (opened : History) (events : List Event) (standing : Standing) (state : UserState) (image : List ℕ → Type 0) (reads : List ℕ) (now : ℕ)
        (refusal : Option DeskError)
        → IsRunning opened events standing state image reads now refusal → IsLiving opened events standing state image reads now refusal
    live opened events standing state image reads now refusal running = record {
      is_in = running.is_in;
      later = running.course.later;
      caused = running.course.caused;
      refused = running.course.refused;
      shut = running.shut;
      fits = by running.course.fits;
      held = running.held;
      stands = λ sealed. running.stays.stands;
      size = running.stays.size;
      kept = running.stays.kept;
    }
      where
        by : Fits opened events reads now → FitsLiving opened events standing state reads now
        by (inl (opens, holds, rose)) = inl (opens, λ sealed. holds, all_rose rose)
        by (inr none) = inr none

    -- the desk is closed, and leaves a disk with these images
    pub closing : (opened : History) (events : List Event) (standing : Standing) (state : UserState) (image image' : List ℕ → Type 0) (reads reads' : List ℕ)
        (now later : ℕ) (refusal : Option DeskError)
        → IsLiving opened events standing state image reads now refusal → now ≤ later → (state.broken ≡ true → Rose now later)
        → ((is_sealed standing ≡ true) ⊎ (list_any is_call events ≡ false) → (reads' ≡ reads) × ((c : List ℕ) → image' c → image c))
        → (is_sealed standing ≡ false → (c : List ℕ) → image' c → Holds schema world user header state c)
        → (state.broken ≡ false → IsNoLonger reads state.entries reads') → image' reads'
        → IsRunning opened events standing state image' reads' later refusal
    closing opened events standing state image image' reads reads' now later refusal living on cause same holds grown here = record {
      is_in = living.is_in;
      course = record {
        later = omega (arith, living.later, on);
        caused = living.caused;
        fits = by living.fits;
        refused = refused_later now later on events refusal living.refused;
      };
      shut = living.shut;
      held = living.held;
      stays = record {
        stands = stands_by (is_sealed standing) refl;
        size = λ whole. size_by whole (is_sealed standing) refl;
        kept = λ idle. kept_by idle (is_sealed standing) refl;
      };
    }
      where
        stands_by : (b : Bool) → is_sealed standing ≡ b → list_any is_opened events ≡ true → (c : List ℕ) → image' c
            → Holds schema world user header (after_events schema world user (opening schema world user opened) events) c
        stands_by true sealed some c at = living.stands sealed some c ((same (inl sealed)).1 c at)
        stands_by false served some c at =
            subst (λ s. Holds schema world user header s c) (sym (shown_is standing state _ served living.is_in)) (holds served c at)

        size_by : list_any is_failed_append events ≡ false → (b : Bool) → is_sealed standing ≡ b
            → IsNoLonger bytes (after_events schema world user (opening schema world user opened) events).entries reads'
        size_by whole true sealed =
            subst (λ r. IsNoLonger bytes (after_events schema world user (opening schema world user opened) events).entries r) (sym (same (inl sealed)).0)
            (living.size whole)
        size_by whole false served =
            let is = shown_is standing state (after_events schema world user (opening schema world user opened) events) served living.is_in in
            let unbroken : state.broken ≡ false = ap (λ (s : UserState). s.broken) (sym is)
            ∙ never_broken schema world user (opening schema world user opened) events refl whole in
            let now = grown unbroken in
            let first = living.size whole in
            let entries = ap (λ (s : UserState). bytes_needed s.entries) is in
            omega (arith, now, first, entries)

        left_as : (is_sealed standing ≡ true) ⊎ (list_any is_call events ≡ false) → IsStill image reads → IsStill image' reads'
        left_as why still = ((same why).0 ∙ still.0, λ c at. still.1 c ((same why).1 c at))

        kept_by : (list_any is_opened events && list_any is_call events) ≡ false → (b : Bool) → is_sealed standing ≡ b → IsStill image' reads'
        kept_by idle true sealed = left_as (inl sealed) (living.kept idle)
        kept_by idle false served = left_as (inr (ap (λ b. b && list_any is_call events) (sym (living.held served)) ∙ idle)) (living.kept idle)

        rises : RoseBut events standing state now → RoseBy (failures events) before later
        rises (all_rose rose) = rose_more (failures events) before now later rose on
        rises (last_flies earlier count rose served broken) =
            subst (λ n. RoseBy n before later) (sym count) (rose_again earlier before now later rose on (cause broken))

        held : (is_sealed standing ≡ true → Holds schema world user header (after_events schema world user (opening schema world user opened) events) reads)
            → (b : Bool) → is_sealed standing ≡ b
            → Holds schema world user header (after_events schema world user (opening schema world user opened) events) reads'
        held was true sealed =
            subst (Holds schema world user header (after_events schema world user (opening schema world user opened) events)) (sym (same (inl sealed)).0)
            (was sealed)
        held was false served =
            subst (λ s. Holds schema world user header s reads') (sym (shown_is standing state _ served living.is_in)) (holds served reads' here)

        by : FitsLiving opened events standing state reads now → Fits opened events reads' later
        by (inl (opens, was, rose)) = inl (opens, held was (is_sealed standing) refl, rises rose)
        by (inr (none, empty, is, never)) = inr (none, empty, (same (inl (living.shut none))).0 ∙ is, never)

    -- a call for the user at his desk, with some ending
    pub record Asked (opened : History) (events : List Event) (standing : Standing) (state : UserState) (image : List ℕ → Type 0) (reads : List ℕ) (now : ℕ)
        (refusal : Option DeskError) (purpose : Purpose) (text : Text) (told : Reply) : Type 0 where
      pub ending : Ending
      pub reply : told ≡ reply_to_call schema world user (after_events schema world user (opening schema world user opened) events) purpose text ending
      pub living : IsLiving opened (events ++ call purpose text ending ∷ []) standing state image reads now refusal

    pub ask_step : (opened : History) (events : List Event) (standing : Standing) (old new : UserState) (image : List ℕ → Type 0) (reads : List ℕ) (now : ℕ)
        (refusal : Option DeskError) (purpose : Purpose) (text : Text) (told : Reply)
        → IsLiving opened events standing old image reads now refusal
        → ((state : UserState) → IsState standing old state → IsCallOf schema world user (IsState standing new) state purpose text told)
        → Asked opened events standing new image reads now refusal purpose text told
    ask_step opened events standing old new image reads now refusal purpose text told living settles =
        let one = once schema world user (IsState standing new) state purpose text told (settles state living.is_in) in
        record {
          ending = one.ending;
          reply = one.reply;
          living = record {
            is_in = subst (IsState standing new) (sym (pushed one.ending)) one.after;
            later = living.later;
            caused = caused-push schema world user (opening schema world user opened) events (call purpose text one.ending) living.caused one.caused;
            refused = refusal_on now now (omega arith) events (call purpose text one.ending) (none_refused purpose text one.ending) refusal living.refused;
            shut = living.shut;
            fits = fits_on one.ending one.caused one.after living.fits;
            held = λ served. any-push is_opened events (call purpose text one.ending) ∙ or_left (list_any is_opened events) false (living.held served);
            stands = λ sealed some c at.
                subst (λ s. Holds schema world user header s c)
                (sym (pushed one.ending ∙ sealed_still state purpose text one.ending (sealed_is standing old state sealed living.is_in)))
                (living.stands sealed (sym (unopened one.ending) ∙ some) c at);
            size = λ whole. subst (λ (s : UserState). IsNoLonger bytes s.entries reads) (sym (pushed one.ending))
                (no_longer_on schema world user state (call purpose text one.ending) bytes reads
                (living.size (unfailed-push events (call purpose text one.ending) whole)));
            kept = λ idle. living.kept (never_opened one.ending idle);
          };
        }
      where
        state : UserState
        state = after_events schema world user (opening schema world user opened) events

        pushed : (ending : Ending)
            → after_events schema world user (opening schema world user opened) (events ++ call purpose text ending ∷ [])
            ≡ after_event schema world user state (call purpose text ending)
        pushed ending = after_events-push schema world user (opening schema world user opened) events (call purpose text ending)

        unopened : (ending : Ending) → list_any is_opened (events ++ call purpose text ending ∷ []) ≡ list_any is_opened events
        unopened ending = any-push is_opened events (call purpose text ending) ∙ or-false (list_any is_opened events)

        -- behind an ask the disk is promised to be as it was only where no opening held
        never_opened : (ending : Ending) → (list_any is_opened (events ++ call purpose text ending ∷ []) && list_any is_call
            (events ++ call purpose text ending ∷ [])) ≡ false
            → (list_any is_opened events && list_any is_call events) ≡ false
        never_opened ending idle =
            and_left (list_any is_opened events) (list_any is_call events)
            (sym (and-true (list_any is_opened events))
            ∙ (λ i. sym (unopened ending) i && sym (any-push is_call events (call purpose text ending) ∙ or-true (list_any is_call events)) i) ∙ idle)

        -- a desk whose append failed is still so
        broken_still : (ending : Ending) → IsState standing new (after_event schema world user state (call purpose text ending)) → is_sealed standing ≡ false
            → old.broken ≡ true → (after_event schema world user state (call purpose text ending)).broken ≡ state.broken → new.broken ≡ true
        broken_still ending after served broken same =
            ap (λ (s : UserState). s.broken) (sym (shown_is standing new _ served after)) ∙ same
            ∙ ap (λ (s : UserState). s.broken) (shown_is standing old state served living.is_in) ∙ broken

        more : (ending : Ending) (n : ℕ) → failures_in (call purpose text ending) ≡ n → failures (events ++ call purpose text ending ∷ []) ≡ failures events + n
        more ending n is = failures-push events (call purpose text ending) ∙ ap (λ k. failures events + k) is

        unfailed : (ending : Ending) → failures_in (call purpose text ending) ≡ 0
            → (after_event schema world user state (call purpose text ending)).broken ≡ state.broken
            → IsState standing new (after_event schema world user state (call purpose text ending))
            → RoseBut events standing old now → RoseBut (events ++ call purpose text ending ∷ []) standing new now
        unfailed ending none same after (all_rose rose) = all_rose (subst (λ n. RoseBy n before now) (omega arith ∙ sym (more ending 0 none)) rose)
        unfailed ending none same after (last_flies earlier count rose served broken) =
            last_flies earlier (let e = more ending 0 none in omega (arith, e, count)) rose served (broken_still ending after served broken same)

        -- the entry in flight shows that no append had failed before, and that the desk isn't sealed
        flew : is_some (entry_at schema world user state purpose text) ≡ true
            → IsState standing new (after_event schema world user state (call purpose text failed))
            → RoseBut events standing old now → (b : Bool) → is_sealed standing ≡ b
            → RoseBut (events ++ call purpose text failed ∷ []) standing new now
        flew some after rose true sealed =
            let e : false ≡ true =
            sym (ap (λ (o : Option AnsweredQuery). is_some o) (adds_none state purpose text (sealed_is standing old state sealed living.is_in)))
            ∙ some in absurd cc
        flew some after (all_rose rose) false served =
            last_flies (failures events) (more failed 1 refl) rose served
            (by_entry (entry_at schema world user state purpose text) some (shown_is standing new _ served after))
          where
            by_entry : (entry : Option AnsweredQuery) → is_some entry ≡ true → Run.after_failure schema world user state entry ≡ new → new.broken ≡ true
            by_entry (Some entry) some is = ap (λ (s : UserState). s.broken) (sym is)
            by_entry None some is = absurd cc
        flew some after (last_flies earlier count rose served' broken) false served =
            let broke : state.broken ≡ true = ap (λ (s : UserState). s.broken) (shown_is standing old state served living.is_in) ∙ broken in
            let e : false ≡ true = sym (ap (λ (o : Option AnsweredQuery). is_some o) (broken_adds schema world user state purpose text broke)) ∙ some in
            absurd cc

        rises : (ending : Ending) → IsCaused schema world user state (call purpose text ending)
            → IsState standing new (after_event schema world user state (call purpose text ending)) → RoseBut events standing old now
            → RoseBut (events ++ call purpose text ending ∷ []) standing new now
        rises want caused after rose = unfailed want refl refl after rose
        rises kept caused after rose = unfailed kept refl refl after rose
        rises failed caused after rose = flew caused after rose (is_sealed standing) refl

        fits_on : (ending : Ending) → IsCaused schema world user state (call purpose text ending)
            → IsState standing new (after_event schema world user state (call purpose text ending))
            → FitsLiving opened events standing old reads now → FitsLiving opened (events ++ call purpose text ending ∷ []) standing new reads now
        fits_on ending caused after (inl (opens, was, rose)) = inl (
          opens,
          λ sealed. subst (λ s. Holds schema world user header s reads)
              (sym (pushed ending ∙ sealed_still state purpose text ending (sealed_is standing old state sealed living.is_in))) (was sealed),
          rises ending caused after rose,
        )
        fits_on ending caused after (inr (none, empty, is, never)) =
            inr (none, empty, is, any-push is_opened events (call purpose text ending) ∙ ap (λ b. b || false) never)

    -- ---- an opening

    opened_false : (event : Event) → is_opened event ≡ false → (events : List Event) → list_any is_opened events ≡ false
        → list_any is_opened (events ++ event ∷ []) ≡ false
    opened_false event isnt events never = any-push is_opened events event ∙ ap (λ b. b || is_opened event) never ∙ isnt

    -- the choices of an opening
    pub record Restarted (opened : History) (events : List Event) (standing : Standing) (state : UserState) (image : List ℕ → Type 0) (reads : List ℕ) (now : ℕ)
        (refusal : Option DeskError) : Type 0 where
      pub found : Bool
      pub opens : Bool
      pub running : IsRunning opened (events ++ restart found opens ∷ []) standing state image reads now refusal

    -- of bytes that open a desk only a fault of the disk is a reason
    faulty : IsExclusive header → (entries : History) (c : List ℕ) → Opens schema world user header entries c → (T : Type 0) → T → (start now later : ℕ)
        → before ≤ start → start ≤ now → now ≤ later → (why : DeskError)
        → IsSealedBy schema world user T header c now later why → IsSealedBy schema world user (Unit {0}) header bytes before later why
    faulty exclusive entries c opens T t start now later a b on (Journal journal_error.Memory) is = is
    faulty exclusive entries c opens T t start now later a b on (Journal journal_error.DiskFault) (inl some) = inl (omega (arith, some, a, b))
    faulty exclusive entries c opens T t start now later a b on (Journal journal_error.DiskFault) (inr full) = inr full
    faulty exclusive entries c opens T t start now later a b on (Journal journal_error.NotAJournal) is =
        absurd (exclusive entries c (Journal journal_error.NotAJournal) opens (is t))
    faulty exclusive entries c opens T t start now later a b on (Journal journal_error.OtherPolicy) is =
        absurd (exclusive entries c (Journal journal_error.OtherPolicy) opens (is t))
    faulty exclusive entries c opens T t start now later a b on (Journal (journal_error.Damaged number)) is =
        absurd (exclusive entries c (Journal (journal_error.Damaged number)) opens (is t))
    faulty exclusive entries c opens T t start now later a b on (Journal journal_error.OldVersion) is =
        absurd (exclusive entries c (Journal journal_error.OldVersion) opens (is t))
    faulty exclusive entries c opens T t start now later a b on (Stale number) is = absurd (exclusive entries c (Stale number) opens (is t))
    faulty exclusive entries c opens T t start now later a b on (Unlawful number stored computed) is =
        absurd (exclusive entries c (Unlawful number stored computed) opens (is t))
    faulty exclusive entries c opens T t start now later a b on (Size number) is = absurd (exclusive entries c (Size number) opens (is t))
    faulty exclusive entries c opens T t start now later a b on (Unsafe number) is = absurd (exclusive entries c (Unsafe number) opens (is t))
    faulty exclusive entries c opens T t start now later a b on (NotAdmitted admission) is = absurd (exclusive entries c (NotAdmitted admission) opens (is t))

    -- the bytes are still those at the beginning
    shown_by : (T : Type 0) → T → (c : List ℕ) → c ≡ bytes → (now later : ℕ) → before ≤ now → now ≤ later → (why : DeskError)
        → IsSealedBy schema world user T header c now later why → IsSealedBy schema world user (Unit {0}) header bytes before later why
    shown_by T t c same now later a on (Journal journal_error.Memory) is = is
    shown_by T t c same now later a on (Journal journal_error.DiskFault) (inl some) = inl (omega (arith, some, a))
    shown_by T t c same now later a on (Journal journal_error.DiskFault) (inr full) = inr full
    shown_by T t c same now later a on (Journal journal_error.NotAJournal) is =
        λ u. subst (λ b. Refuses schema world user header b (Journal journal_error.NotAJournal)) same (is t)
    shown_by T t c same now later a on (Journal journal_error.OtherPolicy) is =
        λ u. subst (λ b. Refuses schema world user header b (Journal journal_error.OtherPolicy)) same (is t)
    shown_by T t c same now later a on (Journal (journal_error.Damaged number)) is =
        λ u. subst (λ b. Refuses schema world user header b (Journal (journal_error.Damaged number))) same (is t)
    shown_by T t c same now later a on (Journal journal_error.OldVersion) is =
        λ u. subst (λ b. Refuses schema world user header b (Journal journal_error.OldVersion)) same (is t)
    shown_by T t c same now later a on (Stale number) is = λ u. subst (λ b. Refuses schema world user header b (Stale number)) same (is t)
    shown_by T t c same now later a on (Unlawful number stored computed) is =
        λ u. subst (λ b. Refuses schema world user header b (Unlawful number stored computed)) same (is t)
    shown_by T t c same now later a on (Size number) is = λ u. subst (λ b. Refuses schema world user header b (Size number)) same (is t)
    shown_by T t c same now later a on (Unsafe number) is = λ u. subst (λ b. Refuses schema world user header b (Unsafe number)) same (is t)
    shown_by T t c same now later a on (NotAdmitted admission) is = λ u. subst (λ b. Refuses schema world user header b (NotAdmitted admission)) same (is t)

    -- the first refusal behind an opening with this standing
    refusal_next : (now later : ℕ) → now ≤ later → (events : List Event) (found opens : Bool) (standing : Standing)
        → (is_sealed standing ≡ true → opens ≡ false) → (is_sealed standing ≡ false → opens ≡ true)
        → ((why : DeskError) → standing ≡ Sealed why → IsSealedBy schema world user (Unit {0}) header bytes before later why)
        → (refusal : Option DeskError) → IsFirstRefusal schema world user header bytes before now events refusal
        → IsFirstRefusal schema world user header bytes before later (events ++ restart found opens ∷ []) (first_refusal refusal standing)
    refusal_next now later on events found opens standing shut held cause (Some why) is = (
      any-push is_refused events (restart found opens) ∙ or_left (list_any is_refused events) (is_refused (restart found opens)) is.0,
      sealed_on now later on why is.1,
    )
    refusal_next now later on events found opens Open shut held cause None none =
        any-push is_refused events (restart found opens) ∙ ap (λ b. b || is_refused (restart found opens)) none
        ∙ ap (λ b. is_refused (restart found b)) (held refl)
    refusal_next now later on events found opens (Closed admission) shut held cause None none =
        any-push is_refused events (restart found opens) ∙ ap (λ b. b || is_refused (restart found opens)) none
        ∙ ap (λ b. is_refused (restart found b)) (held refl)
    refusal_next now later on events found opens (Sealed why) shut held cause None none = (
      any-push is_refused events (restart found opens) ∙ ap (λ b. b || is_refused (restart found opens)) none
          ∙ ap (λ b. is_refused (restart found b)) (shut refl),
      cause why refl,
    )

    -- an opening that holds isn't of a sealed desk, and one that is refused is
    opens_shut : (standing : Standing) (desk_state state : UserState) (found opens : Bool)
        → IsState standing desk_state (after_event schema world user state (restart found opens)) → is_sealed standing ≡ true → opens ≡ false
    opens_shut standing desk_state state found false is sealed = refl
    opens_shut standing desk_state state found true is sealed =
        absurd (never (admitted schema world user) (sealed_is standing desk_state (after_event schema world user state (restart found true)) sealed is))
      where
        never : (b : Bool) → (if b then Run.standing_open else Run.standing_closed) ≡ standing_sealed → ⊥
        never true e = cc
        never false e = cc

    -- where the journal is refused, neither an ask nor an opening takes an entry, and none is an opening that holds
    module _ (opened : History) (events : List Event) (standing : Standing) (desk_state : UserState) (sealed : is_sealed standing ≡ true) where
      abbrev behind : List Event → UserState
      behind all = after_events schema world user (opening schema world user opened) all

      pub still_asked : (purpose : Purpose) (text : Text) (ending : Ending) → IsState standing desk_state (behind events)
          → (list_any is_opened (events ++ call purpose text ending ∷ []) ≡ list_any is_opened events)
          × (behind (events ++ call purpose text ending ∷ []) ≡ behind events)
      still_asked purpose text ending is = (
        any-push is_opened events (call purpose text ending) ∙ or-false (list_any is_opened events),
        after_events-push schema world user (opening schema world user opened) events (call purpose text ending)
            ∙ sealed_still (behind events) purpose text ending (sealed_is standing desk_state (behind events) sealed is),
      )

      pub still_restarted : (found opens : Bool) → IsState standing desk_state (behind (events ++ restart found opens ∷ []))
          → (list_any is_opened (events ++ restart found opens ∷ []) ≡ list_any is_opened events)
          × ((behind (events ++ restart found opens ∷ [])).entries ≡ (behind events).entries)
      still_restarted found opens is =
          let pushed = after_events-push schema world user (opening schema world user opened) events (restart found opens) in
          let shut : opens ≡ false =
          opens_shut standing desk_state (behind events) found opens (subst (IsState standing desk_state) pushed is) sealed in (
            any-push is_opened events (restart found opens) ∙ ap (λ b. list_any is_opened events || b) shut ∙ or-false (list_any is_opened events),
            ap (λ (s : UserState). s.entries) pushed
                ∙ ap (λ b. (after_event schema world user (behind events) (restart found b)).entries) shut,
          )

    opens_held : (standing : Standing) (shown_standing : Run.Standing) (entries : History) (pending : Option AnsweredQuery) (state : UserState)
        (found opens : Bool) → shown_standing ≡ standing_of standing
        → IsState standing (record { entries = entries; standing = shown_standing; broken = is_some pending; pending = pending })
        (after_event schema world user state (restart found opens)) → is_sealed standing ≡ false → opens ≡ true
    opens_held standing shown_standing entries pending state found true same is served = refl
    opens_held Open shown_standing entries pending state found false same is served =
        let e : standing_sealed ≡ Run.standing_open = ap (λ s. s.standing) is ∙ same in absurd cc
    opens_held (Closed admission) shown_standing entries pending state found false same is served =
        let e : standing_sealed ≡ Run.standing_closed = ap (λ s. s.standing) is ∙ same in absurd cc
    opens_held (Sealed why) shown_standing entries pending state found false same is served = absurd cc

    risen_by : (standing : Standing) (events : List Event) (found opens : Bool) (now later : ℕ) → now ≤ later → (opens ≡ false → Rose now later)
        → RoseBy (failures events) before now → RoseBy (failures (events ++ restart found opens ∷ [])) before later
    risen_by standing events found true now later on cause rose =
        subst (λ n. RoseBy n before later) (omega arith ∙ sym (failures-push events (restart found true)))
        (rose_more (failures events) before now later rose on)
    risen_by standing events found false now later on cause rose =
        subst (λ n. RoseBy n before later) (sym (failures-push events (restart found false)))
        (rose_again (failures events) before now later rose on (cause refl))

    -- the state behind an opening that was refused is held where the state before it was
    refused_holds : (state : UserState) (found : Bool) (c : List ℕ) → Holds schema world user header state c
        → Holds schema world user header (after_event schema world user state (restart found false)) c
    refused_holds state found c holds = record { found = holds.found; sought = holds.sought; opens = by holds.found holds.opens }
      where
        by : (b : Bool) → Opens schema world user header (Run.entries_found schema world user state b) c
            → Opens schema world user header (Run.entries_found schema world user (record state { standing = standing_sealed }) b) c
        by true opens = opens
        by false opens = opens

    -- what is known of an opening with this standing and these entries
    pub record Known (T : Type 0) (entries : History) (pending : Option AnsweredQuery) (standing : Standing) (image : List ℕ → Type 0) (reads : List ℕ)
        (now later : ℕ) : Type 0 where
      pub standing_is : IsStanding schema world user T header reads entries now later standing
      pub restarted : (state : UserState) → Holds schema world user header state reads
          → Restarts schema world user (IsState standing (shown entries (standing_of standing) pending)) state now later
      pub on : now ≤ later
      pub holds : is_sealed standing ≡ false → (c : List ℕ) → image c → Holds schema world user header (shown entries (standing_of standing) pending) c
      pub here : image reads

    -- an opening of bytes that open no desk is refused
    shut_by : (T : Type 0) → T → (entries : History) (standing : Standing) (reads : List ℕ) (now later : ℕ) → OpensNone schema world user header bytes
        → reads ≡ bytes
        → IsStanding schema world user T header reads entries now later standing → is_sealed standing ≡ true
    shut_by T t entries Open reads now later none same is = absurd (none entries (subst (Opens schema world user header entries) same (is.1 t)))
    shut_by T t entries (Closed admission) reads now later none same is = absurd (none entries (subst (Opens schema world user header entries) same (is.3 t)))
    shut_by T t entries (Sealed why) reads now later none same is = refl

    why_sealed : (T : Type 0) (entries : History) (standing : Standing) (reads : List ℕ) (now later : ℕ) (why : DeskError) → standing ≡ Sealed why
        → IsStanding schema world user T header reads entries now later standing
        → IsSealedBy schema world user T header reads now later why
    why_sealed T entries standing reads now later why same is = (subst (IsStanding schema world user T header reads entries now later) same is).1

    -- what a disk holds behind an opening that left it so
    stays_next : (opened : History) (events : List Event) (found opens : Bool) (standing : Standing) (desk_state : UserState) (image : List ℕ → Type 0)
        (reads : List ℕ) → Stays opened events image reads
        → (is_sealed standing ≡ true → opens ≡ false) → (is_sealed standing ≡ false → opens ≡ true)
        → IsState standing desk_state
        (after_event schema world user (after_events schema world user (opening schema world user opened) events) (restart found opens))
        → (is_sealed standing ≡ false → (c : List ℕ) → image c → Holds schema world user header desk_state c)
        → Stays opened (events ++ restart found opens ∷ []) image reads
    stays_next opened events found opens standing desk_state image reads stays shut held is holds = record {
      stands = λ some c at. subst (λ s. Holds schema world user header s c) (sym pushed) (stands_by (is_sealed standing) refl some c at);
      size = λ whole. subst (λ (s : UserState). IsNoLonger bytes s.entries reads) (sym pushed)
          (no_longer_on schema world user state (restart found opens) bytes reads (stays.size (unfailed-push events (restart found opens) whole)));
      kept = λ idle. stays.kept
          (idle_before (list_any is_opened events) (list_any is_call events) opens
          ((λ i. sym (any-push is_opened events (restart found opens)) i
          && sym (any-push is_call events (restart found opens) ∙ or-false (list_any is_call events)) i) ∙ idle));
    }
      where
        state : UserState
        state = after_events schema world user (opening schema world user opened) events

        pushed : after_events schema world user (opening schema world user opened) (events ++ restart found opens ∷ [])
            ≡ after_event schema world user state (restart found opens)
        pushed = after_events-push schema world user (opening schema world user opened) events (restart found opens)

        idle_before : (some asked more : Bool) → ((some || more) && asked) ≡ false → (some && asked) ≡ false
        idle_before true asked more idle = idle
        idle_before false asked more idle = refl

        stands_by : (b : Bool) → is_sealed standing ≡ b → list_any is_opened (events ++ restart found opens ∷ []) ≡ true → (c : List ℕ) → image c
            → Holds schema world user header (after_event schema world user state (restart found opens)) c
        stands_by true sealed some c at =
            subst (λ o. Holds schema world user header (after_event schema world user state (restart found o)) c) (sym (shut sealed))
            (refused_holds state found c
            (stays.stands (sym (or-false (list_any is_opened events)) ∙ ap (λ b. list_any is_opened events || b) (sym (shut sealed))
            ∙ sym (any-push is_opened events (restart found opens)) ∙ some) c at))
        stands_by false served some c at = subst (λ s. Holds schema world user header s c) (sym (shown_is standing desk_state _ served is)) (holds served c at)

    held_next : (events : List Event) (found opens : Bool) (standing : Standing) → (is_sealed standing ≡ false → opens ≡ true) → is_sealed standing ≡ false
        → list_any is_opened (events ++ restart found opens ∷ []) ≡ true
    held_next events found opens standing held served =
        any-push is_opened events (restart found opens) ∙ or_right (list_any is_opened events) opens (held served)

    pub open_step : IsExclusive header → (T : Type 0) → T
        → (opened : History) (events : List Event) (reads : List ℕ) (now later : ℕ) (refusal : Option DeskError) (entries : History)
        (pending : Option AnsweredQuery) (standing : Standing)
        (image : List ℕ → Type 0)
        → Course opened events reads now refusal → Stays opened events image reads → Known T entries pending standing image reads now later
        → Restarted opened events standing (shown entries (standing_of standing) pending) image reads later (first_refusal refusal standing)
    open_step exclusive T t opened events reads now later refusal entries pending standing image course stays known = by course.fits
      where
        state : UserState
        state = after_events schema world user (opening schema world user opened) events

        desk_state : UserState
        desk_state = shown entries (standing_of standing) pending

        by_seal : (found opens : Bool) → IsState standing desk_state (after_event schema world user state (restart found opens))
            → Holds schema world user header state reads → (b : Bool) → is_sealed standing ≡ b
            → Holds schema world user header (after_event schema world user state (restart found opens)) reads
        by_seal found opens is was true sealed =
            subst (λ o. Holds schema world user header (after_event schema world user state (restart found o)) reads)
            (sym (opens_shut standing desk_state state found opens is sealed)) (refused_holds state found reads was)
        by_seal found opens is was false served =
            subst (λ s. Holds schema world user header s reads) (sym (shown_is standing desk_state _ served is)) (known.holds served reads known.here)

        by : Fits opened events reads now → Restarted opened events standing desk_state image reads later (first_refusal refusal standing)
        by (inl (opens, was, rose)) =
            let again : Restarts schema world user (IsState standing desk_state) state now later = known.restarted state was in
            let event : Event = restart again.found again.opened in
            let next = after_event schema world user state event in
            let pushed : after_events schema world user (opening schema world user opened) (events ++ event ∷ []) ≡ next =
            after_events-push schema world user (opening schema world user opened) events event in
            record {
              found = again.found;
              opens = again.opened;
              running = record {
                is_in = subst (IsState standing desk_state) (sym pushed) again.after;
                course = record {
                  later = omega (arith, course.later, known.on);
                  caused = caused-push schema world user (opening schema world user opened) events event course.caused again.sought;
                  fits = inl (
                    opens,
                    subst (λ s. Holds schema world user header s reads) (sym pushed)
                        (by_seal again.found again.opened again.after was (is_sealed standing) refl),
                    risen_by standing events again.found again.opened now later known.on again.cause rose,
                  );
                  refused = refusal_next now later known.on events again.found again.opened standing
                      (opens_shut standing desk_state state again.found again.opened again.after)
                      (opens_held standing (standing_of standing) entries pending state again.found again.opened refl again.after)
                      (λ why same. faulty exclusive _ reads was.opens T t now now later course.later (omega arith) known.on why
                      (why_sealed T entries standing reads now later why same known.standing_is)) refusal course.refused;
                };
                shut = λ none. absurd (none opened opens);
                held = held_next events again.found again.opened standing
                    (opens_held standing (standing_of standing) entries pending state again.found again.opened refl again.after);
                stays = stays_next opened events again.found again.opened standing desk_state image reads stays
                    (opens_shut standing desk_state state again.found again.opened again.after)
                    (opens_held standing (standing_of standing) entries pending state again.found again.opened refl again.after) again.after known.holds;
              };
            }
        by (inr (none, empty, same, never)) =
            let sealed : is_sealed standing ≡ true = shut_by T t entries standing reads now later none same known.standing_is in
            let event : Event = restart false false in
            let pushed : after_events schema world user (opening schema world user opened) (events ++ event ∷ []) ≡ after_event schema world user state event =
            after_events-push schema world user (opening schema world user opened) events event in
            record {
              found = false;
              opens = false;
              running = record {
                is_in = subst (IsState standing desk_state) (sym pushed) (in_seal standing sealed);
                course = record {
                  later = omega (arith, course.later, known.on);
                  caused = caused-push schema world user (opening schema world user opened) events event course.caused (λ e. absurd cc);
                  fits = inr (none, empty, same, opened_false event refl events never);
                  refused = refusal_next now later known.on events false false standing (λ s. refl) (λ served. let e : true ≡ false = sym sealed ∙ served in
                      absurd cc)
                      (λ why is. shown_by T t reads same now later course.later known.on why
                      (why_sealed T entries standing reads now later why is known.standing_is)) refusal course.refused;
                };
                shut = λ n. sealed;
                held = λ served. let e : true ≡ false = sym sealed ∙ served in absurd cc;
                stays = stays_next opened events false false standing desk_state image reads stays (λ s. refl) (λ served.
                    let e : true ≡ false = sym sealed ∙ served in absurd cc) (in_seal standing sealed) known.holds;
              };
            }
          where
            in_seal : (s : Standing) → is_sealed s ≡ true → IsState s desk_state (after_event schema world user state (restart false false))
            in_seal Open e = absurd cc
            in_seal (Closed admission) e = absurd cc
            in_seal (Sealed why) e = refl
