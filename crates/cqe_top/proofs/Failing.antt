-- Without a rise of a disk's count no journal is refused that can be opened, and no line says that an append failed.
use Rattle.std.proofs.Common.{◌≡◌, inl, inr, ℕ, ◌+◌, ◌≤◌, Bool, true, false, ◌||◌, List, [], ◌∷◌, ◌++◌, length, Option, None, Some, Result, Ok, Err, refl, sym}
use Rattle.std.proofs.Common.{ap, ◌∙◌, arith}
use Rattle.std.specs.Prelude.{find, bytes_eq, if◌then◌else◌}
use Rattle.std.specs.List.{list_any, AllByRecursion}
use Rattle.std.proofs.lemmas.Slice.Eq.{bytes_eq-Decides}
use Rattle.std.proofs.lemmas.Bool.{or_right}
use Rattle.outside.specs.Faults.{Rose}
use Rattle.cqe_base.specs.declared.user.Purpose.{Purpose}
use Rattle.cqe_base.specs.declared.user.Purpose.TheVariants.{Asking, Protecting}
use Rattle.cqe_base.specs.Schema.{Text, DatabaseSchema}
use Rattle.cqe_base.specs.Facts.{FactSet}
use Rattle.cqe_base.specs.Formula.{Formula}
use Rattle.cqe_base.specs.Reading.{Refusal, reading}
use Rattle.cqe_base.specs.History.{UserProfile, History}
use Rattle.cqe_base.specs.Censor.{mark_after, safe_after}
use Rattle.cqe_base.specs.Run
use Rattle.cqe_base.specs.Run.{Reply, marked, no_sentence, history_full, too_large, user_closed, desk_sealed, desk_broken, no_memory, secrets_full}
use Rattle.cqe_base.specs.Run.{unsafe_secret, standing_open, standing_closed, standing_sealed, Event, call, stop, restart, want, kept, failed, UserState}
use Rattle.cqe_base.specs.Run.{reply_by, answer_by, protection_by, is_full, is_too_large, is_too_large_secret, has_all_secrets, after_event, replies_from}
use Rattle.cqe_base.specs.Run.{replies, opening}
use Rattle.cqe_base.specs.Transcript.{NamedUser, Caller, purpose_of, ScriptEvent, script_call, script_stop, script_restart, script_opening, Line, reply_line}
use Rattle.cqe_base.specs.Transcript.{restart_line}
use Rattle.cqe_base.specs.Transcript.{own_events, own_reply, own_replies, told_after, lines_after, transcript}
use Rattle.cqe_base.proofs.Lists.{one_found}
use Rattle.user_desk.specs.Causes.{Opens}
use Rattle.user_desk.specs.declared.standing.DeskError.{DeskError}
use Rattle.desk_crew.specs.Openings.{OpensWith}
use Rattle.batch_engine.specs.Lives.{RoseBy, is_refused, failures, failures_in, AreCaused}
use Rattle.desk_crew.specs.Shelved.{Journals}
use Rattle.batch_engine.specs.Batch.{ServesUser, AreRefusals, is_broken_line}
use Rattle.cqe_top.specs.Reports.{has_refusal}

-- ---- tests of lists

other : (a b : Bool) → a ≡ false → (a || b) ≡ true → b ≡ true
other a b none either = sym (ap (λ c. c || b) none) ∙ either

any_behind : {X : Type 0} (test : X → Bool) (xs ys : List X) → list_any test ys ≡ true → list_any test (xs ++ ys) ≡ true
any_behind test [] ys says = says
any_behind test (x ∷ xs) ys says = or_right (test x) (list_any test (xs ++ ys)) (any_behind test xs ys says)

-- ---- one user

-- a reply says that an append failed
abbrev is_broken : Reply → Bool
is_broken desk_broken = true
is_broken told = false

failures-cons : (event : Event) (events : List Event) → failures (event ∷ events) ≡ failures_in event + failures events
failures-cons event events = refl

refused_fails : (events : List Event) → list_any is_refused events ≡ true → 1 ≤ failures events
refused_fails [] says = let clash : false ≡ true = says in absurd cc
refused_fails (call purpose text want ∷ events) says =
    let later = refused_fails events says in let sum = failures-cons (call purpose text want) events in omega (arith, later, sum)
refused_fails (call purpose text kept ∷ events) says =
    let later = refused_fails events says in let sum = failures-cons (call purpose text kept) events in omega (arith, later, sum)
refused_fails (call purpose text failed ∷ events) says = let sum = failures-cons (call purpose text failed) events in omega (arith, sum)
refused_fails (stop purpose text ∷ events) says = let later = refused_fails events says in let sum = failures-cons (stop purpose text) events in omega
    (arith, later, sum)
refused_fails (restart found true ∷ events) says =
    let later = refused_fails events says in let sum = failures-cons (restart found true) events in omega (arith, later, sum)
refused_fails (restart found false ∷ events) says = let sum = failures-cons (restart found false) events in omega (arith, sum)

module _ (schema : DatabaseSchema) (world : FactSet) (user : UserProfile) where
  -- before an append failed, no rule gives a reply that one did
  unbroken : (entries : History) (standing : Run.Standing) (purpose : Purpose) (text : Text) (read : Result Formula Refusal)
      → is_broken (reply_by schema world user entries standing false purpose text read) ≡ false
  unbroken entries standing_sealed purpose text read = refl
  unbroken entries standing_closed purpose text read = refl
  unbroken entries standing_open purpose text (Err refusal) = refl
  unbroken entries standing_open Asking text (Ok query) = by (is_full entries (length text)) (is_too_large schema user entries query)
    where
      by : (full large : Bool) → is_broken (answer_by full large (mark_after schema world user entries query)) ≡ false
      by true large = refl
      by false true = refl
      by false false = refl
  unbroken entries standing_open Protecting text (Ok secret) =
      by (is_full entries (length text)) (is_too_large_secret schema user entries secret) (has_all_secrets user entries) (safe_after schema user entries secret)
    where
      by : (full large many safe : Bool) → is_broken (protection_by full large many safe) ≡ false
      by true large many safe = refl
      by false true many safe = refl
      by false false true safe = refl
      by false false false true = refl
      by false false false false = refl

  broken_fails : (state : UserState) (events : List Event) → state.broken ≡ false → AreCaused schema world user state events
      → list_any is_broken (replies_from schema world user state events) ≡ true
      → 1 ≤ failures events
  broken_fails state [] whole caused says = let clash : false ≡ true = says in absurd cc
  broken_fails state (call purpose text want ∷ events) whole caused says =
      let later = broken_fails state events whole caused.1 says in let sum = failures-cons (call purpose text want) events in omega (arith, later, sum)
  broken_fails state (call purpose text kept ∷ events) whole caused says =
      let unsaid = ap (λ b. is_broken (reply_by schema world user state.entries state.standing b purpose text (reading schema text))) whole
      ∙ unbroken state.entries state.standing purpose text (reading schema text) in
      let later = broken_fails (after_event schema world user state (call purpose text kept)) events whole caused.1 (other _ _ unsaid says) in
      let sum = failures-cons (call purpose text kept) events in omega (arith, later, sum)
  broken_fails state (call purpose text failed ∷ events) whole caused says = let sum = failures-cons (call purpose text failed) events in omega (arith, sum)
  broken_fails state (stop purpose text ∷ events) whole caused says = absurd caused.0
  broken_fails state (restart found true ∷ events) whole caused says =
      let later = broken_fails (after_event schema world user state (restart found true)) events refl caused.1 says in
      let sum = failures-cons (restart found true) events in omega (arith, later, sum)
  broken_fails state (restart found false ∷ events) whole caused says = let sum = failures-cons (restart found false) events in omega (arith, sum)

-- ---- the lines of a script

same_line : (name : Text) (caller : Caller) (told : Reply) → is_broken_line (reply_line name caller (Some told)) ≡ is_broken told
same_line name caller (marked mark) = refl
same_line name caller (no_sentence kind place) = refl
same_line name caller history_full = refl
same_line name caller too_large = refl
same_line name caller user_closed = refl
same_line name caller desk_sealed = refl
same_line name caller desk_broken = refl
same_line name caller no_memory = refl
same_line name caller secrets_full = refl
same_line name caller unsafe_secret = refl

-- a user who has the name is told that an append failed
pub record IsTold (users : List NamedUser) (lines : List Line) : Type 0 where
  pub name : Text
  pub user : NamedUser
  pub is : find (λ u. bytes_eq u.name name) users ≡ Some user
  pub told : list_any is_broken (own_replies name lines) ≡ true

behind : (users : List NamedUser) (line : Line) (lines : List Line) → IsTold users lines → IsTold users (line ∷ lines)
behind users line lines one =
    record { name = one.name; user = one.user; is = one.is; told = any_behind is_broken (own_reply one.name line) (own_replies one.name lines) one.told }

here : (users : List NamedUser) (name : Text) (caller : Caller) (told_reply : Reply) (user : NamedUser) (lines : List Line)
    → find (λ u. bytes_eq u.name name) users ≡ Some user → is_broken told_reply ≡ true
    → IsTold users (reply_line name caller (Some told_reply) ∷ lines)
here users name caller told_reply user lines is broken =
    record { name = name; user = user; is = is; told = own ∙ ap (λ b. b || list_any is_broken (own_replies name lines)) broken }
  where
    own : list_any is_broken ((if bytes_eq name name then told_reply ∷ [] else []) ++ own_replies name lines)
        ≡ (is_broken told_reply || list_any is_broken (own_replies name lines))
    own = ap (λ b. list_any is_broken ((if b then told_reply ∷ [] else []) ++ own_replies name lines)) ((bytes_eq-Decides name name).1 refl)

module _ (schema : DatabaseSchema) (world : FactSet) (users : List NamedUser) where
  told_so : (earlier events : List ScriptEvent) → list_any is_broken_line (lines_after schema world users earlier events) ≡ true
      → IsTold users (lines_after schema world users earlier events)
  told_so earlier [] says = let clash : false ≡ true = says in absurd cc
  told_so earlier (script_stop name purpose text ∷ events) says = told_so (earlier ++ script_stop name purpose text ∷ []) events says
  told_so earlier (script_opening found opened ∷ events) says = told_so (earlier ++ script_opening found opened ∷ []) events says
  told_so earlier (script_restart found opened ∷ events) says = behind users restart_line _ (told_so (earlier ++ script_restart found opened ∷ []) events says)
  told_so earlier (script_call name caller text ending ∷ events) says =
      by (find (λ u. bytes_eq u.name name) users) refl (told_so (earlier ++ script_call name caller text ending ∷ []) events) says
    where
      told_by : (user : NamedUser) (told_reply : Reply) (lines : List Line) (b : Bool) → is_broken told_reply ≡ b
          → find (λ u. bytes_eq u.name name) users ≡ Some user
          → (list_any is_broken_line lines ≡ true → IsTold users lines)
          → (is_broken_line (reply_line name caller (Some told_reply)) || list_any is_broken_line lines) ≡ true
          → IsTold users (reply_line name caller (Some told_reply) ∷ lines)
      told_by user told_reply lines true broken is further says = here users name caller told_reply user lines is broken
      told_by user told_reply lines false broken is further says = behind users _ _ (further (other _ _ (same_line name caller told_reply ∙ broken) says))

      by : {lines : List Line} (asker : Option NamedUser) → find (λ u. bytes_eq u.name name) users ≡ asker
          → (list_any is_broken_line lines ≡ true → IsTold users lines)
          → list_any is_broken_line (reply_line name caller (told_after schema world earlier (purpose_of caller) text ending asker) ∷ lines) ≡ true
          → IsTold users (reply_line name caller (told_after schema world earlier (purpose_of caller) text ending asker) ∷ lines)
      by None is further says = behind users _ _ (further says)
      by (Some user) is further says = told_by user _ _ (is_broken _) refl is further says

  whole_script : (events : List ScriptEvent) → list_any is_broken_line (transcript schema world users events) ≡ true
      → IsTold users (transcript schema world users events)
  unfolding transcript
  whole_script events says = told_so [] events says

-- ---- the users of a batch

module _ (schema : DatabaseSchema) (world : FactSet) (header : List ℕ) (journals : Journals) where
  -- a user's journal can be opened, and the count of its disk didn't rise
  abbrev pub CanOpen : NamedUser → Type 0
  CanOpen user = ((entries : History) × Opens schema world user.profile header entries (journals.bytes user.name))
      × (Rose (journals.before user.name) (journals.now user.name) → ⊥)

  module _ (users : List NamedUser) (events : List ScriptEvent) where
    none_failed : (user : NamedUser) → ServesUser schema world header journals users events user → CanOpen user → 1 ≤ failures (own_events user.name events) → ⊥
    none_failed user serves can some = by serves.opening_is
      where
        rose : RoseBy (failures (own_events user.name events)) (journals.before user.name) (journals.now user.name)
            → Rose (journals.before user.name) (journals.now user.name)
        rose (inl risen) = inl (omega (arith, risen, some))
        rose (inr full) = inr full

        by : OpensWith schema world user.profile header (journals.bytes user.name) user.opened → ⊥
        by (inl opens) = can.1 (rose (serves.counted opens))
        by (inr none) = none.0 can.0.0 can.0.1

    pub none_refused : (some : List NamedUser) (refusals : List (Option DeskError)) → AllByRecursion (ServesUser schema world header journals users events) some
        → AllByRecursion CanOpen some
        → AreRefusals schema world header journals events some refusals → has_refusal refusals ≡ true → ⊥
    none_refused [] [] serve can refused says = let clash : false ≡ true = says in cc
    none_refused (user ∷ some) (None ∷ refusals) serve can refused says = none_refused some refusals serve.1 can.1 refused.1 says
    none_refused (user ∷ some) (Some why ∷ refusals) serve can refused says =
        none_failed user serve.0 can.0 (refused_fails (own_events user.name events) refused.0.0)
    none_refused [] (refusal ∷ refusals) serve can refused says = refused
    none_refused (user ∷ some) [] serve can refused says = refused

    pub none_broken : AllByRecursion (ServesUser schema world header journals users events) users → AllByRecursion CanOpen users
        → list_any is_broken_line (transcript schema world users events) ≡ true → ⊥
    unfolding replies
    none_broken serve can says =
        let one = whole_script schema world users events says in
        let serves = one_found (ServesUser schema world header journals users events) (λ u. bytes_eq u.name one.name) users one.user serve one.is in
        let opens = one_found CanOpen (λ u. bytes_eq u.name one.name) users one.user can one.is in
        let named : one.user.name ≡ one.name = (bytes_eq-Decides one.user.name one.name).0 opens.1 in
        let told : list_any is_broken (own_replies one.user.name (transcript schema world users events)) ≡ true =
        ap (λ name. list_any is_broken (own_replies name (transcript schema world users events))) named ∙ one.told in
        none_failed one.user serves.0 opens.0
        (broken_fails schema world one.user.profile (opening schema world one.user.profile one.user.opened)
        (own_events one.user.name events) refl serves.0.caused
        (sym (ap (list_any is_broken) serves.0.private) ∙ told))
