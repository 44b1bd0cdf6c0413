-- The users of a batch at their desks, item by item.
use Rattle.std.proofs.Common.{◌≡◌, ◌⊎◌, inl, inr, ℕ, Bool, true, false, List, [], ◌∷◌, ◌++◌, map, refl, sym, ap, subst, ◌∙◌, append_assoc, append-nil, arith}
use Rattle.std.proofs.Common.{◌≤◌, length}
use Rattle.std.specs.Prelude.{Option, Some, None, find, bytes_eq, if◌then◌else◌, string_bytes, ◌&&◌, option_map, option_to_list, IfSome}
use Rattle.std.specs.List.{list_any, flat_map, AllByRecursion}
use Rattle.std.specs.Cmp.Lexicographic.{same_text}
use Rattle.std.proofs.Math.Bool.{or-true}
use Rattle.std.proofs.lemmas.Bool.{or_right}
use Rattle.outside.specs.declared.disk.Disk.{Ghosts as DiskGhosts}
use Rattle.outside.proofs.Taken.{taken_reads, taken_images}
use Rattle.outside.specs.Shelf.{bytes_on, image_on}
use Rattle.cqe_base.specs.declared.user.Purpose.{Purpose}
use Rattle.cqe_base.specs.Schema.{Text, DatabaseSchema, has_duplicate}
use Rattle.cqe_base.specs.Facts.{FactSet}
use Rattle.cqe_base.specs.History.{UserProfile, History, profile_of}
use Rattle.cqe_base.specs.Run
use Rattle.cqe_base.specs.declared.user.User.{User}
use Rattle.cqe_base.specs.Run.{Reply, Ending, Event, UserState, call, restart, opening, after_events, reply_to_call}
use Rattle.cqe_base.specs.Transcript.{NamedUser, ScriptEvent, Caller, purpose_of, script_call, own_event, own_events, told_after}
use Rattle.cqe_base.proofs.Lists.{other_text, text_is}
use Rattle.cqe_base.proofs.Truths.{or_first, or_second}
use Rattle.user_desk.specs.Causes.{Opens, OpensWithin, IsStanding}
use Rattle.user_desk.specs.Lives.{Holds, HoldsFrom, HoldsAmid, Restarts, IsState}
use Rattle.user_desk.specs.Standings.{is_sealed}
use Rattle.desk_counter.specs.declared.item.Fixed.{Fixed}
use Rattle.desk_counter.specs.Items.{flying}
use Rattle.desk_counter.specs.Lives.{IsCallOf}
use Rattle.desk_counter.specs.Sole.{pairs_of_sole}
use Rattle.log_journal.specs.Names.{journal_name}
use Rattle.desk_crew.specs.Openings.{OpensNone, OpensWith}
use Rattle.batch_engine.specs.Batch.{unopened}
use Rattle.batch_engine.specs.Lives.{is_call, is_opened, is_opening}
use Rattle.desk_crew.specs.Shelved.{IsSeatOf, AreSeatsOf}
use Rattle.desk_crew.specs.Crew.{named_user, first_refusal, seat_user, seat_name, seat_journal, seat_kept, seat_standing, seat_history, seat_state, seat_disk}
use Rattle.desk_crew.specs.Crew.{IsSeatIn, IsSeatAsOpened, is_named, IsClosed, IsSeatServed, IsToldAt, IsReopened, AreReopened, Tells, nobody, here, further}
use Rattle.desk_crew.proofs.Asking.{still_served}
use Rattle.desk_crew.specs.Seats.{DeskSeat}
use Rattle.batch_engine.proofs.Events.{any-push}
use Rattle.batch_engine.proofs.Courses.{Course, course_on, stays_on, IsRunning, IsLiving, live, closing, Asked, ask_step, Restarted, IsExclusive}
use Rattle.batch_engine.proofs.Courses.{open_step, still_asked, still_restarted}
use Rattle.batch_engine.proofs.Along.{Clock, IsAlong, IsAlongClosed, along_first, along_event, along_on, along_open, along_closed, amid_all, amid_within}
use Rattle.batch_engine.proofs.Along.{behind_front, run_on, no_fewer, shown_at, BeginsLife, CutBefore, cut_push}
use Rattle.desk_crew.proofs.Lasting.{taken_moment}

-- ---- lists and texts

pub flat_map-append : {X A : Type 0} (f : X → List A) (xs ys : List X) → flat_map f (xs ++ ys) ≡ flat_map f xs ++ flat_map f ys
flat_map-append f [] ys = refl
flat_map-append f (x ∷ xs) ys = ap (λ zs. f x ++ zs) (flat_map-append f xs ys) ∙ sym (append_assoc (f x) (flat_map f xs) (flat_map f ys))

pub own-push : (name : Text) (script : List ScriptEvent) (event : ScriptEvent)
    → own_events name (script ++ event ∷ []) ≡ own_events name script ++ own_event name event
own-push name script event = flat_map-append (own_event name) script (event ∷ []) ∙ ap (λ es. own_events name script ++ es) (append-nil (own_event name event))

abbrev pub names : List NamedUser → List Text
names users = map (λ u. u.name) users

-- the choices of one name before those of others
abbrev with_name : Text → Bool → (Text → Bool) → Text → Bool
with_name name chosen others asked = if bytes_eq name asked then chosen else others asked

module _ (event : (Text → Bool) → (Text → Bool) → ScriptEvent) (own : (name : Text) (found opens : Text → Bool)
    → own_event name (event found opens) ≡ restart (found name) (opens name) ∷ []) where
  own-opening : (name : Text) (script : List ScriptEvent) (found opens : Text → Bool) (f o : Bool) → found name ≡ f → opens name ≡ o
      → own_events name (script ++ event found opens ∷ []) ≡ own_events name script ++ restart f o ∷ []
  own-opening name script found opens f o is_found is_open =
      own-push name script (event found opens) ∙ ap (λ es. own_events name script ++ es) (own name found opens)
      ∙ ap (λ b. own_events name script ++ restart b (opens name) ∷ []) is_found ∙ ap (λ b. own_events name script ++ restart f b ∷ []) is_open

-- an opening that held, among the events behind which it stands
opened_behind : (events : List Event) (found opens : Bool) → opens ≡ true → list_any is_opened (events ++ restart found opens ∷ []) ≡ true
opened_behind events found opens held =
    any-push is_opened events (restart found opens) ∙ or_right (list_any is_opened events) opens held

-- the course of a user whose journal wasn't opened yet
module _ (schema : DatabaseSchema) (world : FactSet) (header : List ℕ) (bytes : Text → List ℕ) (before : Text → ℕ) (images : Text → List ℕ → Type 0) where
  first_course : (user : UserProfile) (name : Text) (opened : History) (now : ℕ) (c : List ℕ) → now ≡ before name → c ≡ bytes name
      → OpensWith schema world user header (bytes name) opened
      → Course schema world user header (bytes name) (before name) (images name) opened [] c now None
  first_course user name opened now c counted same (inl opens) = record {
    later = omega (arith, counted);
    caused = tt;
    fits = inl (
      opens,
      record { found = false; sought = λ e. absurd cc; opens = subst (Opens schema world user header opened) (sym same) opens },
      inl (omega (arith, counted)),
    );
    refused = refl;
  }
  first_course user name opened now c counted same (inr (none, empty)) =
      record { later = omega (arith, counted); caused = tt; fits = inr (none, empty, same, refl); refused = refl }

module _ (schema : DatabaseSchema) (world : FactSet) where
  -- at the end of each stretch before the last opening there were at most so many entries
  abbrev pub HasFewer : NamedUser → List Event → ℕ → Type 0
  HasFewer user events count =
      (front rest : List Event) → events ≡ front ++ rest → BeginsLife rest
      → length (after_events schema world user.profile (opening schema world user.profile user.opened) front).entries ≤ count

  -- an event that isn't an opening ends no stretch
  fewer_asked : (user : NamedUser) (events : List Event) (event : Event) (count : ℕ) → is_opening event ≡ false → HasFewer user events count
      → HasFewer user (events ++ event ∷ []) count
  fewer_asked user events event count isnt fewer front rest split begins = by (cut_push events event front rest split)
    where
      of_less : (less : List Event) → rest ≡ less ++ event ∷ [] → events ≡ front ++ less
          → length (after_events schema world user.profile (opening schema world user.profile user.opened) front).entries ≤ count
      of_less [] is whole = let e : true ≡ false = sym (subst BeginsLife is begins) ∙ isnt in absurd cc
      of_less (next ∷ less) is whole = fewer front (next ∷ less) whole (subst BeginsLife is begins)

      by : ((front ≡ events ++ event ∷ []) × (rest ≡ [])) ⊎ CutBefore events event front rest
          → length (after_events schema world user.profile (opening schema world user.profile user.opened) front).entries ≤ count
      by (inl whole) = absurd (subst BeginsLife whole.1 begins)
      by (inr part) = of_less part.less part.rest_is part.split

module _ (schema : DatabaseSchema) (world : FactSet) (header directory : List ℕ) {D : Type 0} {g h : _} (Disk : DiskGhosts D) (t : Disk.tells)
    (read_is_image : (d : D) → Disk.tells → Disk.image d (Disk.reads d)) (clock : Clock Disk)
    (bytes : Text → List ℕ) (before : Text → ℕ) (images : Text → List ℕ → Type 0) where
  -- a user sits at his desk behind these events of his
  pub record IsSeated (user : NamedUser) (events : List Event) (seat : DeskSeat D g h) : Type 0 where
    pub name_is : seat_name seat ≡ user.name
    pub profile_is : profile_of (seat_user seat) ≡ user.profile
    pub journal_is : seat_journal seat ≡ journal_name directory user.name
    pub served : IsSeatServed schema world header seat
    pub living : IsLiving schema world user.profile header (bytes user.name) (before user.name) (images user.name) user.opened events (seat_standing seat)
        (seat_state seat) (Disk.image (seat_disk seat)) (Disk.reads (seat_disk seat)) (Disk.faults (seat_disk seat)) seat.refusal
    pub fresh : list_any is_call events ≡ false → IsSeatAsOpened seat
    -- the moments at which the call began and his journal was first opened, and what each crash could leave since; at his desk's opening there were as many
    -- entries as at first, and as at the end of each stretch before
    pub began : ℕ
    pub began_is : IfSome (clock.begins user.name) (λ begun. begun ≡ began)
    pub opens_at : ℕ
    pub along : IsAlong schema world user.profile header (images user.name) user.opened began opens_at events (Disk.moment (seat_disk seat))
        (Disk.image_since (seat_disk seat))
    pub least : is_sealed (seat_standing seat) ≡ false → length user.opened ≤ length (seat_kept seat).opening
    pub fewer : is_sealed (seat_standing seat) ≡ false → HasFewer schema world user events (length (seat_kept seat).opening)
    -- where his journal is refused and an opening of it held before, the marks of all his entries may be told
    pub marks : is_sealed (seat_standing seat) ≡ true → list_any is_opened events ≡ true
        → length (after_events schema world user.profile (opening schema world user.profile user.opened) events).entries ≤ Disk.tellable (seat_disk seat)

  -- all do, behind the events of a script
  abbrev pub AreSeated : List ScriptEvent → List NamedUser → List (DeskSeat D g h) → Type 0
  AreSeated script [] [] = Unit {0}
  AreSeated script (user ∷ users) (seat ∷ seats) = IsSeated user (own_events user.name script) seat × AreSeated script users seats
  AreSeated script users seats = ⊥

  -- ---- a call

  record AskedAt (user : NamedUser) (events : List Event) (seat : DeskSeat D g h) (purpose : Purpose) (text : Text) (told : Reply) : Type 0 where
    ending : Ending
    reply : told ≡ reply_to_call schema world user.profile
        (after_events schema world user.profile (opening schema world user.profile user.opened) events) purpose text ending
    seated : IsSeated user (events ++ call purpose text ending ∷ []) seat

  ask_at : (user : NamedUser) (events : List Event) (old new : DeskSeat D g h) (purpose : Purpose) (text : Text) (told : Reply) → IsSeated user events old
      → IsToldAt schema world purpose text told old new → AskedAt user events new purpose text told
  ask_at user events old new purpose text told seated answer =
      let kept = answer.kept_is in
      let profile : profile_of (seat_user old) ≡ user.profile = seated.profile_is in
      let asked : Asked schema world user.profile header (bytes user.name) (before user.name) (images user.name) user.opened events (seat_standing old)
      (seat_state new) (Disk.image (seat_disk old)) (Disk.reads (seat_disk old)) (Disk.faults (seat_disk old)) old.refusal purpose text told =
      ask_step schema world user.profile header (bytes user.name) (before user.name) (images user.name) user.opened events (seat_standing old) (seat_state old)
      (seat_state new) (Disk.image (seat_disk old)) (Disk.reads (seat_disk old)) (Disk.faults (seat_disk old)) old.refusal purpose text told seated.living
      (λ state is. subst (λ (f : Fixed D). IsCallOf schema world user.profile (IsState f.standing (seat_state new)) state purpose text told) kept
      (subst (λ p. IsCallOf schema world p (IsSeatIn new) state purpose text told) profile (answer.settled state is))) in
      record {
        ending = asked.ending;
        reply = asked.reply;
        seated = record {
          name_is = ap (λ (u : User). string_bytes u.name) answer.user_is ∙ seated.name_is;
          profile_is = ap profile_of answer.user_is ∙ profile;
          journal_is = answer.journal_is ∙ seated.journal_is;
          served = still_served schema world header old new purpose text told answer seated.served;
          living = subst (λ r.
              IsLiving schema world user.profile header (bytes user.name) (before user.name) (images user.name) user.opened
              (events ++ call purpose text asked.ending ∷ []) (seat_standing new) (seat_state new) (Disk.image (seat_disk new)) (Disk.reads (seat_disk new))
              (Disk.faults (seat_disk new)) r) (sym answer.refusal_is)
              (subst (λ (f : Fixed D).
              IsLiving schema world user.profile header (bytes user.name) (before user.name) (images user.name) user.opened
              (events ++ call purpose text asked.ending ∷ []) f.standing (seat_state new) (Disk.image f.disk) (Disk.reads f.disk)
              (Disk.faults f.disk) old.refusal)
              (sym kept) asked.living);
          fresh = λ none. let e : true ≡ false = sym (any-push is_call events (call purpose text asked.ending) ∙ or-true (list_any is_call events))
              ∙ none in absurd cc;
          began = seated.began;
          began_is = seated.began_is;
          opens_at = seated.opens_at;
          along = subst (λ (f : Fixed D).
              IsAlong schema world user.profile header (images user.name) user.opened seated.began seated.opens_at
              (events ++ call purpose text asked.ending ∷ []) (Disk.moment f.disk) (Disk.image_since f.disk)) (sym kept)
              (along_event schema world user.profile header (images user.name) user.opened seated.began seated.opens_at events
              (call purpose text asked.ending) (Disk.moment (seat_disk old)) (Disk.image_since (seat_disk old)) refl (λ opens. absurd cc) seated.along);
          least = λ served. subst (λ (f : Fixed D). length user.opened ≤ length f.opening) (sym kept)
              (seated.least (ap (λ (f : Fixed D). is_sealed f.standing) (sym kept) ∙ served));
          fewer = λ served. subst (λ (f : Fixed D). HasFewer schema world user (events ++ call purpose text asked.ending ∷ []) (length f.opening)) (sym kept)
              (fewer_asked schema world user events (call purpose text asked.ending) (length (seat_kept old).opening) refl
              (seated.fewer (ap (λ (f : Fixed D). is_sealed f.standing) (sym kept) ∙ served)));
          marks = λ sealed some.
              let shut : is_sealed (seat_standing old) ≡ true = ap (λ (f : Fixed D). is_sealed f.standing) (sym kept) ∙ sealed in
              let still = still_asked schema world user.profile header (bytes user.name) (before user.name) (images user.name) user.opened events
              (seat_standing old) (seat_state old) shut purpose text asked.ending seated.living.is_in in
              let was = seated.marks shut (sym still.0 ∙ some) in
              let same = ap (λ (s : UserState). length s.entries) still.1 in
              let disk = ap (λ (f : Fixed D). Disk.tellable f.disk) kept in
              omega (arith, was, same, disk);
        };
      }

  -- a call for another name changes nothing
  unnamed : (script : List ScriptEvent) (name : Text) (caller : Caller) (text : Text) (ending : Ending) (user : NamedUser) (seat : DeskSeat D g h)
      → bytes_eq name user.name ≡ false → IsSeated user (own_events user.name script) seat
      → IsSeated user (own_events user.name (script ++ script_call name caller text ending ∷ [])) seat
  unnamed script name caller text ending user seat other seated =
      subst (λ es. IsSeated user es seat)
      (sym (own-push user.name script (script_call name caller text ending)
      ∙ ap (λ b. own_events user.name script ++ (if b then call (purpose_of caller) text ending ∷ [] else [])) other
      ∙ append-nil (own_events user.name script))) seated

  all_unnamed : (script : List ScriptEvent) (name : Text) (caller : Caller) (text : Text) (ending : Ending) (users : List NamedUser)
      (seats : List (DeskSeat D g h))
      → list_any (bytes_eq name) (names users) ≡ false
      → AreSeated script users seats → AreSeated (script ++ script_call name caller text ending ∷ []) users seats
  all_unnamed script name caller text ending [] [] none seated = tt
  all_unnamed script name caller text ending [] (seat ∷ seats) none seated = absurd seated
  all_unnamed script name caller text ending (user ∷ users) [] none seated = absurd seated
  all_unnamed script name caller text ending (user ∷ users) (seat ∷ seats) none seated = (
    unnamed script name caller text ending user seat (or_first _ _ none) seated.0,
    all_unnamed script name caller text ending users seats (or_second _ _ none) seated.1,
  )

  -- a call with some ending: what is told, and the seats behind it
  pub record Next (script : List ScriptEvent) (name : Text) (caller : Caller) (text : Text) (users : List NamedUser) (new : List (DeskSeat D g h))
      (told : Option Reply) : Type 0 where
    pub ending : Ending
    pub replied : told_after schema world script (purpose_of caller) text ending (find (λ u. bytes_eq u.name name) users) ≡ told
    pub seated : AreSeated (script ++ script_call name caller text ending ∷ []) users new

  told_here : (script : List ScriptEvent) (name : Text) (caller : Caller) (text : Text) (user : NamedUser) (users : List NamedUser) (old new : DeskSeat D g h)
      (others : List (DeskSeat D g h)) (told : Reply)
      → is_named name old ≡ true → IsToldAt schema world (purpose_of caller) text told old new → list_any (bytes_eq user.name) (names users) ≡ false
      → IsSeated user (own_events user.name script) old → AreSeated script users others
      → Next script name caller text (user ∷ users) (new ∷ others) (Some told)
  told_here script name caller text user users old new others told is answer distinct seated rest =
      let one : AskedAt user (own_events user.name script) new (purpose_of caller) text told =
      ask_at user (own_events user.name script) old new (purpose_of caller) text told seated answer in
      let named : bytes_eq user.name name ≡ true = ap (λ n. bytes_eq n name) (sym seated.name_is) ∙ is in
      let same : user.name ≡ name = same_text user.name name (sym named) in
      let asked_by : bytes_eq name user.name ≡ true = ap (λ n. bytes_eq n user.name) (sym same) ∙ text_is user.name in
      record {
        ending = one.ending;
        replied = ap (λ b. told_after schema world script (purpose_of caller) text one.ending (if b then Some user
            else find (λ u. bytes_eq u.name name) users)) named ∙ ap Some (sym one.reply);
        seated = (
          subst (λ es. IsSeated user es new)
              (sym (own-push user.name script (script_call name caller text one.ending)
              ∙ ap (λ b. own_events user.name script ++ (if b then call (purpose_of caller) text one.ending ∷ [] else [])) asked_by)) one.seated,
          all_unnamed script name caller text one.ending users others (ap (λ n. list_any (bytes_eq n) (names users)) (sym same) ∙ distinct) rest,
        );
      }

  pub told_next : (script : List ScriptEvent) (name : Text) (caller : Caller) (text : Text) (users : List NamedUser) (old new : List (DeskSeat D g h))
      (told : Option Reply)
      → has_duplicate (names users) ≡ false → AreSeated script users old → Tells schema world name (purpose_of caller) text old new told
      → Next script name caller text users new told
  told_next script name caller text [] old new told distinct seated nobody = record { ending = Run.kept; replied = refl; seated = tt }
  told_next script name caller text (user ∷ users) old new told distinct seated nobody = absurd seated
  told_next script name caller text [] old new told distinct seated (here is answer) = absurd seated
  told_next script name caller text (user ∷ users) old new told distinct seated (here {old = first} {new = next} {others} {told_reply = reply} is answer) =
      told_here script name caller text user users first next others reply is answer (or_first _ _ distinct) seated.0 seated.1
  told_next script name caller text [] old new told distinct seated (further other more) = absurd seated
  told_next script name caller text (user ∷ users) old new told distinct seated (further {seat} {others} {after} {told_reply = reply} other more) =
      let rest : Next script name caller text users after reply =
      told_next script name caller text users others after reply (or_second _ _ distinct) seated.1 more in
      let differs : bytes_eq user.name name ≡ false = ap (λ n. bytes_eq n name) (sym seated.0.name_is) ∙ other in
      record {
        ending = rest.ending;
        replied =
            ap (λ b. told_after schema world script (purpose_of caller) text rest.ending (if b then Some user
            else find (λ u. bytes_eq u.name name) users)) differs ∙ rest.replied;
        seated = (unnamed script name caller text rest.ending user seat (other_text user.name name differs) seated.0, rest.seated);
      }

  -- ---- a close

  -- a desk was closed, and left this disk
  pub close_at : (user : NamedUser) (events : List Event) (seat : DeskSeat D g h) (disk : D) → IsSeated user events seat
      → IsClosed Disk seat.desk disk
      → IsRunning schema world user.profile header (bytes user.name) (before user.name) (images user.name) user.opened events (seat_standing seat)
      (seat_state seat) (Disk.image disk) (Disk.reads disk) (Disk.faults disk) seat.refusal
  close_at user events seat disk seated closed =
      closing schema world user.profile header (bytes user.name) (before user.name) (images user.name) user.opened events (seat_standing seat) (seat_state seat)
      (Disk.image (seat_disk seat)) (Disk.image disk) (Disk.reads (seat_disk seat)) (Disk.reads disk) (Disk.faults (seat_disk seat))
      (Disk.faults disk) seat.refusal
      seated.living closed.later closed.cause (λ why. left_as (by why))
      (λ served c at.
      subst (λ s. Holds s world user.profile header (seat_state seat) c) seated.served.schema_is
      (subst (λ w. Holds (seat_kept seat).schema w user.profile header (seat_state seat) c) seated.served.world_is
      (subst (λ p. Holds (seat_kept seat).schema (seat_kept seat).world p header (seat_state seat) c) (seated.served.user_is ∙ seated.profile_is)
      (subst (λ h. Holds (seat_kept seat).schema (seat_kept seat).world (seat_kept seat).user h (seat_state seat) c) seated.served.header_is
      (closed.holds t served c at)))))
      (closed.size t)
      (read_is_image disk t)
    where
      by : (is_sealed (seat_standing seat) ≡ true) ⊎ (list_any is_call events ≡ false) → disk ≡ seat_disk seat
      by (inl sealed) = closed.shut sealed
      by (inr none) = closed.still (seated.fresh none)

      left_as : disk ≡ seat_disk seat → (Disk.reads disk ≡ Disk.reads (seat_disk seat)) × ((c : List ℕ) → Disk.image disk c → Disk.image (seat_disk seat) c)
      left_as same = (ap Disk.reads same, λ c at. subst (λ d. Disk.image d c) same at)

  -- so the marks of all his entries may be told, where an opening held
  pub told_at : (user : NamedUser) (events : List Event) (seat : DeskSeat D g h) (disk : D) → IsSeated user events seat
      → IsClosed Disk seat.desk disk → list_any is_opened events ≡ true
      → length (after_events schema world user.profile (opening schema world user.profile user.opened) events).entries ≤ Disk.tellable disk
  told_at user events seat disk seated closed some = by (is_sealed (seat_standing seat)) refl
    where
      state : UserState
      state = after_events schema world user.profile (opening schema world user.profile user.opened) events

      by : (b : Bool) → is_sealed (seat_standing seat) ≡ b → length state.entries ≤ Disk.tellable disk
      by true sealed =
          let was = seated.marks sealed some in
          let same = ap Disk.tellable (closed.shut sealed) in
          omega (arith, was, same)
      by false served =
          let is : length state.entries ≡ length (seat_history seat) = ap (λ (s : UserState). length s.entries)
          (shown_at (seat_standing seat) (seat_state seat) state served seated.living.is_in) in
          let most : length (seat_history seat) ≤ Disk.tellable disk = closed.told t in
          omega (arith, is, most)

  -- what each crash could leave up to a close
  pub along_at : (user : NamedUser) (events : List Event) (seat : DeskSeat D g h) (disk : D) (seated : IsSeated user events seat)
      → IsClosed Disk seat.desk disk
      → IsAlongClosed schema world user.profile header (images user.name) user.opened seated.began seated.opens_at events (Disk.moment disk)
      (Disk.image_since disk)
  along_at user events seat disk seated closed =
      along_closed schema world user.profile header (images user.name) user.opened seated.began seated.opens_at events (Disk.moment disk)
      (Disk.image_since disk) (by (is_sealed (seat_standing seat)) refl)
      (λ some c at. (close_at user events seat disk seated closed).stays.stands some c (clock.only_now disk c at))
    where
      first : UserState
      first = opening schema world user.profile user.opened

      state : UserState
      state = after_events schema world user.profile first events

      -- what a crash leaves amid the asks opens a desk with at least the entries at the opening
      within : is_sealed (seat_standing seat) ≡ false → (c : List ℕ) → Disk.image_since disk (Disk.moment (seat_disk seat)) c
          → OpensWithin schema world user.profile header (length (seat_kept seat).opening) (state.entries ++ option_to_list state.pending) c
      within served c at =
          let least = length (seat_kept seat).opening in
          let all = seat_history seat ++ option_to_list (flying (pairs_of_sole seat.desk)) in
          (subst (λ (s : UserState). OpensWithin schema world user.profile header least (s.entries ++ option_to_list s.pending) c)
          (sym (shown_at (seat_standing seat) (seat_state seat) state served seated.living.is_in))
          (subst (λ s. OpensWithin s world user.profile header least all c) seated.served.schema_is
          (subst (λ w. OpensWithin (seat_kept seat).schema w user.profile header least all c) seated.served.world_is
          (subst (λ p. OpensWithin (seat_kept seat).schema (seat_kept seat).world p header least all c) (seated.served.user_is ∙ seated.profile_is)
          (subst (λ k. OpensWithin (seat_kept seat).schema (seat_kept seat).world (seat_kept seat).user k least all c) seated.served.header_is
          (closed.since t served c at))))))

      -- so it is amid his events, and behind each stretch that ended before the opening
      amid : is_sealed (seat_standing seat) ≡ false → (c : List ℕ) → Disk.image_since disk (Disk.moment (seat_disk seat)) c
          → HoldsAmid schema world user.profile header first events c
      amid served c at =
          amid_within schema world user.profile header first events (length (seat_kept seat).opening) c (seated.least served) (within served c at)

      behind : is_sealed (seat_standing seat) ≡ false → (front rest : List Event) → events ≡ front ++ rest → BeginsLife rest → (c : List ℕ)
          → Disk.image_since disk (Disk.moment (seat_disk seat)) c → HoldsFrom schema world user.profile header first front rest c
      behind served front rest split begins c at =
          let middle : UserState = after_events schema world user.profile first front in
          let same : after_events schema world user.profile middle rest ≡ state =
          sym (run_on schema world user.profile first front rest) ∙ ap (after_events schema world user.profile first) (sym split) in
          behind_front schema world user.profile header first front rest c
          (amid_within schema world user.profile header middle rest (length (seat_kept seat).opening) c (seated.fewer served front rest split begins)
          (subst (λ (s : UserState). OpensWithin schema world user.profile header (length (seat_kept seat).opening) (s.entries ++ option_to_list s.pending) c)
          (sym same) (within served c at)))

      -- and nothing new, where he didn't ask at an open desk
      rests : is_sealed (seat_standing seat) ≡ false → (list_any is_opened events && list_any is_call events) ≡ false → (c : List ℕ)
          → Disk.image_since disk (Disk.moment (seat_disk seat)) c → images user.name c
      rests served idle c at =
          let none : list_any is_call events ≡ false = ap (λ b. b && list_any is_call events) (sym (seated.living.held served)) ∙ idle in
          (seated.living.kept idle).1 c
          (clock.only_now (seat_disk seat) c
          (subst (λ d. Disk.image_since d (Disk.moment (seat_disk seat)) c) (closed.still (seated.fresh none)) at))

      by : (b : Bool) → is_sealed (seat_standing seat) ≡ b
          → IsAlong schema world user.profile header (images user.name) user.opened seated.began seated.opens_at events (Disk.moment disk)
          (Disk.image_since disk)
      by true sealed =
          subst (λ d. IsAlong schema world user.profile header (images user.name) user.opened seated.began seated.opens_at events (Disk.moment d)
          (Disk.image_since d)) (sym (closed.shut sealed)) seated.along
      by false served =
          along_on schema world user.profile header (images user.name) user.opened seated.began seated.opens_at events (Disk.moment (seat_disk seat))
          (Disk.moment disk)
          (Disk.image_since (seat_disk seat)) (Disk.image_since disk) closed.time (λ some. amid served)
          (λ front rest split begins some. behind served front rest split begins)
          (rests served) seated.along

  -- ---- openings

  -- at an opening there are as many entries as at first
  least_at : (user : NamedUser) (events : List Event) (seat : DeskSeat D g h) → (seat_kept seat).opening ≡ seat_history seat
      → is_sealed (seat_standing seat) ≡ false
      → IsState (seat_standing seat) (seat_state seat) (after_events schema world user.profile (opening schema world user.profile user.opened) events)
      → length user.opened ≤ length (seat_kept seat).opening
  least_at user events seat first served is =
      let end : UserState = after_events schema world user.profile (opening schema world user.profile user.opened) events in
      let more : length user.opened ≤ length end.entries = no_fewer schema world user.profile (opening schema world user.profile user.opened) events in
      let same : length end.entries ≡ length (seat_history seat) = ap (λ (s : UserState). length s.entries)
      (shown_at (seat_standing seat) (seat_state seat) end served is) in
      let count : length (seat_kept seat).opening ≡ length (seat_history seat) = ap length first in
      omega (arith, more, same, count)

  -- and as at the end of each stretch before
  fewer_at : (user : NamedUser) (events : List Event) (seat : DeskSeat D g h) → (seat_kept seat).opening ≡ seat_history seat
      → is_sealed (seat_standing seat) ≡ false
      → IsState (seat_standing seat) (seat_state seat) (after_events schema world user.profile (opening schema world user.profile user.opened) events)
      → HasFewer schema world user events (length (seat_kept seat).opening)
  fewer_at user events seat first served is front rest split begins =
      let middle : UserState = after_events schema world user.profile (opening schema world user.profile user.opened) front in
      let end : UserState = after_events schema world user.profile (opening schema world user.profile user.opened) events in
      let more : length middle.entries ≤ length (after_events schema world user.profile middle rest).entries =
      no_fewer schema world user.profile middle rest in
      let whole : length (after_events schema world user.profile middle rest).entries ≡ length end.entries = ap (λ (s : UserState). length s.entries)
      (sym (run_on schema world user.profile (opening schema world user.profile user.opened) front rest)
      ∙ ap (after_events schema world user.profile (opening schema world user.profile user.opened)) (sym split)) in
      let same : length end.entries ≡ length (seat_history seat) = ap (λ (s : UserState). length s.entries)
      (shown_at (seat_standing seat) (seat_state seat) end served is) in
      let count : length (seat_kept seat).opening ≡ length (seat_history seat) = ap length first in
      omega (arith, more, whole, same, count)

  -- the choices of a user's opening
  abbrev pub Choice : NamedUser → List Event → DeskSeat D g h → Type 0
  Choice user events seat = (found : Bool) × (opens : Bool) × IsSeated user (events ++ restart found opens ∷ []) seat

  abbrev pub Choices : List ScriptEvent → List NamedUser → List (DeskSeat D g h) → Type 0
  Choices script [] [] = Unit {0}
  Choices script (user ∷ users) (seat ∷ seats) = Choice user (own_events user.name script) seat × Choices script users seats
  Choices script users seats = ⊥

  module _ (event : (Text → Bool) → (Text → Bool) → ScriptEvent) (own : (name : Text) (found opens : Text → Bool)
      → own_event name (event found opens) ≡ restart (found name) (opens name) ∷ []) where
    -- one event for all of them
    pub record Chosen (script : List ScriptEvent) (users : List NamedUser) (seats : List (DeskSeat D g h)) : Type 0 where
      pub found : Text → Bool
      pub opens : Text → Bool
      pub seated : AreSeated (script ++ event found opens ∷ []) users seats

    others_seated : (script : List ScriptEvent) (name : Text) (f o : Bool) (found opens : Text → Bool) (users : List NamedUser) (seats : List (DeskSeat D g h))
        → list_any (bytes_eq name) (names users) ≡ false
        → AreSeated (script ++ event found opens ∷ []) users seats
        → AreSeated (script ++ event (with_name name f found) (with_name name o opens) ∷ []) users seats
    others_seated script name f o found opens [] [] none seated = tt
    others_seated script name f o found opens [] (seat ∷ seats) none seated = absurd seated
    others_seated script name f o found opens (user ∷ users) [] none seated = absurd seated
    others_seated script name f o found opens (user ∷ users) (seat ∷ seats) none seated = (
      subst (λ es. IsSeated user es seat)
          (own-opening event own user.name script found opens (found user.name) (opens user.name) refl refl
          ∙ sym (own-opening event own user.name script (with_name name f found) (with_name name o opens) (found user.name) (opens user.name)
          (ap (λ b. if b then f else found user.name) (or_first (bytes_eq name user.name) (list_any (bytes_eq name) (names users)) none))
          (ap (λ b. if b then o else opens user.name) (or_first (bytes_eq name user.name) (list_any (bytes_eq name) (names users)) none)))) seated.0,
      others_seated script name f o found opens users seats (or_second (bytes_eq name user.name) (list_any (bytes_eq name) (names users)) none) seated.1,
    )

    pub choose : (script : List ScriptEvent) (users : List NamedUser) (seats : List (DeskSeat D g h)) → has_duplicate (names users) ≡ false
        → Choices script users seats → Chosen script users seats
    choose script [] [] distinct choices = record { found = λ n. false; opens = λ n. false; seated = tt }
    choose script [] (seat ∷ seats) distinct choices = absurd choices
    choose script (user ∷ users) [] distinct choices = absurd choices
    choose script (user ∷ users) (seat ∷ seats) distinct ((f, o, seated), choices) =
        let rest : Chosen script users seats =
        choose script users seats (or_second (list_any (bytes_eq user.name) (names users)) (has_duplicate (names users)) distinct) choices in
        let found = with_name user.name f rest.found in
        let opens = with_name user.name o rest.opens in
        record {
          found = found;
          opens = opens;
          seated = (
            subst (λ es. IsSeated user es seat)
                (sym (own-opening event own user.name script found opens f o (ap (λ b. if b then f else rest.found user.name) (text_is user.name))
                (ap (λ b. if b then o else rest.opens user.name) (text_is user.name)))) seated,
            others_seated script user.name f o rest.found rest.opens users seats
                (or_first (list_any (bytes_eq user.name) (names users)) (has_duplicate (names users)) distinct) rest.seated,
          );
        }

  -- ---- closing and opening again

  module _ (exclusive : (user : UserProfile) → IsExclusive schema world user header) where
    restart_at : (user : NamedUser) (events : List Event) (old new : DeskSeat D g h) → IsSeated user events old
        → IsReopened schema world header Disk old new → Choice user events new
    restart_at user events old new seated again =
        let profile : profile_of (seat_user new) ≡ user.profile = ap profile_of again.user_is ∙ seated.profile_is in
        let opened = again.opened in
        let closed = again.closed in
        let running = close_at user events old closed seated again.is_closed in
        let step : Restarted schema world user.profile header (bytes user.name) (before user.name) (images user.name) user.opened events (seat_standing new)
        (seat_state new) (Disk.image (seat_disk new)) (Disk.reads (seat_disk new)) (Disk.faults (seat_disk new)) (first_refusal old.refusal
        (seat_standing new)) =
        open_step schema world user.profile header (bytes user.name) (before user.name) (images user.name) (exclusive user.profile) Disk.tells t user.opened
        events (Disk.reads (seat_disk new)) (Disk.faults closed) (Disk.faults (seat_disk new)) old.refusal
        (seat_history new) (flying (pairs_of_sole new.desk)) (seat_standing new) (Disk.image (seat_disk new))
        (course_on schema world user.profile header (bytes user.name) (before user.name) (images user.name) user.opened events (Disk.reads closed)
        (Disk.reads (seat_disk new)) (Disk.faults closed) (Disk.faults closed) old.refusal again.left.reads_same (omega arith) running.course)
        (stays_on schema world user.profile header (bytes user.name) (before user.name) (images user.name) user.opened events (Disk.image closed)
        (Disk.image (seat_disk new)) (Disk.reads closed) (Disk.reads (seat_disk new)) again.left.reads_same again.left.images running.stays)
        (record {
          standing_is = subst (λ r.
              IsStanding schema world user.profile Disk.tells header r (seat_history new) (Disk.faults closed) (Disk.faults (seat_disk new))
              (seat_standing new))
              (sym again.left.reads_same)
              (subst (λ p. IsStanding schema world p Disk.tells header (Disk.reads closed) (seat_history new) (Disk.faults closed) (Disk.faults (seat_disk new))
              (seat_standing new))
              profile opened.standing);
          restarted = λ state holds. subst (λ p. Restarts schema world p (IsSeatIn new) state (Disk.faults closed) (Disk.faults (seat_disk new))) profile
              (opened.restarted t state
              (subst (Holds schema world (profile_of (seat_user new)) header state) again.left.reads_same
              (subst (λ p. Holds schema world p header state (Disk.reads (seat_disk new))) (sym profile) holds)));
          on = again.left.later;
          holds = λ served c at. subst (λ p. Holds schema world p header (seat_state new) c) profile (opened.holds t served c at);
          here = read_is_image (seat_disk new) t;
        }) in
        let along = along_open schema world user.profile header (images user.name) user.opened seated.began seated.opens_at events step.found step.opens
        (Disk.moment closed) (Disk.moment (seat_disk new)) (Disk.image_since closed) (Disk.image_since (seat_disk new)) (Disk.image closed) again.left.time
        again.left.rests running.stays.stands
        (λ idle c at. (running.stays.kept idle).1 c at)
        (λ held c at. amid_all schema world user.profile header (opening schema world user.profile user.opened)
        (events ++ restart step.found step.opens ∷ []) c
        (step.running.stays.stands (opened_behind events step.found step.opens held) c (clock.only_now (seat_disk new) c at)))
        (λ idle c at. (step.running.stays.kept idle).1 c (clock.only_now (seat_disk new) c at))
        (along_at user events old closed seated again.is_closed) in (
          step.found,
          step.opens,
          record {
            name_is = ap (λ (u : User). string_bytes u.name) again.user_is ∙ seated.name_is;
            profile_is = profile;
            journal_is = again.journal_is ∙ seated.journal_is;
            served = opened.served;
            living = subst (IsLiving schema world user.profile header (bytes user.name) (before user.name) (images user.name) user.opened
                (events ++ restart step.found step.opens ∷ []) (seat_standing new) (seat_state new) (Disk.image (seat_disk new)) (Disk.reads (seat_disk new))
                (Disk.faults (seat_disk new))) (sym opened.refusal)
                (live schema world user.profile header (bytes user.name) (before user.name) (images user.name) user.opened
                (events ++ restart step.found step.opens ∷ []) (seat_standing new) (seat_state new) (Disk.image (seat_disk new)) (Disk.reads (seat_disk new))
                (Disk.faults (seat_disk new)) (first_refusal old.refusal (seat_standing new)) step.running);
            fresh = λ none. opened.fresh;
            began = seated.began;
            began_is = seated.began_is;
            opens_at = along.0;
            along = along.1;
            least = λ served. least_at user (events ++ restart step.found step.opens ∷ []) new opened.opening_is served step.running.is_in;
            fewer = λ served. fewer_at user (events ++ restart step.found step.opens ∷ []) new opened.opening_is served step.running.is_in;
            marks = λ sealed some.
                let still = still_restarted schema world user.profile header (bytes user.name) (before user.name) (images user.name) user.opened events
                (seat_standing new) (seat_state new) sealed step.found step.opens step.running.is_in in
                let was = told_at user events old closed seated again.is_closed (sym still.0 ∙ some) in
                let same = ap (λ (h : History). length h) still.1 in
                omega (arith, was, same, again.left.still_told);
          },
        )

    -- every desk was closed and opened again
    pub restart_all : (script : List ScriptEvent) (users : List NamedUser) (olds news : List (DeskSeat D g h)) → AreSeated script users olds
        → AreReopened schema world header Disk olds news → Choices script users news
    restart_all script [] [] [] seated again = tt
    restart_all script [] [] (new ∷ news) seated again = absurd again
    restart_all script [] (old ∷ olds) news seated again = absurd seated
    restart_all script (user ∷ users) [] news seated again = absurd seated
    restart_all script (user ∷ users) (old ∷ olds) [] seated again = absurd again
    restart_all script (user ∷ users) (old ∷ olds) (new ∷ news) seated again =
        (restart_at user (own_events user.name script) old new seated.0 again.0, restart_all script users olds news seated.1 again.1)

    -- ---- the first opening

    module _ (S : Type 0) (s : S) (disk : Text → Option D) (count : Text → ℕ) (bytes_are : (name : Text)
        → bytes name ≡ bytes_on Disk.reads (disk (journal_name directory name))) (counts_are : (name : Text)
        → before name ≡ count (journal_name directory name)) (images_are : (name : Text) (c : List ℕ)
        → image_on Disk.image (disk (journal_name directory name)) c
        → images name c) (begins_are : (name : Text) → clock.begins name ≡ option_map Disk.moment (disk (journal_name directory name))) where
      -- a user with the history with which his journal is opened
      pub record Begun (user : User) (seat : DeskSeat D g h) : Type 0 where
        pub opened : History
        pub opening : OpensWith schema world (profile_of user) header (bytes (string_bytes user.name)) opened
        pub choice : Choice (record { name = string_bytes user.name; profile = profile_of user; opened = opened }) [] seat

      begin_with : (user : User) (seat : DeskSeat D g h) (opened : History)
          → OpensWith schema world (profile_of user) header (bytes (string_bytes user.name)) opened
          → IsSeatOf S Disk schema world header directory disk count user seat → Begun user seat
      begin_with user seat opened opening is =
          let name = string_bytes user.name in
          let profile : profile_of (seat_user seat) ≡ profile_of user = ap profile_of is.user_is in
          let from = is.opened in
          let same : Disk.reads (seat_disk seat) ≡ Disk.reads is.taken = is.left.reads_same in
          let read : Disk.reads (seat_disk seat) ≡ bytes name =
          same ∙ taken_reads Disk.reads Disk.image (disk (seat_journal seat)) is.taken (is.from s) ∙ ap (λ j. bytes_on Disk.reads (disk j)) is.journal_is
          ∙ sym (bytes_are name) in
          let counted : Disk.faults is.taken ≡ before name = is.counted ∙ ap count is.journal_is ∙ sym (counts_are name) in
          let first : (c : List ℕ) → Disk.image is.taken c → images name c = λ c at.
          images_are name c (subst (λ j. image_on Disk.image (disk j) c) is.journal_is
          (taken_images Disk.reads Disk.image (disk (seat_journal seat)) is.taken c (is.from s) at)) in
          let step : Restarted schema world (profile_of user) header (bytes name) (before name) (images name) opened [] (seat_standing seat) (seat_state seat)
          (Disk.image (seat_disk seat)) (Disk.reads (seat_disk seat)) (Disk.faults (seat_disk seat)) (first_refusal None (seat_standing seat)) =
          open_step schema world (profile_of user) header (bytes name) (before name) (images name) (exclusive (profile_of user)) Disk.tells t opened []
          (Disk.reads (seat_disk seat)) (Disk.faults is.taken) (Disk.faults (seat_disk seat)) None
          (seat_history seat) (flying (pairs_of_sole seat.desk)) (seat_standing seat) (Disk.image (seat_disk seat))
          (first_course schema world header bytes before images (profile_of user) name opened (Disk.faults is.taken) (Disk.reads
          (seat_disk seat)) counted read opening)
          (record {
            stands = λ held. let e : false ≡ true = held in absurd cc;
            size = λ whole. let size = ap length read in omega (arith, size);
            kept = λ idle. (read, λ c at. first c (is.left.images c at));
          })
          (record {
            standing_is = subst (λ r.
                IsStanding schema world (profile_of user) Disk.tells header r (seat_history seat) (Disk.faults is.taken) (Disk.faults (seat_disk seat))
                (seat_standing seat))
                (sym same)
                (subst (λ p. IsStanding schema world p Disk.tells header (Disk.reads is.taken) (seat_history seat) (Disk.faults is.taken)
                (Disk.faults (seat_disk seat)) (seat_standing seat)) profile from.standing);
            restarted = λ state holds. subst (λ p. Restarts schema world p (IsSeatIn seat) state (Disk.faults is.taken) (Disk.faults (seat_disk seat))) profile
                (from.restarted t state
                (subst (Holds schema world (profile_of (seat_user seat)) header state) same
                (subst (λ p. Holds schema world p header state (Disk.reads (seat_disk seat))) (sym profile) holds)));
            on = is.left.later;
            holds = λ served c at. subst (λ p. Holds schema world p header (seat_state seat) c) profile (from.holds t served c at);
            here = read_is_image (seat_disk seat) t;
          }) in
          let along = along_open schema world (profile_of user) header (images name) opened (Disk.moment is.taken) (Disk.moment is.taken) [] step.found
          step.opens (Disk.moment is.taken) (Disk.moment (seat_disk seat)) (Disk.image_since is.taken) (Disk.image_since (seat_disk seat))
          (Disk.image is.taken) is.left.time is.left.rests
          (λ some. absurd cc) (λ idle c at. first c at)
          (λ held c at. amid_all schema world (profile_of user) header (Run.opening schema world (profile_of user) opened)
          ([] ++ restart step.found step.opens ∷ []) c
          (step.running.stays.stands (opened_behind [] step.found step.opens held) c (clock.only_now (seat_disk seat) c at)))
          (λ idle c at. (step.running.stays.kept idle).1 c (clock.only_now (seat_disk seat) c at))
          (along_first schema world (profile_of user) header (images name) opened (Disk.moment is.taken) (Disk.image_since is.taken)
          (λ c at. first c (clock.only_now is.taken c at))) in
          record {
            opened = opened;
            opening = opening;
            choice = (
              step.found,
              step.opens,
              record {
                name_is = ap (λ (u : User). string_bytes u.name) is.user_is;
                profile_is = profile;
                journal_is = is.journal_is;
                served = from.served;
                living = subst (IsLiving schema world (profile_of user) header (bytes name) (before name) (images name) opened
                    ([] ++ restart step.found step.opens ∷ []) (seat_standing seat) (seat_state seat) (Disk.image (seat_disk seat)) (Disk.reads
                    (seat_disk seat))
                    (Disk.faults (seat_disk seat))) (sym from.refusal)
                    (live schema world (profile_of user) header (bytes name) (before name) (images name) opened ([] ++ restart step.found step.opens ∷ [])
                    (seat_standing seat) (seat_state seat) (Disk.image (seat_disk seat)) (Disk.reads (seat_disk seat)) (Disk.faults (seat_disk seat))
                    (first_refusal None (seat_standing seat)) step.running);
                fresh = λ none. from.fresh;
                began = Disk.moment is.taken;
                began_is = subst (λ o. IfSome o (λ begun. begun ≡ Disk.moment is.taken)) (sym (begins_are name))
                    (subst (λ j. IfSome (option_map Disk.moment (disk j)) (λ begun. begun ≡ Disk.moment is.taken)) is.journal_is
                    (taken_moment Disk.reads Disk.image Disk.moment (disk (seat_journal seat)) is.taken (is.from s)));
                opens_at = along.0;
                along = along.1;
                least = λ served. least_at (record { name = name; profile = profile_of user; opened = opened })
                    ([] ++ restart step.found step.opens ∷ []) seat from.opening_is served step.running.is_in;
                fewer = λ served. fewer_at (record { name = name; profile = profile_of user; opened = opened })
                    ([] ++ restart step.found step.opens ∷ []) seat from.opening_is served step.running.is_in;
                marks = λ sealed some.
                    let still = still_restarted schema world (profile_of user) header (bytes name) (before name) (images name) opened []
                    (seat_standing seat) (seat_state seat) sealed step.found step.opens step.running.is_in in
                    let e : false ≡ true = sym still.0 ∙ some in absurd cc;
              },
            );
          }

      module _ (decided : (user : UserProfile) (c : List ℕ) → ((entries : History) × Opens schema world user header entries c)
          ⊎ OpensNone schema world user header c) where
        begin_at : (user : User) (seat : DeskSeat D g h) → IsSeatOf S Disk schema world header directory disk count user seat → Begun user seat
        begin_at user seat is = by (decided (profile_of user) (bytes (string_bytes user.name)))
          where
            by : ((entries : History) × Opens schema world (profile_of user) header entries (bytes (string_bytes user.name)))
                ⊎ OpensNone schema world (profile_of user) header (bytes (string_bytes user.name)) → Begun user seat
            by (inl (entries, opens)) = begin_with user seat entries (inl opens) is
            by (inr none) = begin_with user seat [] (inr (none, refl)) is

        -- the users of a policy, each with his opening history, and the choices of the first opening
        pub record AreBegun (users : List User) (seats : List (DeskSeat D g h)) : Type 0 where
          pub begun : List NamedUser
          pub of_policy : map unopened begun ≡ map named_user users
          pub openings : AllByRecursion (λ user. OpensWith schema world user.profile header (bytes user.name) user.opened) begun
          pub choices : Choices [] begun seats

        pub begin_all : (users : List User) (seats : List (DeskSeat D g h))
            → AreSeatsOf S Disk schema world header directory disk count users seats → AreBegun users seats
        begin_all [] [] are = record { begun = []; of_policy = refl; openings = tt; choices = tt }
        begin_all [] (seat ∷ seats) are = absurd are
        begin_all (user ∷ users) [] are = absurd are
        begin_all (user ∷ users) (seat ∷ seats) are =
            let one : Begun user seat = begin_at user seat are.0 in
            let rest : AreBegun users seats = begin_all users seats are.1 in
            record {
              begun = record { name = string_bytes user.name; profile = profile_of user; opened = one.opened } ∷ rest.begun;
              of_policy = ap (λ us. named_user user ∷ us) rest.of_policy;
              openings = (one.opening, rest.openings);
              choices = (one.choice, rest.choices);
            }
