-- Each user's one history, from the opening of his journal to the disk that is back.
use Rattle.std.proofs.Common.{◌≡◌, ◌⊎◌, inl, inr, ℕ, suc, ◌+◌, ◌*◌, ◌^◌, ◌≤◌, Bool, true, false, List, [], ◌∷◌, ◌++◌, length, map, refl, sym, ap, subst, ◌∙◌}
use Rattle.std.proofs.Common.{◌<◌, arith, length-append}
use Rattle.std.specs.Prelude.{Option, Some, None, Vec, is_some, ◌||◌, string_bytes, All, not, option_map, option_to_list, IfSome}
use Rattle.std.specs.declared.alloc.Global.{Global}
use Rattle.std.specs.List.{AllByRecursion, list_any, sum_by, flat_map}
use Rattle.std.proofs.lemmas.List.Sums.{sum_by-append}
use Rattle.std.proofs.lemmas.List.Elements.{All-head, All-tail, All-from_recursion}
use Rattle.outside.proofs.Rises.{rose_wide}
use Rattle.outside.proofs.Taken.{taken_reads, taken_images, Rests, taken_rests, began_rests}
use Rattle.outside.specs.Shelf.{SomeRose, bytes_on, image_on, since_on}
use Rattle.outside.specs.Disk.{Elapses}
use Rattle.outside.specs.declared.disk.Disk.{Ghosts as DiskGhosts}
use Rattle.outside.specs.Visits.{Visit, one_if_any}
use Rattle.outside.specs.declared.links.Door.{Ghosts as DoorGhosts}
use Rattle.cqe_base.specs.Schema.{Text, DatabaseSchema, is_valid_schema}
use Rattle.cqe_base.specs.Facts.{FactSet}
use Rattle.cqe_base.specs.History.{UserProfile, AnsweredQuery, History, is_user_of, is_history_of, profile_of}
use Rattle.cqe_base.specs.Censor.{IsLegal, admitted}
use Rattle.cqe_base.specs.Hiding.{LegalHistoriesHide}
use Rattle.cqe_base.specs.Limits.{KeepsLimits}
use Rattle.cqe_base.specs.declared.user.User.{User}
use Rattle.cqe_base.proofs.Limits.{sizes_are_of_schema}
use Rattle.log_journal.specs.Names.{journal_name}
use Rattle.log_journal.specs.declared.header.OpenError.TheVariants as journal_error
use Rattle.user_desk.specs.Causes.{IsStanding, IsSealedBy, OpensWithin}
use Rattle.user_desk.specs.Lives.{Holds}
use Rattle.user_desk.specs.Standings.{is_open, is_sealed}
use Rattle.user_desk.specs.declared.standing.DeskError.{DeskError}
use Rattle.user_desk.specs.declared.standing.DeskError.TheVariants.{Journal, Stale, Unlawful, Size, NotAdmitted, Unsafe}
use Rattle.user_desk.specs.declared.standing.Standing.{Standing}
use Rattle.user_desk.specs.declared.standing.Standing.TheVariants.{Open, Closed, Sealed}
use Rattle.desk_counter.specs.declared.item.Fixed.{Fixed}
use Rattle.desk_counter.specs.declared.item.TurnItem.{TurnItem}
use Rattle.desk_counter.specs.Items.{history_of, flying, items_of}
use Rattle.desk_counter.specs.Sole.{pairs_of_sole}
use Rattle.desk_counter.proofs.Pairs.{history_all, items_all}
use Rattle.turnstile.specs.Passes.{seen, mine, turns}
use Rattle.desk_counter.specs.Counters.{first_pairs}
use Rattle.desk_crew.specs.Crew.{IsSeatAsOpened, IsClosed, refusal_of, seat_user, seat_journal, seat_kept, seat_standing, seat_history, seat_disk, seat_broke}
use Rattle.desk_crew.specs.Crew.{seat_state, IsLeftOpen}
use Rattle.desk_crew.proofs.Shelving.{left_on}
use Rattle.desk_crew.specs.Seats.{DeskSeat}
use Rattle.desk_crew.specs.Shelved.{Journals, journals, journals_by, told_on, StandsAllAlong, AreLater, AreOwn, SeatsThere, IsSeatOf, AreSeatsOf}
use Rattle.desk_crew.specs.Shelved.{IsBack, AreBack}
use Rattle.log_journal.specs.Walk.{AreThere}
use Rattle.desk_crew.specs.Registered.{registered_journals}
use Rattle.desk_crew.proofs.Giving.{CanGive, AreGiven, AllReturned}
use Rattle.desk_crew.proofs.Taking.{AllSeated, seats_can, all_returned}
use Rattle.desk_crew.proofs.Lasting.{taken_moment, holds_within, stands_along}
use Rattle.desk_crew.proofs.Rising.{some_rose, any_failed}
use Rattle.session_core.specs.Members.{AreDesksOf, HasSeenLegal, HaveSeenLegal}
use Rattle.session_core.proofs.Replying.{last_none}
use Rattle.serve_engine.specs.Served.{Served, member_broke, SessionMarks, entries_told, failures_told, items_told}
use Rattle.serve_engine.specs.Members.{OwnMore, own_at}
use Rattle.serve_engine.specs.Doors.{AreServedDoors, SomeFailed, HasOutcome}
use Rattle.serve_engine.specs.Serving.{HasServed, HaveServed, AreAllTold, ServesDoors, EndsDoors, IsDone, IsBroken, end_of}
use Rattle.serve_engine.specs.declared.serving.Outcome.{Outcome}
use Rattle.serve_engine.specs.declared.serving.Outcome.TheVariants as outcome
use Rattle.serve_engine.specs.declared.run.ServeEnd.TheVariants.{LinksFault}
use Rattle.serve_engine.proofs.Apart.{served_still, apart_own}
use Rattle.serve_engine.proofs.Owning.{own_weight, told_weight, weigh_more}
use Rattle.serve_engine.proofs.Weighing.{kept_weight, failed_weight, kept_pairs_weigh, none_failed, failed_last, kept_told, failed_told}
use Rattle.serve_engine.specs.Sharing.{seat_counter, seat_pass, seat_member, IsSeatOn, AreSeatsOn, AreAllIn, IsServedAt}

module _ (schema : DatabaseSchema) (world : FactSet) (user : UserProfile) (header bytes : List ℕ) (T : Type 0) (t : T) where
  -- a cause that is told is one for all, and a count that rose within a longer time rose in it
  sealed_wide : (first before now last : ℕ) → first ≤ before → now ≤ last → (why : DeskError) → IsSealedBy schema world user T header bytes before now why
      → IsSealedBy schema world user (Unit {0}) header bytes first last why
  sealed_wide first before now last a b (Journal journal_error.Memory) is = is
  sealed_wide first before now last a b (Journal journal_error.DiskFault) is = rose_wide first before now last a b is
  sealed_wide first before now last a b (Journal journal_error.NotAJournal) is = λ u. is t
  sealed_wide first before now last a b (Journal journal_error.OtherPolicy) is = λ u. is t
  sealed_wide first before now last a b (Journal (journal_error.Damaged number)) is = λ u. is t
  sealed_wide first before now last a b (Journal journal_error.OldVersion) is = λ u. is t
  sealed_wide first before now last a b (Stale number) is = λ u. is t
  sealed_wide first before now last a b (Unlawful number stored computed) is = λ u. is t
  sealed_wide first before now last a b (Size number) is = λ u. is t
  sealed_wide first before now last a b (Unsafe number) is = λ u. is t
  sealed_wide first before now last a b (NotAdmitted admission) is = λ u. is t

  standing_wide : (entries : History) (first before now last : ℕ) → first ≤ before → now ≤ last → (standing : Standing)
      → IsStanding schema world user T header bytes entries before now standing
      → IsStanding schema world user (Unit {0}) header bytes entries first last standing
  standing_wide entries first before now last a b Open is = (is.0, λ u. is.1 t)
  standing_wide entries first before now last a b (Closed admission) is = (is.0, is.1, is.2, λ u. is.3 t)
  standing_wide entries first before now last a b (Sealed why) is = (is.0, sealed_wide first before now last a b why is.1)

-- only a user who is admitted is served
open_admits : (schema : DatabaseSchema) (world : FactSet) (user : UserProfile) (T : Type 0) (header bytes : List ℕ) (entries : History) (before now : ℕ)
    (standing : Standing) → IsStanding schema world user T header bytes entries before now standing → is_open standing ≡ true
    → admitted schema world user ≡ true
open_admits schema world user T header bytes entries before now Open is serves = is.0
open_admits schema world user T header bytes entries before now (Closed admission) is serves = absurd cc
open_admits schema world user T header bytes entries before now (Sealed why) is serves = absurd cc

module _ (schema : DatabaseSchema) (world : FactSet) (header directory : List ℕ) {D : Type 0} {g h : _} (S : Type 0) (s : S) (Disk : DiskGhosts D)
    (t : Disk.tells) (read_is_image : (d : D) → Disk.tells → Disk.image d (Disk.reads d)) (disk disk' : Text → Option D) (count count' : Text → ℕ) where
  abbrev Opened : User → DeskSeat D g h → Type 0
  Opened user seat = IsSeatOf S Disk schema world header directory disk count user seat

  abbrev Back : DeskSeat D g h → Type 0
  Back seat = IsBack S Disk disk' count' seat

  -- a desk whose journal was refused, or at which nothing was appended, leaves the disk of its opening
  left_alone : (seat : DeskSeat D g h) (after : D) → IsClosed Disk seat.desk after → (is_sealed (seat_standing seat) ≡ true)
      ⊎ ((seat_history seat ≡ (seat_kept seat).opening) × (seat_broke seat ≡ false)) → after ≡ (seat_kept seat).disk
  left_alone seat after closed (inl sealed) = closed.shut sealed
  left_alone seat after closed (inr (same, unbroken)) =
      closed.still (record { count = ap length same; none = none_flies (flying (pairs_of_sole seat.desk)) unbroken })
    where
      none_flies : (in_flight : Option AnsweredQuery) → is_some in_flight ≡ false → in_flight ≡ None
      none_flies None none = refl
      none_flies (Some entry) none = absurd cc

  -- what a crash could leave of a user's journal at each moment
  all_along : (user : User) (old new : DeskSeat D g h) → Opened user old → IsSeatOn old new → Back new
      → (seat_kept new).schema ≡ schema → (seat_kept new).world ≡ world → (seat_kept new).header ≡ header
      → length (seat_kept new).opening ≤ length (seat_history new)
      → StandsAllAlong (journals_by Disk.reads Disk.image Disk.moment Disk.image_since Disk.tellable directory disk disk' count count') (string_bytes user.name)
      (not (is_sealed (seat_standing new)))
      (OpensWithin schema world (seat_kept new).user header (length (seat_kept new).opening)
      (seat_history new ++ option_to_list (flying (pairs_of_sole new.desk))))
  all_along user old new opened on back schema_is world_is header_is more =
      stands_along (journals_by Disk.reads Disk.image Disk.moment Disk.image_since Disk.tellable directory disk disk' count count') (string_bytes user.name)
      (is_sealed (seat_standing new)) (Kind schema world header) (Disk.moment opened.taken) (Disk.moment (seat_disk old)) (Disk.moment closed)
      (Disk.moment back.now) (Disk.image_since opened.taken)
      (Disk.image_since (seat_disk old)) (Disk.image_since closed) (Disk.image opened.taken) (Disk.image closed)
      (subst (λ j. IfSome (option_map Disk.moment (disk j)) (λ begun. begun ≡ Disk.moment opened.taken)) opened.journal_is
      (taken_moment Disk.reads Disk.image Disk.moment (disk (seat_journal old)) opened.taken (opened.from s)))
      (λ c at. subst (λ j. image_on Disk.image (disk j) c) opened.journal_is
      (taken_images Disk.reads Disk.image (disk (seat_journal old)) opened.taken c (opened.from s) at))
      opened.left.time opened.left.rests
      (subst (λ (f : Fixed D). Elapses (Disk.moment f.disk) (Disk.moment closed) (Disk.image_since f.disk) (Disk.image_since closed)) on.kept_is is.time)
      (subst (λ o. Elapses (Disk.moment closed) (Disk.moment back.now) (Disk.image_since closed) (since_on Disk.image_since o)) (sym held) back.left.left.time)
      (λ c here. back.left.left.rests c (subst (λ o. since_on Disk.image_since o (Disk.moment closed) c) held here))
      (λ served c here. as_ours c (is.since t served c (subst (λ (f : Fixed D). Disk.image_since closed (Disk.moment f.disk) c) (sym on.kept_is) here)))
      (λ served c here. as_ours c
      (holds_within (seat_kept new).schema (seat_kept new).world (seat_kept new).user (seat_kept new).header (seat_history new) (seat_state new).standing
      (flying (pairs_of_sole new.desk)) (length (seat_kept new).opening) c more (is.holds t served c here)))
      (λ sealed c here. opened.left.rests c (subst (λ d. Disk.image_since d (Disk.moment opened.taken) c) (same sealed) here))
      (λ sealed c here. opened.left.images c (subst (λ d. Disk.image d c) (same sealed) here))
    where
      closed : D
      closed = back.left.closed

      is : IsClosed Disk new.desk back.left.closed
      is = back.left.is_closed

      held : disk' (journal_name directory (string_bytes user.name)) ≡ Some back.now
      held = ap disk' (sym (on.journal_is ∙ opened.journal_is)) ∙ back.held s

      Kind : DatabaseSchema → FactSet → List ℕ → List ℕ → Type 0
      Kind sc w hd = OpensWithin sc w (seat_kept new).user hd (length (seat_kept new).opening)
          (seat_history new ++ option_to_list (flying (pairs_of_sole new.desk)))

      as_ours : (c : List ℕ) → Kind (seat_kept new).schema (seat_kept new).world (seat_kept new).header c → Kind schema world header c
      as_ours c within =
          subst (λ sc. Kind sc world header c) schema_is
          (subst (λ w. Kind (seat_kept new).schema w header c) world_is (subst (λ hd. Kind (seat_kept new).schema (seat_kept new).world hd c) header_is within))

      same : is_sealed (seat_standing new) ≡ true → back.left.closed ≡ seat_disk old
      same sealed = is.shut sealed ∙ ap (λ (f : Fixed D). f.disk) on.kept_is

  module _ (valid : is_valid_schema schema ≡ true) (hide : LegalHistoriesHide) where
    -- one user
    has_served : (user : User) (old new : DeskSeat D g h) → KeepsLimits schema (profile_of user) → Opened user old → IsSeatOn old new → Back new
        → HasServed schema world header (journals_by Disk.reads Disk.image Disk.moment Disk.image_since Disk.tellable directory disk disk' count count') user
        (seat_member new) old.refusal
    has_served user old new limits opened on back =
        let name : Text = journal_name directory (string_bytes user.name) in
        let is = opened.opened in
        let kept : seat_kept new ≡ seat_kept old = on.kept_is in
        let closed = back.left.is_closed in
        let left = back.left.left in
        let journal : seat_journal new ≡ name = on.journal_is ∙ opened.journal_is in
        let schema_is : (seat_kept new).schema ≡ schema = ap (λ (f : Fixed D). f.schema) kept ∙ is.served.schema_is in
        let world_is : (seat_kept new).world ≡ world = ap (λ (f : Fixed D). f.world) kept ∙ is.served.world_is in
        let header_is : (seat_kept new).header ≡ header = ap (λ (f : Fixed D). f.header) kept ∙ is.served.header_is in
        let user_is : (seat_kept new).user ≡ profile_of user = ap (λ (f : Fixed D). f.user) kept ∙ is.served.user_is ∙ ap profile_of opened.user_is in
        let held : disk' name ≡ Some back.now = ap disk' (sym journal) ∙ back.held s in
        let counted : count' name ≡ Disk.faults back.now = ap count' (sym journal) ∙ back.counted in
        let before : Disk.faults opened.taken ≡ count name = opened.counted ∙ ap count opened.journal_is in
        let begins : Disk.faults opened.taken ≤ Disk.faults (seat_disk old) = opened.left.later in
        let while : Disk.faults (seat_kept new).disk ≤ Disk.faults back.left.closed = closed.later in
        let disks : Disk.faults (seat_kept new).disk ≡ Disk.faults (seat_disk old) = ap (λ (f : Fixed D). Disk.faults f.disk) kept in
        let ends : Disk.faults back.left.closed ≤ Disk.faults back.now = left.later in
        let read_was : Disk.reads opened.taken ≡ bytes_on Disk.reads (disk name) =
        taken_reads Disk.reads Disk.image (disk (seat_journal old)) opened.taken (opened.from s) ∙ ap (λ n. bytes_on Disk.reads (disk n)) opened.journal_is in
        let standing : Standing = seat_standing new in
        let standing_is : seat_standing old ≡ standing = ap (λ (f : Fixed D). f.standing) (sym kept) in
        let opening : seat_history old ≡ (seat_kept new).opening = sym is.opening_is ∙ ap (λ (f : Fixed D). f.opening) (sym kept) in
        let goes_on : seat_history new ≡ (seat_kept new).opening ++ history_of on.on.0 =
        ap history_of on.on.1 ∙ history_all (pairs_of_sole old.desk) on.on.0 ∙ ap (λ (e : History). e ++ history_of on.on.0) opening in
        let many : length (seat_history new) ≡ length (seat_kept new).opening + length (history_of on.on.0) =
        ap length goes_on ∙ length-append (seat_kept new).opening (history_of on.on.0) in
        let legal : IsLegal schema world (seat_kept new).user (seat_history new) =
        subst (λ w. IsLegal schema w (seat_kept new).user (seat_history new)) world_is
        (subst (λ d. IsLegal d (seat_kept new).world (seat_kept new).user (seat_history new)) schema_is closed.legal) in
        let holds : is_sealed standing ≡ false → (c : List ℕ) → Disk.image back.left.closed c
        → Holds schema world (seat_kept new).user header (seat_state new) c =
        λ served c here.
        subst (λ hd. Holds schema world (seat_kept new).user hd (seat_state new) c) header_is
        (subst (λ w. Holds schema w (seat_kept new).user (seat_kept new).header (seat_state new) c) world_is
        (subst (λ d. Holds d (seat_kept new).world (seat_kept new).user (seat_kept new).header (seat_state new) c) schema_is (closed.holds t served c here))) in
        record {
          profile_is = user_is;
          standing = standing;
          standing_is = refl;
          refusal_is = is.refusal ∙ ap refusal_of standing_is;
          cause = standing_wide schema world (seat_kept new).user header (bytes_on Disk.reads (disk name)) Disk.tells t (seat_kept new).opening (count name)
              (Disk.faults opened.taken) (Disk.faults (seat_disk old)) (count' name) (omega (arith, before)) (omega
              (arith, while, disks, ends, counted)) standing
              (subst (λ (st : Standing).
              IsStanding schema world (seat_kept new).user Disk.tells header (bytes_on Disk.reads (disk name)) (seat_kept new).opening
              (Disk.faults opened.taken) (Disk.faults (seat_disk old)) st) standing_is
              (subst (λ (e : History).
              IsStanding schema world (seat_kept new).user Disk.tells header (bytes_on Disk.reads (disk name)) e (Disk.faults opened.taken)
              (Disk.faults (seat_disk old)) (seat_standing old)) opening
              (subst (λ b. IsStanding schema world (seat_kept new).user Disk.tells header b (seat_history old) (Disk.faults opened.taken)
              (Disk.faults (seat_disk old)) (seat_standing old)) read_was
              (subst (λ (p : UserProfile).
              IsStanding schema world p Disk.tells header (Disk.reads opened.taken) (seat_history old) (Disk.faults opened.taken) (Disk.faults (seat_disk old))
              (seat_standing old))
              (ap profile_of opened.user_is ∙ sym user_is) is.standing))));
          goes_on = (history_of on.on.0, goes_on);
          legal = legal;
          hides = λ admits.
              hide schema world (seat_kept new).user (seat_history new) valid
              (subst (λ (p : UserProfile). is_user_of schema p ≡ true) (sym user_is) limits.sentences)
              (ap (λ d. is_history_of d (seat_history new)) (sym schema_is)
              ∙ sizes_are_of_schema (seat_kept new).schema (seat_kept new).user (seat_history new) closed.sizes) admits legal;
          reads = λ served.
              subst (λ o. Holds schema world (seat_kept new).user header (seat_state new) (bytes_on Disk.reads o)) (sym held)
              (holds served (Disk.reads back.now) (left.images (Disk.reads back.now) (read_is_image back.now t)));
          stands = λ served c here. holds served c (left.images c (subst (λ o. image_on Disk.image o c) held here));
          size = λ whole.
              let grown = closed.size t whole in
              let read_now = ap length (ap (bytes_on Disk.reads) held ∙ left.reads_same) in
              let read_first = ap length (ap (λ (f : Fixed D). Disk.reads f.disk) kept ∙ opened.left.reads_same ∙ read_was) in
              omega (arith, grown, read_now, read_first);
          told = subst (λ o. length (seat_history new) ≤ told_on Disk.tellable o) (sym held)
              (let most : length (seat_history new) ≤ Disk.tellable back.left.closed = closed.told t in omega (arith, most, left.still_told));
          idle = λ shut. let none = closed.idle shut in (none.0, ap (λ (o : Option AnsweredQuery). is_some o) none.1);
          kept = λ why. (
            ap (bytes_on Disk.reads) held ∙ left.reads_same ∙ ap Disk.reads (left_alone new back.left.closed closed why)
                ∙ ap (λ (f : Fixed D). Disk.reads f.disk) kept
                ∙ opened.left.reads_same ∙ read_was,
            λ c here. subst (λ n. image_on Disk.image (disk n) c) opened.journal_is
                (taken_images Disk.reads Disk.image (disk (seat_journal old)) opened.taken c (opened.from s)
                (opened.left.images c
                (subst (λ (f : Fixed D). Disk.image f.disk c) kept
                (subst (λ d. Disk.image d c) (left_alone new back.left.closed closed why) (left.images c (subst (λ o. image_on Disk.image o c) held here)))))),
            began_rests Disk (disk name) (disk' name)
                (subst (λ n. Rests Disk (disk n) (disk' name)) opened.journal_is
                (taken_rests Disk (disk (seat_journal old)) (disk' name) opened.taken back.now (opened.from s)
                (left_on Disk opened.taken (seat_disk old) back.now opened.left
                (subst (λ d. IsLeftOpen Disk d back.now) (left_alone new back.left.closed closed why ∙ ap (λ (f : Fixed D). f.disk) kept) left)).rests held)),
          );
          failed = λ broke.
              rose_wide (count name) (Disk.faults (seat_kept new).disk) (Disk.faults back.left.closed) (count' name) (omega (arith, before, begins, disks))
              (omega (arith, ends, counted)) (closed.cause broke);
          moments = all_along user old new opened on back schema_is world_is header_is (omega (arith, many));
        }

    -- all users
    have_served : (users : List User) (olds news : List (DeskSeat D g h)) → All (λ user. KeepsLimits schema (profile_of user)) users
        → AreSeatsOf S Disk schema world header directory disk count users olds → AreSeatsOn olds news
        → AreBack S Disk disk' count' news
        → HaveServed schema world header (journals_by Disk.reads Disk.image Disk.moment Disk.image_since Disk.tellable directory disk disk' count count') users
        (map seat_member news)
        (map (λ seat. seat.refusal) olds)
    have_served [] [] [] limits opened on back = tt
    have_served (user ∷ users) (old ∷ olds) (new ∷ news) limits opened on back = (
      has_served user old new (All-head (λ u. KeepsLimits schema (profile_of u)) user users limits) opened.0 on.0 back.0,
      have_served users olds news (All-tail (λ u. KeepsLimits schema (profile_of u)) user users limits) opened.1 on.1 back.1,
    )
    have_served [] (old ∷ olds) news limits opened on back = absurd opened
    have_served (user ∷ users) [] news limits opened on back = absurd opened
    have_served [] [] (new ∷ news) limits opened on back = absurd on
    have_served (user ∷ users) (old ∷ olds) [] limits opened on back = absurd on

  module _ (told : List SessionMarks) where
    -- what the passes at seats have of their own was told from a place on
    abbrev OwnFrom : ℕ → List (DeskSeat D g h) → Type 0
    OwnFrom place seats = (weight : TurnItem → ℕ) (k : ℕ) → own_weight weight k (map seat_pass seats) ≡ told_weight weight (place + k) told

    -- as they do from the first place on, where they had nothing as the seats were opened
    own_from : (olds news : List (DeskSeat D g h)) → ((weight : TurnItem → ℕ) (k : ℕ) → own_weight weight k (map seat_pass olds) ≡ 0)
        → OwnMore (map seat_pass olds) (map seat_pass news) told → OwnFrom 0 news
    own_from olds news none more weight k =
        let before = none weight k in
        let after = more k weight ∙ weigh_more weight (own_at k (map seat_pass olds)) (items_told k) told in
        let same = ap (λ n. told_weight weight n told) (let e : 0 + k ≡ k = omega arith in e) in
        omega (arith, before, after, same)

    -- so each user's pairs are what they were as his journal was opened, and what he was told
    module _ (place : ℕ) (user : User) (old new : DeskSeat D g h) (opened : Opened user old) (on : IsSeatOn old new) (back : Back new)
        (own : (weight : TurnItem → ℕ) → sum_by weight (items_of (mine (seat_pass new))) ≡ told_weight weight place told) where
      pairs_weigh : (weight : TurnItem → ℕ)
          → sum_by weight (items_of (pairs_of_sole new.desk)) ≡ sum_by weight (items_of (pairs_of_sole old.desk)) + told_weight weight place told
      pairs_weigh weight =
          let added = ap items_of back.left.is_closed.added ∙ items_all (first_pairs (seat_counter new)) (mine (seat_pass new)) in
          let whole = ap (sum_by weight) added ∙ sum_by-append weight (items_of (first_pairs (seat_counter new))) (items_of (mine (seat_pass new))) in
          let first = ap (λ ps. sum_by weight (items_of ps)) (on.first_is ∙ opened.opened.first_is) in
          let here = own weight in
          omega (arith, whole, first, here)

      entries_same : (weight : AnsweredQuery → ℕ)
          → sum_by weight (seat_history new) ≡ sum_by weight ((seat_kept new).opening ++ flat_map (entries_told place) told)
      entries_same weight =
          let opening : (seat_kept new).opening ≡ seat_history old = ap (λ (f : Fixed D). f.opening) on.kept_is ∙ opened.opened.opening_is in
          let first = ap (sum_by weight) opening in
          let all = pairs_weigh (kept_weight weight) in
          let now = kept_pairs_weigh weight (pairs_of_sole new.desk) in
          let was = kept_pairs_weigh weight (pairs_of_sole old.desk) in
          let marks = kept_told weight place told in
          let more = weigh_more weight (seat_kept new).opening (entries_told place) told in
          omega (arith, first, all, now, was, marks, more)

      failures_same : (weight : AnsweredQuery → ℕ)
          → sum_by weight (option_to_list (flying (pairs_of_sole new.desk))) ≡ sum_by weight (flat_map (failures_told place) told)
      failures_same weight =
          let all = pairs_weigh (failed_weight weight) in
          let now = ap (sum_by (failed_weight weight)) back.left.is_closed.items ∙ failed_last weight (seat_history new) (flying (pairs_of_sole new.desk)) in
          let was = none_failed weight (pairs_of_sole old.desk) opened.opened.fresh.none in
          let marks = failed_told weight place told in
          let more = weigh_more weight [] (failures_told place) told in
          omega (arith, all, now, was, marks, more)

    -- so behind each user's opening history there is what he was told
    all_told : (place : ℕ) (users : List User) (olds news : List (DeskSeat D g h))
        → AreSeatsOf S Disk schema world header directory disk count users olds → AreSeatsOn olds news
        → AreBack S Disk disk' count' news
        → OwnFrom place news → AreAllTold place (map seat_member news) told
    all_told place [] [] [] opened on back own = tt
    all_told place (user ∷ users) (old ∷ olds) (new ∷ news) opened on back own =
        let here : (weight : TurnItem → ℕ) → sum_by weight (items_of (mine (seat_pass new))) ≡ told_weight weight place told =
        λ weight. own weight 0 ∙ ap (λ k. told_weight weight k told) (let e : place + 0 ≡ place = omega arith in e) in (
          entries_same place user old new opened.0 on.0 back.0 here,
          failures_same place user old new opened.0 on.0 back.0 here,
          all_told (suc place) users olds news opened.1 on.1 back.1 (λ weight k. own weight (suc k)
              ∙ ap (λ n. told_weight weight n told) (let e : place + suc k ≡ suc place + k = omega arith in e)),
        )
    all_told place [] (old ∷ olds) news opened on back own = absurd opened
    all_told place (user ∷ users) [] news opened on back own = absurd opened
    all_told place [] [] (new ∷ news) opened on back own = absurd on
    all_told place (user ∷ users) (old ∷ olds) [] opened on back own = absurd on

  -- all desks are in the one world
  all_in_world : (users : List User) (olds news : List (DeskSeat D g h))
      → AreSeatsOf S Disk schema world header directory disk count users olds → AreSeatsOn olds news → AreAllIn schema world news
  all_in_world [] [] [] opened on = tt
  all_in_world (user ∷ users) (old ∷ olds) (new ∷ news) opened on =
      let served = opened.0.opened.served in (
        ap (λ (f : Fixed D). f.schema) on.0.kept_is ∙ served.schema_is,
        ap (λ (f : Fixed D). f.world) on.0.kept_is ∙ served.world_is,
        all_in_world users olds news opened.1 on.1,
      )
  all_in_world [] (old ∷ olds) news opened on = absurd opened
  all_in_world (user ∷ users) [] news opened on = absurd opened
  all_in_world [] [] (new ∷ news) opened on = absurd on
  all_in_world (user ∷ users) (old ∷ olds) [] opened on = absurd on

module _ {D : Type 0} {g h : _} where
  -- whether an append failed at one of the seats is whether one failed for one of the users
  broke_at : (seats : List (DeskSeat D g h)) → list_any seat_broke seats ≡ list_any member_broke (map seat_member seats)
  broke_at [] = refl
  broke_at (seat ∷ seats) = ap (λ b. seat_broke seat || b) (broke_at seats)

  -- the journals are the same, and so are the disks as the desks were opened
  pub journals_on_same : (olds news : List (DeskSeat D g h)) → AreSeatsOn olds news → journals news ≡ journals olds
  journals_on_same [] [] on = refl
  journals_on_same (old ∷ olds) (new ∷ news) on =
      ap (λ n. n ∷ journals news) on.0.journal_is ∙ ap (λ ns. seat_journal old ∷ ns) (journals_on_same olds news on.1)
  journals_on_same [] (new ∷ news) on = absurd on
  journals_on_same (old ∷ olds) [] on = absurd on

  pub later_on_seats : (faults : D → ℕ) (count : Text → ℕ) (olds news : List (DeskSeat D g h)) → AreSeatsOn olds news → AreLater faults count olds
      → AreLater faults count news
  later_on_seats faults count [] [] on later = tt
  later_on_seats faults count (old ∷ olds) (new ∷ news) on later = (
    subst (λ d. count (seat_journal new) ≤ faults d) (ap (λ (f : Fixed D). f.disk) (sym on.0.kept_is))
        (subst (λ n. count n ≤ faults (seat_disk old)) (sym on.0.journal_is) later.0),
    later_on_seats faults count olds news on.1 later.1,
  )
  later_on_seats faults count [] (new ∷ news) on later = absurd on
  later_on_seats faults count (old ∷ olds) [] on later = absurd on

  pub own_on_seats : (origin : D → List (List ℕ)) (known : Text → List (List ℕ)) (olds news : List (DeskSeat D g h)) → AreSeatsOn olds news
      → AreOwn origin known olds → AreOwn origin known news
  own_on_seats origin known [] [] on own = tt
  own_on_seats origin known (old ∷ olds) (new ∷ news) on own =
      (ap (λ (f : Fixed D). origin f.disk) on.0.kept_is ∙ own.0 ∙ ap known (sym on.0.journal_is), own_on_seats origin known olds news on.1 own.1)
  own_on_seats origin known [] (new ∷ news) on own = absurd on
  own_on_seats origin known (old ∷ olds) [] on own = absurd on

  -- what was told of them lies there, where it did
  pub there_on_seats : (Disk : DiskGhosts D) (olds news : List (DeskSeat D g h)) → AreSeatsOn olds news → SeatsThere Disk olds → SeatsThere Disk news
  there_on_seats Disk [] [] on there = tt
  there_on_seats Disk (old ∷ olds) (new ∷ news) on there = (
    subst (λ (f : Fixed D). AreThere (Disk.heard f.disk) (Disk.reads f.disk)) (sym on.0.kept_is) there.0,
    there_on_seats Disk olds news on.1 there.1,
  )
  there_on_seats Disk [] (new ∷ news) on there = absurd on
  there_on_seats Disk (old ∷ olds) [] on there = absurd on

-- ---- ends

module _ {O S K : Type 0} (Door : DoorGhosts O S K) (stands : Visit → SessionMarks → Type 0) where
  -- as many doors come back
  pub doors_many : (total : ℕ) (marks : Door.tells → List SessionMarks) (doors others : List O)
      → AreServedDoors Door stands total marks doors others → length others ≡ length doors
  doors_many total marks [] [] is = refl
  doors_many total marks (d ∷ doors) (e ∷ others) is = ap suc (doors_many is.1 is.4 doors others is.7)
  doors_many total marks [] (e ∷ others) is = absurd is
  doors_many total marks (d ∷ doors) [] is = absurd is

  -- together they have given so many more
  pub doors_gave : Door.tells → (total : ℕ) (marks : Door.tells → List SessionMarks) (doors others : List O)
      → AreServedDoors Door stands total marks doors others → sum_by Door.given others ≡ sum_by Door.given doors + total
  doors_gave t total marks [] [] is = let none = is.0 in omega (arith, none)
  doors_gave t total marks (d ∷ doors) (e ∷ others) is =
      let rest = doors_gave t is.1 is.4 doors others is.7 in
      let here = is.6.given t in
      let both = is.2 in
      let first = sum_by-append Door.given (d ∷ []) doors in
      let second = sum_by-append Door.given (e ∷ []) others in
      omega (arith, rest, here, both, first, second)
  doors_gave t total marks [] (e ∷ others) is = absurd is
  doors_gave t total marks (d ∷ doors) [] is = absurd is

  -- each connection that was left is left, or was given
  pub doors_left : Door.tells → (total : ℕ) (marks : Door.tells → List SessionMarks) (doors others : List O)
      → AreServedDoors Door stands total marks doors others
      → sum_by Door.left doors + sum_by Door.given doors ≡ sum_by Door.left others + sum_by Door.given others
  doors_left t total marks [] [] is = refl
  doors_left t total marks (d ∷ doors) (e ∷ others) is =
      let rest = doors_left t is.1 is.4 doors others is.7 in
      let given = is.6.given t in
      let left = is.6.left t in
      let lefts = sum_by-append Door.left (d ∷ []) doors in
      let lefts' = sum_by-append Door.left (e ∷ []) others in
      let gave = sum_by-append Door.given (d ∷ []) doors in
      let gave' = sum_by-append Door.given (e ∷ []) others in
      omega (arith, rest, given, left, lefts, lefts', gave, gave')
  doors_left t total marks [] (e ∷ others) is = absurd is
  doors_left t total marks (d ∷ doors) [] is = absurd is

  -- where serving came to its end, no door has a connection left, or the limit was reached
  pub ended_at : Door.tells
      → (limit total : ℕ) (marks : Door.tells → List SessionMarks) (doors others : List O) (went : Outcome)
      (refusals : Vec (Option DeskError) Global) (is_broken : Bool) → AreServedDoors Door stands total marks doors others
      → HasOutcome Door limit went total others → IsDone (end_of went refusals is_broken)
      → All (λ door. Door.left door ≡ 0) others
      ⊎ ((sum_by Door.given doors + limit ≤ sum_by Door.given others + sum_by (λ door. one_if_any (Door.ends door)) others)
      × (sum_by Door.given doors + limit < sum_by Door.given others + length others))
  ended_at t limit total marks doors others outcome.Served refusals is_broken served has done = by (has t)
    where
      by : All (λ door. Door.left door ≡ 0) others
          ⊎ ((limit ≤ total + sum_by (λ door. one_if_any (Door.ends door)) others) × (limit < total + length others))
          → All (λ door. Door.left door ≡ 0) others
          ⊎ ((sum_by Door.given doors + limit ≤ sum_by Door.given others + sum_by (λ door. one_if_any (Door.ends door)) others)
          × (sum_by Door.given doors + limit < sum_by Door.given others + length others))
      by (inl none) = inl none
      by (inr (most, more)) =
          let gave = doors_gave t total marks doors others served in
          inr (omega (arith, most, gave), omega (arith, more, gave))
  ended_at t limit total marks doors others outcome.LinksFailed refusals is_broken served has done = absurd done
  ended_at t limit total marks doors others outcome.Memory refusals is_broken served has done = absurd done

  pub failed_at : (limit total : ℕ) (others : List O) (went : Outcome) (refusals : Vec (Option DeskError) Global) (is_broken : Bool)
      → HasOutcome Door limit went total others → end_of went refusals is_broken ≡ LinksFault
      → SomeFailed Door.faults others
  failed_at limit total others outcome.Served refusals is_broken has is = absurd cc
  failed_at limit total others outcome.LinksFailed refusals is_broken has is = has
  failed_at limit total others outcome.Memory refusals is_broken has is = absurd cc

-- an end that says that an append failed came of desks of which one says so
pub broken_end : (went : Outcome) (refusals : Vec (Option DeskError) Global) (is_broken : Bool) → IsBroken (end_of went refusals is_broken) → is_broken ≡ true
broken_end outcome.Served refusals is_broken is = is
broken_end outcome.LinksFailed refusals is_broken is = absurd is
broken_end outcome.Memory refusals is_broken is = absurd is

module _ (schema : DatabaseSchema) (world : FactSet) (header : List ℕ) (journals : Journals) (users : List User) {O S K : Type 0} (Door : DoorGhosts O S K)
    (doors doors' : List O) where
  -- each end of desks that were opened
  ends_at : (went : Outcome) (refusals : Vec (Option DeskError) Global) (is_broken : Bool)
      (serves : ServesDoors schema world header journals users Door doors doors' refusals.items is_broken) (limit : ℕ)
      → HasOutcome Door limit went serves.total doors'
      → EndsDoors schema world header journals users Door doors doors' (end_of went refusals is_broken)
  ends_at outcome.Served refusals is_broken serves limit has = serves
  ends_at outcome.LinksFailed refusals is_broken serves limit has = inr (refusals.items, is_broken, serves)
  ends_at outcome.Memory refusals is_broken serves limit has = inr (refusals.items, is_broken, serves, has)

module _ {D : Type 0} {g h : _} (told : Type 0) (Disk : DiskGhosts D) (schema : DatabaseSchema)
    (world : FactSet) (header directory : List ℕ) (disk : Text → Option D) (count : Text → ℕ) where
  -- what holds of each seat that was just opened holds of all
  each : (P : DeskSeat D g h → Type 0)
      → ((user : User) (seat : DeskSeat D g h) → IsSeatOf told Disk schema world header directory disk count user seat → P seat)
      → (users : List User) (seats : List (DeskSeat D g h))
      → AreSeatsOf told Disk schema world header directory disk count users seats → AllByRecursion P seats
  each P holds [] [] opened = tt
  each P holds (user ∷ users) (seat ∷ seats) opened = (holds user seat opened.0, each P holds users seats opened.1)
  each P holds [] (seat ∷ seats) opened = absurd opened
  each P holds (user ∷ users) [] opened = absurd opened

  seats_fresh : (users : List User) (seats : List (DeskSeat D g h))
      → AreSeatsOf told Disk schema world header directory disk count users seats → All IsSeatAsOpened seats
  seats_fresh users seats opened = All-from_recursion IsSeatAsOpened seats (each IsSeatAsOpened (λ user seat is. is.opened.fresh) users seats opened)

  seats_turns : (users : List User) (seats : List (DeskSeat D g h))
      → AreSeatsOf told Disk schema world header directory disk count users seats
      → All (λ (seat : DeskSeat D g h). turns (seat_pass seat) ≡ 65 * 2 ^ 57) seats
  seats_turns users seats opened =
      All-from_recursion (λ (seat : DeskSeat D g h). turns (seat_pass seat) ≡ 65 * 2 ^ 57) seats
      (each (λ (seat : DeskSeat D g h). turns (seat_pass seat) ≡ 65 * 2 ^ 57) (λ user seat is. is.opened.turns_are) users seats opened)

  seats_own : (users : List User) (seats : List (DeskSeat D g h))
      → AreSeatsOf told Disk schema world header directory disk count users seats
      → All (λ (seat : DeskSeat D g h). mine (seat_pass seat) ≡ []) seats
  seats_own users seats opened =
      All-from_recursion (λ (seat : DeskSeat D g h). mine (seat_pass seat) ≡ []) seats
      (each (λ (seat : DeskSeat D g h). mine (seat_pass seat) ≡ []) (λ user seat is. is.opened.mine_is) users seats opened)

  -- each seat's desk is that of the user at its place
  seats_desks : (users : List User) (seats : List (DeskSeat D g h))
      → AreSeatsOf told Disk schema world header directory disk count users seats → AreDesksOf users (map seat_kept seats)
  seats_desks [] [] opened = refl
  seats_desks (user ∷ users) (seat ∷ seats) opened =
      let this : (seat_kept seat).user ≡ profile_of user = opened.0.opened.served.user_is ∙ ap profile_of opened.0.user_is in
      ap (λ (p : UserProfile). p ∷ map (λ (f : Fixed D). f.user) (map seat_kept seats)) this
      ∙ ap (λ (ps : List UserProfile). profile_of user ∷ ps) (seats_desks users seats opened.1)
  seats_desks [] (seat ∷ seats) opened = absurd opened
  seats_desks (user ∷ users) [] opened = absurd opened

  module _ (valid : is_valid_schema schema ≡ true) where
    -- what the pass of a seat that was just opened has seen is legal
    seat_legal : (user : User) (seat : DeskSeat D g h) → KeepsLimits schema (profile_of user)
        → IsSeatOf told Disk schema world header directory disk count user seat → HasSeenLegal (seat_kept seat) (seat_pass seat)
    seat_legal user seat limits is =
        let kept = seat_kept seat in
        let served = is.opened.served in
        let user_is : kept.user ≡ profile_of user = served.user_is ∙ ap profile_of is.user_is in
        record {
          valid = ap is_valid_schema served.schema_is ∙ valid;
          user_of = ap (λ s. is_user_of s kept.user) served.schema_is ∙ ap (is_user_of schema) user_is ∙ limits.sentences;
          admits = λ serves. ap (λ s. admitted s kept.world kept.user) served.schema_is ∙ ap (λ w. admitted schema w kept.user) served.world_is
              ∙ ap (admitted schema world) served.user_is
              ∙ open_admits schema world (profile_of (seat_user seat)) Disk.tells header (Disk.reads is.taken) (seat_history seat) (Disk.faults is.taken)
              (Disk.faults (seat_disk seat)) kept.standing is.opened.standing serves;
          legal = subst (λ s. IsLegal s kept.world kept.user (seat_history seat)) (sym served.schema_is)
              (subst (λ w. IsLegal schema w kept.user (seat_history seat)) (sym served.world_is)
              (subst (λ p. IsLegal schema world p (seat_history seat)) (sym served.user_is) is.opened.legal));
          sentences = ap (λ s. is_history_of s (seat_history seat)) served.schema_is
              ∙ sizes_are_of_schema schema (profile_of (seat_user seat)) (seat_history seat) is.opened.sizes;
          last = last_none (seen (seat_pass seat)) is.opened.fresh.none;
        }

    seats_legal : (users : List User) (seats : List (DeskSeat D g h)) → All (λ user. KeepsLimits schema (profile_of user)) users
        → AreSeatsOf told Disk schema world header directory disk count users seats
        → HaveSeenLegal (map seat_kept seats) (map seat_pass seats)
    seats_legal [] [] limits opened = tt
    seats_legal (user ∷ users) (seat ∷ seats) limits opened = (
      seat_legal user seat (All-head (λ u. KeepsLimits schema (profile_of u)) user users limits) opened.0,
      seats_legal users seats (All-tail (λ u. KeepsLimits schema (profile_of u)) user users limits) opened.1,
    )
    seats_legal [] (seat ∷ seats) limits opened = absurd opened
    seats_legal (user ∷ users) [] limits opened = absurd opened

-- what serving asks of seats that were just opened
pub record AreReady {D : Type 0} {g h : _} (users : List User) (seats : List (DeskSeat D g h)) : Type 0 where
  pub desks : AreDesksOf users (map seat_kept seats)
  pub legal : HaveSeenLegal (map seat_kept seats) (map seat_pass seats)
  pub fresh : All IsSeatAsOpened seats
  pub turns_are : All (λ (seat : DeskSeat D g h). turns (seat_pass seat) ≡ 65 * 2 ^ 57) seats

module _ {directory : Text} {schema : DatabaseSchema} {world : FactSet} {header : List ℕ} {D : Type 0} {g h : _} {told : Type 0} {Disk : DiskGhosts D}
    {users : List User} {seats : List (DeskSeat D g h)} {disk disk' : Text → Option D} {is_out' : Text → Bool} {count count' : Text → ℕ}
    (seated : AllSeated directory schema world header told Disk users seats disk disk' is_out' count count') where
  pub all_ready : is_valid_schema schema ≡ true → All (λ user. KeepsLimits schema (profile_of user)) users → AreReady users seats
  all_ready valid limits = record {
    desks = seats_desks told Disk schema world header directory disk count users seats seated.are;
    legal = seats_legal told Disk schema world header directory disk count valid users seats limits seated.are;
    fresh = seats_fresh told Disk schema world header directory disk count users seats seated.are;
    turns_are = seats_turns told Disk schema world header directory disk count users seats seated.are;
  }

  module _ (news : List (DeskSeat D g h)) (on : AreSeatsOn seats news) where
    -- the seats behind serving can be given back
    pub served_can : CanGive Disk news is_out' count'
    served_can = seats_can seated news (journals_on_same seats news on) (later_on_seats Disk.faults count' seats news on seated.later)

    -- and once they were, the shelf is whole
    pub served_returned : {disk'' : Text → Option D} {is_out'' : Text → Bool} {count'' : Text → ℕ}
        → AreGiven told Disk news disk' disk'' is_out' is_out'' count' count''
        → AllReturned (registered_journals directory users) disk disk'' is_out'' count count''
    served_returned given = all_returned seated news (journals_on_same seats news on) (later_on_seats Disk.faults count' seats news on seated.later) given

    -- where an append to one of them failed, the count of a disk rose
    pub served_rose : (disk'' : Text → Option D) (count'' : Text → ℕ) → AreBack told Disk disk'' count'' news → list_any seat_broke news ≡ true
        → SomeRose count count''
    served_rose disk'' count'' back broke =
        some_rose told Disk count count'' disk'' news (later_on_seats Disk.faults count seats news on seated.first) back
        (any_failed told Disk count count'' disk'' news broke)

    -- each user's history is told whole, and each connection of the doors was served by one of them
    pub served_ends : (s : told) (t : Disk.tells) (read_is_image : (d : D) → Disk.tells → Disk.image d (Disk.reads d)) (disk'' : Text → Option D)
        (count'' : Text → ℕ) → AreBack told Disk disk'' count'' news → is_valid_schema schema ≡ true → LegalHistoriesHide
        → All (λ user. KeepsLimits schema (profile_of user)) users → {O S K : Type 0} (Door : DoorGhosts O S K) (doors others : List O) (went : Outcome)
        (refusals : Vec (Option DeskError) Global) (is_broken : Bool) (limit : ℕ) → refusals.items ≡ map (λ (seat : DeskSeat D g h). seat.refusal) seats
        → is_broken ≡ list_any seat_broke news → (total : ℕ) (marks : Door.tells → List SessionMarks)
        → AreServedDoors Door (IsServedAt users news) total marks doors others → HasOutcome Door limit went total others
        → ((u : Door.tells) → OwnMore (map seat_pass seats) (map seat_pass news) (marks u))
        → EndsDoors schema world header (journals_by Disk.reads Disk.image Disk.moment Disk.image_since Disk.tellable directory disk disk'' count count'') users
        Door doors others (end_of went refusals is_broken)
    served_ends s t read_is_image disk'' count'' back valid hide limits Door doors others went refusals is_broken limit refused broke total marks served has
        more =
        let journals = journals_by Disk.reads Disk.image Disk.moment Disk.image_since Disk.tellable directory disk disk'' count count'' in
        ends_at schema world header journals users Door doors others went refusals is_broken
        (record {
          members = map seat_member news;
          each_user = subst (HaveServed schema world header journals users (map seat_member news)) (sym refused)
              (have_served schema world header directory told s Disk t read_is_image disk disk'' count count'' valid hide users seats news limits seated.are on
              back);
          broken_is = broke ∙ broke_at news;
          total = total;
          marks = marks;
          served = served_still Door (IsServedAt users news) (Served schema world users (map seat_member news))
              (λ visit said is. is schema world
              (all_in_world schema world header directory told s Disk t read_is_image disk disk'' count count'' users seats news seated.are on))
              total marks doors others served;
          all_told = λ u. all_told schema world header directory told s Disk t read_is_image disk disk'' count count'' (marks u) 0 users seats news seated.are
              on back (own_from schema world header directory told s Disk t read_is_image disk disk'' count count'' (marks u) seats news
              (apart_own seats (seats_own told Disk schema world header directory disk count users seats seated.are)) (more u));
        }) limit has
