-- What the lines of a batch mean for its users, once their disks are back.
use Rattle.std.proofs.Common.{◌≡◌, inl, inr, ℕ, ◌≤◌, Bool, true, false, List, [], ◌∷◌, ◌++◌, take, map, refl, sym, ap, subst, ◌∙◌, append_assoc}
use Rattle.std.proofs.Common.{append-nil, ⊎_elim, arith}
use Rattle.std.specs.Prelude.{length, Option, Some, find, bytes_eq, All, if◌then◌else◌, option_map, IfSome, ◌⊎◌, ◌&&◌}
use Rattle.std.specs.List.{list_any, AllByRecursion}
use Rattle.std.proofs.lemmas.List.Elements.{All-head, All-tail}
use Rattle.outside.specs.Shelf.{bytes_on, image_on, since_on}
use Rattle.outside.specs.declared.disk.Disk.{Ghosts as DiskGhosts}
use Rattle.cqe_base.specs.Schema.{Text, DatabaseSchema, is_valid_schema, has_duplicate}
use Rattle.cqe_base.specs.Facts.{FactSet}
use Rattle.cqe_base.specs.History.{profile_of, is_history_of}
use Rattle.cqe_base.specs.Limits.{KeepsLimits}
use Rattle.cqe_base.specs.Censor.{EmptyHistoryIsLegal, IsLegal}
use Rattle.cqe_base.specs.Headline.{RunsStayLegal, ScriptsHide}
use Rattle.cqe_base.specs.Transcript.{NamedUser, ScriptEvent, own_events, state_after, transcript, TranscriptIsPrivate}
use Rattle.cqe_base.specs.declared.user.User.{User}
use Rattle.cqe_base.proofs.Limits.{sizes_are_of_schema}
use Rattle.cqe_base.proofs.Lists.{text_is}
use Rattle.cqe_base.proofs.Truths.{or_first, or_second}
use Rattle.user_desk.specs.Causes.{Opens}
use Rattle.user_desk.specs.Entries.{IsNoLonger}
use Rattle.log_journal.specs.Names.{journal_name}
use Rattle.batch_engine.specs.BatchLines.{BatchItem}
use Rattle.desk_crew.specs.Openings.{OpensNone, OpensWith}
use Rattle.batch_engine.specs.Lives.{RoseBy, is_opened, is_call, failures, IsStretchEnd}
use Rattle.batch_engine.specs.Batch.{StandsAmid, StandsBehind, ServesUser, AnswersBatch, AreRefusals, AppendsAll, AppendsSome, IsStretch, StandsBetween}
use Rattle.batch_engine.specs.Batch.{line_bytes, unopened, with_opening}
use Rattle.desk_crew.specs.Crew.{named_user, seat_standing, seat_state, IsLeftOpen}
use Rattle.cqe_base.specs.Run.{Event}
use Rattle.desk_crew.specs.Shelved.{Journals, journals_by, told_on, StandsAllAlong, ClosedBehind, IsBack, AreBack}
use Rattle.batch_engine.proofs.Along.{Clock, IsAlongClosed, IsClosedBehind, BeginsLife, at_end, along_still}
use Rattle.desk_crew.proofs.Lasting.{if_some_on}
use Rattle.desk_crew.specs.Seats.{DeskSeat}
use Rattle.batch_engine.proofs.Courses.{Course, course_on, Fits, Stays, stays_on, IsRunning}
use Rattle.batch_engine.proofs.Seating.{names, IsSeated, AreSeated, close_at, told_at, along_at}
use Rattle.batch_engine.proofs.Telling.{SoFar, Adds, joined}

-- ---- users by their names

abbrev pub Finds : List NamedUser → NamedUser → Type 0
Finds users user = find (λ u. bytes_eq u.name user.name) users ≡ Some user

find_behind : (first : NamedUser) (base users : List NamedUser) → list_any (bytes_eq first.name) (names users) ≡ false → AllByRecursion (Finds base) users
    → AllByRecursion (Finds (first ∷ base)) users
find_behind first base [] none found = tt
find_behind first base (user ∷ users) none found = (
  ap (λ b. if b then Some first else find (λ u. bytes_eq u.name user.name) base) (or_first _ _ none) ∙ found.0,
  find_behind first base users (or_second _ _ none) found.1,
)

-- each user is the first of his name
pub find_all : (users : List NamedUser) → has_duplicate (names users) ≡ false → AllByRecursion (Finds users) users
find_all [] distinct = tt
find_all (user ∷ users) distinct = (
  ap (λ b. if b then Some user else find (λ u. bytes_eq u.name user.name) users) (text_is user.name),
  find_behind user users users (or_first _ _ distinct) (find_all users (or_second _ _ distinct)),
)

-- names don't tell of openings
pub names_unopened : (users : List NamedUser) → names (map unopened users) ≡ names users
names_unopened [] = refl
names_unopened (user ∷ users) = ap (λ ns. user.name ∷ ns) (names_unopened users)

-- users of a policy keep the limits
pub limits_named : (schema : DatabaseSchema) (users : List User) (named : List NamedUser) → map unopened named ≡ map named_user users
    → All (λ u. KeepsLimits schema (profile_of u)) users
    → AllByRecursion (λ (u : NamedUser). KeepsLimits schema u.profile) named
limits_named schema [] [] same limits = tt
limits_named schema [] (n ∷ named) same limits = absurd cc
limits_named schema (u ∷ users) [] same limits = absurd cc
limits_named schema (u ∷ users) (n ∷ named) same limits =
    let first : unopened n ≡ named_user u = cc in
    let rest : map unopened named ≡ map named_user users = cc in (
      subst (KeepsLimits schema) (sym (ap (λ (x : NamedUser). x.profile) first)) (All-head (λ v. KeepsLimits schema (profile_of v)) u users limits),
      limits_named schema users named rest (All-tail (λ v. KeepsLimits schema (profile_of v)) u users limits),
    )

-- what a user's journal read, and its count, as the call began
abbrev pub bytes_of : {D : Type 0} → (D → List ℕ) → Text → (Text → Option D) → Text → List ℕ
bytes_of reads directory disk name = bytes_on reads (disk (journal_name directory name))

abbrev pub count_of : Text → (Text → ℕ) → Text → ℕ
count_of directory count name = count (journal_name directory name)

-- what a crash could leave of it then
abbrev pub images_of : {D : Type 0} → (D → List ℕ → Type 0) → Text → (Text → Option D) → Text → List ℕ → Type 0
images_of image directory disk name = image_on image (disk (journal_name directory name))

-- the clock of his disk
abbrev pub clock_of : {D : Type 0} (Disk : DiskGhosts D) → ((d : D) (c : List ℕ) → Disk.image_since d (Disk.moment d) c → Disk.image d c) → Text
    → (Text → Option D) → Clock Disk
clock_of Disk only_now directory disk =
    record { only_now = only_now; begins = λ name. option_map Disk.moment (disk (journal_name directory name)) }

legal_opening : (schema : DatabaseSchema) (world : FactSet) (header c : List ℕ) (user : NamedUser) → EmptyHistoryIsLegal
    → OpensWith schema world user.profile header c user.opened → IsLegal schema world user.profile user.opened
legal_opening schema world header c user empty (inl opens) = opens.legal
legal_opening schema world header c user empty (inr (none, is)) = subst (IsLegal schema world user.profile) (sym is) (empty schema world user.profile)

-- the opening history is of the schema
sentences_opening : (schema : DatabaseSchema) (world : FactSet) (header c : List ℕ) (user : NamedUser)
    → OpensWith schema world user.profile header c user.opened
    → is_history_of schema user.opened ≡ true
sentences_opening schema world header c user (inl opens) = sizes_are_of_schema schema user.profile user.opened opens.sizes
sentences_opening schema world header c user (inr (none, is)) = ap (is_history_of schema) is

-- what each crash could leave of a user's journal at each moment, and since the end of each stretch
record Moments (schema : DatabaseSchema) (world : FactSet) (header : List ℕ) (journals : Journals) (user : NamedUser) (events : List Event) : Type 0 where
  moments : StandsAllAlong journals user.name (list_any is_opened events) (StandsAmid schema world header user events)
  closings : (front rest : List Event) → events ≡ front ++ rest → IsStretchEnd rest → list_any is_opened front ≡ true
      → ClosedBehind journals user.name moments.opening (StandsAmid schema world header user front) (StandsBehind schema world header user front rest)

module _ (schema : DatabaseSchema) (world : FactSet) (users : List NamedUser) (header directory : List ℕ) {D : Type 0} {g h : _} (S : Type 0) (s : S)
    (Disk : DiskGhosts D) (t : Disk.tells)
    (read_is_image : (d : D) → Disk.tells → Disk.image d (Disk.reads d))
    (only_now : (d : D) (c : List ℕ) → Disk.image_since d (Disk.moment d) c → Disk.image d c)
    (disk disk' : Text → Option D) (count count' : Text → ℕ) where
  abbrev Seated : NamedUser → List ScriptEvent → DeskSeat D g h → Type 0
  Seated user script seat =
      IsSeated schema world header directory Disk t read_is_image
      (clock_of Disk only_now directory disk) (bytes_of Disk.reads directory disk) (count_of directory count)
      (images_of Disk.image directory disk) user (own_events user.name script) seat

  abbrev AllSeated : List ScriptEvent → List NamedUser → List (DeskSeat D g h) → Type 0
  AllSeated script us seats =
      AreSeated schema world header directory Disk t read_is_image
      (clock_of Disk only_now directory disk) (bytes_of Disk.reads directory disk) (count_of directory count)
      (images_of Disk.image directory disk) script us seats

  -- the disk of a user's journal, which is back
  record Back (user : NamedUser) (script : List ScriptEvent) (seat : DeskSeat D g h) : Type 0 where
    now : D
    held : disk' (journal_name directory user.name) ≡ Some now
    closed : D
    left : IsLeftOpen Disk closed now
    stays : Stays schema world user.profile header (bytes_of Disk.reads directory disk user.name) (count_of directory count user.name)
        (images_of Disk.image directory disk user.name) user.opened (own_events user.name script) (Disk.image now) (Disk.reads now)
    running : IsRunning schema world user.profile header (bytes_of Disk.reads directory disk user.name) (count_of directory count user.name)
        (images_of Disk.image directory disk user.name) user.opened (own_events user.name script) (seat_standing seat) (seat_state seat) (Disk.image closed)
        (Disk.reads closed) (Disk.faults closed) seat.refusal
    course : Course schema world user.profile header (bytes_of Disk.reads directory disk user.name) (count_of directory count user.name)
        (images_of Disk.image directory disk user.name) user.opened (own_events user.name script) (Disk.reads now)
        (count' (journal_name directory user.name)) seat.refusal
    began : ℕ
    began_is : IfSome (option_map Disk.moment (disk (journal_name directory user.name))) (λ begun. begun ≡ began)
    opens_at : ℕ
    all_along : IsAlongClosed schema world user.profile header (images_of Disk.image directory disk user.name) user.opened began opens_at
        (own_events user.name script) (Disk.moment now) (Disk.image_since now)
    told : list_any is_opened (own_events user.name script) ≡ true → length (state_after schema world user script).entries ≤ Disk.tellable now

  back : (user : NamedUser) (script : List ScriptEvent) (seat : DeskSeat D g h) → Seated user script seat → IsBack S Disk disk' count' seat
      → Back user script seat
  back user script seat seated is =
      let counted : count' (journal_name directory user.name) ≡ Disk.faults is.now = ap count' (sym seated.journal_is) ∙ is.counted in
      let left = is.left in
      let running = close_at schema world header directory Disk t read_is_image
      (clock_of Disk only_now directory disk) (bytes_of Disk.reads directory disk) (count_of directory count)
      (images_of Disk.image directory disk) user (own_events user.name script) seat left.closed seated left.is_closed in
      record {
        now = is.now;
        held = ap disk' (sym seated.journal_is) ∙ is.held s;
        closed = left.closed;
        left = left.left;
        running = running;
        stays = stays_on schema world user.profile header (bytes_of Disk.reads directory disk user.name) (count_of directory count user.name)
            (images_of Disk.image directory disk user.name) user.opened (own_events user.name script) (Disk.image left.closed) (Disk.image is.now)
            (Disk.reads left.closed)
            (Disk.reads is.now)
            left.left.reads_same left.left.images running.stays;
        course = course_on schema world user.profile header (bytes_of Disk.reads directory disk user.name) (count_of directory count user.name)
            (images_of Disk.image directory disk user.name) user.opened (own_events user.name script) (Disk.reads left.closed) (Disk.reads is.now)
            (Disk.faults left.closed)
            (count' (journal_name directory user.name)) seat.refusal left.left.reads_same
            (subst (λ n. Disk.faults left.closed ≤ n) (sym counted) left.left.later) running.course;
        began = seated.began;
        began_is = seated.began_is;
        opens_at = seated.opens_at;
        all_along = along_still schema world user.profile header (images_of Disk.image directory disk user.name) user.opened seated.began seated.opens_at
            (own_events user.name script)
            (Disk.moment left.closed) (Disk.moment is.now) (Disk.image_since left.closed) (Disk.image_since is.now) left.left.time
            (λ some c at. running.stays.stands some c (left.left.rests c at))
            (λ idle c at. (running.stays.kept idle).1 c (left.left.rests c at))
            (along_at schema world header directory Disk t read_is_image
            (clock_of Disk only_now directory disk) (bytes_of Disk.reads directory disk) (count_of directory count)
            (images_of Disk.image directory disk) user (own_events user.name script) seat left.closed seated left.is_closed);
        told = λ some.
            let was = told_at schema world header directory Disk t read_is_image
            (clock_of Disk only_now directory disk) (bytes_of Disk.reads directory disk) (count_of directory count)
            (images_of Disk.image directory disk) user (own_events user.name script) seat left.closed seated left.is_closed some in
            omega (arith, was, left.left.still_told);
      }

  -- a stretch that ended, by the disk that is back
  closed_at : (user : NamedUser) (script : List ScriptEvent) (seat : DeskSeat D g h) (at : Back user script seat) (front rest : List Event)
      → IsClosedBehind schema world user.profile header (images_of Disk.image directory disk user.name) user.opened at.began at.opens_at front rest
      (Disk.moment at.now) (Disk.image_since at.now)
      → ClosedBehind (journals_by Disk.reads Disk.image Disk.moment Disk.image_since Disk.tellable directory disk disk' count count') user.name at.opens_at
      (StandsAmid schema world header user front) (StandsBehind schema world header user front rest)
  closed_at user script seat at front rest closed = record {
    closing = closed.closed_at;
    later = closed.opened_first;
    within = subst (λ o. IfSome (option_map Disk.moment o) (λ ended. closed.closed_at ≤ ended)) (sym at.held) closed.passed;
    before = λ c here.
        subst (λ o. StandsAmid schema world header user front c ⊎ since_on Disk.image_since o closed.closed_at c) (sym at.held)
        (closed.up_to c (subst (λ o. since_on Disk.image_since o at.opens_at c) at.held here));
    behind = λ c here. closed.behind c (subst (λ o. since_on Disk.image_since o closed.closed_at c) at.held here);
  }

  -- it ended with the events, or before an opening
  closed_by : (user : NamedUser) (script : List ScriptEvent) (seat : DeskSeat D g h) (at : Back user script seat) (front rest : List Event)
      → own_events user.name script ≡ front ++ rest → IsStretchEnd rest → list_any is_opened front ≡ true
      → IsClosedBehind schema world user.profile header (images_of Disk.image directory disk user.name) user.opened at.began at.opens_at front rest
      (Disk.moment at.now) (Disk.image_since at.now)
  closed_by user script seat at front rest split ends some = by (at_end rest ends)
    where
      by : (rest ≡ []) ⊎ BeginsLife rest
          → IsClosedBehind schema world user.profile header (images_of Disk.image directory disk user.name) user.opened at.began at.opens_at front rest
          (Disk.moment at.now) (Disk.image_since at.now)
      by (inr begins) = at.all_along.along.closed front rest split begins some
      by (inl none) =
          let same : own_events user.name script ≡ front = split ∙ ap (λ r. front ++ r) none ∙ append-nil front in
          subst (λ r. IsClosedBehind schema world user.profile header (images_of Disk.image directory disk user.name) user.opened at.began at.opens_at front r
          (Disk.moment at.now) (Disk.image_since at.now)) (sym none)
          (subst (λ f. IsClosedBehind schema world user.profile header (images_of Disk.image directory disk user.name) user.opened at.began at.opens_at f []
          (Disk.moment at.now) (Disk.image_since at.now)) same (at.all_along.last (ap (list_any is_opened) same ∙ some)))

  all_moments : (user : NamedUser) (script : List ScriptEvent) (seat : DeskSeat D g h) → Back user script seat
      → Moments schema world header (journals_by Disk.reads Disk.image Disk.moment Disk.image_since Disk.tellable directory disk disk' count count') user
      (own_events user.name script)
  all_moments user script seat at =
      let along = at.all_along.along in
      record {
        moments = record {
          opening = at.opens_at;
          before = if_some_on (option_map Disk.moment (disk (journal_name directory user.name))) (λ begun. begun ≡ at.began)
              (λ begun. (begun ≤ at.opens_at) × ((c : List ℕ) → since_on Disk.image_since (disk' (journal_name directory user.name)) begun c
              → image_on Disk.image (disk (journal_name directory user.name)) c
              ⊎ since_on Disk.image_since (disk' (journal_name directory user.name)) at.opens_at c))
              (λ begun same. subst (λ b. (b ≤ at.opens_at) × ((c : List ℕ) → since_on Disk.image_since (disk' (journal_name directory user.name)) b c
              → image_on Disk.image (disk (journal_name directory user.name)) c
              ⊎ since_on Disk.image_since (disk' (journal_name directory user.name)) at.opens_at c)) (sym same) (
                along.begun,
                subst (λ o. (c : List ℕ) → since_on Disk.image_since o at.began c → image_on Disk.image (disk (journal_name directory user.name)) c
                    ⊎ since_on Disk.image_since o at.opens_at c) (sym at.held) along.before,
              )) at.began_is;
          behind = λ some c here. along.behind some c (subst (λ o. since_on Disk.image_since o at.opens_at c) at.held here);
          never = λ none c here. along.kept (ap (λ b. b && list_any is_call (own_events user.name script)) none) c
              (subst (λ o. since_on Disk.image_since o at.opens_at c) at.held here);
        };
        closings = λ front rest split ends some. closed_at user script seat at front rest (closed_by user script seat at front rest split ends some);
      }

  -- unless an opening held and he asked, no moment of the call left anything new
  kept_along : (user : NamedUser) (script : List ScriptEvent) (seat : DeskSeat D g h) (at : Back user script seat)
      → (list_any is_opened (own_events user.name script) && list_any is_call (own_events user.name script)) ≡ false
      → IfSome (option_map Disk.moment (disk (journal_name directory user.name))) (λ begun. (c : List ℕ)
      → since_on Disk.image_since (disk' (journal_name directory user.name)) begun c → image_on Disk.image (disk (journal_name directory user.name)) c)
  kept_along user script seat at idle =
      let along = at.all_along.along in
      if_some_on (option_map Disk.moment (disk (journal_name directory user.name))) (λ begun. begun ≡ at.began)
      (λ begun. (c : List ℕ) → since_on Disk.image_since (disk' (journal_name directory user.name)) begun c
      → image_on Disk.image (disk (journal_name directory user.name)) c)
      (λ begun same. subst (λ b. (c : List ℕ) → since_on Disk.image_since (disk' (journal_name directory user.name)) b c
      → image_on Disk.image (disk (journal_name directory user.name)) c) (sym same)
      (λ c here. ⊎_elim (λ early. early) (λ late. along.kept idle c late)
      (along.before c (subst (λ o. since_on Disk.image_since o at.began c) at.held here)))) at.began_is

  module _ (empty : EmptyHistoryIsLegal) (runs : RunsStayLegal) (hide : ScriptsHide) (alone : TranscriptIsPrivate) (valid : is_valid_schema schema ≡ true) where
    serves : (user : NamedUser) (script : List ScriptEvent) (seat : DeskSeat D g h) → Finds users user → KeepsLimits schema user.profile
        → OpensWith schema world user.profile header (bytes_of Disk.reads directory disk user.name) user.opened
        → Seated user script seat → IsBack S Disk disk' count' seat
        → ServesUser schema world header (journals_by Disk.reads Disk.image Disk.moment Disk.image_since Disk.tellable directory disk disk' count count') users
        script user
    serves user script seat found limits opening_is seated is =
        let at : Back user script seat = back user script seat seated is in
        let all = all_moments user script seat at in
        let legal = legal_opening schema world header (bytes_of Disk.reads directory disk user.name) user empty opening_is in
        record {
          opening_is = opening_is;
          private = alone schema world users user script found;
          legal = runs schema world user.profile user.opened (own_events user.name script) legal;
          hides = λ admits. hide schema world users user script found valid limits.sentences
              (sentences_opening schema world header (bytes_of Disk.reads directory disk user.name) user opening_is) admits legal;
          caused = at.course.caused;
          refused = λ none. refused_at at none at.course.fits;
          counted = λ opens. counted_at at opens at.course.fits;
          stands = λ some c here. at.stays.stands some c (subst (λ o. image_on Disk.image o c) at.held here);
          size = λ whole. subst
              (λ o. IsNoLonger (bytes_of Disk.reads directory disk user.name) (state_after schema world user script).entries (bytes_on Disk.reads o))
              (sym at.held)
              (at.stays.size whole);
          told = λ some. subst (λ o. length (state_after schema world user script).entries ≤ told_on Disk.tellable o) (sym at.held) (at.told some);
          kept =
              λ idle. (
                ap (bytes_on Disk.reads) at.held ∙ (at.stays.kept idle).0,
                λ c here. (at.stays.kept idle).1 c (subst
                    (λ o. image_on Disk.image o c) at.held here),
                kept_along user script seat at idle,
              );
          moments = all.moments;
          closings = all.closings;
        }
      where
        refused_at : (at : Back user script seat) → OpensNone schema world user.profile header (bytes_of Disk.reads directory disk user.name)
            → Fits schema world user.profile header (bytes_of Disk.reads directory disk user.name) (count_of directory count user.name)
            (images_of Disk.image directory disk user.name) user.opened (own_events user.name script) (Disk.reads at.now) (count'
            (journal_name directory user.name))
            → list_any is_opened (own_events user.name script) ≡ false
        refused_at at none (inl (opens, holds, rose)) = absurd (none user.opened opens)
        refused_at at none (inr (closed, is_empty, same, never)) = never

        counted_at : (at : Back user script seat) → Opens schema world user.profile header user.opened (bytes_of Disk.reads directory disk user.name)
            → Fits schema world user.profile header (bytes_of Disk.reads directory disk user.name) (count_of directory count user.name)
            (images_of Disk.image directory disk user.name) user.opened (own_events user.name script) (Disk.reads at.now) (count'
            (journal_name directory user.name))
            → RoseBy (failures (own_events user.name script)) (count_of directory count user.name) (count' (journal_name directory user.name))
        counted_at at opens (inl (was, holds, rose)) = rose
        counted_at at opens (inr (none, is_empty, same, never)) = absurd (none user.opened opens)

    serves_all : (us : List NamedUser) (script : List ScriptEvent) (seats : List (DeskSeat D g h)) → AllByRecursion (Finds users) us
        → AllByRecursion (λ (u : NamedUser). KeepsLimits schema u.profile) us
        → AllByRecursion (λ (u : NamedUser). OpensWith schema world u.profile header (bytes_of Disk.reads directory disk u.name) u.opened) us
        → AllSeated script us seats → AreBack S Disk disk' count' seats
        → AllByRecursion (ServesUser schema world header
        (journals_by Disk.reads Disk.image Disk.moment Disk.image_since Disk.tellable directory disk disk' count count')
        users script) us
    serves_all [] script [] found limits openings seated is = tt
    serves_all [] script (seat ∷ seats) found limits openings seated is = tt
    serves_all (user ∷ us) script [] found limits openings seated is = absurd seated
    serves_all (user ∷ us) script (seat ∷ seats) found limits openings seated is =
        (serves user script seat found.0 limits.0 openings.0 seated.0 is.0, serves_all us script seats found.1 limits.1 openings.1 seated.1 is.1)

    refusals_all : (us : List NamedUser) (script : List ScriptEvent) (seats : List (DeskSeat D g h)) → AllSeated script us seats
        → AreBack S Disk disk' count' seats
        → AreRefusals schema world header
        (journals_by Disk.reads Disk.image Disk.moment Disk.image_since Disk.tellable directory disk disk' count count')
        script us
        (map (λ (s : DeskSeat D g h). s.refusal) seats)
    refusals_all [] script [] seated is = tt
    refusals_all [] script (seat ∷ seats) seated is = absurd seated
    refusals_all (user ∷ us) script [] seated is = absurd seated
    refusals_all (user ∷ us) script (seat ∷ seats) seated is =
        ((back user script seat seated.0 is.0).course.refused, refusals_all us script seats seated.1 is.1)

    module _ (policy : List NamedUser) (of_policy : map unopened users ≡ policy) (distinct : has_duplicate (names users) ≡ false)
        (limits : AllByRecursion (λ (u : NamedUser). KeepsLimits schema u.profile) users)
        (openings : AllByRecursion (λ (u : NamedUser). OpensWith schema world u.profile header (bytes_of Disk.reads directory disk u.name) u.opened) users)
        (found opened : Text → Bool) where
      abbrev pub Told : List BatchItem → List ℕ → List ℕ → List (DeskSeat D g h) → Bool → Type 0
      Told items old new seats is_broken = (output : List ℕ) × (new ≡ old ++ output)
          × SoFar schema world users header directory Disk t read_is_image
          (clock_of Disk only_now directory disk) (bytes_of Disk.reads directory disk) (count_of directory count)
          (images_of Disk.image directory disk) found opened items output seats is_broken

      abbrev answers : (items : List BatchItem) (output : List ℕ) (seats : List (DeskSeat D g h)) (is_broken : Bool)
          → SoFar schema world users header directory Disk t read_is_image
          (clock_of Disk only_now directory disk) (bytes_of Disk.reads directory disk) (count_of directory count)
          (images_of Disk.image directory disk) found opened items output seats is_broken
          → AreBack S Disk disk' count' seats
          → AnswersBatch schema world header (journals_by Disk.reads Disk.image Disk.moment Disk.image_since Disk.tellable directory disk disk' count count')
          policy items output
      answers items output seats is_broken so_far is = record {
        users = users;
        of_policy = of_policy;
        found = found;
        opened = opened;
        events = so_far.events;
        of_items = so_far.of_items;
        lines = so_far.lines;
        each_user = serves_all users (with_opening found opened so_far.events) seats (find_all users distinct) limits openings so_far.seated is;
      }

      -- all items were answered
      pub answered_all : (items : List BatchItem) (old new : List ℕ) (seats : List (DeskSeat D g h)) (is_broken : Bool) → Told items old new seats is_broken
          → AreBack S Disk disk' count' seats
          → AppendsAll schema world header (journals_by Disk.reads Disk.image Disk.moment Disk.image_since Disk.tellable directory disk disk' count count')
          policy items old new
          (map (λ (s : DeskSeat D g h). s.refusal) seats) is_broken
      answered_all items old new seats is_broken (output, written, so_far) is = record {
        written = output;
        appended = written;
        answers = answers items output seats is_broken so_far is;
        refused = refusals_all users (with_opening found opened so_far.events) seats so_far.seated is;
        broken = so_far.broken;
      }

      -- some first stretches were answered, and of the lines of the last a part was written
      pub answered_some : (earlier stretch back all : List BatchItem) (n : ℕ) (old output lines new : List ℕ) (mid seats : List (DeskSeat D g h))
          (was is_broken : Bool)
          (so_far : SoFar schema world users header directory Disk t read_is_image
          (clock_of Disk only_now directory disk) (bytes_of Disk.reads directory disk) (count_of directory count)
          (images_of Disk.image directory disk) found opened earlier output mid was)
          → Adds schema world users header directory Disk t read_is_image
          (clock_of Disk only_now directory disk) (bytes_of Disk.reads directory disk) (count_of directory count)
          (images_of Disk.image directory disk) found opened so_far.events (earlier ++ stretch) (length stretch) lines seats is_broken
          → AreBack S Disk disk' count' seats → new ≡ (old ++ output) ++ take n lines → all ≡ (earlier ++ stretch) ++ back → IsStretch stretch
          → StandsBetween earlier stretch back → (some : AppendsSome schema world header
          (journals_by Disk.reads Disk.image Disk.moment Disk.image_since Disk.tellable directory disk disk' count count') policy all old new) × (some.part ≡ n)
      answered_some earlier stretch back all n old output lines new mid seats was is_broken so_far adds is appended split one between =
          let whole = transcript schema world users (with_opening found opened so_far.events) in
          let both = joined schema world users header directory Disk t read_is_image
          (clock_of Disk only_now directory disk) (bytes_of Disk.reads directory disk) (count_of directory count)
          (images_of Disk.image directory disk) found opened earlier (earlier ++ stretch) output lines mid seats was is_broken (length stretch) so_far adds in (
            record {
              earlier = earlier;
              stretch = stretch;
              back = back;
              split = split;
              one = one;
              between = between;
              whole = whole;
              last = adds.said;
              each = adds.each;
              part = n;
              appended = appended ∙ append_assoc old output (take n lines) ∙ ap (λ o. old ++ (o ++ take n lines)) so_far.lines
                  ∙ ap (λ l. old ++ (line_bytes whole ++ take n l)) adds.lines_are;
              answers = answers (earlier ++ stretch) (line_bytes (whole ++ adds.said)) seats is_broken both.so_far is;
              lines = both.lines;
            },
            refl,
          )
