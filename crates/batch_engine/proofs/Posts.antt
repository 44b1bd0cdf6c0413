-- The users of a stretch at their posts: their rooms, their answers, and what is gathered of them.
use Rattle.std.proofs.Common.{◌≡◌, ℕ, suc, ◌+◌, ◌<◌, ◌≤◌, ◌||◌, Bool, true, false, List, [], ◌∷◌, ◌++◌, length, map, drop, get_or, All}
use Rattle.std.proofs.Common.{refl, sym, ap, subst, ◌∙◌, append-nil, length-append, arith}
use Rattle.std.specs.Prelude.{bytes_eq, if◌then◌else◌, None, Vec, vec_capacity, slice_index_or, remove}
use Rattle.std.specs.List.{flat_map, list_any, AllByRecursion}
use Rattle.std.proofs.lemmas.List.{drop_more, length-map}
use Rattle.std.specs.declared.alloc.Global.{Global}
use Rattle.std.specs.List.Sorted.{IsPermutation}
use Rattle.cqe_base.specs.Schema.{Text, DatabaseSchema, has_duplicate}
use Rattle.cqe_base.specs.Facts.{FactSet}
use Rattle.cqe_base.specs.History.{profile_of}
use Rattle.desk_crew.specs.Crew.{seat_name, seat_kept, seat_user, is_named, IsSeatServed, AreReopened}
use Rattle.desk_crew.specs.Seats.{DeskSeat}
use Rattle.batch_engine.specs.BatchLines.{NamedAsk}
use Rattle.outside.specs.declared.disk.Disk.{Ghosts as DiskGhosts}
use Rattle.std.specs.Prelude.{string_bytes}
use Rattle.cqe_base.specs.declared.user.User.{User}
use Rattle.desk_crew.specs.Registered.{registered_names}
use Rattle.desk_crew.specs.Shelved.{AreSeatsOf}
use Rattle.cqe_base.specs.Run.{Reply}
use Rattle.std.specs.Prelude.{Option}
use Rattle.std.proofs.lemmas.List.Elements.{All-nil, All-push, All-from_recursion, recursion_from_All}
use Rattle.std.proofs.lemmas.List.Sorted.{list_any-IsPermutation, length_permutation, All-permutation, IsPermutation-sym, IsPermutation-append_left}
use Rattle.batch_engine.specs.Answers.{answer_to, asks_of, answers_from, strangers_from, restarted_at, output_bytes, says_broken}
use Rattle.batch_engine.specs.BatchLines.{BatchItem, restarted}
use Rattle.batch_engine.specs.Batches.{ask_in, asks_in, stretch_in}
use Rattle.batch_engine.specs.declared.batch.BatchAsk.{BatchAsk}
use Rattle.batch_engine.specs.Ordered.{AreNumbered}
use Rattle.batch_engine.specs.Steps.{Runs, restart_bytes}
use Rattle.batch_engine.specs.Stretches.{InOrder}
use Rattle.batch_engine.proofs.Running.{restarted_more}
use Rattle.batch_engine.proofs.Seating.{flat_map-append}
use Rattle.batch_engine.specs.Posts.{DeskPost, HasRoom, HasRooms, RunsOwn, AreAnswered, seat_of, answers_at, names_of}
use Rattle.batch_engine.specs.declared.answer.Answer.{Answer}
use Rattle.batch_engine.proofs.Merging.{OwnRuns, Merged, merged, as_many, all_of, told_runs, answers_numbered}

-- ---- how many asks

pub asks_of-push : (name : Text) (asks : List NamedAsk) (ask : NamedAsk)
    → asks_of name (asks ++ ask ∷ []) ≡ asks_of name asks + (if bytes_eq name ask.name then 1 else 0)
asks_of-push name [] ask = let turned : (if bytes_eq name ask.name then 1 else 0) + 0 ≡ 0 + (if bytes_eq name ask.name then 1 else 0) = omega arith in turned
asks_of-push name (first ∷ asks) ask =
    let more = asks_of-push name asks ask in
    omega (arith, more)

-- the asks from a place on: that at the place, and those behind it
pub asks_left : (name : Text) (asks : List BatchAsk) (i : ℕ) (ask : BatchAsk) → i < length asks → ask ≡ get_or asks i ask
    → asks_of name (asks_in (drop i asks)) ≡ (if bytes_eq name (ask_in ask).name then 1 else 0) + asks_of name (asks_in (drop (i + 1) asks))
asks_left name asks i ask low is =
    ap (λ l. asks_of name (asks_in l)) (drop_more asks i ask low ∙ ap (λ a. a ∷ drop (i + 1) asks) (sym is))

-- ---- the answers to strangers

-- that to one ask, if none of these names has made it
abbrev pub stranger : ℕ → List Text → NamedAsk → List Answer
stranger number names ask = if list_any (λ name. bytes_eq name ask.name) names then [] else answer_to number ask None ∷ []

pub strangers_from-push : (number : ℕ) (asks : List NamedAsk) (ask : NamedAsk) (names : List Text)
    → strangers_from number (asks ++ ask ∷ []) names ≡ strangers_from number asks names ++ stranger (number + length asks) names ask
strangers_from-push number [] ask names = let same : number ≡ number + 0 = omega arith in ap (λ n. stranger n names ask) same
strangers_from-push number (first ∷ asks) ask names =
    let same : (number + 1) + length asks ≡ number + length (first ∷ asks) = omega arith in
    by (list_any (λ name. bytes_eq name first.name) names)
    (strangers_from-push (number + 1) asks ask names ∙ ap (λ n. strangers_from (number + 1) asks names ++ stranger n names ask) same)
  where
    by : (known : Bool)
        → strangers_from (number + 1) (asks ++ ask ∷ []) names
        ≡ strangers_from (number + 1) asks names ++ stranger (number + length (first ∷ asks)) names ask
        → (if known then strangers_from (number + 1) (asks ++ ask ∷ []) names
        else answer_to number first None ∷ strangers_from (number + 1) (asks ++ ask ∷ []) names)
        ≡ (if known then strangers_from (number + 1) asks names else answer_to number first None ∷ strangers_from (number + 1) asks names)
        ++ stranger (number + length (first ∷ asks)) names ask
    by true more = more
    by false more = ap (λ l. answer_to number first None ∷ l) more

-- ---- what is gathered of lists that are read item by item

module _ {X Y : Type 0} (f : X → List Y) where
  -- what was gathered so far, and what the next has, are no more than all
  pub gathered_few : (all read left rest : List X) (x : X) → read ++ left ≡ all → left ≡ x ∷ rest
      → length (flat_map f read) + length (f x) ≤ length (flat_map f all)
  gathered_few all read left rest x so_far is =
      let whole : flat_map f all ≡ flat_map f read ++ (f x ++ flat_map f rest) =
      ap (flat_map f) (sym so_far ∙ ap (λ (l : List X). read ++ l) is) ∙ flat_map-append f read (x ∷ rest) in
      let many = ap length whole in
      let first = length-append (flat_map f read) (f x ++ flat_map f rest) in
      let second = length-append (f x) (flat_map f rest) in
      omega (arith, many, first, second)

  pub gathered_more : (read : List X) (x : X) → flat_map f (read ++ x ∷ []) ≡ flat_map f read ++ f x
  gathered_more read x = flat_map-append f read (x ∷ []) ∙ ap (λ (l : List Y). flat_map f read ++ l) (append-nil (f x))

module _ {D : Type 0} {g h : _} where
  -- ---- rooms

  pub rooms-push : (asks : List NamedAsk) (seats : List (DeskSeat D g h)) (rooms : List (Vec Answer Global)) (seat : DeskSeat D g h) (room : Vec Answer Global)
      → HasRooms asks seats rooms → room.items ≡ [] → asks_of (seat_name seat) asks ≤ vec_capacity room
      → HasRooms asks (seats ++ seat ∷ []) (rooms ++ room ∷ [])
  rooms-push asks [] [] seat room has empty fits = (empty, fits, tt)
  rooms-push asks [] (r ∷ rooms) seat room has empty fits = absurd has
  rooms-push asks (s ∷ seats) [] seat room has empty fits = absurd has
  rooms-push asks (s ∷ seats) (r ∷ rooms) seat room has empty fits = (has.0, has.1, rooms-push asks seats rooms seat room has.2 empty fits)

  -- where a seat is left there is a room
  pub rooms_left : (asks : List NamedAsk) (left : List (DeskSeat D g h)) (rooms : List (Vec Answer Global)) (seat : DeskSeat D g h)
      (rest : List (DeskSeat D g h)) → left ≡ seat ∷ rest → HasRooms asks left rooms → 0 < length rooms
  rooms_left asks left rooms seat rest is has = by rooms (subst (λ (l : List (DeskSeat D g h)). HasRooms asks l rooms) is has)
    where
      by : (rooms : List (Vec Answer Global)) → HasRooms asks (seat ∷ rest) rooms → 0 < length rooms
      by [] has = absurd has
      by (r ∷ rooms) has = omega arith

  -- the room that is removed first is that of the first seat
  pub first_room : (asks : List NamedAsk) (left : List (DeskSeat D g h)) (rooms : List (Vec Answer Global)) (seat : DeskSeat D g h)
      (rest : List (DeskSeat D g h)) (room : Vec Answer Global) (others : List (Vec Answer Global)) → left ≡ seat ∷ rest → HasRooms asks left rooms
      → room ≡ slice_index_or rooms 0 room → others ≡ remove rooms 0
      → HasRoom {D = D} {g = g} {h = h} asks (record { seat = seat; answers = room }) × HasRooms asks rest others
  first_room asks left rooms seat rest room others is has = by rooms (subst (λ (l : List (DeskSeat D g h)). HasRooms asks l rooms) is has)
    where
      by : (rooms : List (Vec Answer Global)) → HasRooms asks (seat ∷ rest) rooms → room ≡ slice_index_or rooms 0 room → others ≡ remove rooms 0
          → HasRoom {D = D} {g = g} {h = h} asks (record { seat = seat; answers = room }) × HasRooms asks rest others
      by [] has taken removed = absurd has
      by (r ∷ rooms) has taken removed = (
        record {
          empty = ap (λ (v : Vec Answer Global). v.items) taken ∙ has.0;
          room = subst (λ (v : Vec Answer Global). asks_of (seat_name seat) asks ≤ vec_capacity v) (sym taken) has.1;
        },
        subst (HasRooms asks rest) (sym removed) has.2,
      )

  -- ---- what the users were told

  -- the posts before and behind, place by place, as one run for all
  pub own_runs : (schema : DatabaseSchema) (world : FactSet) (header : List ℕ) (asks : List NamedAsk) (olds news : List (DeskPost D g h))
      → length news ≡ length olds → AllByRecursion (λ (p : DeskPost D g h). IsSeatServed schema world header p.seat) olds
      → ((k : ℕ) (d : DeskPost D g h) → k < length olds → RunsOwn asks (slice_index_or olds k d) (slice_index_or news k d))
      → OwnRuns schema world 0 asks (map seat_of olds) (map seat_of news) (map answers_at news)
  own_runs schema world header asks [] [] many served each = tt
  own_runs schema world header asks [] (new ∷ news) many served each = absurd (omega (arith, many))
  own_runs schema world header asks (old ∷ olds) [] many served each = absurd (omega (arith, many))
  own_runs schema world header asks (old ∷ olds) (new ∷ news) many served each = (
    (each 0 old (omega arith)).run schema world header served.0,
    own_runs schema world header asks olds news (omega (arith, many)) served.1 (λ k d low. each (suc k) d (omega (arith, low))),
  )

  pub served_posts : (schema : DatabaseSchema) (world : FactSet) (header : List ℕ) (posts : List (DeskPost D g h)) (seats : List (DeskSeat D g h))
      → map seat_of posts ≡ seats → AllByRecursion (IsSeatServed schema world header) seats
      → AllByRecursion (λ (p : DeskPost D g h). IsSeatServed schema world header p.seat) posts
  served_posts schema world header posts seats same all = of_map posts (subst (AllByRecursion (IsSeatServed schema world header)) (sym same) all)
    where
      of_map : (posts : List (DeskPost D g h)) → AllByRecursion (IsSeatServed schema world header) (map seat_of posts)
          → AllByRecursion (λ (p : DeskPost D g h). IsSeatServed schema world header p.seat) posts
      of_map [] all = tt
      of_map (post ∷ posts) all = (all.0, of_map posts all.1)

  -- no answer is taken out of the lists of answers or put into them
  pub all_are : (posts : List (DeskPost D g h)) → flat_map answers_at posts ≡ all_of (map answers_at posts)
  all_are [] = refl
  all_are (post ∷ posts) = ap (λ l. post.answers.items ++ l) (all_are posts)

  -- whether some user has a name
  pub any_named : (name : Text) (posts : List (DeskPost D g h))
      → list_any (λ (p : DeskPost D g h). is_named name p.seat) posts ≡ list_any (λ n. bytes_eq n name) (names_of posts)
  any_named name [] = refl
  any_named name (post ∷ posts) = ap (λ b. is_named name post.seat || b) (any_named name posts)

  -- the names of the users stay
  pub same_names : (posts : List (DeskPost D g h)) → names_of posts ≡ map seat_name (map seat_of posts)
  same_names [] = refl
  same_names (post ∷ posts) = ap (λ l. seat_name post.seat ∷ l) (same_names posts)

  -- the asks of a stretch are answered, and these are the answers
  pub are_answered : (schema : DatabaseSchema) (world : FactSet) (asks : List NamedAsk) (olds news : List (DeskSeat D g h)) (owns : List (List Answer))
      (names : List Text) (answers : List Answer) → has_duplicate (map seat_name olds) ≡ false → names ≡ map seat_name olds
      → OwnRuns schema world 0 asks olds news owns → answers ≡ strangers_from 0 asks names ++ all_of owns → AreAnswered schema world asks olds news answers
  are_answered schema world asks olds news owns names answers distinct same runs are =
      let all : Merged schema world 0 asks olds news owns = merged schema world asks 0 olds news owns distinct runs in
      record {
        replies = all.replies;
        each = all.each;
        all = subst (IsPermutation (answers_from 0 asks all.replies)) (sym (are ∙ ap (λ ns. strangers_from 0 asks ns ++ all_of owns) same)) all.moved;
      }

  -- and they are as many as the asks
  pub answers_in_all : (schema : DatabaseSchema) (world : FactSet) (asks : List NamedAsk) (olds news : List (DeskSeat D g h)) (answers : List Answer)
      → AreAnswered schema world asks olds news answers → length answers ≡ length asks
  answers_in_all schema world asks olds news answers all =
      let moved = length_permutation (answers_from 0 asks all.replies) answers all.all in
      let each = as_many schema world 0 asks olds news all.replies all.each in
      omega (arith, moved, each)

  -- the desks of posts are of their users
  users_of : (schema : DatabaseSchema) (world : FactSet) (header : List ℕ) (posts : List (DeskPost D g h))
      → AllByRecursion (λ (p : DeskPost D g h). IsSeatServed schema world header p.seat) posts
      → AllByRecursion (λ (p : DeskPost D g h). (seat_kept p.seat).user ≡ profile_of (seat_user p.seat)) posts
  users_of schema world header [] all = tt
  users_of schema world header (post ∷ posts) all = (all.0.user_is, users_of schema world header posts all.1)

  pub posts_of : (schema : DatabaseSchema) (world : FactSet) (header : List ℕ) (posts : List (DeskPost D g h))
      → AllByRecursion (λ (p : DeskPost D g h). IsSeatServed schema world header p.seat) posts
      → All (λ (p : DeskPost D g h). (seat_kept p.seat).user ≡ profile_of (seat_user p.seat)) posts
  posts_of schema world header posts all =
      All-from_recursion (λ (p : DeskPost D g h). (seat_kept p.seat).user ≡ profile_of (seat_user p.seat)) posts (users_of schema world header posts all)

-- ---- the answers of a stretch, in order

-- answers whose numbers are those from the first on lie below their count
below_count : (number : ℕ) (asks : List NamedAsk) (replies : List (Option Reply))
    → AllByRecursion (λ (a : Answer). a.number < number + length asks) (answers_from number asks replies)
below_count number [] replies = tt
below_count number (ask ∷ asks) [] = tt
below_count number (ask ∷ asks) (reply ∷ replies) =
    let same : (number + 1) + length asks ≡ number + length (ask ∷ asks) = omega arith in (
      omega arith,
      subst (λ n. AllByRecursion (λ (a : Answer). a.number < n) (answers_from (number + 1) asks replies)) same (below_count (number + 1) asks replies),
    )

pub numbers_below : (schema : DatabaseSchema) (world : FactSet) {D : Type 0} {g h : _} (asks : List BatchAsk) (old new : List (DeskSeat D g h))
    (answers : List Answer) → AreAnswered schema world (asks_in asks) old new answers → All (λ (a : Answer). a.number < length asks) answers
numbers_below schema world asks old new answers all =
    let count : 0 + length (asks_in asks) ≡ length asks = omega (arith, length-map asks ask_in) in
    let lines = answers_from 0 (asks_in asks) all.replies in
    All-permutation (λ (a : Answer). a.number < length asks) lines answers all.all (All-from_recursion (λ (a : Answer). a.number < length asks) lines
    (subst (λ n. AllByRecursion (λ (a : Answer). a.number < n) lines) count (below_count 0 (asks_in asks) all.replies)))

-- they are numbered with the line of a restart behind them
with_restart : (lines : List Answer) (count : ℕ) → AreNumbered lines → AllByRecursion (λ (a : Answer). a.number < count) lines
    → AreNumbered (lines ++ restarted_at count ∷ [])
with_restart [] count are below = (All-nil (λ (a : Answer). count < a.number), tt)
with_restart (line ∷ lines) count are below = (
  All-push (λ (a : Answer). line.number < a.number) lines (restarted_at count) are.0 below.0,
  with_restart lines count are.1 below.1,
)

-- and its bytes come behind theirs
output_last : (lines : List Answer) (count : ℕ) → output_bytes (lines ++ restarted_at count ∷ []) ≡ output_bytes lines ++ restart_bytes
output_last lines count =
    flat_map-append (λ (a : Answer). a.line) lines (restarted_at count ∷ []) ∙ ap (λ l. output_bytes lines ++ l) (append-nil restart_bytes)

module _ (schema : DatabaseSchema) (world : FactSet) (header : List ℕ) {D : Type 0} {g h : _} (Disk : DiskGhosts D) where
  -- the lines of a stretch whose asks were answered
  pub in_lines : (asks : List BatchAsk) (old new : List (DeskSeat D g h)) (answers : List Answer) (says : Bool) → says ≡ says_broken answers
      → AreAnswered schema world (asks_in asks) old new answers → InOrder schema world header Disk (stretch_in asks) old new answers says
  in_lines asks old new answers says said all = record {
    lines = answers_from 0 (asks_in asks) all.replies;
    numbered = answers_numbered 0 (asks_in asks) all.replies;
    moved = all.all;
    runs = subst (Runs schema world header Disk (stretch_in asks) old (output_bytes (answers_from 0 (asks_in asks) all.replies)) new)
        (list_any-IsPermutation (λ (a : Answer). a.is_broken) (answers_from 0 (asks_in asks) all.replies) answers all.all ∙ sym said)
        (told_runs schema world header Disk 0 (asks_in asks) old new all.replies all.each);
  }

  -- and with that of the restart
  pub in_ended : (items : List BatchItem) (count : ℕ) (old mid new : List (DeskSeat D g h)) (answers all : List Answer) (says : Bool)
      → all ≡ answers ++ restarted_at count ∷ [] → All (λ (a : Answer). a.number < count) answers → AreReopened schema world header Disk mid new
      → InOrder schema world header Disk items old mid answers says → InOrder schema world header Disk (items ++ restarted ∷ []) old new all says
  in_ended items count old mid new answers all says is below again order = record {
    lines = order.lines ++ restarted_at count ∷ [];
    numbered = with_restart order.lines count order.numbered (recursion_from_All (λ (a : Answer). a.number < count) order.lines
        (All-permutation (λ (a : Answer). a.number < count) answers order.lines (IsPermutation-sym order.lines answers order.moved) below));
    moved = subst (IsPermutation (order.lines ++ restarted_at count ∷ [])) (sym is)
        (IsPermutation-append_left (restarted_at count ∷ []) order.lines answers order.moved);
    runs = subst (λ bytes. Runs schema world header Disk (items ++ restarted ∷ []) old bytes new says) (sym (output_last order.lines count))
        (restarted_more schema world header Disk items old mid new (output_bytes order.lines) says order.runs again);
  }

-- ---- the seats of the users of a registry

-- have their names
pub named_so : (directory : Text) (schema : DatabaseSchema) (world : FactSet) (header : List ℕ) {D : Type 0} {g h : _} (told : Type 0)
    (Disk : DiskGhosts D) (disk : Text → Option D) (count : Text → ℕ) (users : List User) (seats : List (DeskSeat D g h))
    → AreSeatsOf told Disk schema world header directory disk count users seats → map seat_name seats ≡ registered_names users
named_so directory schema world header told Disk disk count [] [] are = refl
named_so directory schema world header told Disk disk count [] (seat ∷ seats) are = absurd are
named_so directory schema world header told Disk disk count (user ∷ users) [] are = absurd are
named_so directory schema world header told Disk disk count (user ∷ users) (seat ∷ seats) are =
    ap (λ (u : User). string_bytes u.name ∷ map seat_name seats) are.0.user_is
    ∙ ap (λ ns. string_bytes user.name ∷ ns) (named_so directory schema world header told Disk disk count users seats are.1)
