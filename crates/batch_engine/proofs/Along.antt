-- What a crash could leave of a user's journal at each moment of a call.
use Rattle.std.proofs.Common.{◌≡◌, ◌⊎◌, inl, inr, ⊎_elim, ℕ, ◌+◌, ◌≤◌, Bool, true, false, List, [], ◌∷◌, ◌++◌, length, take, refl, sym, ap, subst, ◌∙◌, arith}
use Rattle.std.proofs.Common.{append_assoc, append-nil, length-append}
use Rattle.std.specs.Prelude.{Option, Some, None, is_some, option_to_list, ◌||◌, ◌&&◌}
use Rattle.std.specs.List.{list_any}
use Rattle.std.proofs.lemmas.Bool.{or_left}
use Rattle.std.proofs.lemmas.List.{take-append-le, take_all, take_at}
use Rattle.outside.specs.Disk.{Elapses}
use Rattle.outside.specs.declared.disk.Disk.{Ghosts as DiskGhosts}
use Rattle.cqe_base.specs.Schema.{Text, DatabaseSchema}
use Rattle.cqe_base.specs.Facts.{FactSet}
use Rattle.cqe_base.specs.History.{UserProfile, AnsweredQuery, History}
use Rattle.cqe_base.specs.Run
use Rattle.cqe_base.specs.Run.{want, kept, failed, Event, call, stop, restart, UserState, opening, entry_at, after_event, after_events}
use Rattle.user_desk.specs.Causes.{Opens, OpensWithin}
use Rattle.user_desk.specs.Lives.{Holds, HoldsFrom, HoldsAmid, IsState}
use Rattle.user_desk.specs.Standings.{is_sealed}
use Rattle.user_desk.specs.declared.standing.Standing.{Standing}
use Rattle.user_desk.specs.declared.standing.Standing.TheVariants.{Open, Closed, Sealed}
use Rattle.std.proofs.lemmas.List.Folds.{list_any-append}
use Rattle.batch_engine.specs.Lives.{is_call, is_opened, is_opening, IsStretchEnd}
use Rattle.batch_engine.proofs.Events.{any-push}

-- The clock of the disks: since its own moment a disk has no image but those it has now; and the moment at which the call began, of the journal of each name.
pub record Clock {D : Type 0} (Disk : DiskGhosts D) : Type 0 where
  pub only_now : (disk : D) (c : List ℕ) → Disk.image_since disk (Disk.moment disk) c → Disk.image disk c
  pub begins : Text → Option ℕ

-- the state of a desk that isn't sealed is the one that it shows
pub shown_at : (standing : Standing) (desk_state state : UserState) → is_sealed standing ≡ false → IsState standing desk_state state → state ≡ desk_state
shown_at Open desk_state state served is = is
shown_at (Closed admission) desk_state state served is = is
shown_at (Sealed why) desk_state state served is = absurd cc

-- ---- where a list is cut that got one more

-- it was cut before, and what was behind got one more
pub record CutBefore {X : Type 0} (xs : List X) (x : X) (front rest : List X) : Type 0 where
  pub less : List X
  pub rest_is : rest ≡ less ++ x ∷ []
  pub split : xs ≡ front ++ less

cut_on : {X : Type 0} (y : X) (xs : List X) (x : X) (front rest : List X) → ((front ≡ xs ++ x ∷ []) × (rest ≡ [])) ⊎ CutBefore xs x front rest
    → ((y ∷ front ≡ (y ∷ xs) ++ x ∷ []) × (rest ≡ [])) ⊎ CutBefore (y ∷ xs) x (y ∷ front) rest
cut_on y xs x front rest (inl whole) = inl (ap (λ l. y ∷ l) whole.0, whole.1)
cut_on y xs x front rest (inr part) = inr (record { less = part.less; rest_is = part.rest_is; split = ap (λ l. y ∷ l) part.split })

cut_none : {X : Type 0} (x : X) (front rest : List X) → [] ≡ front ++ rest → ((x ∷ front ≡ x ∷ []) × (rest ≡ [])) ⊎ CutBefore [] x (x ∷ front) rest
cut_none x [] rest is = inl (refl, sym is)
cut_none x (f ∷ front) rest is = absurd cc

-- it is cut at its end, or was cut before
pub cut_push : {X : Type 0} (xs : List X) (x : X) (front rest : List X) → xs ++ x ∷ [] ≡ front ++ rest
    → ((front ≡ xs ++ x ∷ []) × (rest ≡ [])) ⊎ CutBefore xs x front rest
cut_push xs x [] rest is = inr (record { less = xs; rest_is = sym is; split = refl })
cut_push [] x (f ∷ front) rest is =
    let head : x ≡ f = cc in
    let tail : [] ≡ front ++ rest = cc in
    subst (λ y. ((y ∷ front ≡ x ∷ []) × (rest ≡ [])) ⊎ CutBefore [] x (y ∷ front) rest) head (cut_none x front rest tail)
cut_push (y ∷ xs) x (f ∷ front) rest is =
    let head : y ≡ f = cc in
    let tail : xs ++ x ∷ [] ≡ front ++ rest = cc in
    subst (λ z. ((z ∷ front ≡ (y ∷ xs) ++ x ∷ []) × (rest ≡ [])) ⊎ CutBefore (y ∷ xs) x (z ∷ front) rest) head
    (cut_on y xs x front rest (cut_push xs x front rest tail))

-- of two counts one above the other, they are the same or one more is within
same_or_more : (few many : ℕ) → few ≤ many → (many ≡ few) ⊎ (few + 1 ≤ many)
same_or_more few many le = grind arith

-- what comes next opens the journal again
abbrev pub BeginsLife : List Event → Type 0
BeginsLife [] = ⊥
BeginsLife (event ∷ events) = is_opening event ≡ true

-- a stretch ends with the events, or before an opening
pub at_end : (rest : List Event) → IsStretchEnd rest → (rest ≡ []) ⊎ BeginsLife rest
at_end [] ends = inl refl
at_end (event ∷ rest) ends = inr ends

module _ (schema : DatabaseSchema) (world : FactSet) (user : UserProfile) where
  -- events behind others
  pub run_on : (state : UserState) (front rest : List Event)
      → after_events schema world user state (front ++ rest) ≡ after_events schema world user (after_events schema world user state front) rest
  run_on state [] rest = refl
  run_on state (event ∷ front) rest = run_on (after_event schema world user state event) front rest

  -- ---- the entries of a run

  -- an event adds an entry at most
  record AddsOne (state : UserState) (event : Event) : Type 0 where
    added : Option AnsweredQuery
    are : (after_event schema world user state event).entries ≡ state.entries ++ option_to_list added

  nothing_flown : (state : UserState) (entry : Option AnsweredQuery)
      → (Run.after_failure schema world user state entry).entries ≡ state.entries ++ option_to_list None
  nothing_flown state None = sym (append-nil state.entries)
  nothing_flown state (Some entry) = sym (append-nil state.entries)

  adds_one : (state : UserState) (event : Event) → AddsOne state event
  adds_one state (call purpose text want) = record { added = None; are = sym (append-nil state.entries) }
  adds_one state (call purpose text kept) = record { added = entry_at schema world user state purpose text; are = refl }
  adds_one state (call purpose text failed) = record { added = None; are = nothing_flown state (entry_at schema world user state purpose text) }
  adds_one state (stop purpose text) = record { added = None; are = nothing_flown state (entry_at schema world user state purpose text) }
  adds_one state (restart true true) = record { added = state.pending; are = refl }
  adds_one state (restart false true) = record { added = None; are = sym (append-nil state.entries) }
  adds_one state (restart found false) = record { added = None; are = sym (append-nil state.entries) }

  one_or_none : (added : Option AnsweredQuery) → length (option_to_list added) ≤ 1
  one_or_none None = omega arith
  one_or_none (Some entry) = omega arith

  grows : (state : UserState) (event : Event) → length (after_event schema world user state event).entries ≤ length state.entries + 1
  grows state event =
      let one = adds_one state event in
      let few = one_or_none one.added in
      let many = ap length one.are ∙ length-append state.entries (option_to_list one.added) in
      omega (arith, few, many)

  -- a run ends with the entries with which it began, and more
  record Extends (state : UserState) (events : List Event) : Type 0 where
    rest : History
    are : (after_events schema world user state events).entries ≡ state.entries ++ rest

  extends : (state : UserState) (events : List Event) → Extends state events
  extends state [] = record { rest = []; are = sym (append-nil state.entries) }
  extends state (event ∷ events) =
      let one = adds_one state event in
      let behind : Extends (after_event schema world user state event) events = extends (after_event schema world user state event) events in
      record {
        rest = option_to_list one.added ++ behind.rest;
        are = behind.are ∙ ap (λ es. es ++ behind.rest) one.are ∙ append_assoc state.entries (option_to_list one.added) behind.rest;
      }

  -- the same as a pair
  pub goes_on : (state : UserState) (events : List Event) → (more : History) × ((after_events schema world user state events).entries ≡ state.entries ++ more)
  goes_on state events = let end : Extends state events = extends state events in (end.rest, end.are)

  -- it doesn't get shorter
  pub no_fewer : (state : UserState) (events : List Event) → length state.entries ≤ length (after_events schema world user state events).entries
  no_fewer state events =
      let end : Extends state events = extends state events in
      let many = ap length end.are ∙ length-append state.entries end.rest in
      omega (arith, many)

  -- behind some first events of a run it has just so many entries
  record Reaches (state : UserState) (events : List Event) (count : ℕ) : Type 0 where
    front : List Event
    back : List Event
    split : events ≡ front ++ back
    are : (after_events schema world user state front).entries ≡ take count (after_events schema world user state events).entries

  reach_here : (state : UserState) (events : List Event) (count : ℕ) → count ≡ length state.entries → Reaches state events count
  reach_here state events count same =
      let end : Extends state events = extends state events in
      record {
        front = [];
        back = events;
        split = refl;
        are = sym (ap (take count) end.are ∙ take_at state.entries end.rest count (sym same));
      }

  reach_behind : (state : UserState) (event : Event) (events : List Event) (count : ℕ)
      → ((few : length (after_event schema world user state event).entries ≤ count) → Reaches (after_event schema world user state event) events count)
      → (count ≡ length state.entries) ⊎ (length state.entries + 1 ≤ count) → Reaches state (event ∷ events) count
  reach_behind state event events count rest (inl same) = reach_here state (event ∷ events) count same
  reach_behind state event events count rest (inr more) =
      let small = grows state event in
      let at : Reaches (after_event schema world user state event) events count = rest (omega (arith, small, more)) in
      record { front = event ∷ at.front; back = at.back; split = ap (λ l. event ∷ l) at.split; are = at.are }

  reaches : (state : UserState) (events : List Event) (count : ℕ) → length state.entries ≤ count
      → count ≤ length (after_events schema world user state events).entries → Reaches state events count
  reaches state [] count few many = reach_here state [] count (omega (arith, few, many))
  reaches state (event ∷ events) count few many =
      reach_behind state event events count (λ le. reaches (after_event schema world user state event) events count le many)
      (same_or_more (length state.entries) count few)

  module _ (header : List ℕ) where
    -- ---- bytes amid events

    pub amid_more : (state : UserState) (events behind : List Event) (c : List ℕ) → HoldsAmid schema world user header state events c
        → HoldsAmid schema world user header state (events ++ behind) c
    amid_more state events behind c amid = record {
      more = amid.more;
      further = amid.further ++ behind;
      split = ap (λ es. es ++ behind) amid.split ∙ append_assoc amid.more amid.further behind;
      holds = amid.holds;
    }

    pub amid_all : (state : UserState) (events : List Event) (c : List ℕ) → Holds schema world user header (after_events schema world user state events) c
        → HoldsAmid schema world user header state events c
    amid_all state events c holds = record { more = events; further = []; split = sym (append-nil events); holds = holds }

    -- bytes that open a desk with a beginning of the entries, with the one in flight, are amid the events
    pub amid_within : (state : UserState) (events : List Event) (least : ℕ) (c : List ℕ) → length state.entries ≤ least
        → OpensWithin schema world user header least
        ((after_events schema world user state events).entries ++ option_to_list (after_events schema world user state events).pending) c
        → HoldsAmid schema world user header state events c
    amid_within state events least c few within = by (leq_or_more within.count (length end.entries))
      where
        end : UserState
        end = after_events schema world user state events

        leq_or_more : (m n : ℕ) → (m ≤ n) ⊎ (n + 1 ≤ m)
        leq_or_more m n = grind arith

        inside : within.count ≤ length end.entries → HoldsAmid schema world user header state events c
        inside le =
            let at : Reaches state events within.count = reaches state events within.count (omega (arith, few, within.enough)) le in
            record {
              more = at.front;
              further = at.back;
              split = at.split;
              holds = record {
                found = false;
                sought = λ e. absurd cc;
                opens = subst (λ (es : History). Opens schema world user header es c)
                    (take-append-le within.count end.entries (option_to_list end.pending) le ∙ sym at.are) within.opens;
              };
            }

        all_of : (pending : Option AnsweredQuery) → end.pending ≡ pending → length end.entries + 1 ≤ within.count
            → Holds schema world user header end c
        all_of None none le = record {
          found = false;
          sought = λ e. absurd cc;
          opens = subst (λ (es : History). Opens schema world user header es c)
              (ap (λ o. take within.count (end.entries ++ option_to_list o)) none ∙ ap (take within.count) (append-nil end.entries)
              ∙ take_all within.count end.entries (omega (arith, le))) within.opens;
        }
        all_of (Some entry) flies le =
            let many = length-append end.entries (entry ∷ []) in
            record {
              found = true;
              sought = λ e. ap (λ (o : Option AnsweredQuery). is_some o) flies;
              opens = subst (λ (es : History). Opens schema world user header es c)
                  (ap (λ o. take within.count (end.entries ++ option_to_list o)) flies
                  ∙ take_all within.count (end.entries ++ entry ∷ []) (omega (arith, le, many))
                  ∙ ap (λ o. end.entries ++ option_to_list o) (sym flies)) within.opens;
            }

        by : (within.count ≤ length end.entries) ⊎ (length end.entries + 1 ≤ within.count) → HoldsAmid schema world user header state events c
        by (inl le) = inside le
        by (inr le) = amid_all state events c (all_of end.pending refl le)

    -- ---- bytes behind the events in front, and some of the others

    -- those that hold the state behind all
    pub behind_all : (state : UserState) (events front rest : List Event) (c : List ℕ) → events ≡ front ++ rest
        → Holds schema world user header (after_events schema world user state events) c → HoldsFrom schema world user header state front rest c
    behind_all state events front rest c split holds = record {
      more = rest;
      further = [];
      split = sym (append-nil rest);
      holds = subst (λ es. Holds schema world user header (after_events schema world user state es) c) split holds;
    }

    -- those amid the others, from the state behind the events in front
    pub behind_front : (state : UserState) (front rest : List Event) (c : List ℕ)
        → HoldsAmid schema world user header (after_events schema world user state front) rest c → HoldsFrom schema world user header state front rest c
    behind_front state front rest c amid = record {
      more = amid.more;
      further = amid.further;
      split = amid.split;
      holds = subst (λ s. Holds schema world user header s c) (sym (run_on state front amid.more)) amid.holds;
    }

    -- with more events behind
    behind_more : (state : UserState) (front rest more : List Event) (c : List ℕ) → HoldsFrom schema world user header state front rest c
        → HoldsFrom schema world user header state front (rest ++ more) c
    behind_more state front rest more c behind = record {
      more = behind.more;
      further = behind.further ++ more;
      split = ap (λ es. es ++ more) behind.split ∙ append_assoc behind.more behind.further more;
      holds = behind.holds;
    }

    -- ---- the moments of a call

    module _ (first_image : List ℕ → Type 0) (opened : History) (first : ℕ) where
      abbrev Amid : List Event → List ℕ → Type 0
      Amid events c = HoldsAmid schema world user header (opening schema world user opened) events c

      abbrev Behind : List Event → List Event → List ℕ → Type 0
      Behind front rest c = HoldsFrom schema world user header (opening schema world user opened) front rest c

      abbrev AllHeld : List Event → List ℕ → Type 0
      AllHeld events c = Holds schema world user header (after_events schema world user (opening schema world user opened) events) c

      -- ---- a stretch that ended

      -- It ended behind the events in front, and the journal was closed at a moment since it was first opened. Up to that no crash could leave more than those
      -- events make; since then none leaves less.
      pub record IsClosedBehind (opens_at : ℕ) (front rest : List Event) (now : ℕ) (since : ℕ → List ℕ → Type 0) : Type 0 where
        pub closed_at : ℕ
        pub opened_first : opens_at ≤ closed_at
        pub passed : closed_at ≤ now
        pub up_to : (c : List ℕ) → since opens_at c → Amid front c ⊎ since closed_at c
        pub behind : (c : List ℕ) → since closed_at c → Behind front rest c

      -- with more events behind it
      closed_more : (opens_at : ℕ) (front rest more : List Event) (now : ℕ) (since : ℕ → List ℕ → Type 0) → IsClosedBehind opens_at front rest now since
          → IsClosedBehind opens_at front (rest ++ more) now since
      closed_more opens_at front rest more now since at = record {
        closed_at = at.closed_at;
        opened_first = at.opened_first;
        passed = at.passed;
        up_to = at.up_to;
        behind = λ c here. behind_more (opening schema world user opened) front rest more c (at.behind c here);
      }

      -- time goes on, and at its moments a crash leaves bytes behind the events in front
      closed_on : (opens_at : ℕ) (front rest : List Event) (now later : ℕ) (since since' : ℕ → List ℕ → Type 0) → Elapses now later since since'
          → ((c : List ℕ) → since' now c → Behind front rest c) → IsClosedBehind opens_at front rest now since
          → IsClosedBehind opens_at front rest later since'
      closed_on opens_at front rest now later since since' time behind at =
          let opened_first = at.opened_first in
          let passed = at.passed in
          let on = time.later in
          record {
            closed_at = at.closed_at;
            opened_first = opened_first;
            passed = omega (arith, passed, on);
            up_to = λ c here. ⊎_elim
                (λ was. ⊎_elim (λ early. inl early) (λ late. inr (time.keeps at.closed_at c passed late)) (at.up_to c was))
                (λ now_is. inr (time.adds at.closed_at c passed now_is))
                (time.nothing_else opens_at c (before_now opened_first passed) here);
            behind = λ c here. ⊎_elim (at.behind c) (behind c) (time.nothing_else at.closed_at c passed here);
          }
        where
          before_now : opens_at ≤ at.closed_at → at.closed_at ≤ now → opens_at ≤ now
          before_now a b = omega (arith, a, b)

      -- so it is at each opening among the events, but for the first that held
      abbrev pub AreClosed : ℕ → List Event → ℕ → (ℕ → List ℕ → Type 0) → Type 0
      AreClosed opens_at events now since =
          (front rest : List Event) → events ≡ front ++ rest → BeginsLife rest → list_any is_opened front ≡ true
          → IsClosedBehind opens_at front rest now since

      -- with one more event; where that opens the journal again, a stretch ended before it
      closed_push : (opens_at : ℕ) (events : List Event) (event : Event) (now : ℕ) (since : ℕ → List ℕ → Type 0) → AreClosed opens_at events now since
          → (is_opening event ≡ true → list_any is_opened events ≡ true → IsClosedBehind opens_at events [] now since)
          → AreClosed opens_at (events ++ event ∷ []) now since
      closed_push opens_at events event now since closed last front rest split begins some = by (cut_push events event front rest split)
        where
          before : (less : List Event) → rest ≡ less ++ event ∷ [] → events ≡ front ++ less → IsClosedBehind opens_at front rest now since
          before [] is whole =
              let same : front ≡ events = sym (append-nil front) ∙ sym whole in
              let opens : is_opening event ≡ true = subst BeginsLife is begins in
              let held : list_any is_opened events ≡ true = ap (list_any is_opened) (sym same) ∙ some in
              subst (λ r. IsClosedBehind opens_at front r now since) (sym is)
              (subst (λ f. IsClosedBehind opens_at f (event ∷ []) now since) (sym same)
              (closed_more opens_at events [] (event ∷ []) now since (last opens held)))
          before (next ∷ less) is whole =
              let opens : is_opening next ≡ true = subst BeginsLife is begins in
              subst (λ r. IsClosedBehind opens_at front r now since) (sym is)
              (closed_more opens_at front (next ∷ less) (event ∷ []) now since (closed front (next ∷ less) whole opens some))

          by : ((front ≡ events ++ event ∷ []) × (rest ≡ [])) ⊎ CutBefore events event front rest → IsClosedBehind opens_at front rest now since
          by (inl whole) = absurd (subst BeginsLife whole.1 begins)
          by (inr part) = before part.less part.rest_is part.split

      -- no stretch ended yet
      none_closed : (opens_at now : ℕ) (since : ℕ → List ℕ → Type 0) → AreClosed opens_at [] now since
      none_closed opens_at now since [] rest split begins some = absurd cc
      none_closed opens_at now since (event ∷ front) rest split begins some = absurd cc

      -- ---- a call

      -- By the clock of his disk the call began at the first moment, and an opening held first at another one. Up to that no crash could leave anything new;
      -- since then each leaves bytes amid his events; and unless one held and he asked, nothing new. At each further opening a stretch had ended.
      pub record IsAlong (opens_at : ℕ) (events : List Event) (now : ℕ) (since : ℕ → List ℕ → Type 0) : Type 0 where
        pub begun : first ≤ opens_at
        pub passed : opens_at ≤ now
        pub before : (c : List ℕ) → since first c → first_image c ⊎ since opens_at c
        pub behind : list_any is_opened events ≡ true → (c : List ℕ) → since opens_at c → Amid events c
        pub kept : (list_any is_opened events && list_any is_call events) ≡ false → (c : List ℕ) → since opens_at c → first_image c
        pub closed : AreClosed opens_at events now since

      -- the same where a stretch ends now
      pub record IsAlongClosed (opens_at : ℕ) (events : List Event) (now : ℕ) (since : ℕ → List ℕ → Type 0) : Type 0 where
        pub along : IsAlong opens_at events now since
        pub last : list_any is_opened events ≡ true → IsClosedBehind opens_at events [] now since

      -- where no opening held or he didn't ask behind an event, it was so before it
      idle_before : (events : List Event) (event : Event)
          → (list_any is_opened (events ++ event ∷ []) && list_any is_call (events ++ event ∷ [])) ≡ false
          → (list_any is_opened events && list_any is_call events) ≡ false
      idle_before events event idle = by (list_any is_opened events) (is_opened event) (list_any is_call events) (is_call event)
          ((λ i. sym (any-push is_opened events event) i && sym (any-push is_call events event) i) ∙ idle)
        where
          by : (o p a x : Bool) → ((o || p) && (a || x)) ≡ false → (o && a) ≡ false
          by false p a x is = refl
          by true p false x is = refl
          by true p true x is = is

      -- as the call begins
      pub along_first : (since : ℕ → List ℕ → Type 0) → ((c : List ℕ) → since first c → first_image c) → IsAlongClosed first [] first since
      along_first since only = record {
        along = record {
          begun = omega arith;
          passed = omega arith;
          before = λ c here. inr here;
          behind = λ some. absurd cc;
          kept = λ idle. only;
          closed = none_closed first first since;
        };
        last = λ some. absurd cc;
      }

      -- a stretch ends where each crash leaves all events
      pub along_closed : (opens_at : ℕ) (events : List Event) (now : ℕ) (since : ℕ → List ℕ → Type 0) → IsAlong opens_at events now since
          → (list_any is_opened events ≡ true → (c : List ℕ) → since now c → AllHeld events c) → IsAlongClosed opens_at events now since
      along_closed opens_at events now since along held = record {
        along = along;
        last = λ some. record {
          closed_at = now;
          opened_first = along.passed;
          passed = omega arith;
          up_to = λ c here. inl (along.behind some c here);
          behind = λ c here. behind_all (opening schema world user opened) events events [] c (sym (append-nil events)) (held some c here);
        };
      }

      -- behind an event that isn't an opening that held; where it is one that was refused, a stretch had ended
      pub along_event : (opens_at : ℕ) (events : List Event) (event : Event) (now : ℕ) (since : ℕ → List ℕ → Type 0) → is_opened event ≡ false
          → (is_opening event ≡ true → list_any is_opened events ≡ true → IsClosedBehind opens_at events [] now since)
          → IsAlong opens_at events now since → IsAlong opens_at (events ++ event ∷ []) now since
      along_event opens_at events event now since isnt last along = record {
        begun = along.begun;
        passed = along.passed;
        before = along.before;
        behind = λ some c here.
            amid_more (opening schema world user opened) events (event ∷ []) c (along.behind (sym same ∙ some) c here);
        kept = λ idle. along.kept (idle_before events event idle);
        closed = closed_push opens_at events event now since along.closed last;
      }
        where
          same : list_any is_opened (events ++ event ∷ []) ≡ list_any is_opened events
          same = any-push is_opened events event ∙ ap (λ b. list_any is_opened events || b) isnt ∙ or_none (list_any is_opened events)
            where
              or_none : (b : Bool) → (b || false) ≡ b
              or_none true = refl
              or_none false = refl

      -- time goes on, and at its moments a crash leaves bytes amid the events and behind each stretch that ended; unless an opening held and he asked,
      -- nothing new
      pub along_on : (opens_at : ℕ) (events : List Event) (now later : ℕ) (since since' : ℕ → List ℕ → Type 0) → Elapses now later since since'
          → (list_any is_opened events ≡ true → (c : List ℕ) → since' now c → Amid events c)
          → ((front rest : List Event) → events ≡ front ++ rest → BeginsLife rest → list_any is_opened front ≡ true → (c : List ℕ) → since' now c
          → Behind front rest c)
          → ((list_any is_opened events && list_any is_call events) ≡ false → (c : List ℕ) → since' now c → first_image c)
          → IsAlong opens_at events now since → IsAlong opens_at events later since'
      along_on opens_at events now later since since' time amid behind new along =
          let passed = along.passed in
          let on = time.later in
          record {
            begun = along.begun;
            passed = omega (arith, passed, on);
            before = λ c here. ⊎_elim
                (λ was. ⊎_elim (λ early. inl early) (λ late. inr (time.keeps opens_at c passed late)) (along.before c was))
                (λ now_is. inr (time.adds opens_at c passed now_is))
                (time.nothing_else first c (before_now along.begun passed) here);
            behind = λ some c here. ⊎_elim (along.behind some c) (amid some c) (time.nothing_else opens_at c passed here);
            kept = λ idle c here. ⊎_elim (along.kept idle c) (new idle c) (time.nothing_else opens_at c passed here);
            closed = λ front rest split begins some.
                closed_on opens_at front rest now later since since' time (behind front rest split begins some) (along.closed front rest split begins some);
          }
        where
          before_now : first ≤ opens_at → opens_at ≤ now → first ≤ now
          before_now a b = omega (arith, a, b)

      -- what a crash leaves that leaves all events
      from_all : (events front rest : List Event) → events ≡ front ++ rest → list_any is_opened front ≡ true
          → (image : List ℕ → Type 0) → (list_any is_opened events ≡ true → (c : List ℕ) → image c → AllHeld events c)
          → (c : List ℕ) → image c → Behind front rest c
      from_all events front rest split some image held c here =
          let all : list_any is_opened events ≡ true =
          ap (list_any is_opened) split ∙ list_any-append is_opened front rest ∙ or_left (list_any is_opened front) (list_any is_opened rest) some in
          behind_all (opening schema world user opened) events front rest c split (held all c here)

      -- time goes on behind a stretch that ended, and at its moments a crash leaves all events; unless an opening held and he asked, nothing new
      pub along_still : (opens_at : ℕ) (events : List Event) (now later : ℕ) (since since' : ℕ → List ℕ → Type 0) → Elapses now later since since'
          → (list_any is_opened events ≡ true → (c : List ℕ) → since' now c → AllHeld events c)
          → ((list_any is_opened events && list_any is_call events) ≡ false → (c : List ℕ) → since' now c → first_image c)
          → IsAlongClosed opens_at events now since → IsAlongClosed opens_at events later since'
      along_still opens_at events now later since since' time held new at = record {
        along = along_on opens_at events now later since since' time
            (λ some c here. amid_all (opening schema world user opened) events c (held some c here))
            (λ front rest split begins some. from_all events front rest split some (since' now) held)
            new at.along;
        last = λ some. closed_on opens_at events [] now later since since' time
            (λ c here. behind_all (opening schema world user opened) events events [] c (sym (append-nil events)) (held some c here)) (at.last some);
      }

      -- an opening, whose moments leave nothing new: the call goes on, since the same first opening or since this one
      pub along_open : (opens_at : ℕ) (events : List Event) (found opens : Bool) (now later : ℕ) (since since' : ℕ → List ℕ → Type 0)
          (image : List ℕ → Type 0)
          → Elapses now later since since' → ((c : List ℕ) → since' now c → image c)
          → (list_any is_opened events ≡ true → (c : List ℕ) → image c → AllHeld events c)
          → ((list_any is_opened events && list_any is_call events) ≡ false → (c : List ℕ) → image c → first_image c)
          → (opens ≡ true → (c : List ℕ) → since' later c → Amid (events ++ restart found opens ∷ []) c)
          → ((list_any is_opened (events ++ restart found opens ∷ []) && list_any is_call (events ++ restart found opens ∷ [])) ≡ false → (c : List ℕ)
          → since' later c → first_image c)
          → IsAlongClosed opens_at events now since
          → (opens_at' : ℕ) × IsAlong opens_at' (events ++ restart found opens ∷ []) later since'
      along_open opens_at events found opens now later since since' image time rests held new here still at = by (list_any is_opened events) opens refl refl
        where
          on : IsAlongClosed opens_at events later since'
          on = along_still opens_at events now later since since' time (λ some c since_now. held some c (rests c since_now))
              (λ idle c since_now. new idle c (rests c since_now)) at

          pushed : (a b : Bool) → list_any is_opened events ≡ a → opens ≡ b → list_any is_opened (events ++ restart found opens ∷ []) ≡ (a || b)
          pushed a b some held = any-push is_opened events (restart found opens) ∙ (λ i. some i || held i)

          by : (a b : Bool) → list_any is_opened events ≡ a → opens ≡ b
              → (opens_at' : ℕ) × IsAlong opens_at' (events ++ restart found opens ∷ []) later since'
          by a false some refused =
              (opens_at, along_event opens_at events (restart found opens) later since' refused (λ begins. on.last) on.along)
          by true true some held = (
            opens_at,
            record {
              begun = on.along.begun;
              passed = on.along.passed;
              before = on.along.before;
              behind = λ is c there. amid_more (opening schema world user opened) events (restart found opens ∷ []) c (on.along.behind some c there);
              kept = λ idle. on.along.kept (idle_before events (restart found opens) idle);
              closed = closed_push opens_at events (restart found opens) later since' on.along.closed (λ begins. on.last);
            },
          )
          by false true none_yet held =
              let begun = on.along.begun in
              let passed = on.along.passed in (
                later,
                record {
                  begun = omega (arith, begun, passed);
                  passed = omega arith;
                  before = λ c there. ⊎_elim (λ early. inl early) (λ late. inl (on.along.kept (ap (λ b. b && list_any is_call events) none_yet) c late))
                      (on.along.before c there);
                  behind = λ is. here held;
                  kept = still;
                  closed = closed_push later events (restart found opens) later since' (no_opening none_yet)
                      (λ begins some. let e : true ≡ false = sym some ∙ none_yet in absurd cc);
                },
              )
            where
              -- no stretch before it was one in which the journal stood open
              no_opening : list_any is_opened events ≡ false → AreClosed later events later since'
              no_opening none front rest split begins some =
                  let e : true ≡ false =
                  sym (ap (list_any is_opened) split ∙ list_any-append is_opened front rest
                  ∙ or_left (list_any is_opened front) (list_any is_opened rest) some) ∙ none in absurd cc
