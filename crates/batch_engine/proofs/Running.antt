-- The items of a batch, carried out one after the other: what stays of the seats.
use Rattle.std.proofs.Common.{◌≡◌, ℕ, zero, suc, ◌≤◌, ◌<◌, ◌+◌, Bool, false, List, [], ◌∷◌, ◌++◌, length, take, drop, get_or, map, refl, sym, ap}
use Rattle.std.proofs.Common.{subst, ◌∙◌, ◌⊎◌, inl, inr, append-nil, append_assoc, arith}
use Rattle.std.specs.Prelude.{Option, ◌||◌, Result, Ok, Err, IfOk, IfErr, IsErrOf}
use Rattle.std.specs.List.{AllByRecursion}
use Rattle.outside.specs.declared.disk.Disk.{Ghosts as DiskGhosts}
use Rattle.outside.specs.Shelf.{AllOut}
use Rattle.cqe_base.specs.Schema.{Text, DatabaseSchema, has_duplicate}
use Rattle.cqe_base.specs.Facts.{FactSet}
use Rattle.cqe_base.specs.History.{profile_of}
use Rattle.cqe_base.specs.Limits.{KeepsLimits}
use Rattle.cqe_base.specs.Run.{Reply}
use Rattle.cqe_base.specs.Transcript.{purpose_of}
use Rattle.cqe_base.specs.declared.user.Purpose.{Purpose}
use Rattle.std.specs.Prelude.{Vec}
use Rattle.std.specs.declared.alloc.Global.{Global}
use Rattle.std.proofs.Math.Bool.{or-false}
use Rattle.std.proofs.lemmas.List.{take_more, take_all}
use Rattle.cqe_base.proofs.Lists.{or_assoc, all_at}
use Rattle.std.proofs.Common.{All}
use Rattle.std.proofs.lemmas.List.Elements.{recursion_from_All}
use Rattle.batch_engine.specs.BatchLines.{BatchItem, asked, restarted}
use Rattle.batch_engine.specs.Batch.{IsStretch, EndsStretch, IsBehindStretch, StandsBetween}
use Rattle.batch_engine.specs.Batches.{stretch_in, ended_in, stretches_in, items_in}
use Rattle.batch_engine.specs.declared.batch.BatchAsk.{BatchAsk}
use Rattle.batch_engine.proofs.Batches.{stretches-append}
use Rattle.desk_counter.specs.declared.item.Fixed.{Fixed}
use Rattle.std.specs.Prelude.{string_bytes}
use Rattle.cqe_base.specs.declared.user.User.{User}
use Rattle.desk_crew.specs.Crew.{seat_user, seat_name, seat_journal, seat_disk, IsSeatAsOpened, IsSeatServed, AreReopened, Tells, nobody, here, further}
use Rattle.log_journal.specs.Walk.{AreThere}
use Rattle.desk_crew.specs.Shelved.{journals, AreLater, AreOwn, SeatsThere}
use Rattle.batch_engine.specs.Steps.{restart_bytes, Carries, Runs, nothing, more, RunsAll, RunsSome, RunsTo, RunsUntil, IsStopped, IsAnswered}
use Rattle.batch_engine.specs.Stretches.{CanServe}
use Rattle.batch_engine.specs.Written.{IsCutAt}
use Rattle.user_desk.specs.declared.standing.DeskError.{DeskError}
use Rattle.batch_engine.specs.declared.closed.Stopped.{Stopped}
use Rattle.batch_engine.specs.declared.closed.Stopped.TheVariants.{Write, Memory}
use Rattle.desk_crew.proofs.Asking.{still_served}
use Rattle.desk_crew.specs.Seats.{DeskSeat}

-- an error of one call is that of another
as_err : {T U E : Type 0} → E → Result T E → Result U E
as_err why (Ok x) = Err why
as_err why (Err other) = Err other

pub same_error : {T U E : Type 0} (result : Result T E) (why other : E) → result ≡ Err why → IsErrOf result other → IsErrOf {T = U} (Err why) other
unfolding as_err
same_error {T} {U} {E} result why other is said = ap (as_err {T = T} {U = U} {E = E} other) (sym is ∙ said)

-- stretches that a restart ended each end so
pub stretches_end : (ended : List (Vec BatchAsk Global)) → EndsStretch (stretches_in ended)
stretches_end [] = inl refl
stretches_end (asks ∷ ended) = by (stretches_end ended)
  where
    by : EndsStretch (stretches_in ended) → EndsStretch (stretch_in asks.items ++ restarted ∷ stretches_in ended)
    by (inl none) = inr (stretch_in asks.items, ap (λ l. stretch_in asks.items ++ restarted ∷ l) none)
    by (inr (before, is)) = inr (
      stretch_in asks.items ++ restarted ∷ before,
      ap (λ l. stretch_in asks.items ++ restarted ∷ l) is ∙ sym (append_assoc (stretch_in asks.items) (restarted ∷ before) (restarted ∷ [])),
    )

-- so do others behind them
ends_on : (front items : List BatchItem) → EndsStretch front → EndsStretch items → EndsStretch (front ++ items)
ends_on front items first (inl none) = subst EndsStretch (sym (append-nil front) ∙ ap (λ l. front ++ l) (sym none)) first
ends_on front items first (inr (before, is)) = inr (front ++ before, ap (λ l. front ++ l) is ∙ sym (append_assoc front before (restarted ∷ [])))

-- a stretch stands where it stood, with more in front of it that ends a stretch
between_behind : (front earlier stretch back : List BatchItem) → EndsStretch front → StandsBetween earlier stretch back
    → StandsBetween (front ++ earlier) stretch back
between_behind front earlier stretch back first between = record { begins = begins between.begins; ends = ends between.ends }
  where
    begins : (stretch ≡ []) ⊎ EndsStretch earlier → (stretch ≡ []) ⊎ EndsStretch (front ++ earlier)
    begins (inl none) = inl none
    begins (inr it) = inr (ends_on front earlier first it)

    ends : EndsStretch (earlier ++ stretch) ⊎ IsBehindStretch back → EndsStretch ((front ++ earlier) ++ stretch) ⊎ IsBehindStretch back
    ends (inl it) = inl (subst EndsStretch (sym (append_assoc front earlier stretch)) (ends_on front (earlier ++ stretch) first it))
    ends (inr behind) = inr behind

-- and with more behind it, where all up to there end a stretch
between_before : (items earlier stretch back others : List BatchItem) → items ≡ (earlier ++ stretch) ++ back → EndsStretch items
    → StandsBetween earlier stretch back → StandsBetween earlier stretch (back ++ others)
between_before items earlier stretch back others split whole between = record { begins = between.begins; ends = by between.ends }
  where
    behind : (back : List BatchItem) → items ≡ (earlier ++ stretch) ++ back → IsBehindStretch back
        → EndsStretch (earlier ++ stretch) ⊎ IsBehindStretch (back ++ others)
    behind [] split is = inl (subst EndsStretch (split ∙ append-nil (earlier ++ stretch)) whole)
    behind (asked ask ∷ back) split is = absurd is
    behind (restarted ∷ back) split is = inr tt

    by : EndsStretch (earlier ++ stretch) ⊎ IsBehindStretch back → EndsStretch (earlier ++ stretch) ⊎ IsBehindStretch (back ++ others)
    by (inl it) = inl it
    by (inr is) = behind back split is

module _ (schema : DatabaseSchema) (world : FactSet) (header : List ℕ) {D : Type 0} {g h : _} (Disk : DiskGhosts D) where
  abbrev pub Limits : List (DeskSeat D g h) → Type 0
  Limits seats = AllByRecursion (λ (s : DeskSeat D g h). KeepsLimits schema (profile_of (seat_user s))) seats

  -- what stays of the seats: their journals, and with their users their limits; their counts didn't fall, and their disks are those of their names;
  -- where what was told of them lay there, it does
  pub record Stay (old new : List (DeskSeat D g h)) : Type 0 where
    pub names : journals new ≡ journals old
    pub users : map seat_name new ≡ map seat_name old
    pub limits : Limits old → Limits new
    pub served : AllByRecursion (IsSeatServed schema world header) old → AllByRecursion (IsSeatServed schema world header) new
    pub later : (count : Text → ℕ) → AreLater Disk.faults count old → AreLater Disk.faults count new
    pub own : (known : Text → List (List ℕ)) → AreOwn Disk.origin known old → AreOwn Disk.origin known new
    pub there : Disk.tells → SeatsThere Disk old → SeatsThere Disk new

  stay : (seats : List (DeskSeat D g h)) → Stay seats seats
  stay seats = record { names = refl; users = refl; limits = λ l. l; served = λ s. s; later = λ count l. l; own = λ known o. o; there = λ t all. all }

  stay_on : (a b c : List (DeskSeat D g h)) → Stay a b → Stay b c → Stay a c
  stay_on a b c first second = record {
    names = second.names ∙ first.names;
    users = second.users ∙ first.users;
    limits = λ l. second.limits (first.limits l);
    served = λ s. second.served (first.served s);
    later = λ count l. second.later count (first.later count l);
    own = λ known o. second.own known (first.own known o);
    there = λ t all. second.there t (first.there t all);
  }

  later_at : (count : Text → ℕ) (old new : DeskSeat D g h) → seat_journal new ≡ seat_journal old → Disk.faults (seat_disk old) ≤ Disk.faults (seat_disk new)
      → count (seat_journal old) ≤ Disk.faults (seat_disk old) → count (seat_journal new) ≤ Disk.faults (seat_disk new)
  later_at count old new named on first = subst (λ j. count j ≤ Disk.faults (seat_disk new)) (sym named) (omega (arith, first, on))

  limit_at : (old new : DeskSeat D g h) → seat_user new ≡ seat_user old → KeepsLimits schema (profile_of (seat_user old))
      → KeepsLimits schema (profile_of (seat_user new))
  limit_at old new is keeps = subst (λ u. KeepsLimits schema (profile_of u)) (sym is) keeps

  stay_told : (name : Text) (purpose : Purpose) (text : Text) (old new : List (DeskSeat D g h)) (reply : Option Reply)
      → Tells schema world name purpose text old new reply → Stay old new
  stay_told name purpose text old new reply nobody = stay []
  stay_told name purpose text old new reply (here {old = first} {new = next} {others} is answer) =
      let kept = answer.kept_is in
      record {
        names = ap (λ j. j ∷ journals others) answer.journal_is;
        users = ap (λ (u : User). string_bytes u.name ∷ map seat_name others) answer.user_is;
        limits = λ l. (limit_at first next answer.user_is l.0, l.1);
        served = λ s. (still_served schema world header first next purpose text _ answer s.0, s.1);
        later = λ count l. (
          later_at count first next answer.journal_is
              (subst (λ d. Disk.faults (seat_disk first) ≤ Disk.faults d) (sym (ap (λ (f : Fixed D). f.disk) kept)) (omega arith)) l.0,
          l.1,
        );
        own = λ known o. (ap (λ (f : Fixed D). Disk.origin f.disk) kept ∙ o.0 ∙ ap known (sym answer.journal_is), o.1);
        there = λ t all. (subst (λ (f : Fixed D). AreThere (Disk.heard f.disk) (Disk.reads f.disk)) (sym kept) all.0, all.1);
      }
  stay_told name purpose text old new reply (further {seat} {others} {after} {told_reply} other rest) =
      let tail : Stay others after = stay_told name purpose text others after told_reply rest in
      record {
        names = ap (λ js. seat_journal seat ∷ js) tail.names;
        users = ap (λ ns. seat_name seat ∷ ns) tail.users;
        limits = λ l. (l.0, tail.limits l.1);
        served = λ s. (s.0, tail.served s.1);
        later = λ count l. (l.0, tail.later count l.1);
        own = λ known o. (o.0, tail.own known o.1);
        there = λ t all. (all.0, tail.there t all.1);
      }

  pub stay_reopened : (old new : List (DeskSeat D g h)) → AreReopened schema world header Disk old new → Stay old new
  stay_reopened [] [] are = stay []
  stay_reopened [] (n ∷ new) are = absurd are
  stay_reopened (o ∷ old) [] are = absurd are
  stay_reopened (o ∷ old) (n ∷ new) are =
      let tail : Stay old new = stay_reopened old new are.1 in
      record {
        names = ap (λ j. j ∷ journals new) are.0.journal_is ∙ ap (λ js. seat_journal o ∷ js) tail.names;
        users = ap (λ (u : User). string_bytes u.name ∷ map seat_name new) are.0.user_is ∙ ap (λ ns. seat_name o ∷ ns) tail.users;
        limits = λ l. (limit_at o n are.0.user_is l.0, tail.limits l.1);
        served = λ s. (are.0.opened.served, tail.served s.1);
        later = λ count l.
            let closed = are.0.is_closed.later in
            let opened = are.0.left.later in
            (later_at count o n are.0.journal_is (omega (arith, closed, opened)) l.0, tail.later count l.1);
        own = λ known l. (are.0.left.comes ∙ are.0.is_closed.comes ∙ l.0 ∙ ap known (sym are.0.journal_is), tail.own known l.1);
        there = λ t all. (are.0.left.there t (are.0.is_closed.there t all.0), tail.there t all.1);
      }

  stay_carried : (item : BatchItem) (old new : List (DeskSeat D g h)) (line : List ℕ) (is_broken : Bool)
      → Carries schema world header Disk item old new line is_broken → Stay old new
  stay_carried (asked ask) old new line is_broken carried = stay_told ask.name (purpose_of ask.caller) ask.text old new carried.0 carried.1
  stay_carried restarted old new line is_broken carried = stay_reopened old new carried.0

  pub stay_run : (items : List BatchItem) (old new : List (DeskSeat D g h)) (output : List ℕ) (is_broken : Bool)
      → Runs schema world header Disk items old output new is_broken → Stay old new
  stay_run items old new output is_broken (nothing seats) = stay seats
  stay_run items old new output is_broken (more first old' mid new' before line was says item runs carried) =
      stay_on old' mid new' (stay_run first old' mid before was runs) (stay_carried item mid new' line says carried)

  pub stay_until : (why : Stopped) (wrote : Type 0) (items : List BatchItem) (old new : List (DeskSeat D g h)) (before after : List ℕ)
      → RunsUntil schema world header Disk why wrote items old new before after → Stay old new
  stay_until Write wrote items old new before after some = stay_on old some.mid new (stay_run _ _ _ _ _ some.first) (stay_run _ _ _ _ _ some.last)
  stay_until Memory wrote items old new before after to = stay_on old to.0.mid new (stay_run _ _ _ _ _ to.0.first) (stay_run _ _ _ _ _ to.0.last)

  -- so they can serve as before
  pub can_still : (named : List Text) (old new : List (DeskSeat D g h)) (is_out : Text → Bool) (count : Text → ℕ) (known : Text → List (List ℕ))
      → Stay old new → CanServe schema world header Disk named old is_out count known → CanServe schema world header Disk named new is_out count known
  can_still named old new is_out count known stays can = record {
    limits = stays.limits can.limits;
    served = stays.served can.served;
    names = ap has_duplicate stays.users ∙ can.names;
    registered = stays.names ∙ can.registered;
    distinct = ap has_duplicate stays.names ∙ can.distinct;
    out = subst (λ ns. AllOut ns is_out) (sym stays.names) can.out;
    later = stays.later count can.later;
    own = stays.own known can.own;
  }

  -- ---- items behind others

  pub runs_then : (first second : List BatchItem) (old mid new : List (DeskSeat D g h)) (output lines : List ℕ) (was says : Bool)
      → Runs schema world header Disk first old output mid was → Runs schema world header Disk second mid lines new says
      → Runs schema world header Disk (first ++ second) old (output ++ lines) new (was || says)
  runs_then first second old mid new output lines was says runs (nothing seats) =
      subst (λ l. Runs schema world header Disk l old (output ++ []) mid (was || false)) (sym (append-nil first))
      (subst (λ o. Runs schema world header Disk first old o mid (was || false)) (sym (append-nil output))
      (subst (λ b. Runs schema world header Disk first old output mid b) (sym (or-false was)) runs))
  runs_then first second old mid new output lines was says runs (more items old' middle new' before line broke says_broken item earlier carried) =
      let step : Runs schema world header Disk ((first ++ items) ++ item ∷ []) old ((output ++ before) ++ line) new
      ((was || broke) || says_broken) =
      more (first ++ items) old middle new' (output ++ before) line (was || broke) says_broken item
      (runs_then first items old mid middle output before was broke runs earlier) carried in
      subst (λ l. Runs schema world header Disk l old (output ++ (before ++ line)) new (was || (broke || says_broken)))
      (append_assoc first items (item ∷ []))
      (subst (λ o. Runs schema world header Disk ((first ++ items) ++ item ∷ []) old o new (was || (broke || says_broken)))
      (append_assoc output before line)
      (subst (λ b. Runs schema world header Disk ((first ++ items) ++ item ∷ []) old ((output ++ before) ++ line) new b)
      (or_assoc was broke says_broken) step))

  -- nothing was carried out, and nothing appended
  pub all_first : (wrote : Type 0) (seats : List (DeskSeat D g h)) (before : List ℕ)
      → RunsAll schema world header Disk wrote [] seats seats false before before
  all_first wrote seats before = record { output = []; appended = λ w. sym (append-nil before); runs = nothing seats }

  -- a stretch with its restart
  pub restarted_more : (asks : List BatchItem) (old mid new : List (DeskSeat D g h)) (lines : List ℕ) (says : Bool)
      → Runs schema world header Disk asks old lines mid says → AreReopened schema world header Disk mid new
      → Runs schema world header Disk (asks ++ restarted ∷ []) old (lines ++ restart_bytes) new says
  restarted_more asks old mid new lines says runs again =
      subst (Runs schema world header Disk (asks ++ restarted ∷ []) old (lines ++ restart_bytes) new) (or-false says)
      (more asks old mid new lines restart_bytes says false restarted runs (again, refl, refl))

  pub all_then : (wrote : Type 0) (items next : List BatchItem) (old mid new : List (DeskSeat D g h)) (was says : Bool) (before after last : List ℕ)
      → RunsAll schema world header Disk wrote items old mid was before after → RunsAll schema world header Disk wrote next mid new says after last
      → RunsAll schema world header Disk wrote (items ++ next) old new (was || says) before last
  all_then wrote items next old mid new was says before after last first second = record {
    output = first.output ++ second.output;
    appended = λ w. second.appended w ∙ ap (λ l. l ++ second.output) (first.appended w) ∙ append_assoc before first.output second.output;
    runs = runs_then items next old mid new first.output second.output was says first.runs second.runs;
  }

  -- stretches that were all carried out
  pub all_ended : (wrote : Type 0) (ended all : List (Vec BatchAsk Global)) (i : ℕ) (old new : List (DeskSeat D g h)) (says : Bool) (before after : List ℕ)
      → length all ≤ i → all ≡ ended → RunsAll schema world header Disk wrote (stretches_in (take i all)) old new says before after
      → RunsAll schema world header Disk wrote (stretches_in ended) old new says before after
  all_ended wrote ended all i old new says before after low are =
      subst (λ e. RunsAll schema world header Disk wrote (stretches_in e) old new says before after) (take_all i all low ∙ are)

  -- ---- where a batch stopped

  -- items that stopped, behind others that end a stretch
  some_then : (wrote : Type 0) (items next : List BatchItem) (old mid new : List (DeskSeat D g h)) (was : Bool) (before after last : List ℕ) → EndsStretch items
      → RunsAll schema world header Disk wrote items old mid was before after → RunsSome schema world header Disk wrote next mid new after last
      → RunsSome schema world header Disk wrote (items ++ next) old new before last
  some_then wrote items next old mid new was before after last whole first some = record {
    earlier = items ++ some.earlier;
    stretch = some.stretch;
    back = some.back;
    split = ap (λ l. items ++ l) some.split ∙ sym (append_assoc items (some.earlier ++ some.stretch) some.back)
        ∙ ap (λ l. l ++ some.back) (sym (append_assoc items some.earlier some.stretch));
    one = some.one;
    between = between_behind items some.earlier some.stretch some.back whole some.between;
    mid = some.mid;
    output = first.output ++ some.output;
    lines = some.lines;
    was_broken = was || some.was_broken;
    says_broken = some.says_broken;
    first = runs_then items some.earlier old mid some.mid first.output some.output was some.was_broken first.runs some.first;
    last = some.last;
    appended = λ w. (
      (some.appended w).0,
      (some.appended w).1 ∙ ap (λ l. (l ++ some.output) ++ take (some.appended w).0 some.lines) (first.appended w)
          ∙ ap (λ l. l ++ take (some.appended w).0 some.lines) (append_assoc before first.output some.output),
    );
  }

  -- and in front of others, where they end one
  some_more : (wrote : Type 0) (items others : List BatchItem) (old new : List (DeskSeat D g h)) (before after : List ℕ) → EndsStretch items
      → RunsSome schema world header Disk wrote items old new before after → RunsSome schema world header Disk wrote (items ++ others) old new before after
  some_more wrote items others old new before after whole some = record {
    earlier = some.earlier;
    stretch = some.stretch;
    back = some.back ++ others;
    split = ap (λ l. l ++ others) some.split ∙ append_assoc (some.earlier ++ some.stretch) some.back others;
    one = some.one;
    between = between_before items some.earlier some.stretch some.back others some.split whole some.between;
    mid = some.mid;
    output = some.output;
    lines = some.lines;
    was_broken = some.was_broken;
    says_broken = some.says_broken;
    first = some.first;
    last = some.last;
    appended = some.appended;
  }

  pub until_then : (why : Stopped) (wrote : Type 0) (items next : List BatchItem) (old mid new : List (DeskSeat D g h)) (was : Bool)
      (before after last : List ℕ) → EndsStretch items
      → RunsAll schema world header Disk wrote items old mid was before after → RunsUntil schema world header Disk why wrote next mid new after last
      → RunsUntil schema world header Disk why wrote (items ++ next) old new before last
  unfolding some_then
  until_then Write wrote items next old mid new was before after last whole first some =
      some_then wrote items next old mid new was before after last whole first some
  until_then Memory wrote items next old mid new was before after last whole first to =
      (some_then wrote items next old mid new was before after last whole first to.0, to.1)

  pub until_more : (why : Stopped) (wrote : Type 0) (items others : List BatchItem) (old new : List (DeskSeat D g h)) (before after : List ℕ)
      → EndsStretch items → RunsUntil schema world header Disk why wrote items old new before after
      → RunsUntil schema world header Disk why wrote (items ++ others) old new before after
  unfolding some_more
  until_more Write wrote items others old new before after whole some = some_more wrote items others old new before after whole some
  until_more Memory wrote items others old new before after whole to = (some_more wrote items others old new before after whole to.0, to.1)

  -- a stretch was carried out, and of its lines so many bytes were written
  written_to : (wrote : Type 0) (items stretch back : List BatchItem) (old new : List (DeskSeat D g h)) (says : Bool) (before after lines : List ℕ)
      → items ≡ stretch ++ back → IsStretch stretch → IsBehindStretch back → Runs schema world header Disk stretch old lines new says
      → (wrote → (n : ℕ) × (after ≡ before ++ take n lines)) → RunsSome schema world header Disk wrote items old new before after
  written_to wrote items stretch back old new says before after lines split one behind runs part = record {
    earlier = [];
    stretch = stretch;
    back = back;
    split = split;
    one = one;
    between = record { begins = inr (inl refl); ends = inr behind };
    mid = old;
    output = [];
    lines = lines;
    was_broken = false;
    says_broken = says;
    first = nothing old;
    last = runs;
    appended = λ w. ((part w).0, (part w).1 ∙ ap (λ l. l ++ take (part w).0 lines) (sym (append-nil before)));
  }

  pub until_written : (why : Stopped) (wrote : Type 0) (items stretch back : List BatchItem) (old new : List (DeskSeat D g h)) (says : Bool)
      (before after lines : List ℕ) → items ≡ stretch ++ back → IsStretch stretch → IsBehindStretch back
      → Runs schema world header Disk stretch old lines new says → (wrote → IsCutAt why before after lines)
      → RunsUntil schema world header Disk why wrote items old new before after
  unfolding written_to
  until_written Write wrote items stretch back old new says before after lines split one behind runs cut =
      written_to wrote items stretch back old new says before after lines split one behind runs (λ w. ((cut w).0, (cut w).2))
  until_written Memory wrote items stretch back old new says before after lines split one behind runs cut =
      (written_to wrote items stretch back old new says before after lines split one behind runs (λ w. (0, cut w ∙ sym (append-nil before))), λ w. refl)

  -- memory was wanting behind these items
  pub until_here : (wrote : Type 0) (front back : List BatchItem) (old new : List (DeskSeat D g h)) (is_broken : Bool) (before after : List ℕ)
      → EndsStretch front ⊎ IsBehindStretch back → RunsAll schema world header Disk wrote front old new is_broken before after
      → RunsTo schema world header Disk wrote (front ++ back) old new before after
  until_here wrote front back old new is_broken before after ends so_far = (
    record {
      earlier = front;
      stretch = [];
      back = back;
      split = ap (λ l. l ++ back) (sym (append-nil front));
      one = tt;
      between = record { begins = inl refl; ends = subst (λ l. EndsStretch l ⊎ IsBehindStretch back) (sym (append-nil front)) ends };
      mid = new;
      output = so_far.output;
      lines = [];
      was_broken = is_broken;
      says_broken = false;
      first = so_far.runs;
      last = nothing new;
      appended = λ w. (0, so_far.appended w ∙ sym (append-nil (before ++ so_far.output)));
    },
    λ w. refl,
  )

  -- or before the first
  pub until_first : (wrote : Type 0) (items : List BatchItem) (seats : List (DeskSeat D g h)) (before : List ℕ)
      → RunsTo schema world header Disk wrote items seats seats before before
  until_first wrote items seats before = until_here wrote [] items seats seats false before before (inl (inl refl)) (all_first wrote seats before)

  -- the seats behind a batch, however it ended: they stay, and what is said of those that are back
  pub left_behind : {T : Type 0} (wrote : Type 0) (are_back : List (DeskSeat D g h) → Type 0) (items : List BatchItem) (old : List (DeskSeat D g h))
      (before after : List ℕ) (result : Result T Stopped) (refusals : T → List (Option DeskError)) (is_broken : T → Bool)
      → IfOk result (λ told. IsAnswered schema world header Disk wrote are_back items old before after (refusals told) (is_broken told))
      → IfErr result (λ why. IsStopped schema world header Disk wrote are_back items old before after why)
      → (new : List (DeskSeat D g h)) × Stay old new × are_back new
  left_behind wrote are_back items old before after (Ok told) refusals is_broken all none = (all.0, stay_run _ _ _ _ _ all.1.runs, all.2)
  left_behind wrote are_back items old before after (Err why) refusals is_broken none stop =
      (stop.0, stay_until why wrote items old stop.0 before after stop.1, stop.2)

-- ---- the asks of a stretch

-- asks alone are of one stretch, and so they are with the restart that ends them
pub asks_one : (asks : List BatchAsk) → IsStretch (stretch_in asks)
asks_one [] = tt
asks_one (ask ∷ asks) = asks_one asks

pub ended_one : (asks : List BatchAsk) → IsStretch (ended_in asks)
ended_one [] = refl
ended_one (ask ∷ asks) = ended_one asks

-- what holds of each stretch holds of the next
pub asks_at : (P : List BatchAsk → Type 0) (ended : List (Vec BatchAsk Global)) (i : ℕ) (asks : Vec BatchAsk Global) → i < length ended
    → asks ≡ get_or ended i asks → All (λ (a : Vec BatchAsk Global). P a.items) ended → P asks.items
asks_at P ended i asks low is all =
    subst (λ (a : Vec BatchAsk Global). P a.items) (sym is)
    (all_at (λ (a : Vec BatchAsk Global). P a.items) ended i asks low (recursion_from_All (λ (a : Vec BatchAsk Global). P a.items) ended all))

-- nothing was appended at the seats since they were opened again
pub all_as_opened : (schema : DatabaseSchema) (world : FactSet) (header : List ℕ) {D : Type 0} {g h : _} (Disk : DiskGhosts D)
    (olds news : List (DeskSeat D g h)) → AreReopened schema world header Disk olds news → AllByRecursion IsSeatAsOpened news
all_as_opened schema world header Disk [] [] are = tt
all_as_opened schema world header Disk [] (n ∷ news) are = absurd are
all_as_opened schema world header Disk (o ∷ olds) [] are = absurd are
all_as_opened schema world header Disk (o ∷ olds) (n ∷ news) are = (are.0.opened.fresh, all_as_opened schema world header Disk olds news are.1)

-- the asks of a stretch in front of others, as items of the batch
pub stretch_split : (ended : List (Vec BatchAsk Global)) (last : List BatchAsk) (i : ℕ) (asks : Vec BatchAsk Global) → i < length ended
    → asks ≡ get_or ended i asks
    → items_in ended last
    ≡ (stretches_in (take i ended) ++ ended_in asks.items) ++ items_in (drop (suc i) ended) last
stretch_split [] last i asks low is = absurd (omega (arith, low))
stretch_split (first ∷ ended) last zero asks low is =
    ap (λ (v : Vec BatchAsk Global). (stretch_in v.items ++ restarted ∷ stretches_in ended) ++ stretch_in last) (sym is)
    ∙ append_assoc (stretch_in asks.items) (restarted ∷ stretches_in ended) (stretch_in last)
    ∙ sym (append_assoc (stretch_in asks.items) (restarted ∷ []) (items_in ended last))
stretch_split (first ∷ ended) last (suc i) asks low is =
    let rest = stretch_split ended last i asks (omega (arith, low)) is in
    append_assoc (stretch_in first.items) (restarted ∷ stretches_in ended) (stretch_in last)
    ∙ ap (λ l. stretch_in first.items ++ restarted ∷ l) rest
    ∙ sym (append_assoc (stretch_in first.items)
    (restarted ∷ (stretches_in (take i ended) ++ (stretch_in asks.items ++ restarted ∷ []))) (items_in (drop (suc i) ended) last))
    ∙ ap (λ l. l ++ items_in (drop (suc i) ended) last)
    (sym (append_assoc (stretch_in first.items) (restarted ∷ stretches_in (take i ended)) (stretch_in asks.items ++ restarted ∷ [])))

-- one more stretch that ended
pub stretches_more : (ended : List (Vec BatchAsk Global)) (i : ℕ) (asks : Vec BatchAsk Global) → i < length ended → asks ≡ get_or ended i asks
    → stretches_in (take (i + 1) ended) ≡ stretches_in (take i ended) ++ ended_in asks.items
stretches_more ended i asks low is =
    ap stretches_in (take_more ended i asks low ∙ ap (λ a. take i ended ++ a ∷ []) (sym is)) ∙ stretches-append (take i ended) (asks ∷ [])

-- a batch that stopped at one of the stretches that end so
pub until_stretch : (schema : DatabaseSchema) (world : FactSet) (header : List ℕ) {D : Type 0} {g h : _} (Disk : DiskGhosts D) (why : Stopped) (wrote : Type 0)
    (ended : List (Vec BatchAsk Global)) (last : List BatchAsk) (i : ℕ) (asks : Vec BatchAsk Global) → i < length ended → asks ≡ get_or ended i asks
    → (old mid new : List (DeskSeat D g h)) (was : Bool) (before after final : List ℕ)
    → RunsAll schema world header Disk wrote (stretches_in (take i ended)) old mid was before after
    → RunsUntil schema world header Disk why wrote (ended_in asks.items) mid new after final
    → RunsUntil schema world header Disk why wrote (items_in ended last) old new before final
until_stretch schema world header Disk why wrote ended last i asks low is old mid new was before after final so_far stop =
    let done = stretches_in (take i ended) in
    let whole : EndsStretch done = stretches_end (take i ended) in
    subst (λ l. RunsUntil schema world header Disk why wrote l old new before final) (sym (stretch_split ended last i asks low is))
    (until_more schema world header Disk why wrote (done ++ ended_in asks.items) (items_in (drop (suc i) ended) last) old new before final
    (ends_on done (ended_in asks.items) whole (inr (stretch_in asks.items, refl)))
    (until_then schema world header Disk why wrote done (ended_in asks.items) old mid new was before after final whole so_far stop))
