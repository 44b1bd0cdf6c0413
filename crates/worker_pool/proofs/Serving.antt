-- What all workers did together.
use Rattle.std.proofs.Common.{◌≡◌, ◌⊎◌, inl, inr, ℕ, zero, suc, ◌+◌, ◌<◌, ◌≤◌, ◌==◌, cond, ltb, ltb-true, Bool, true, false, List, [], ◌∷◌, length, map, drop}
use Rattle.std.proofs.Common.{All, sum_by, slice_index_or, Option, Some, None, IsSome, refl, sym, ap, ◌∙◌, subst, arith, eqb-true, eq-eqb}
use Rattle.std.specs.List.{AllZip, AllByRecursion}
use Rattle.std.proofs.lemmas.List.{drop_at}
use Rattle.std.proofs.lemmas.List.Sums.{sum_by-cons, sum_by-append}
use Rattle.std.proofs.lemmas.List.Elements.{All-from_recursion, All-append, All-nil, recursion_from_All}
use mathlib.Core.Logic.{dite}
use native.Mathlib.Decide.{ℕ_discrete, dec_le}
use Rattle.outside.specs.Visits.{Visit}
use Rattle.worker_pool.specs.declared.worker.Worker.{Worker}
use Rattle.worker_pool.specs.declared.worker.WorkerEnd.{WorkerEnd}
use Rattle.worker_pool.specs.declared.worker.WorkerEnd.TheVariants.{LinksEnded, LimitReached, LinksFailed}
use Rattle.worker_pool.specs.declared.pool.Seated.{Seated}
use Rattle.worker_pool.specs.Hands.{sum_below, is_below}
use Rattle.worker_pool.specs.Drawers.{drawn}
use Rattle.worker_pool.specs.Seats.{draws}
use Rattle.worker_pool.specs.Workers.{IsWorkedThrough, AreDifferentBelow, added_numbers, lost}
use Rattle.worker_pool.specs.Runs.{HasWorked}
use Rattle.worker_pool.proofs.Sums.{below_min}

-- how often a number is n
abbrev is_number : ℕ → ℕ → ℕ
is_number n m = cond (m == n) 1 0

-- a number is at most once among those below k, and not at all where it isn't below k
number_once : (n k : ℕ) → (sum_below (is_number n) k ≤ 1) × (k ≤ n → sum_below (is_number n) k ≡ 0)
number_once n zero = (omega arith, λ le. refl)
number_once n (suc k) = let so_far = number_once n k in dite (ℕ_discrete k n)
    (λ same. let here : is_number n k ≤ 1 = at_most k in let none = so_far.1 (omega arith) in (omega (arith, none, here), λ le. absurd (omega arith)))
    (λ other. let here : is_number n k ≡ 0 = not_there k other in let few = so_far.0 in
    (omega (arith, few, here), λ le. omega (arith, so_far.1 (omega arith), here)))
  where
    at_most : (m : ℕ) → is_number n m ≤ 1
    at_most m = by_test (m == n)
      where
        by_test : (b : Bool) → cond b 1 0 ≤ 1
        by_test true = omega arith
        by_test false = omega arith

    not_there : (m : ℕ) → (m ≡ n → ⊥) → is_number n m ≡ 0
    not_there m other = by_test (m == n) (λ e. other (eqb-true m n e))
      where
        by_test : (b : Bool) → (b ≡ true → ⊥) → ◌≡◌ {A = ℕ} (cond b 1 0) 0
        by_test true = λ no. absurd (no refl)
        by_test false = λ no. refl

below_at_most : (limit n : ℕ) → is_below limit n ≤ 1
below_at_most limit n = by_test (ltb n limit)
  where
    by_test : (b : Bool) → cond b 1 0 ≤ 1
    by_test true = omega arith
    by_test false = omega arith

below_length : (limit : ℕ) (numbers : List ℕ) → sum_by (is_below limit) numbers ≤ length numbers
below_length limit [] = omega arith
below_length limit (n ∷ numbers) = omega (arith, sum_by-cons (is_below limit) n numbers, below_at_most limit n, below_length limit numbers)

-- a number that isn't below the limit doesn't count
not_below : (limit n : ℕ) → limit ≤ n → sum_by (is_below limit) (n ∷ []) ≡ 0
not_below limit n le = by_test (ltb n limit) (ltb-true n limit)
  where
    by_test : (b : Bool) → (b ≡ true → n < limit) → 0 + cond b 1 0 ≡ 0
    by_test true less = absurd (let l = less refl in omega arith)
    by_test false less = refl

-- none isn't some
pub none_isnt : (end : Option WorkerEnd) → end ≡ None → IsSome end → ⊥
none_isnt None is some = absurd cc
none_isnt (Some end) is some = absurd cc

-- where all count, all are below the limit
all_below : (limit : ℕ) (numbers : List ℕ) → sum_by (is_below limit) numbers ≡ length numbers → AllByRecursion (λ n. n < limit) numbers
all_below limit [] all = tt
all_below limit (n ∷ numbers) all =
    let cut = sum_by-cons (is_below limit) n numbers in
    let one = below_at_most limit n in
    let most = below_length limit numbers in
    (is_one (ltb n limit) (omega arith) (ltb-true n limit), all_below limit numbers (omega arith))
  where
    is_one : (b : Bool) → ◌≡◌ {A = ℕ} (cond b 1 0) 1 → (b ≡ true → n < limit) → n < limit
    is_one true e less = less refl
    is_one false e less = absurd (omega arith)

module _ {J O : Type 0} (door_told numbers_told : Type 0) (given_of left_of ends_of faults_of : O → ℕ) (back_of : O → List Visit)
    (room_of ran_of : J → ℕ) (numbers_of : J → List ℕ) (stands_of : J → J → List Visit → Type 0) (keeps_of : J → J → Type 0)
    (stands_none : (job : J) → stands_of job job []) (limit : ℕ) where
  -- a worker before it served, and in its seat afterwards
  abbrev Worked : Worker J O → Seated J O → Type 0
  Worked before seated =
      HasWorked door_told numbers_told given_of left_of ends_of faults_of back_of room_of ran_of numbers_of stands_of keeps_of limit
      (drawn seated.drawer) before seated.worker

  abbrev Served : Worker J O → Worker J O → Type 0
  Served = IsWorkedThrough door_told given_of left_of ends_of faults_of back_of room_of ran_of stands_of keeps_of

  abbrev AllIdle : List (Worker J O) → Type 0
  AllIdle workers = AllByRecursion (λ worker. ran_of worker.job ≡ 0) workers

  abbrev workers_of : List (Seated J O) → List (Worker J O)
  workers_of = map (λ seated. seated.worker)

  -- the runs of all jobs
  abbrev runs_of : List (Seated J O) → ℕ
  runs_of all = sum_by (λ worker. ran_of worker.job) (workers_of all)

  one_served : (before : Worker J O) (seated : Seated J O) → ran_of before.job ≡ 0 → Worked before seated → Served before seated.worker
  one_served before seated idle worked =
      let run = worked.has_run in
      let ran = run.ran in
      let count : length worked.runs ≡ ran_of seated.worker.job = omega arith in record {
        given = λ told. let e = run.given told in omega arith;
        left = λ told. let e = run.left told in omega arith;
        back = λ told. let v = run.back told before.job [] (stands_none before.job) in
            record { visits = v.visits; behind = v.behind; many = v.many ∙ count; stand = v.stand };
        room = let e = run.room in omega arith;
        keeps = run.keeps;
        ends = run.ends;
        faults = run.faults;
        ended = worked.ended;
        at_end = worked.at_end;
        at_failure = worked.at_failure;
      }

  pub all_served : (before : List (Worker J O)) (all : List (Seated J O)) → AllIdle before → AllZip Worked before all → AllZip Served before (workers_of all)
  all_served [] [] idle worked = tt
  all_served [] (seated ∷ all) idle worked = absurd worked
  all_served (first ∷ before) [] idle worked = absurd worked
  all_served (first ∷ before) (seated ∷ all) idle worked = (one_served first seated idle.0 worked.0, all_served before all idle.1 worked.1)

  -- how many of the numbers of one worker are below the limit
  one_below : (before : Worker J O) (seated : Seated J O) → ran_of before.job ≡ 0 → (worked : Worked before seated)
      → sum_by (is_below limit) (drawn seated.drawer) ≡ ran_of seated.worker.job + sum_by (is_below limit) worked.last
  one_below before seated idle worked =
      let ran = worked.has_run.ran in
      let below = worked.below in
      omega (arith, ap (sum_by (is_below limit)) worked.all, sum_by-append (is_below limit) worked.runs worked.last, below, ran)

  -- the numbers that all workers lost
  abbrev lost_of : List (Seated J O) → ℕ
  lost_of all = sum_by (λ worker. lost worker.ended) (workers_of all)

  -- how many of the last numbers of one worker are below the limit
  last_lost : (before : Worker J O) (seated : Seated J O) → (worked : Worked before seated) → sum_by (is_below limit) worked.last ≤ lost seated.worker.ended
  last_lost before seated worked = by_end seated.worker.ended refl
    where
      by_end : (end : Option WorkerEnd) → seated.worker.ended ≡ end → sum_by (is_below limit) worked.last ≤ lost end
      by_end None is = absurd (none_isnt seated.worker.ended is worked.ended)
      by_end (Some LinksEnded) is = worked.one
      by_end (Some LinksFailed) is = worked.one
      by_end (Some LimitReached) is =
          let last = worked.at_limit is in
          let none = ap (sum_by (is_below limit)) last.1 ∙ not_below limit last.0 last.2 in
          omega (arith, none)

  -- as many numbers below the limit were drawn as there were runs, and at most those more that were lost
  pub runs_below : (before : List (Worker J O)) (all : List (Seated J O)) → AllIdle before → AllZip Worked before all
      → (runs_of all ≤ sum_by (is_below limit) (draws all)) × (sum_by (is_below limit) (draws all) ≤ runs_of all + lost_of all)
  runs_below [] [] idle worked = (omega arith, omega arith)
  runs_below [] (seated ∷ all) idle worked = absurd worked
  runs_below (first ∷ before) [] idle worked = absurd worked
  runs_below (first ∷ before) (seated ∷ all) idle worked =
      let here = one_below first seated idle.0 worked.0 in
      let one = last_lost first seated worked.0 in
      let others = runs_below before all idle.1 worked.1 in
      let low = others.0 in
      let high = others.1 in
      let cut = sum_by-cons (λ (worker : Worker J O). ran_of worker.job) seated.worker (workers_of all) in
      let lost' = sum_by-cons (λ (worker : Worker J O). lost worker.ended) seated.worker (workers_of all) in
      let drawn' = sum_by-append (is_below limit) (drawn seated.drawer) (draws all) in
      (omega arith, omega arith)

  -- some worker ended at the limit
  abbrev Reaches : List (Seated J O) → Type 0
  Reaches [] = ⊥
  Reaches (seated ∷ all) = (seated.worker.ended ≡ Some LimitReached) ⊎ Reaches all

  reach_at : (all : List (Seated J O)) (k : ℕ) (d : Worker J O) → k < length (workers_of all) → (slice_index_or (workers_of all) k d).ended ≡ Some LimitReached
      → Reaches all
  reach_at [] k d within at = absurd (omega arith)
  reach_at (seated ∷ all) zero d within at = inl at
  reach_at (seated ∷ all) (suc k) d within at = inr (reach_at all k d (omega arith) at)

  -- then one was drawn that isn't below the limit
  reached : (before : List (Worker J O)) (all : List (Seated J O)) → AllZip Worked before all → Reaches all → (n : ℕ) × (limit ≤ n)
      × (0 < sum_by (is_number n) (draws all))
  reached [] [] worked here = absurd here
  reached [] (seated ∷ all) worked here = absurd worked
  reached (first ∷ before) [] worked here = absurd worked
  reached (first ∷ before) (seated ∷ all) worked (inl here) =
      let last = worked.0.at_limit here in
      let n : ℕ = last.0 in
      let there = sum_by-append (is_number n) (drawn seated.drawer) (draws all) in
      let mine = ap (sum_by (is_number n)) worked.0.all ∙ sum_by-append (is_number n) worked.0.runs worked.0.last in
      let one : sum_by (is_number n) worked.0.last ≡ 1 = ap (sum_by (is_number n)) last.1 ∙ one_number n in
      (n, last.2, omega arith)
    where
      one_number : (n : ℕ) → sum_by (is_number n) (n ∷ []) ≡ 1
      one_number n = ap (λ (b : Bool). 0 + cond b 1 0) (eq-eqb n n refl)
  reached (first ∷ before) (seated ∷ all) worked (inr there) =
      let others = reached before all worked.1 there in
      let some = others.2 in
      let there' = sum_by-append (is_number others.0) (drawn seated.drawer) (draws all) in
      (others.0, others.1, omega arith)

  -- all numbers below some number were drawn, each once
  abbrev Drawn : List (Seated J O) → Type 0
  Drawn all = (next : ℕ) × ((f : ℕ → ℕ) → sum_by f (draws all) ≡ sum_below f next)

  pub at_most_limit : (before : List (Worker J O)) (all : List (Seated J O)) → AllIdle before → AllZip Worked before all → Drawn all → runs_of all ≤ limit
  at_most_limit before all idle worked once =
      let low = (runs_below before all idle worked).0 in
      let sum = once.1 (is_below limit) in
      let least = below_min limit once.0 in
      omega arith

  pub limit_reached : (before : List (Worker J O)) (all : List (Seated J O)) → AllIdle before → AllZip Worked before all → Drawn all
      → All (λ worker. worker.ended ≡ Some LimitReached → limit ≤ runs_of all + lost_of all) (workers_of all)
  limit_reached before all idle worked once k d within at =
      let t = reached before all worked (reach_at all k d within at) in
      let n : ℕ = t.0 in
      let high = t.1 in
      let some = t.2 in
      let most = (runs_below before all idle worked).1 in
      let sum = once.1 (is_below limit) in
      let least = below_min limit once.0 in
      let there = once.1 (is_number n) in
      let none = (number_once n once.0).1 in
      dite (dec_le once.0 n) (λ le. let no = none le in absurd (omega arith)) (λ more. omega arith)

  -- the numbers of one worker that its job ran with
  one_added : (before : Worker J O) (seated : Seated J O) → numbers_told → (worked : Worked before seated)
      → drop (length (numbers_of before.job)) (numbers_of seated.worker.job) ≡ worked.runs
  one_added before seated told worked =
      ap (drop (length (numbers_of before.job))) (worked.has_run.numbers told)
      ∙ drop_at (numbers_of before.job) worked.runs (length (numbers_of before.job)) refl

  added_few : (before : List (Worker J O)) (all : List (Seated J O)) → numbers_told → AllZip Worked before all
      → (n : ℕ) → sum_by (is_number n) (added_numbers numbers_of before (workers_of all)) ≤ sum_by (is_number n) (draws all)
  added_few [] [] told worked n = omega arith
  added_few [] (seated ∷ all) told worked n = absurd worked
  added_few (first ∷ before) [] told worked n = absurd worked
  added_few (first ∷ before) (seated ∷ all) told worked n =
      let here = ap (sum_by (is_number n)) (one_added first seated told worked.0) in
      let mine = ap (sum_by (is_number n)) worked.0.all ∙ sum_by-append (is_number n) worked.0.runs worked.0.last in
      let others = added_few before all told worked.1 n in
      omega (
        arith,
        here,
        mine,
        others,
        sum_by-append (is_number n) (drop (length (numbers_of first.job)) (numbers_of seated.worker.job)) (added_numbers numbers_of before (workers_of all)),
        sum_by-append (is_number n) (drawn seated.drawer) (draws all),
      )

  added_below : (before : List (Worker J O)) (all : List (Seated J O)) → numbers_told → AllZip Worked before all
      → All (λ n. n < limit) (added_numbers numbers_of before (workers_of all))
  added_below [] [] told worked = All-nil (λ n. n < limit)
  added_below [] (seated ∷ all) told worked = absurd worked
  added_below (first ∷ before) [] told worked = absurd worked
  added_below (first ∷ before) (seated ∷ all) told worked =
      All-append (λ n. n < limit) _ (added_numbers numbers_of before (workers_of all))
      (subst (All (λ n. n < limit)) (sym (one_added first seated told worked.0))
      (All-from_recursion (λ n. n < limit) worked.0.runs (all_below limit worked.0.runs worked.0.below)))
      (added_below before all told worked.1)

  pub numbers_differ : (before : List (Worker J O)) (all : List (Seated J O)) → numbers_told → AllZip Worked before all → Drawn all
      → AreDifferentBelow limit (added_numbers numbers_of before (workers_of all))
  numbers_differ before all told worked once = record {
    below = added_below before all told worked;
    different = λ n. let few = added_few before all told worked n in let sum = once.1 (is_number n) in let most = (number_once n once.0).0 in omega arith;
  }

  -- place by place, from the seats as they were given
  pub all_worked : (given all : List (Seated J O)) → length all ≡ length given
      → ((k : ℕ) (d : Seated J O) → k < length given → Worked (slice_index_or given k d).worker (slice_index_or all k d)) → AllZip Worked (workers_of given) all
  all_worked [] [] same each = tt
  all_worked [] (seated ∷ all) same each = absurd (omega arith)
  all_worked (first ∷ given) [] same each = absurd (omega arith)
  all_worked (first ∷ given) (seated ∷ all) same each =
      (each 0 first (omega arith), all_worked given all (omega arith) (λ k d within. each (suc k) d (omega arith)))

  -- what is said of all workers, before and after
  pub record Together (before after : List (Worker J O)) : Type 0 where
    pub served : AllZip Served before after
    pub at_most : sum_by (λ worker. ran_of worker.job) after ≤ limit
    pub at_limit : All (λ worker. worker.ended ≡ Some LimitReached
        → limit ≤ sum_by (λ other. ran_of other.job) after + sum_by (λ other. lost other.ended) after) after
    pub differ : numbers_told → AreDifferentBelow limit (added_numbers numbers_of before after)

  pub together : (before after : List (Worker J O)) (given all lent : List (Seated J O)) (numbers : List ℕ)
      → workers_of given ≡ before → All (λ worker. ran_of worker.job ≡ 0) before → length all ≡ length given
      → ((k : ℕ) (d : Seated J O) → k < length given → Worked (slice_index_or given k d).worker (slice_index_or all k d))
      → lent ≡ all → after ≡ workers_of lent → numbers ≡ draws lent → (next : ℕ) × ((f : ℕ → ℕ) → sum_by f numbers ≡ sum_below f next) → Together before after
  together before after given all lent numbers seated idle same each lent_is after_is numbers_are once =
      let now : after ≡ workers_of all = after_is ∙ ap workers_of lent_is in
      let drew : numbers ≡ draws all = numbers_are ∙ ap (λ (l : List (Seated J O)). draws l) lent_is in
      let idle' : AllIdle (workers_of given) = subst AllIdle (sym seated) (recursion_from_All (λ worker. ran_of worker.job ≡ 0) before idle) in
      let worked = all_worked given all same each in
      let drawn' : Drawn all = (once.0, λ f. ap (sum_by f) (sym drew) ∙ once.1 f) in
      subst (λ (x : List (Worker J O) × List (Worker J O)). Together x.0 x.1) (λ i. (seated i, sym now i))
      record {
        served = all_served (workers_of given) all idle' worked;
        at_most = at_most_limit (workers_of given) all idle' worked drawn';
        at_limit = limit_reached (workers_of given) all idle' worked drawn';
        differ = λ told. numbers_differ (workers_of given) all told worked drawn';
      }
