-- What a worker did so far and what it does then.
use Rattle.std.proofs.Common.{◌≡◌, ℕ, ◌+◌, ◌<◌, cond, Bool, lt-ltb, List, [], ◌∷◌, ◌++◌, length, sum_by, refl, sym, ap, ◌∙◌, subst, arith, length-append}
use Rattle.std.proofs.Common.{append_assoc, append-nil, Option, Some}
use Rattle.outside.proofs.Rises.{rose_since}
use Rattle.outside.specs.Faults.{Rose}
use Rattle.outside.specs.Visits.{Visit}
use Rattle.worker_pool.specs.declared.worker.Worker.{Worker}
use Rattle.worker_pool.specs.declared.worker.WorkerEnd.{WorkerEnd}
use Rattle.worker_pool.specs.declared.worker.WorkerEnd.TheVariants.{LinksEnded, LimitReached, LinksFailed}
use Rattle.worker_pool.specs.Hands.{is_below}
use Rattle.worker_pool.specs.Runs.{HasRun, HasWorked}
use Rattle.worker_pool.proofs.Keeps.{drawn_more}

-- a number below the limit counts once more
pub below_one_more : (limit n : ℕ) (numbers : List ℕ) → n < limit → sum_by (is_below limit) (numbers ++ n ∷ []) ≡ sum_by (is_below limit) numbers + 1
below_one_more limit n numbers less =
    drawn_more (is_below limit) numbers n ∙ ap (λ (k : ℕ). sum_by (is_below limit) numbers + k) (ap (λ (b : Bool). cond b 1 0) (lt-ltb n limit less))

module _ {J O : Type 0} (door_told numbers_told : Type 0) (given_of left_of ends_of faults_of : O → ℕ) (back_of : O → List Visit)
    (room_of ran_of : J → ℕ) (numbers_of : J → List ℕ) (stands_of : J → J → List Visit → Type 0) (keeps_of : J → J → Type 0) where
  abbrev Run : List ℕ → Worker J O → Worker J O → Type 0
  Run = HasRun door_told numbers_told given_of left_of ends_of faults_of back_of room_of ran_of numbers_of stands_of keeps_of

  -- some runs and then others
  pub runs_more : ((a b c : J) → keeps_of a b → keeps_of b c → keeps_of a c) → (all xs ys : List ℕ) (a b c : Worker J O) → all ≡ xs ++ ys → Run xs a b
      → Run ys b c → Run all a c
  runs_more keeps_more all xs ys a b c is first second =
      let both : length all ≡ length xs + length ys = ap length is ∙ length-append xs ys in
      record {
        ran = let p = first.ran in let q = second.ran in omega arith;
        room = let p = first.room in let q = second.room in omega arith;
        numbers = λ told. second.numbers told ∙ ap (λ (l : List ℕ). l ++ ys) (first.numbers told) ∙ append_assoc (numbers_of a.job) xs ys
            ∙ ap (λ (l : List ℕ). numbers_of a.job ++ l) (sym is);
        keeps = keeps_more a.job b.job c.job first.keeps second.keeps;
        given = λ told. let p = first.given told in let q = second.given told in omega arith;
        left = λ told. let p = first.left told in let q = second.left told in omega arith;
        back = λ told since earlier stood.
            (let v = first.back told since earlier stood in let w = second.back told since (earlier ++ v.visits) v.stand in record {
              visits = v.visits ++ w.visits;
              behind = w.behind ∙ ap (λ (l : List Visit). l ++ w.visits) v.behind ∙ append_assoc (back_of a.door) v.visits w.visits;
              many = let p = v.many in let q = w.many in omega (arith, length-append v.visits w.visits);
              stand = subst (stands_of since c.job) (append_assoc earlier v.visits w.visits) w.stand;
            });
        ends = let p = first.ends in let q = second.ends in omega arith;
        faults = let p = first.faults in let q = second.faults in omega arith;
      }

  -- how a worker is said to have ended changes nothing of its runs
  pub runs_ended : (runs : List ℕ) (a c : Worker J O) (ended : Option WorkerEnd) → Run runs a c → Run runs a record {
    job =
        c.job;
    door = c.door;
    ended = ended;
  }
  runs_ended runs a c ended run = record {
    ran = run.ran;
    room = run.room;
    numbers = run.numbers;
    keeps = run.keeps;
    given = run.given;
    left = run.left;
    back = run.back;
    ends = run.ends;
    faults = run.faults;
  }

  -- the links ended or failed for a worker that drew a number below the limit
  pub worked_to_end : ((a b c : J) → keeps_of a b → keeps_of b c → keeps_of a c) → (limit n : ℕ) (drawn all : List ℕ) (a b c : Worker J O) (end : WorkerEnd)
      → all ≡ drawn ++ n ∷ [] → n < limit → sum_by (is_below limit) drawn ≡ length drawn → Run drawn a b → Run [] b c
      → (Some end ≡ Some LimitReached → ⊥)
      → (Some end ≡ Some LinksEnded → Rose (ends_of b.door) (ends_of c.door) × (door_told → left_of c.door ≡ 0))
      → (Some end ≡ Some LinksFailed → Rose (faults_of b.door) (faults_of c.door))
      → HasWorked door_told numbers_told given_of left_of ends_of faults_of back_of room_of ran_of numbers_of stands_of keeps_of limit all a record {
        job =
            c.job;
        door = c.door;
        ended = Some end;
      }
  worked_to_end keeps_more limit n drawn all a b c end is less below first second no_limit at_end at_failure =
      let ends = first.ends in
      let faults = first.faults in
      let one = below_one_more limit n [] less in
      record {
        runs = drawn;
        last = n ∷ [];
        all = is;
        below = below;
        one = omega (arith, one);
        has_run = runs_ended drawn a c (Some end) (runs_more keeps_more drawn drawn [] a b c (sym (append-nil drawn)) first second);
        ended = refl;
        at_limit = λ e. absurd (no_limit e);
        at_end = λ e. (let t = at_end e in (rose_since (ends_of a.door) (ends_of b.door) (ends_of c.door) ends t.0, t.1));
        at_failure = λ e. rose_since (faults_of a.door) (faults_of b.door) (faults_of c.door) faults (at_failure e);
      }
