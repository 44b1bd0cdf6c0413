-- What workers did.
use Rattle.std.specs.Prelude.{◌≡◌, ℕ, ◌+◌, ◌<◌, ◌≤◌, ◌==◌, List, [], ◌∷◌, ◌++◌, length, drop, All}
use Rattle.std.specs.Prelude.{Option, Some, None, IsSome, count_by}
use Rattle.outside.specs.Faults.{Rose}
use Rattle.outside.specs.Visits.{Visit}
use Rattle.worker_pool.specs.declared.worker.Worker.{Worker}
use Rattle.worker_pool.specs.declared.worker.WorkerEnd.{WorkerEnd}
use Rattle.worker_pool.specs.declared.worker.WorkerEnd.TheVariants.{LinksEnded, LimitReached}
use Rattle.worker_pool.specs.declared.worker.WorkerEnd.TheVariants.{LinksFailed}

-- these numbers are below the limit, and no two are the same
pub record AreDifferentBelow (limit : ℕ) (numbers : List ℕ) : Type 0 where
  pub below : All (λ n. n < limit) numbers
  pub different : (n : ℕ) → count_by (λ m. m == n) numbers ≤ 1

-- how many numbers below the limit a worker may have drawn in vain: one where his links ended or
-- failed
abbrev pub lost : Option WorkerEnd → ℕ
lost None = 0
lost (Some LinksEnded) = 1
lost (Some LimitReached) = 0
lost (Some LinksFailed) = 1

-- so many visits came behind the others, and they stand so
pub record HasVisits (stands : List Visit → Type 0) (count : ℕ) (before after : List Visit) :
    Type 0 where
  pub visits : List Visit
  pub behind : after ≡ before ++ visits
  pub many : length visits ≡ count
  pub stand : stands visits

module _ {J O : Type 0} (numbers_of : J → List ℕ) where
  -- the numbers that jobs were run with: those that were added to the ones before
  abbrev pub added_numbers : List (Worker J O) → List (Worker J O) → List ℕ
  added_numbers (before ∷ workers) (after ∷ others) =
      drop (length (numbers_of before.job)) (numbers_of after.job) ++ added_numbers workers others
  added_numbers [] others = []
  added_numbers (before ∷ workers) [] = []

module _ {J O : Type 0} (door_told : Type 0) (given_of left_of ends_of faults_of : O → ℕ)
    (back_of : O → List Visit)
    (room_of ran_of : J → ℕ) (stands_of : J → J → List Visit → Type 0)
    (keeps_of : J → J → Type 0) where
  -- A worker before it served and after it ended. Where the door tells it, its job ran once for
  -- each connection that the door gave, and the door has one visit more for each, which all stand
  -- with the job, in their order.
  pub record IsWorkedThrough (before after : Worker J O) : Type 0 where
    pub given : door_told → given_of after.door ≡ given_of before.door + ran_of after.job
    pub left : door_told → left_of before.door ≡ ran_of after.job + left_of after.door
    pub back : door_told
        → HasVisits (stands_of before.job after.job) (ran_of after.job) (back_of before.door)
        (back_of after.door)
    pub room : room_of before.job ≤ room_of after.job + ran_of after.job
    pub keeps : keeps_of before.job after.job
    pub ends : ends_of before.door ≤ ends_of after.door
    pub faults : faults_of before.door ≤ faults_of after.door
    -- how it ended, and where that comes from
    pub ended : IsSome after.ended
    pub at_end : after.ended ≡ Some LinksEnded → Rose (ends_of before.door) (ends_of after.door)
        × (door_told → left_of after.door ≡ 0)
    pub at_failure : after.ended ≡ Some LinksFailed
        → Rose (faults_of before.door) (faults_of after.door)
