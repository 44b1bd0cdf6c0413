-- What a worker did so far, and how that goes on.
use Rattle.std.specs.Prelude.{◌≡◌, ℕ, ◌+◌, ◌≤◌, List, [], ◌∷◌, ◌++◌, length, sum_by, Some, IsSome}
use Rattle.outside.specs.Faults.{Rose}
use Rattle.outside.specs.Visits.{Visit}
use Rattle.worker_pool.specs.declared.worker.Worker.{Worker}
use Rattle.worker_pool.specs.declared.worker.WorkerEnd.TheVariants.{LinksEnded, LimitReached}
use Rattle.worker_pool.specs.declared.worker.WorkerEnd.TheVariants.{LinksFailed}
use Rattle.worker_pool.specs.Hands.{is_below}
use Rattle.worker_pool.specs.Workers.{HasVisits}

module _ {J O : Type 0} (door_told numbers_told : Type 0)
    (given_of left_of ends_of faults_of : O → ℕ) (back_of : O → List Visit)
    (room_of ran_of : J → ℕ) (numbers_of : J → List ℕ) (stands_of : J → J → List Visit → Type 0)
    (keeps_of : J → J → Type 0) where
  -- the worker's job was run with these numbers, once for each connection that its door gave
  pub record HasRun (runs : List ℕ) (before after : Worker J O) : Type 0 where
    pub ran : ran_of after.job ≡ ran_of before.job + length runs
    pub room : room_of before.job ≤ room_of after.job + length runs
    pub numbers : numbers_told → numbers_of after.job ≡ numbers_of before.job ++ runs
    pub keeps : keeps_of before.job after.job
    pub given : door_told → given_of after.door ≡ given_of before.door + length runs
    pub left : door_told → left_of before.door ≡ length runs + left_of after.door
    pub back : door_told → (first : J) (earlier : List Visit) → stands_of first before.job earlier
        → HasVisits (λ visits. stands_of first after.job (earlier ++ visits)) (length runs)
        (back_of before.door) (back_of after.door)
    pub ends : ends_of before.door ≤ ends_of after.door
    pub faults : faults_of before.door ≤ faults_of after.door

  -- the worker drew these numbers and ended: it ran with all of them that are below the limit, but
  -- for the last where its links ended
  pub record HasWorked (limit : ℕ) (drawn : List ℕ) (before after : Worker J O) : Type 0 where
    pub runs : List ℕ
    pub last : List ℕ
    pub all : drawn ≡ runs ++ last
    pub below : sum_by (is_below limit) runs ≡ length runs
    pub one : sum_by (is_below limit) last ≤ 1
    pub has_run : HasRun runs before after
    pub ended : IsSome after.ended
    pub at_limit : after.ended ≡ Some LimitReached → (n : ℕ) × (last ≡ n ∷ []) × (limit ≤ n)
    pub at_end : after.ended ≡ Some LinksEnded → Rose (ends_of before.door) (ends_of after.door)
        × (door_told → left_of after.door ≡ 0)
    pub at_failure : after.ended ≡ Some LinksFailed
        → Rose (faults_of before.door) (faults_of after.door)
