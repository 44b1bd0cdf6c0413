-- Doors before and after their connections were served.
use Rattle.std.specs.Prelude.{◌≡◌, ◌≢◌, ◌⊎◌, ℕ, ◌+◌, ◌<◌, ◌≤◌, Bool, true, false, List, [], ◌∷◌}
use Rattle.std.specs.Prelude.{◌++◌}
use Rattle.std.specs.Prelude.{All, length, Option, Some, None, if◌then◌else◌}
use Rattle.std.specs.List.{AllZip, list_any, sum_by}
use Rattle.outside.specs.Visits.{Visit, one_if_any}
use Rattle.outside.specs.declared.links.Door.{Ghosts as DoorGhosts}
use Rattle.worker_pool.specs.declared.worker.Worker.{Worker}
use Rattle.worker_pool.specs.declared.worker.WorkerEnd.{WorkerEnd}
use Rattle.worker_pool.specs.declared.worker.WorkerEnd.TheVariants.{LinksEnded, LimitReached}
use Rattle.worker_pool.specs.declared.worker.WorkerEnd.TheVariants.{LinksFailed as LinksHaveFailed}
use Rattle.worker_pool.specs.Workers.{HasVisits}
use Rattle.serve_engine.specs.Served.{SessionMarks}
use Rattle.serve_engine.specs.declared.serving.Outcome.{Outcome}
use Rattle.serve_engine.specs.declared.serving.Outcome.TheVariants.{Served, LinksFailed, Memory}

module _ {O S K : Type 0} (Door : DoorGhosts O S K)
    (stands : Visit → SessionMarks → Type 0) where
  -- A door gave so many connections, which are back, and each stands so with its marks.
  pub record IsServedDoor (count : ℕ) (marks : Door.tells → List SessionMarks) (before after : O) :
      Type 0 where
    pub given : Door.tells → Door.given after ≡ Door.given before + count
    pub left : Door.tells → Door.left before ≡ count + Door.left after
    pub back : (t : Door.tells)
        → HasVisits (λ visits. AllZip stands visits (marks t)) count (Door.back before)
        (Door.back after)
    pub faults : Door.faults before ≤ Door.faults after

  -- doors gave so many together, with these marks
  abbrev pub AreServedDoors : ℕ → (Door.tells → List SessionMarks) → List O → List O → Type 0
  AreServedDoors total marks [] [] = (total ≡ 0) × ((t : Door.tells) → marks t ≡ [])
  AreServedDoors total marks (before ∷ doors) (after ∷ others) =
      (count : ℕ) × (rest : ℕ) × (total ≡ count + rest)
      × (here : Door.tells → List SessionMarks) × (behind : Door.tells → List SessionMarks)
      × ((t : Door.tells) → marks t ≡ here t ++ behind t)
      × IsServedDoor count here before after × AreServedDoors rest behind doors others
  AreServedDoors total marks doors others = ⊥

-- one of the doors has failed
abbrev pub SomeFailed : {O : Type 0} → (O → ℕ) → List O → Type 0
SomeFailed faults_of [] = ⊥
SomeFailed faults_of (door ∷ doors) = (faults_of door ≢ 0) ⊎ SomeFailed faults_of doors

module _ {O S K : Type 0} (Door : DoorGhosts O S K) (limit : ℕ) where
  -- What each outcome says, by how many connections the doors gave together: of the end, that no
  -- door has a connection left, or that these reach the limit, together with the doors that
  -- answered that no further one comes, and are more than the limit together with all doors; of
  -- failed links, that a door has failed; of want of memory, that there were none.
  abbrev pub HasOutcome : Outcome → ℕ → List O → Type 0
  HasOutcome Served total doors = Door.tells → All (λ door. Door.left door ≡ 0) doors
      ⊎ ((limit ≤ total + sum_by (λ door. one_if_any (Door.ends door)) doors)
      × (limit < total + length doors))
  HasOutcome LinksFailed total doors = SomeFailed Door.faults doors
  HasOutcome Memory total doors = total ≡ 0

-- whether a worker's links failed
abbrev pub has_links_failed : Option WorkerEnd → Bool
has_links_failed None = false
has_links_failed (Some LinksEnded) = false
has_links_failed (Some LimitReached) = false
has_links_failed (Some LinksHaveFailed) = true

-- how workers served that have ended
abbrev pub crew_outcome : {J O : Type 0} → List (Worker J O) → Outcome
crew_outcome crew =
    if list_any (λ worker. has_links_failed worker.ended) crew then LinksFailed else Served
