-- Passes that are split off for workers, and meet again.
use Rattle.std.specs.Prelude.{◌≡◌, ℕ, ◌^◌, ◌≤◌, [], None}
use Rattle.std.specs.List.{AllByRecursion, AllZip}
use Rattle.turnstile.specs.History.{IsPrefix}
use Rattle.turnstile.specs.Passes.{seen, shares, turns}
use Rattle.desk_counter.specs.declared.item.TurnItem.{TurnItem}
use Rattle.desk_counter.specs.declared.item.Fixed.{Fixed}
use Rattle.desk_counter.specs.declared.ticketed_desk.TicketedDesk.{TicketedDesk}
use Rattle.session_core.specs.declared.counters.CountersOf.{CountersOf}
use Rattle.session_core.specs.declared.counters.Passes.{Passes}
use Rattle.session_core.specs.Members.{passes_in}
use Rattle.worker_pool.specs.declared.worker.Worker.{Worker}
use Rattle.serve_engine.specs.declared.job.SessionJobOf.{SessionJobOf}
use Rattle.serve_engine.specs.Served.{SameEntries}
use Rattle.serve_engine.specs.Members.{own_at}
use Rattle.serve_engine.specs.Jobs.{job_counters, job_passes, job_runs}

module _ {D : Type 0} where
  -- each pass has so many shares
  abbrev pub HaveShares : ℕ → Passes D → Type 0
  HaveShares count passes = AllByRecursion (λ pass. shares pass ≡ count) (passes_in passes)

  -- each has at least so many turns
  abbrev pub HaveTurns : ℕ → Passes D → Type 0
  HaveTurns count passes = AllByRecursion (λ pass. count ≤ turns pass) (passes_in passes)

  -- each has seen all that the one at its place in the first list has
  abbrev pub AreOn : Passes D → Passes D → Type 0
  AreOn before after =
      AllZip (λ earlier later. IsPrefix (seen earlier) (seen later)) (passes_in before)
      (passes_in after)

  -- each has the same entries of its own
  abbrev pub OwnAlike : Passes D → Passes D → Type 0
  OwnAlike before after = (place : ℕ)
      → SameEntries (own_at place (passes_in after)) (own_at place (passes_in before))

  -- none has entries of its own
  abbrev pub NoneOwn : Passes D → Type 0
  NoneOwn passes = (place : ℕ) → own_at place (passes_in passes) ≡ []

  -- passes for one worker, which were split off from these
  pub record AreParts (before part : Passes D) : Type 0 where
    pub shares_are : HaveShares 1 part
    pub turns_are : HaveTurns (2 ^ 57) part
    pub on : AreOn before part
    pub none_own : NoneOwn part

module _ {D G O : Type 0} {g h : _} where
  -- a worker's job is at these counters, with such passes, and it hasn't begun
  pub record IsWorkerFresh (counters : CountersOf (TicketedDesk D g) TurnItem (Fixed D) h)
      (before : Passes D)
      (worker : Worker (SessionJobOf (TicketedDesk D g) D G h) O) : Type 0 where
    pub counters_are : job_counters worker.job ≡ counters
    pub parts : AreParts before (job_passes worker.job)
    pub none : job_runs worker.job ≡ 0
    pub running : worker.ended ≡ None

  -- a worker's job is at these counters, and its passes have one share
  pub record IsWorkerBack (counters : CountersOf (TicketedDesk D g) TurnItem (Fixed D) h)
      (worker : Worker (SessionJobOf (TicketedDesk D g) D G h) O) : Type 0 where
    pub counters_are : job_counters worker.job ≡ counters
    pub shares_are : HaveShares 1 (job_passes worker.job)
