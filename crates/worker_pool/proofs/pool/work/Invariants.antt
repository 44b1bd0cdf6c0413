use Rattle.std.proofs.Common.{◌≡◌, ◌≤◌, ◌+◌, ◌^◌, length, sum_by}
use Rattle.worker_pool.specs.Hands.{is_below}
use Rattle.worker_pool.specs.Drawers.{hand_of, drawn, IsAt}
use Rattle.worker_pool.specs.Runs.{HasRun}
use Rattle.worker_pool.proofs.pool.work.Given as goal

-- all numbers so far are below the limit, and the job ran with each
abbrev pub invariant-loop : goal.invariant-loop
invariant-loop g l = record {
  place : IsAt l.numbers l.seated.drawer;
  part : (hand_of l.seated.drawer).parts ≡ 1;
  turns : (hand_of l.seated.drawer).turns + l.counter ≡ 2 ^ 31;
  count : length (drawn l.seated.drawer) ≡ l.counter;
  below : sum_by (is_below l.limit) (drawn l.seated.drawer) ≡ l.counter;
  few : l.counter ≤ l.limit;
  has_run : HasRun g.O.Door.tells g.J.Job.tells g.O.Door.given g.O.Door.left g.O.Door.ends g.O.Door.faults g.O.Door.back g.J.Job.room g.J.Job.ran
      g.J.Job.numbers g.J.Job.stands g.J.Job.keeps
      (drawn l.seated.drawer) l.initial.seated.worker l.seated.worker;
}
