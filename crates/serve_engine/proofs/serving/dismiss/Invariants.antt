use Rattle.std.proofs.Common.{◌≡◌, ℕ, ◌+◌, ◌++◌, All, length, map, vec_capacity}
use Rattle.std.specs.List.{flat_map}
use Rattle.std.specs.Vec.Iter.{into_iter_items}
use Rattle.session_core.specs.Members.{ArePassesOf, passes_in}
use Rattle.serve_engine.specs.Served.{SameEntries}
use Rattle.serve_engine.specs.Members.{own_at}
use Rattle.serve_engine.specs.Jobs.{job_passes}
use Rattle.serve_engine.specs.Passing.{HaveShares, AreOn}
use Rattle.serve_engine.proofs.serving.dismiss.Given as goal

-- the doors of the workers so far are back, and their passes are joined
abbrev pub invariant-loop-worker : goal.invariant-loop-worker
invariant-loop-worker g l = record {
  rest : l.yielded ++ into_iter_items l.worker-iterator ≡ l.fn.crew.items;
  doors : l.doors.items ≡ map (λ worker. worker.door) l.yielded;
  these : ArePassesOf l.passes l.counters;
  on : AreOn l.initial.passes l.passes;
  all_on : All (λ worker. AreOn (job_passes worker.job) l.passes) l.yielded;
  own : (place : ℕ) → SameEntries (own_at place (passes_in l.passes))
      (own_at place (passes_in l.initial.passes) ++ flat_map (λ worker. own_at place (passes_in (job_passes worker.job))) l.yielded);
  shares : (n : ℕ) × HaveShares n l.passes × (n + length (into_iter_items l.worker-iterator) ≡ 65);
  room : vec_capacity l.doors ≡ vec_capacity l.initial.doors;
}
