use Rattle.std.proofs.Common.{◌≡◌, ◌++◌, All, length, map, vec_capacity}
use Rattle.std.specs.Vec.Iter.{into_iter_items}
use Rattle.session_core.specs.Members.{ArePassesOf, fixeds_of, passes_in}
use Rattle.session_core.specs.declared.counters.Passes.{Passes}
use Rattle.serve_engine.specs.Members.{HaveSeenOpenings}
use Rattle.serve_engine.specs.Passing.{AreParts, IsWorkerFresh}
use Rattle.serve_engine.proofs.serving.crew_of.Given as goal

-- the doors so far have their workers
abbrev pub invariant-loop-door : goal.invariant-loop-door
invariant-loop-door g l = record {
  rest : l.yielded ++ into_iter_items l.door-iterator ≡ l.fn.doors.items;
  doors : map (λ worker. worker.door) l.crew.items ≡ l.yielded;
  count : length l.parts.items ≡ length (into_iter_items l.door-iterator);
  those : All (λ part. ArePassesOf part l.counters) l.parts.items;
  opened : All (λ part. HaveSeenOpenings (fixeds_of l.counters) (passes_in part)) l.parts.items;
  fresh : (before : Passes g.row.D.Denot) → All (AreParts before) l.fn.parts.items → All (IsWorkerFresh l.counters before) l.crew.items
      × All (AreParts before) l.parts.items;
  room : vec_capacity l.crew ≡ vec_capacity l.initial.crew;
}
