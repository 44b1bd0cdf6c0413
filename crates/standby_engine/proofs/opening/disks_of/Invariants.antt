use Rattle.std.proofs.Common.{◌≡◌, ◌++◌, map}
use Rattle.std.specs.Prelude.{vec_capacity}
use Rattle.std.specs.Vec.Iter.{into_iter_items}
use Rattle.standby_engine.specs.Opened.{given_journal, place_journal, place_disk}
use Rattle.standby_engine.proofs.opening.disks_of.Given as goal

-- the disks of the first places
abbrev pub invariant-loop-place : goal.invariant-loop-place
invariant-loop-place g l = record {
  rest : l.yielded ++ into_iter_items l.place-iterator ≡ l.fn.places.items;
  names : map given_journal l.all.items ≡ map place_journal l.yielded;
  disks : map (λ given. given.disk) l.all.items ≡ map place_disk l.yielded;
  room : vec_capacity l.all ≡ vec_capacity l.fn.room;
}
