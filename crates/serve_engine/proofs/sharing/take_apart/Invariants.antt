use Rattle.std.proofs.Common.{◌≡◌, ◌++◌, map, vec_capacity}
use Rattle.std.specs.Vec.Iter.{into_iter_items}
use Rattle.std.specs.List.{AllByRecursion}
use Rattle.turnstile.specs.Passes.{shares}
use Rattle.session_core.specs.Members.{ArePasses}
use Rattle.serve_engine.specs.Sharing.{keeper_of, seat_counter, seat_pass}
use Rattle.serve_engine.proofs.sharing.take_apart.Given as goal

-- the seats so far are taken apart
abbrev pub invariant-loop-seat : goal.invariant-loop-seat
invariant-loop-seat g l = record {
  rest : l.yielded ++ into_iter_items l.seat-iterator ≡ l.fn.seats.items;
  keepers : l.keepers.items ≡ map keeper_of l.yielded;
  counters : l.counters.items ≡ map seat_counter l.yielded;
  passes : l.passes.items ≡ map seat_pass l.yielded;
  places : ArePasses l.passes.items l.counters.items;
  all : AllByRecursion (λ pass. shares pass ≡ 65) l.passes.items;
  rooms : (vec_capacity l.keepers ≡ vec_capacity l.initial.keepers) × (vec_capacity l.counters ≡ vec_capacity l.initial.counters)
      × (vec_capacity l.passes ≡ vec_capacity l.initial.passes);
}
