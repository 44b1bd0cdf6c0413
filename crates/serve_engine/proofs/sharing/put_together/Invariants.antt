use Rattle.std.proofs.Common.{◌≡◌, ◌+◌, ◌++◌, map, length, vec_capacity}
use Rattle.std.specs.List.{AllByRecursion}
use Rattle.std.specs.Vec.Iter.{into_iter_items}
use Rattle.turnstile.specs.Passes.{shares}
use Rattle.session_core.specs.Members.{ArePasses}
use Rattle.serve_engine.specs.Sharing.{keeper_of, seat_counter, seat_pass}
use Rattle.serve_engine.proofs.sharing.put_together.Given as goal

-- the seats so far are together again
abbrev pub invariant-loop-keeper : goal.invariant-loop-keeper
invariant-loop-keeper g l = record {
  rest : l.yielded ++ into_iter_items l.keeper-iterator ≡ l.fn.keepers.items;
  keepers : map keeper_of l.seats.items ≡ l.yielded;
  counters : map seat_counter l.seats.items ++ l.counters.items ≡ l.fn.counters.items;
  passes : map seat_pass l.seats.items ++ l.passes.items ≡ l.fn.passes.items;
  counts : (length l.counters.items + length l.yielded ≡ length l.fn.keepers.items) × (length l.passes.items ≡ length l.counters.items);
  place : ArePasses l.passes.items l.counters.items;
  all : AllByRecursion (λ pass. shares pass ≡ 65) l.passes.items;
  room : vec_capacity l.seats ≡ vec_capacity l.initial.seats;
}
