use Rattle.std.proofs.Common.{◌≡◌, ◌++◌, map}
use Rattle.std.specs.Prelude.{vec_capacity, string_bytes}
use Rattle.std.specs.Vec.Iter.{into_iter_items}
use Rattle.standby_engine.specs.Opened.{opened_in, names_in, others_in}
use Rattle.standby_engine.proofs.run.take_apart.Given as goal

-- the first places are taken apart
abbrev pub invariant-loop-place : goal.invariant-loop-place
invariant-loop-place g l = record {
  rest : l.yielded ++ into_iter_items l.place-iterator ≡ l.fn.places.items;
  journals : l.journals.items ≡ opened_in l.yielded;
  names : map string_bytes l.names.items ≡ names_in l.yielded;
  others : l.given.items ≡ others_in l.yielded;
  rooms : (vec_capacity l.journals ≡ vec_capacity l.fn.journals) × (vec_capacity l.names ≡ vec_capacity l.fn.names)
      × (vec_capacity l.given ≡ vec_capacity l.fn.given);
}
