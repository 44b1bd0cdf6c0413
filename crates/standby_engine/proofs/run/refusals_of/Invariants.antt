use Rattle.std.proofs.Common.{◌≡◌, ◌≤◌, length, take, map}
use Rattle.std.specs.Prelude.{vec_len, vec_capacity}
use Rattle.standby_engine.specs.Opened.{place_refusal}
use Rattle.standby_engine.proofs.run.refusals_of.Given as goal

-- the refusals of the first places
abbrev pub invariant-loop-place : goal.invariant-loop-place
invariant-loop-place g l = record {
  so_far : l.refusals.items ≡ map place_refusal (take l.place-index l.places);
  room : length l.places ≤ vec_capacity l.refusals;
  count : vec_len l.refusals ≡ l.place-index;
}
