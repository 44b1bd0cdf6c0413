use Rattle.std.proofs.Common.{◌≡◌, ℕ, List, drop}
use Rattle.std.specs.Option.{option_or}
use Rattle.std.specs.HashMap.{get_by_text}
use Rattle.cqe_base.proofs.ByName.{from_place}
use Rattle.cqe_base.proofs.constants.add_constants.Given as goal

abbrev pub invariant-loop-place : goal.invariant-loop-place
invariant-loop-place l = (text : List ℕ) →
    option_or (get_by_text l.by_name text) (from_place l.domain l.place (drop l.place l.names) text)
    ≡ option_or (get_by_text l.fn.by_name text) (from_place l.domain 0 l.names text)
