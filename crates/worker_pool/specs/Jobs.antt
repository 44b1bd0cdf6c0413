-- What a job is told of the ends of a connection.
use Rattle.std.specs.Prelude.{◌≡◌, ℕ, List, []}

-- Both ends tell their bytes, nothing was taken or written, and neither has failed.
pub record AreUntouchedEnds (source_told sink_told : Type 0) (held left written : List ℕ)
    (source_faults sink_faults : ℕ) : Type 0 where
  pub told : source_told × sink_told
  pub untaken : left ≡ held
  pub unwritten : written ≡ []
  pub whole : (source_faults ≡ 0) × (sink_faults ≡ 0)
