use Rattle.std.proofs.Common.{◌≡◌, ◌<◌, ℕ, length, map}
use Rattle.std.specs.Prelude.{None, slice_index_or}
use Rattle.cqe_base.specs.History.{profile_of, answered_query_of}
use Rattle.audit_print.specs.Others.{IsOther}
use Rattle.audit_print.proofs.others.other_worlds.Given as goal

-- each secret so far has its world
abbrev pub invariant-loop-secret : goal.invariant-loop-secret
invariant-loop-secret l = record {
  count : length l.found.items ≡ l.secret;
  each : (k : ℕ) → k < l.secret → IsOther l.schema (profile_of l.user) (map answered_query_of l.entries) k (slice_index_or l.found.items k None);
}
