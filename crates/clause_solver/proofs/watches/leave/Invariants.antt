use Rattle.std.proofs.Common.{◌≡◌, ◌+◌, ◌≤◌, ℕ, [], drop, map, length, get_or}
use Rattle.cqe_base.specs.Literal.{Literal}
use Rattle.clause_store.specs.Codes.{code_of}
use Rattle.clause_solver.specs.Watching.{times_later, times_watched_by, watches_below}
use Rattle.clause_solver.proofs.watches.leave.Given as goal

abbrev pub invariant-loop-i : goal.invariant-loop-i
invariant-loop-i l = record {
  room : length l.lists.items ≡ length l.initial.lists.items;
  below : (m : Literal) → watches_below l.clauses (get_or (map (λ v. v.items) l.lists.items) (code_of m) [])
      ≡ watches_below l.clauses (get_or (map (λ v. v.items) l.initial.lists.items) (code_of m) []);
  fewer : (m : Literal) (left : ℕ)
      → times_later l.clauses (get_or (map (λ v. v.items) l.initial.lists.items) (code_of m) []) ≤ times_watched_by (drop l.clauses l.pairs.items) m + left
      → times_later l.clauses (get_or (map (λ v. v.items) l.lists.items) (code_of m) []) ≤ times_watched_by (drop l.i l.pairs.items) m + left;
}
