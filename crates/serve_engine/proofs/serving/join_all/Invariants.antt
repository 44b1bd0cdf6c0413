use Rattle.std.proofs.Common.{◌≡◌, ℕ, ◌+◌, ◌++◌, length}
use Rattle.std.specs.Vec.Iter.{into_iter_items}
use Rattle.session_core.specs.Members.{ArePassesOf}
use Rattle.serve_engine.specs.Passing.{HaveShares, AreOn, OwnAlike}
use Rattle.serve_engine.proofs.serving.join_all.Given as goal

-- the passes so far are joined
abbrev pub invariant-loop-part : goal.invariant-loop-part
invariant-loop-part g l = record {
  rest : l.yielded ++ into_iter_items l.part-iterator ≡ l.fn.parts.items;
  these : ArePassesOf l.passes l.counters;
  on : AreOn l.initial.passes l.passes;
  own : OwnAlike l.initial.passes l.passes;
  shares : (n : ℕ) × HaveShares n l.passes × (n + length (into_iter_items l.part-iterator) ≡ 65);
}
