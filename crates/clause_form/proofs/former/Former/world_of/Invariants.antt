use Rattle.std.proofs.Common.{◌≡◌, ◌≤◌, map, length}
use Rattle.std.specs.List.{list_any}
use Rattle.std.specs.Map.Iter.{deref_pair}
use Rattle.std.specs.Ordering.{eq_by_cmp}
use Rattle.std.specs.FinSet as set
use Rattle.cqe_base.specs.declared.world.Fact.{Fact}
use Rattle.cqe_base.specs.Facts.{fact_cmp}
use Rattle.cqe_base.specs.Literal.{sign_at}
use Rattle.clause_form.specs.Inside.{numbered_facts}
use Rattle.clause_form.proofs.FactSigns.{true_facts}
use Rattle.clause_form.proofs.former.Former.world_of.Given as goal

abbrev pub invariant-loop-fact : goal.invariant-loop-fact
invariant-loop-fact l = record {
  members : (q : Fact)
      → set.contains l.world q ≡ list_any (eq_by_cmp fact_cmp q) (true_facts (numbered_facts (map deref_pair l.yielded)) (sign_at l.model.values.items));
  few : set.len l.world ≤ length l.yielded;
}
