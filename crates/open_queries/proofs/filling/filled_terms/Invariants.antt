use Rattle.std.proofs.Common.{◌≡◌, length, map, take}
use Rattle.open_queries.specs.Instances.{filled_term}
use Rattle.open_queries.proofs.filling.filled_terms.Given as goal

abbrev pub invariant-loop-term : goal.invariant-loop-term
invariant-loop-term l = record {
  made : l.made.items ≡ map (filled_term l.constants) (take l.term-index l.terms);
  few : length l.made.items ≡ l.term-index;
}
