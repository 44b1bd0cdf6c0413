use Rattle.std.proofs.Common.{◌≡◌, length}
use Rattle.cqe_base.specs.Formula.{formula_of}
use Rattle.open_queries.specs.Instances.{exists_over}
use Rattle.open_queries.proofs.opening.without_quantifiers.Given as goal

abbrev pub invariant-loop : goal.invariant-loop
invariant-loop l = record {
  begins : exists_over l.domains.items (formula_of l.body) ≡ formula_of l.sentence;
  quantifiers : length l.domains.items ≡ l.counter;
}
