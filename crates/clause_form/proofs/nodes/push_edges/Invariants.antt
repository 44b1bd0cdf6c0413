use Rattle.std.proofs.Common.{◌≡◌, ◌++◌, ◌∷◌, [], map, drop}
use Rattle.cqe_base.specs.Literal.{distinct_literals}
use Rattle.clause_form.specs.Prefixes.{BeginsWith}
use Rattle.clause_form.proofs.nodes.push_edges.Given as goal

abbrev pub invariant-loop-l : goal.invariant-loop-l
invariant-loop-l l = record {
  pushed :
      l.clauses ++ map (λ x. distinct_literals (l.first ∷ x ∷ [])) (drop l.l-index l.literals)
      ≡ l.initial.clauses ++ map (λ x. distinct_literals (l.first ∷ x ∷ [])) l.literals;
  begins : BeginsWith l.initial.clauses l.clauses;
}
