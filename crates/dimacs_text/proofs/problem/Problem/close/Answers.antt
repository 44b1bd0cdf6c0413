use Rattle.std.proofs.Common.{rules, ◌≡◌, ◌<◌, ◌++◌, ◌∷◌, [], length, arith}
use Rattle.dimacs_text.specs.Inside.{problem_inside}
use Rattle.dimacs_text.proofs.Additions.{clause_closed}
use Rattle.dimacs_text.proofs.problem.Problem.close.Goals as goal

pub invariant_of-self-2 : goal.invariant_of-self-2
invariant_of-self-2 c =
    let p = problem_inside c.self.inside in
    let few : length p.clauses < 1000000 = omega (arith, c.len.ensures, c.if-len-most.false) in
    let pushed : c.push.new.self ≡ p.clauses ++ p.unfinished ∷ [] = search rules in
    clause_closed p c.push.new.self c.clear.new.self.items c.self.invariant few pushed c.clear.ensures.items
