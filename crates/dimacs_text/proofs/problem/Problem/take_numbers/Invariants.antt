use Rattle.std.proofs.Common.{◌≡◌, map, drop}
use Rattle.dimacs_text.specs.Dimacs.{with_numbers}
use Rattle.dimacs_text.proofs.problem.Problem.take_numbers.Given as goal

abbrev pub invariant-loop-word : goal.invariant-loop-word
invariant-loop-word l = with_numbers l.self (map (λ word. word.now) (drop l.word-index l.words)) ≡ with_numbers l.initial.self (map (λ word. word.now) l.words)
