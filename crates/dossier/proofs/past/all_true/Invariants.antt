use Rattle.cqe_base.specs.declared.sentence.Sentence.{Sentence}
use Rattle.cqe_base.specs.Formula.{formula_of}
use Rattle.cqe_base.specs.Truth.{true_in}
use Rattle.dossier.proofs.Truths.{FromHere}
use Rattle.dossier.proofs.past.all_true.Given as goal

-- the sentences so far are true
abbrev pub invariant-loop-sentence : goal.invariant-loop-sentence
invariant-loop-sentence l = FromHere (λ (s : Sentence). true_in l.schema l.world (formula_of s)) l.sentences l.sentence-index
