use Rattle.cqe_base.specs.declared.user.Entry.{Entry}
use Rattle.cqe_base.specs.Formula.{formula_of}
use Rattle.cqe_base.specs.Entailment.{all_hold_in}
use Rattle.cqe_base.specs.History.{told_by}
use Rattle.dossier.proofs.Truths.{FromHere}
use Rattle.dossier.proofs.past.tells_truth.Given as goal

-- what the items so far tell is true
abbrev pub invariant-loop-entry : goal.invariant-loop-entry
invariant-loop-entry l =
    FromHere (λ (e : Entry). all_hold_in l.schema l.world (told_by e.mark (formula_of e.query))) l.entries l.entry-index
