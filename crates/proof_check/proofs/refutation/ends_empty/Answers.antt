use Rattle.std.proofs.Common.{sym, ◌∙◌}
use Rattle.proof_check.proofs.Steps.{ends_empty-at_last, is_empty_clause-length}
use Rattle.proof_check.proofs.refutation.ends_empty.Goals as goal

pub returns-in-Some : goal.returns-in-Some
returns-in-Some c =
    let clause = c.in-Some.line.now.clause in
    c.is_empty.ensures
    ∙ is_empty_clause-length clause.items _ clause.ok.0
    ∙ sym (ends_empty-at_last c.args.lines.now c.in-Some.line.now (sym c.in-Some.ensures.value))
