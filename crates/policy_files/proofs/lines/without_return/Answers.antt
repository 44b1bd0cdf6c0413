use Rattle.std.proofs.Common.{◌≡◌, ◌==◌, true, false, sym, ap, ◌∙◌, arith}
use Rattle.std.proofs.lemmas.Bool.Decides.{nat_tests}
use Rattle.cqe_base.specs.Lines.{without_return}
use Rattle.policy_files.proofs.LinesSplit.{without_last, with_last}
use Rattle.policy_files.proofs.lines.without_return.Goals as goal

pub returns-then-last-eq13-clause-content : goal.returns-then-last-eq13-clause-content
returns-then-last-eq13-clause-content c =
    let test : (c.in-Some.last.now == 13) ≡ true = grind (arith, nat_tests) in
    sym (ap without_return c.in-Some.ensures.cases.0 ∙ without_last c.in-Some.front.now c.in-Some.last.now test)

pub returns-else-last-eq13-clause-content : goal.returns-else-last-eq13-clause-content
returns-else-last-eq13-clause-content c =
    let test : (c.in-Some.last.now == 13) ≡ false = grind (arith, nat_tests) in
    let whole = c.in-Some.ensures.cases.0 in
    whole ∙ sym (with_last c.in-Some.front.now c.in-Some.last.now test) ∙ ap without_return (sym whole)
