use Rattle.std.proofs.Common.{length, sym, ap, ◌∙◌, arith, lit<}
use Rattle.std.proofs.lemmas.Bool.Decides.{nat_tests}
use Rattle.std.proofs.lemmas.List.{nil_from_length}
use Rattle.std.proofs.lemmas.Str.Pattern.{split_once_first}
use Rattle.dossier.proofs.Lines.{word-alone, word-before, word-whole}
use Rattle.dossier.proofs.cut.first_word.Goals as goal

pub returns-then-is_empty-clause-word : goal.returns-then-is_empty-clause-word
returns-then-is_empty-clause-word c =
    let (within, front, back) = rw c.in-Some.is at
    (split_once_first 32 c.args.line.now c.split_once.result c.split_once.ensures.cases (lit< tt)) in
    sym (ap (λ p. p.0) (word-alone c.args.line.now _ _ (sym back ∙ nil_from_length c.in-Some.rest.now (grind (arith, nat_tests)))))

pub returns-then-is_empty-clause-rest : goal.returns-then-is_empty-clause-rest
returns-then-is_empty-clause-rest c =
    let (within, front, back) = rw c.in-Some.is at
    (split_once_first 32 c.args.line.now c.split_once.result c.split_once.ensures.cases (lit< tt)) in
    sym (ap (λ p. p.1) (word-alone c.args.line.now _ _ (sym back ∙ nil_from_length c.in-Some.rest.now (grind (arith, nat_tests)))))

pub returns-else-is_empty-clause-word : goal.returns-else-is_empty-clause-word
returns-else-is_empty-clause-word c =
    let (within, front, back) = rw c.in-Some.is at
    (split_once_first 32 c.args.line.now c.split_once.result c.split_once.ensures.cases (lit< tt)) in
    front ∙ sym (ap (λ p. p.0) (word-before c.args.line.now _ _ (grind (arith, nat_tests, ap length back))))

pub returns-else-is_empty-clause-rest : goal.returns-else-is_empty-clause-rest
returns-else-is_empty-clause-rest c =
    let (within, front, back) = rw c.in-Some.is at
    (split_once_first 32 c.args.line.now c.split_once.result c.split_once.ensures.cases (lit< tt)) in
    back ∙ sym (ap (λ p. p.1) (word-before c.args.line.now _ _ (grind (arith, nat_tests, ap length back))))

pub returns-in-None-clause-word : goal.returns-in-None-clause-word
returns-in-None-clause-word c =
    sym (ap (λ p. p.0) (word-whole c.args.line.now
    (rw c.in-None.is at (split_once_first 32 c.args.line.now c.split_once.result c.split_once.ensures.cases (lit< tt)))))

pub returns-in-None-clause-rest : goal.returns-in-None-clause-rest
returns-in-None-clause-rest c =
    sym (ap (λ p. p.1) (word-whole c.args.line.now
    (rw c.in-None.is at (split_once_first 32 c.args.line.now c.split_once.result c.split_once.ensures.cases (lit< tt)))))
