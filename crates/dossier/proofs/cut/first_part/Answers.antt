use Rattle.std.proofs.Common.{◌==◌}
use Rattle.std.proofs.lemmas.Str.Pattern.{split_once_first}
use Rattle.dossier.proofs.Lines.{cut-parts, last-part, back-less}
use Rattle.dossier.proofs.cut.first_part.Goals as goal

pub returns-in-Some-clause-first : goal.returns-in-Some-clause-first
returns-in-Some-clause-first c =
    let (within, front, back) = rw c.in-Some.is at
    (split_once_first c.args.end c.args.text.now c.split_once.result c.split_once.ensures.cases c.requires.ascii) in
    cut-parts (λ b. b == c.args.end) c.args.text.now c.in-Some.part.now c.in-Some.rest.now within front back

pub returns-in-Some-clause-less : goal.returns-in-Some-clause-less
returns-in-Some-clause-less c =
    let (within, front, back) = rw c.in-Some.is at
    (split_once_first c.args.end c.args.text.now c.split_once.result c.split_once.ensures.cases c.requires.ascii) in
    back-less (λ b. b == c.args.end) c.args.text.now c.in-Some.rest.now within back

pub returns-in-None-clause-first : goal.returns-in-None-clause-first
returns-in-None-clause-first c =
    let none = rw c.in-None.is at (split_once_first c.args.end c.args.text.now c.split_once.result c.split_once.ensures.cases c.requires.ascii) in
    last-part (λ b. b == c.args.end) c.args.text.now none c.requires.some
