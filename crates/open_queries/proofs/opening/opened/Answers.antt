use Rattle.cqe_base.specs.declared.sentence.Sentence.{Sentence}
use Rattle.cqe_base.specs.Formula.{formula_of}
use Rattle.open_queries.proofs.Refusing.{refused_reading, refused_opening}
use Rattle.open_queries.proofs.opening.opened.Goals as goal
use Rattle.std.proofs.lemmas.Result.{err_from_is_err_and}

pub returns-in_err-sentence-clause-refused : goal.returns-in_err-sentence-clause-refused
returns-in_err-sentence-clause-refused c =
    let p = err_from_is_err_and c.from_residual.result c.from_residual.ensures.1 in
    rw (p.1, p.2) (refused_reading Sentence c.args.schema.now c.args.count c.args.text.now c.in_err-sentence.field-0.0 c.in_err-sentence.ensures.refused)

pub returns-clause-refused : goal.returns-clause-refused
returns-clause-refused c =
    refused_opening c.args.schema.now c.args.count c.args.text.now (formula_of c.in_ok-sentence.sentence) c.open_sentence.result
    c.in_ok-sentence.ensures.read c.open_sentence.ensures.refused
