use Rattle.cqe_base.specs.Formula.{formula_of}
use Rattle.sentence_text.proofs.Clauses.{is_read_back}
use Rattle.sentence_text.proofs.RoundTrip.{canonical_forms_read}
use Rattle.sentence_text.proofs.printer.print_sentence.Goals as goal

pub returns-clause-read_back : goal.returns-clause-read_back
returns-clause-read_back c =
    λ fits. is_read_back c.args.schema.now (formula_of c.args.sentence.now) c.print_exactly.result c.print_exactly.ensures
    (canonical_forms_read c.args.schema.now (formula_of c.args.sentence.now) c.known.ensures c.requires fits)
