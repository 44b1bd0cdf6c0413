use Rattle.cqe_base.specs.Formula.{is_sentence_of}
use Rattle.cqe_base.specs.History.{AnsweredQuery, answered_query_of}
use Rattle.audit_print.proofs.Each.{all_at}
use Rattle.audit_print.proofs.report.entry_rows.Goals as goal

pub print_sentence-requires : goal.print_sentence-requires
print_sentence-requires c =
    all_at (λ (e : AnsweredQuery). is_sentence_of c.args.schema.now e.query) answered_query_of c.args.entries.now c.loop-entry.entry-index c.entry-item.result
    c.requires c.entry-item.is c.loop-entry-test.true
