use Rattle.std.proofs.Common.{arith}
use Rattle.cqe_base.specs.Formula.{formula_of, is_sentence_of}
use Rattle.audit_print.proofs.Each.{all_at}
use Rattle.audit_print.proofs.report.secret_row.Goals as goal

pub print_sentence-requires : goal.print_sentence-requires
print_sentence-requires c =
    all_at (is_sentence_of c.args.schema.now) formula_of c.args.user.now.secrets.items c.args.number c.index.result.now c.requires.sentences c.index.ensures
    (omega (arith, c.args.user.now.secrets.ok.0, c.requires.number))
