use Rattle.std.proofs.Common.{ap, ◌∙◌}
use Rattle.cqe_base.specs.Formula.{is_sentence_of}
use Rattle.audit_print.proofs.Atoms.{atom_is_sentence}
use Rattle.audit_print.proofs.report.fact_text.Goals as goal

pub print_sentence-requires : goal.print_sentence-requires
print_sentence-requires c = ap (is_sentence_of c.args.schema.now) c.in_ok-atom.ensures ∙ atom_is_sentence c.args.schema.now c.args.fact.now c.requires
