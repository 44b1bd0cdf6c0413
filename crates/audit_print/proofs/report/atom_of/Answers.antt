use Rattle.std.proofs.Common.{◌≤◌, ◌++◌, length, sym, ap, subst, ◌∙◌, arith}
use Rattle.audit_print.specs.Said.{constants_in}
use Rattle.audit_print.proofs.Atoms.{few_constants, six_columns}
use Rattle.audit_print.proofs.report.atom_of.Goals as goal

pub from_vec-requires : goal.from_vec-requires
from_vec-requires c =
    let few = few_constants c.columns_of.result.now c.args.fact.now.columns in
    let six = six_columns c.args.schema.now c.args.fact.now c.requires in
    let terms = c.in_ok-push_constants.ensures ∙ ap (λ l. l ++ constants_in c.columns_of.result.now c.args.fact.now.columns) c.new-terms.ensures.items in
    subst (λ l. length l ≤ 6) (sym terms) (omega (arith, few, six))
