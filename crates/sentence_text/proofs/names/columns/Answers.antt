use Rattle.std.proofs.Common.{◌≤◌, length, sym, subst}
use Rattle.sentence_text.proofs.ByNumber.{valid_columns}
use Rattle.sentence_text.proofs.names.columns.Goals as goal

pub returns-clause-few : goal.returns-clause-few
returns-clause-few c = subst (λ ds. length ds ≤ 6) (sym c.column_domains.ensures) (valid_columns c.args.schema.now c.args.relation c.known.ensures)
