use Rattle.std.proofs.Common.{◌≤◌, sym, subst}
use Rattle.cqe_base.proofs.Valid.{valid_domain_size}
use Rattle.cqe_base.proofs.schema.Schema.domain_size.Goals as goal

pub returns-clause-few : goal.returns-clause-few
returns-clause-few c = subst (λ n. n ≤ 1024) (sym c.constants_in.ensures) (valid_domain_size c.args.self.now c.args.domain c.known.ensures)
