use Rattle.cqe_base.proofs.Secrecies.{secrets_are_counted, secrets_all_pass}
use Rattle.cqe_base.proofs.laws.law_secrets_made.Goals as goal

pub returns-clause-count : goal.returns-clause-count
returns-clause-count c = secrets_are_counted

pub returns-clause-pass : goal.returns-clause-pass
returns-clause-pass c = secrets_all_pass
