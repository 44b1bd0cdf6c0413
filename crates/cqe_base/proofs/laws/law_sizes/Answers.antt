use Rattle.cqe_base.proofs.Limits.{sizes_are_of_schema, secrets_stay_few}
use Rattle.cqe_base.proofs.laws.law_sizes.Goals as goal

pub returns-clause-of_schema : goal.returns-clause-of_schema
returns-clause-of_schema c = sizes_are_of_schema

pub returns-clause-few : goal.returns-clause-few
returns-clause-few c = secrets_stay_few
