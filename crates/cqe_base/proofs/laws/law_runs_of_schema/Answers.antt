use Rattle.cqe_base.proofs.Scripts.{runs_stay_of_schema}
use Rattle.cqe_base.proofs.laws.law_runs_of_schema.Goals as goal

pub returns : goal.returns
returns c = runs_stay_of_schema
