use Rattle.cqe_base.proofs.Outcomes.{numbered_facts_are_of_schema}
use Rattle.cqe_base.proofs.machine_laws.law_numbered_facts_are_of_schema.Goals as goal

pub returns : goal.returns
returns c = numbered_facts_are_of_schema
