use Rattle.cqe_base.proofs.Occurrences.{grounded_facts_are_of_schema}
use Rattle.cqe_base.proofs.machine_laws.law_grounded_facts_are_of_schema.Goals as goal

pub returns : goal.returns
returns c = grounded_facts_are_of_schema
