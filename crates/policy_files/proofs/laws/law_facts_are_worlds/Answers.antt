use Rattle.policy_files.proofs.WorldsKept.{facts_are_worlds}
use Rattle.policy_files.proofs.laws.law_facts_are_worlds.Goals as goal

pub returns : goal.returns
returns c = facts_are_worlds c.law_grounded_facts_are_of_schema.ensures c.law_reading.ensures.of_schema
