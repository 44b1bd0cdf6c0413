use Rattle.open_queries.proofs.Grids.{exists_is_some_instance}
use Rattle.open_queries.proofs.laws.law_instances.Goals as goal

pub returns : goal.returns
returns c = exists_is_some_instance
