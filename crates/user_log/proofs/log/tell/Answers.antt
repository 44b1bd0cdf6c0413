use Rattle.std.proofs.Common.{false}
use Rattle.user_log.proofs.log.tell.Goals as goal

pub push_reserved-requires-in-No-clause-nodes : goal.push_reserved-requires-in-No-clause-nodes
push_reserved-requires-in-No-clause-nodes c = c.requires.nodes false
