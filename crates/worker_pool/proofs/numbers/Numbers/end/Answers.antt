use Rattle.worker_pool.proofs.Keeps.{ends}
use Rattle.worker_pool.proofs.numbers.Numbers.end.Goals as goal

pub returns : goal.returns
returns c = ends c.args.drawer.seat.id c.args.drawer.seat.me.0 _ _ c.close_with-closed.ensures.values.2 c.requires.parts
