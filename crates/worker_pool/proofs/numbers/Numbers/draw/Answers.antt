use Rattle.std.proofs.Common.{rules}
use Rattle.worker_pool.proofs.Keeps.{draws}
use Rattle.worker_pool.proofs.numbers.Numbers.draw.Goals as goal

pub fetch_add-requires : goal.fetch_add-requires
fetch_add-requires c = (search rules, search rules, draws _ _ _ c.requires.parts c.requires.turns)
