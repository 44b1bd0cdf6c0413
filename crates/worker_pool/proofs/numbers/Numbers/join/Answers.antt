use Rattle.std.proofs.Common.{rules}
use Rattle.worker_pool.proofs.Keeps.{meets}
use Rattle.worker_pool.proofs.numbers.Numbers.join.Goals as goal

pub join_seat-requires : goal.join_seat-requires
join_seat-requires c = (search rules, search rules, search rules, search rules, meets _ _ _ _ c.requires.parts)
