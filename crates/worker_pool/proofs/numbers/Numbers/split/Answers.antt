use Rattle.std.proofs.Common.{rules}
use Rattle.worker_pool.proofs.Keeps.{parts}
use Rattle.worker_pool.proofs.numbers.Numbers.split.Goals as goal

pub split_seat-seat-requires : goal.split_seat-seat-requires
split_seat-seat-requires c = (search rules, search rules, parts _ _ c.requires.parts c.requires.turns)
