use Rattle.desk_crew.proofs.Placing.{open_placed}
use Rattle.desk_crew.proofs.opening.seat_in.Goals as goal

pub unwrap-requires : goal.unwrap-requires
unwrap-requires g c = open_placed c.args.place c.requires
