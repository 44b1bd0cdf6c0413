use Rattle.std.proofs.Common.{arith}
use Rattle.standby_engine.proofs.Listening.{only_one}
use Rattle.standby_engine.proofs.run.only_door.Goals as goal

pub remove-requires : goal.remove-requires
remove-requires g c =
    let len = c.args.doors.ok.0 in
    omega (arith, len, c.requires)

pub returns : goal.returns
returns g c = only_one c.args.doors.items c.remove.result c.requires c.remove.ensures.value
