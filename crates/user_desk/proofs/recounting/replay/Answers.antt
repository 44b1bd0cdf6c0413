use Rattle.std.proofs.Common.{map}
use Rattle.cqe_base.specs.History.{profile_of}
use Rattle.log_journal.specs.Opening.{recorded}
use Rattle.user_desk.proofs.recounting.replay.Goals as goal

pub returns-in-Ok : goal.returns-in-Ok
returns-in-Ok c =
    c.outcome_of.ensures c.args.schema.now c.args.world.now (profile_of c.args.user.now) (map recorded c.args.records.now) c.in-Ok.ensures.log
    c.in-Ok.ensures.replay
