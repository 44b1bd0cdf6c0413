use Rattle.std.proofs.Common.{◌≡◌, map, take}
use Rattle.std.specs.Prelude.{Some}
use Rattle.cqe_base.specs.History.{profile_of}
use Rattle.log_journal.specs.Opening.{recorded}
use Rattle.user_log.specs.UserLogs.{kept_history}
use Rattle.user_desk.specs.Entries.{entry_of}
use Rattle.user_desk.specs.Replays.{IsLogOf}
use Rattle.user_desk.proofs.recounting.replay_records.Given as goal

-- the records so far stand for the entries of the log
abbrev pub invariant-loop-next : goal.invariant-loop-next
invariant-loop-next l =
    IsLogOf l.schema l.world (profile_of l.user) l.log
    × (map (entry_of l.schema) (map recorded (take l.next-index l.records)) ≡ map Some (kept_history l.log))
