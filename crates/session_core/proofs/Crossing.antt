-- Threads may share the counters of all users wherever a desk may go to another thread.
use denote.RattleType.{RattleType}
use denote.Ref.{NamedLft}
use denote.Param.Send.{IsSend, IsSync, sendable}
use Rattle.std.proofs.Crossing.{crosses}
use Rattle.turnstile.specs.declared.steps.Recorded as recorded
use Rattle.desk_counter.specs.declared.ticketed_desk.Owned as owned
use Rattle.desk_counter.proofs.Crossing.{counter_sync, user_sync}
use Rattle.session_core.specs.contracts.counters.CountersOf as CountersOf

pub counters_sync : (w : NamedLft) (V I F : RattleType) (o : owned.Ghosts V.Denot I.Denot F.Denot) (r : recorded.Ghosts V.Denot I.Denot F.Denot) → IsSend V
    → IsSync (CountersOf.the_row w V I F o r)
counters_sync w V I F o r s = search (sendable, crosses, counter_sync, user_sync) depth 30
