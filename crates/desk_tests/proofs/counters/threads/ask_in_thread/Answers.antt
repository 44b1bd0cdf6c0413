use denote.RattleType.{RattleType}
use denote.Ref.{NamedLft}
use denote.Param.Send.{IsSend, IsSync, sendable}
use Rattle.std.proofs.Crossing.{crosses}
use Rattle.turnstile.specs.declared.steps.Recorded as recorded
use Rattle.turnstile.proofs.pass.Pass.TheSendSync as pass
use Rattle.desk_counter.specs.declared.ticketed_desk.Owned as owned
use Rattle.desk_tests.specs.contracts.counters.threads.Session as Session
use Rattle.desk_counter.proofs.Crossing.{ticketed_desk_send, counter_sync}
use Rattle.desk_tests.proofs.counters.threads.ask_in_thread.Goals as goal

session_send : (a w : NamedLft) (V G I F : RattleType) (o : owned.Ghosts V.Denot I.Denot F.Denot) (r : recorded.Ghosts V.Denot I.Denot F.Denot) → IsSend V
    → IsSync G → IsSend (Session.the_row a w V G I F o r)
session_send a w V G I F o r s y = search (sendable, crosses, counter_sync, pass.the_field_send) depth 30

pub work_beside-requires-send-J : goal.work_beside-requires-send-J
work_beside-requires-send-J g c κs within = search (sendable, session_send, ticketed_desk_send) depth 30
