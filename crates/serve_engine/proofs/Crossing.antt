-- A job may go to another thread wherever the value under its counters and the disks may, and threads may share its gate.
use denote.RattleType.{RattleType}
use denote.Ref.{NamedLft}
use denote.Param.Send.{IsSend, IsSync, sendable}
use Rattle.desk_counter.specs.declared.item.TurnItem.{TurnItem}
use Rattle.desk_counter.specs.declared.item.Fixed.{Fixed}
use Rattle.turnstile.specs.declared.steps.Recorded as recorded
use Rattle.desk_counter.specs.declared.ticketed_desk.Owned as owned
use Rattle.session_core.proofs.Crossing.{counters_sync}
use Rattle.session_core.proofs.counters.Passes.TheSendSync as passes
use Rattle.serve_engine.specs.contracts.job.SessionJobOf as SessionJobOf

module _ (a w : NamedLft) (V D G : RattleType) (o : owned.Ghosts V.Denot TurnItem (Fixed D.Denot)) (r : recorded.Ghosts V.Denot TurnItem (Fixed D.Denot)) where
  pub job_send : IsSend V → IsSend D → IsSync G → IsSend (SessionJobOf.the_row a w V D G o r)
  job_send v d g = search (sendable, counters_sync, passes.the_field_send) depth 30
