-- A desk may go to another thread wherever its disk may, and so may its counter, which threads may then share.
use denote.RattleType.{RattleType}
use denote.Ref.{NamedLft}
use denote.Param.Send.{IsSend, IsSync, sendable}
use Rattle.std.proofs.Crossing.{crosses}
use Rattle.outside.specs.declared.disk.Disk as disk
pub use Rattle.user_log.proofs.Crossing.{user_sync}
use Rattle.user_log.proofs.Crossing.{sentence_send, log_send, examiner_send, examiner_sync}
use Rattle.log_journal.proofs.header.Header.TheSendSync as header
use Rattle.user_desk.proofs.standing.Standing.TheSendSync as standing
use Rattle.user_desk.proofs.store.Medium.TheSendSync as medium
use Rattle.user_desk.specs.contracts.store.Store as Store
use Rattle.user_desk.specs.contracts.desk.Desk as Desk
use Rattle.turnstile.specs.declared.steps.Recorded as recorded
use Rattle.turnstile.proofs.pass.Pass.TheSendSync as pass
use Rattle.turnstile.proofs.turnstile.Turnstile.TheSendSync as turnstile
use Rattle.desk_counter.specs.declared.ticketed_desk.Owned as owned
use Rattle.desk_counter.proofs.crowd.Crowd.TheSendSync as crowd
use Rattle.desk_counter.specs.contracts.ticketed_desk.TicketedDesk as TicketedDesk
use Rattle.desk_counter.specs.contracts.counter.CounterOf as CounterOf
use Rattle.desk_counter.specs.contracts.sole.SoleOf as SoleOf

module _ (D : RattleType) (g : disk.Ghosts D.Denot) (s : IsSend D) where
  store_send : IsSend (Store.the_field D g).row
  store_send = search (sendable, crosses, medium.the_field_send) depth 30

  desk_send : (w : NamedLft) → IsSend (Desk.the_field w D g).row
  desk_send w = search (sendable, log_send, store_send, sentence_send, header.the_field_send, standing.the_field_send) depth 30

  pub ticketed_desk_send : (w : NamedLft) → IsSend (TicketedDesk.the_row w D g)
  ticketed_desk_send w = search (sendable, crosses, desk_send) depth 30

module _ (w : NamedLft) (V I F : RattleType) (o : owned.Ghosts V.Denot I.Denot F.Denot) (r : recorded.Ghosts V.Denot I.Denot F.Denot) where
  pub counter_sync : IsSend V → IsSync (CounterOf.the_row w V I F o r)
  counter_sync s = search (sendable, turnstile.the_field_sync, examiner_sync, crowd.the_field_sync) depth 30

  counter_send : IsSend V → IsSend (CounterOf.the_field w V I F o r).row
  counter_send s = search (sendable, turnstile.the_field_send, examiner_send, crowd.the_field_send) depth 30

  pub sole_send : IsSend V → IsSend (SoleOf.the_field w V I F o r).row
  sole_send s = search (sendable, crosses, counter_send, pass.the_field_send) depth 30
