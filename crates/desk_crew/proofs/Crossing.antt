-- A user at his desk, and an opening, may go to another thread wherever the value under the counter and the disk may;
-- and threads may share a registry.
use denote.RattleType.{RattleType}
use denote.Ref.{NamedLft}
use denote.Param.Send.{IsSend, IsSync, sendable}
use Rattle.std.proofs.Crossing.{crosses}
use Rattle.cqe_base.proofs.schema.Schema.TheSendSync as schema
use Rattle.cqe_base.proofs.world.World.TheSendSync as world
use Rattle.turnstile.specs.declared.steps.Recorded as recorded
use Rattle.censors.proofs.admittance.Admission.TheSendSync as admission
use Rattle.log_journal.proofs.header.Header.TheSendSync as header
use Rattle.user_desk.proofs.standing.DeskError.TheSendSync as desk_error
use Rattle.desk_counter.specs.declared.ticketed_desk.Owned as owned
use Rattle.desk_counter.proofs.Crossing.{sole_send, user_sync}
use Rattle.desk_crew.specs.contracts.registry.Registry as Registry
use Rattle.desk_crew.specs.contracts.seat.Seat as Seat
use Rattle.desk_crew.specs.contracts.opening.Opening as Opening
use Rattle.desk_crew.proofs.seat.Returned.TheSendSync as returned

pub seat_send : (w : NamedLft) (V I F : RattleType) (o : owned.Ghosts V.Denot I.Denot F.Denot) (r : recorded.Ghosts V.Denot I.Denot F.Denot) → IsSend V
    → IsSend (Seat.the_row w V I F o r)
seat_send w V I F o r s = search (sendable, crosses, sole_send, user_sync, admission.the_send, desk_error.the_send) depth 60

pub opening_send : (w : NamedLft) (V D I F : RattleType) (o : owned.Ghosts V.Denot I.Denot F.Denot) (r : recorded.Ghosts V.Denot I.Denot F.Denot) → IsSend V
    → IsSend D → IsSend (Opening.the_row w V D I F o r)
opening_send w V D I F o r s d = search (sendable, crosses, user_sync, admission.the_send, desk_error.the_send, seat_send, returned.the_send) depth 60

pub registry_sync : (w : NamedLft) → IsSync (Registry.the_row w)
registry_sync w = search (sendable, crosses, user_sync, schema.the_sync, world.the_sync, header.the_sync) depth 60
