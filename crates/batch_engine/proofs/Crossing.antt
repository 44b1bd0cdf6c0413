-- A post may go to another thread wherever the value under its user's counter may.
use denote.RattleType.{RattleType}
use denote.Ref.{NamedLft}
use denote.Param.Send.{IsSend, sendable}
use Rattle.std.proofs.Crossing.{crosses}
use Rattle.user_desk.proofs.standing.DeskError.TheSendSync as desk_error
use Rattle.desk_counter.specs.declared.ticketed_desk.Owned as owned
use Rattle.desk_counter.proofs.Crossing.{sole_send, user_sync}
use Rattle.desk_crew.specs.contracts.seat.Seat as Seat
use Rattle.batch_engine.proofs.answer.Answer.TheSendSync as answer
use Rattle.batch_engine.specs.contracts.post.Post as Post

seat_send : (w : NamedLft) (V I F : RattleType) (o : owned.Ghosts V.Denot I.Denot F.Denot) (r : _) → IsSend V → IsSend (Seat.the_field w V I F o r).row
seat_send w V I F o r s = search (sendable, crosses, sole_send, user_sync, desk_error.the_send) depth 60

pub post_send : (w : NamedLft) (V I F : RattleType) (o : owned.Ghosts V.Denot I.Denot F.Denot) (r : _) → IsSend V → IsSend (Post.the_row w V I F o r)
post_send w V I F o r s = search (sendable, crosses, seat_send, answer.the_send) depth 60
