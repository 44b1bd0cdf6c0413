-- A user's log and what was examined of a text may go to another thread, and an examiner, which threads may share.
use denote.Ref.{NamedLft}
use denote.Param.Send.{IsSend, IsSync, sendable}
use Rattle.std.proofs.Crossing.{crosses}
use Rattle.cqe_base.specs.contracts.user.User as User
use Rattle.cqe_base.proofs.schema.Schema.TheSendSync as schema
use Rattle.cqe_base.proofs.world.World.TheSendSync as world
pub use Rattle.entailment.proofs.Crossing.{sentence_send}
pub use Rattle.censors.proofs.Crossing.{user_sync}
use Rattle.entailment.proofs.Crossing.{views_send}
use Rattle.censors.proofs.Crossing.{guards_send, guards_sync}
use Rattle.user_log.specs.contracts.log.UserLog as UserLog
use Rattle.user_log.specs.contracts.examiner.Examiner as Examiner

-- apart, since a `search` that goes down through a sentence and on runs out of steps
user_send : IsSend User.the_row
user_send = search (sendable, crosses, sentence_send) depth 60

pub log_send : (w : NamedLft) → IsSend (UserLog.the_field w).row
log_send w = search (sendable, crosses, views_send, guards_send, sentence_send, user_sync, user_send, schema.the_sync, world.the_sync) depth 60

pub examiner_sync : (w : NamedLft) → IsSync (Examiner.the_field w).row
examiner_sync w = search (sendable, crosses, guards_sync, user_sync, schema.the_sync) depth 60

pub examiner_send : (w : NamedLft) → IsSend (Examiner.the_field w).row
examiner_send w = search (sendable, crosses, guards_send, user_sync, schema.the_sync) depth 60
