-- Guards and lanes may go to another thread, and threads may share guards, users and ground sentences.
use denote.Ref.{NamedLft}
use denote.Param.Send.{IsSend, IsSync, sendable}
use Rattle.std.proofs.Crossing.{crosses}
use Rattle.cqe_base.specs.contracts.user.User as User
use Rattle.cqe_base.proofs.schema.Schema.TheSendSync as schema
pub use Rattle.entailment.proofs.Crossing.{ground_sentence_sync}
use Rattle.entailment.proofs.Crossing.{ground_sentence_send, sentence_sync, view_send}
use Rattle.censors.proofs.parts.PartFound.TheSendSync as part_found
use Rattle.censors.specs.contracts.guards.Guards as Guards
use Rattle.censors.specs.contracts.lent.Lane as Lane

pub guards_send : (w : NamedLft) → IsSend (Guards.the_row w)
guards_send w = search (sendable, crosses, ground_sentence_send, schema.the_sync) depth 60

pub guards_sync : (w : NamedLft) → IsSync (Guards.the_row w)
guards_sync w = search (sendable, crosses, ground_sentence_sync, schema.the_sync) depth 60

-- apart, since a `search` that goes down through a sentence and on runs out of steps
pub user_sync : IsSync User.the_row
user_sync = search (sendable, crosses, sentence_sync) depth 60

pub lane_send : (w : NamedLft) → IsSend (Lane.the_row w)
lane_send w = search (sendable, crosses, view_send, part_found.the_send) depth 60
