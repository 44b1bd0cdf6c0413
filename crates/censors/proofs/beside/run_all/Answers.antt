use denote.Param.Send.{sendable}
use Rattle.std.proofs.Crossing.{crosses}
use Rattle.censors.proofs.parts.Cut.TheSendSync as cut
use Rattle.censors.proofs.Crossing.{lane_send, user_sync, ground_sentence_sync}
use Rattle.censors.proofs.beside.run_all.Goals as goal

pub for_each_mut-requires-send-T : goal.for_each_mut-requires-send-T
for_each_mut-requires-send-T g c κs within = search (sendable, lane_send) depth 30

pub for_each_mut-requires-sync-F : goal.for_each_mut-requires-sync-F
for_each_mut-requires-sync-F g c κs within = search (sendable, crosses, user_sync, ground_sentence_sync, cut.the_field_sync) depth 30
