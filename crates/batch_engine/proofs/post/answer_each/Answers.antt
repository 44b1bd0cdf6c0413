-- Here the types of the runtime and of the gate have other numbers among the parameters.
use denote.Param.{param}
use denote.Param.Send.{IsSync, sendable, given_sync, param_sync}
use Rattle.std.proofs.Common.{ℕ, subst}
use Rattle.std.proofs.Crossing.{crosses}
use Rattle.std.specs.Prelude.{slice_index_or}
use Rattle.desk_counter.proofs.Crossing.{ticketed_desk_send}
use Rattle.batch_engine.specs.Batches.{asks_in}
use Rattle.batch_engine.specs.Posts.{RunsOwn}
use Rattle.batch_engine.proofs.Crossing.{post_send}
use Rattle.batch_engine.proofs.line.Caller.TheSendSync as caller
use Rattle.batch_engine.proofs.post.answer_each.Goals as goal

pub for_each_mut-requires-send-T : goal.for_each_mut-requires-send-T
for_each_mut-requires-send-T g c κs within = search (sendable, post_send, ticketed_desk_send) depth 30

pub for_each_mut-requires-sync-F : goal.for_each_mut-requires-sync-F
for_each_mut-requires-sync-F g c κs within =
    let runtime : (i : ℕ) → IsSync (param i g.row.R) = λ i. param_sync i g.row.R (given_sync _ g.row.R c.type_bounds.sync-R) in
    let gate : (i : ℕ) → IsSync (param i g.row.G) = λ i. param_sync i g.row.G (given_sync _ g.row.G c.type_bounds.sync-G) in
    search (sendable, crosses, caller.the_field_sync, runtime, gate) depth 30

pub returns-clause-own : goal.returns-clause-own
returns-clause-own g c = λ k d low.
    let at = (c.for_each_mut.ensures k d low).1 in
    let asks = asks_in c.args.asks.now in
    subst (λ o. RunsOwn asks o (slice_index_or c.for_each_mut.new.s k d)) at.argument_is
    (subst (RunsOwn asks at.argument.now) at.left at.call)
