use Rattle.user_desk.proofs.Taking.{replay_refused_of}
use Rattle.user_desk.proofs.recounting.replay_records.Goals as goal

pub returns-in-Some-clause-replay : goal.returns-in-Some-clause-replay
returns-in-Some-clause-replay c =
    let log_is = c.loop-next.invariant.0 in
    replay_refused_of _ _ _ _ _ _ log_is.schema_is log_is.world_is log_is.user_is c.args.records.now c.loop-next.next-index c.next-item.result _ _ c.in-Some.why
    c.loop-next-test.true c.next-item.is c.loop-next.invariant.1
    c.known.ensures.legal c.known.ensures.sizes (rw c.in-Some.is at c.in_ok-why.ensures.taken) c.in_ok-none.ensures.empty c.requires.admitted
