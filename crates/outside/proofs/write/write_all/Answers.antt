use Rattle.std.proofs.Common.{rules, ◌≡◌, ◌<◌, length, ◌∙◌}
use Rattle.outside.proofs.Streams.{part_of, at_refusal}
use Rattle.outside.proofs.write.write_all.Goals as goal

pub returns-in_err-count-clause-part : goal.returns-in_err-count-clause-part
returns-in_err-count-clause-part g c told =
    let so_far = c.loop-rest.invariant.so_far told in
    let more : 0 < length c.loop-rest.rest.now = search rules in
    let same : g.K.Sink.written c.give.new.self ≡ g.K.Sink.written c.loop-rest.sink = search rules in
    at_refusal c.from_residual.result
    (part_of (g.K.Sink.written c.args.sink.now) (g.K.Sink.written c.give.new.self) c.args.bytes.now so_far.0 c.loop-rest.rest.now so_far.1 more
    (same ∙ so_far.2))

pub returns-then-count-eq0-clause-part : goal.returns-then-count-eq0-clause-part
returns-then-count-eq0-clause-part g c told =
    let so_far = c.loop-rest.invariant.so_far told in
    let more : 0 < length c.loop-rest.rest.now = search rules in
    let same : g.K.Sink.written c.give.new.self ≡ g.K.Sink.written c.loop-rest.sink = search rules in
    part_of (g.K.Sink.written c.args.sink.now) _ c.args.bytes.now so_far.0 c.loop-rest.rest.now so_far.1 more (same ∙ so_far.2)
