use Rattle.std.proofs.Common.{◌<◌, ◌∷◌, [], length, true, sym, subst, arith}
use Rattle.std.proofs.lemmas.List.{length-map}
use Rattle.desk_counter.specs.Counters.{kept_by}
use Rattle.line_protocol.specs.Replies.{text_of}
use Rattle.session_core.specs.Lists.{Lists, refused, opened}
use Rattle.session_core.specs.Talks.{listed}
use Rattle.session_core.specs.Members.{fixeds_of, passes_in}
use Rattle.session_core.proofs.Passing.{at_nothing, passes_kept}
use Rattle.session_core.proofs.Listing.{schema_at, one_spoken, spoken_as}
use Rattle.session_core.proofs.asking.list_at.Goals as goal

pub ask_instances-requires-clause-asked : goal.ask_instances-requires-clause-asked
ask_instances-requires-clause-asked g c κs within = c.in-Ok.ensures.opened.asked

pub returns-in-Ok-clause-spoken : goal.returns-in-Ok-clause-spoken
returns-in-Ok-clause-spoken g c =
    let counters = c.args.counters.now.counters.items in
    let low : c.args.place < length counters = omega (arith, c.requires.place, length-map counters kept_by) in
    let at = schema_at counters c.args.place c.index.result.now c.schema-schema.result.now low c.index.ensures c.schema-schema.ensures in
    spoken_as g.K.Sink.tells _ _ _ (λ asked texts to_end says. listed at (opened c.in-Ok.ensures.opened says)) (λ asked used. used)
    c.ask_instances.ensures.spoken

pub returns-in-Err-clause-spoken : goal.returns-in-Err-clause-spoken
returns-in-Err-clause-spoken g c =
    let counters = c.args.counters.now.counters.items in
    let passes = passes_in c.args.passes.now in
    let low : c.args.place < length counters = omega (arith, c.requires.place, length-map counters kept_by) in
    let at = schema_at counters c.args.place c.index.result.now c.schema-schema.result.now low c.index.ensures c.schema-schema.ensures in
    one_spoken g.K.Sink.tells c.write_reply.result _ _ [] (text_of c.refusal_reply.result)
    (listed at (subst (λ r. Lists c.schema-schema.result.now c.args.count c.args.text.now [] (text_of r ∷ []) true) (sym c.refusal_reply.ensures)
    (refused c.in-Err.ensures.refused)))
    (at_nothing c.args.place (fixeds_of c.args.counters.now) passes c.requires.place (passes_kept passes counters c.requires.passes.are))
    c.write_reply.ensures.all c.write_reply.ensures.part
