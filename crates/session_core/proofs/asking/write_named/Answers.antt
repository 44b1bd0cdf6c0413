use Rattle.std.proofs.Common.{◌≡◌, ◌∙◌, ◌++◌, ap, subst}
use Rattle.outside.specs.Streams.{AppendsPart}
use Rattle.open_queries.specs.Instances.{chosen}
use Rattle.open_queries.specs.Memory.{open_query}
use Rattle.open_queries.proofs.Choices.{chosen_in_four}
use Rattle.line_protocol.specs.Replies.{text_of}
use Rattle.session_core.specs.Lists.{names_of, instance_names}
use Rattle.session_core.proofs.Listing.{on_ok, on_err, both_written, second_cut, first_cut}
use Rattle.session_core.proofs.asking.write_named.Goals as goal

pub returns-in-Ok-clause-all : goal.returns-in-Ok-clause-all
returns-in-Ok-clause-all g c = λ told.
    let names = instance_names c.args.schema.now (open_query c.args.list.now) c.args.number in
    let same : names_of c.args.schema.now (chosen c.as_slice.result.now c.constants-indices.result) ≡ names =
    ap (names_of c.args.schema.now) (ap (λ ds. chosen ds c.constants-indices.result) c.as_slice.ensures.value
    ∙ ap (chosen c.args.list.now.domains.items) c.constants-indices.ensures
    ∙ chosen_in_four c.args.schema.now c.args.list.now.domains.items c.args.number) in
    on_ok c.write_reply.result
    (both_written names (text_of c.args.reply.now) (g.K.Sink.written c.args.sink.now) (g.K.Sink.written c.write_names.new.sink)
    (g.K.Sink.written c.write_reply.new.sink)
    (c.in-Ok.ensures.all told ∙ ap (λ l. g.K.Sink.written c.args.sink.now ++ l) same)) (c.write_reply.ensures.all told)

pub returns-in-Ok-clause-part : goal.returns-in-Ok-clause-part
returns-in-Ok-clause-part g c = λ told.
    let names = instance_names c.args.schema.now (open_query c.args.list.now) c.args.number in
    let same : names_of c.args.schema.now (chosen c.as_slice.result.now c.constants-indices.result) ≡ names =
    ap (names_of c.args.schema.now) (ap (λ ds. chosen ds c.constants-indices.result) c.as_slice.ensures.value
    ∙ ap (chosen c.args.list.now.domains.items) c.constants-indices.ensures
    ∙ chosen_in_four c.args.schema.now c.args.list.now.domains.items c.args.number) in
    on_err c.write_reply.result
    (second_cut names (text_of c.args.reply.now) (g.K.Sink.written c.args.sink.now) (g.K.Sink.written c.write_names.new.sink)
    (g.K.Sink.written c.write_reply.new.sink)
    (c.in-Ok.ensures.all told ∙ ap (λ l. g.K.Sink.written c.args.sink.now ++ l) same)) (c.write_reply.ensures.part told)

pub returns-in-Err-clause-part : goal.returns-in-Err-clause-part
returns-in-Err-clause-part g c = λ told.
    let names = instance_names c.args.schema.now (open_query c.args.list.now) c.args.number in
    let same : names_of c.args.schema.now (chosen c.as_slice.result.now c.constants-indices.result) ≡ names =
    ap (names_of c.args.schema.now) (ap (λ ds. chosen ds c.constants-indices.result) c.as_slice.ensures.value
    ∙ ap (chosen c.args.list.now.domains.items) c.constants-indices.ensures
    ∙ chosen_in_four c.args.schema.now c.args.list.now.domains.items c.args.number) in
    first_cut names (text_of c.args.reply.now) (g.K.Sink.written c.args.sink.now) (g.K.Sink.written c.args.sink.now)
    (g.K.Sink.written c.write_names.new.sink)
    (subst (AppendsPart (g.K.Sink.written c.args.sink.now) (g.K.Sink.written c.write_names.new.sink)) same (c.in-Err.ensures.part told))
