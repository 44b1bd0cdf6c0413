use Rattle.std.proofs.Common.{◌≡◌, ◌++◌, ap, subst}
use Rattle.std.specs.Prelude.{OnOk, OnErr}
use Rattle.outside.specs.Streams.{AppendsPart}
use Rattle.line_protocol.specs.Replies.{spaced}
use Rattle.line_protocol.proofs.reply.write_name.Goals as goal

pub returns-clause-all : goal.returns-clause-all
returns-clause-all g c = λ told.
    subst (λ text. OnOk c.write_parts.result (g.K.Sink.written c.write_parts.new.sink ≡ g.K.Sink.written c.args.sink.now ++ text))
    (ap spaced c.as_bytes.ensures.value) (c.write_parts.ensures.all told)

pub returns-clause-part : goal.returns-clause-part
returns-clause-part g c = λ told.
    subst (λ text. OnErr c.write_parts.result (AppendsPart (g.K.Sink.written c.args.sink.now) (g.K.Sink.written c.write_parts.new.sink) text))
    (ap spaced c.as_bytes.ensures.value) (c.write_parts.ensures.part told)
