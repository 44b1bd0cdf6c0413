use Rattle.std.proofs.Common.{◌≡◌, ◌++◌, subst, ◌∙◌}
use Rattle.std.specs.Prelude.{OnOk, OnErr, codes}
use Rattle.outside.specs.Streams.{AppendsPart}
use Rattle.cqe_top.proofs.Writing.{place_parts}
use Rattle.cqe_top.proofs.complaint.give_place.Goals as goal

pub returns-clause-all : goal.returns-clause-all
returns-clause-all g c = λ told.
    subst (λ t. OnOk c.write_parts.result (g.E.Sink.written c.write_parts.new.sink ≡ g.E.Sink.written c.args.complaints.now ++ t))
    (place_parts (codes "\n") (c.bytes.ensures ∙ c.numbered-number.ensures.text) (c.bytes-2.ensures ∙ c.user_text-user.ensures)
    (c.as_bytes-key.ensures.value ∙ c.as_str.ensures) (c.bytes-3.ensures ∙ c.index_text-index.ensures) (c.bytes-4.ensures ∙ c.cause_text-cause.ensures))
    (c.write_parts.ensures.all told)

pub returns-clause-part : goal.returns-clause-part
returns-clause-part g c = λ told.
    subst (λ t. OnErr c.write_parts.result (AppendsPart (g.E.Sink.written c.args.complaints.now) (g.E.Sink.written c.write_parts.new.sink) t))
    (place_parts (codes "\n") (c.bytes.ensures ∙ c.numbered-number.ensures.text) (c.bytes-2.ensures ∙ c.user_text-user.ensures)
    (c.as_bytes-key.ensures.value ∙ c.as_str.ensures) (c.bytes-3.ensures ∙ c.index_text-index.ensures) (c.bytes-4.ensures ∙ c.cause_text-cause.ensures))
    (c.write_parts.ensures.part told)
