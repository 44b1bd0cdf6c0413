use Rattle.std.proofs.Common.{◌≡◌, ◌++◌, refl, subst}
use Rattle.std.specs.Prelude.{OnOk, OnErr, codes}
use Rattle.outside.specs.Streams.{AppendsPart}
use Rattle.cqe_top.proofs.Writing.{journal_parts}
use Rattle.cqe_top.proofs.complaint.give_cause.Goals as goal

pub returns-clause-all : goal.returns-clause-all
returns-clause-all g c = λ told.
    subst (λ t. OnOk c.write_parts.result (g.E.Sink.written c.write_parts.new.sink ≡ g.E.Sink.written c.args.complaints.now ++ t))
    (journal_parts (codes "cqe: journal ") (codes " ") (codes "\n") c.as_bytes.ensures.value c.bytes.ensures c.bytes-2.ensures refl)
    (c.write_parts.ensures.all told)

pub returns-clause-part : goal.returns-clause-part
returns-clause-part g c = λ told.
    subst (λ t. OnErr c.write_parts.result (AppendsPart (g.E.Sink.written c.args.complaints.now) (g.E.Sink.written c.write_parts.new.sink) t))
    (journal_parts (codes "cqe: journal ") (codes " ") (codes "\n") c.as_bytes.ensures.value c.bytes.ensures c.bytes-2.ensures refl)
    (c.write_parts.ensures.part told)
