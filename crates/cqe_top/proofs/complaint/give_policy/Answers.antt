use Rattle.std.proofs.Common.{◌≡◌, ◌++◌, sym, ap, subst, ◌∙◌}
use Rattle.std.specs.Prelude.{OnOk, OnErr, codes, decimal}
use Rattle.outside.specs.Streams.{AppendsPart}
use Rattle.cqe_top.specs.Complaints.{policy_complaint}
use Rattle.cqe_top.proofs.complaint.give_policy.Goals as goal

pub returns-in-Schema-clause-all : goal.returns-in-Schema-clause-all
returns-in-Schema-clause-all g c = λ told.
    subst (λ text. OnOk c.write_all-in-Schema.result (g.E.Sink.written c.write_all-in-Schema.new.sink ≡ g.E.Sink.written c.args.complaints.now ++ text))
    (c.bytes.ensures ∙ c.numbers_behind-text.ensures
    ∙ ap (λ n. codes "cqe: policy " ++ decimal 5 ++ codes " " ++ decimal n ++ codes "\n") c.schema_number.ensures
    ∙ ap policy_complaint (sym c.in-Schema.is))
    (c.write_all-in-Schema.ensures.all told)

pub returns-in-Schema-clause-part : goal.returns-in-Schema-clause-part
returns-in-Schema-clause-part g c = λ told.
    subst (λ text. OnErr c.write_all-in-Schema.result
    (AppendsPart (g.E.Sink.written c.args.complaints.now) (g.E.Sink.written c.write_all-in-Schema.new.sink) text)) (c.bytes.ensures
    ∙ c.numbers_behind-text.ensures ∙ ap (λ n. codes "cqe: policy " ++ decimal 5 ++ codes " " ++ decimal n ++ codes "\n") c.schema_number.ensures
    ∙ ap policy_complaint (sym c.in-Schema.is))
    (c.write_all-in-Schema.ensures.part told)

pub returns-in-Version-clause-all : goal.returns-in-Version-clause-all
returns-in-Version-clause-all g c = λ told.
    subst (λ text. OnOk c.write_all-in-Version.result (g.E.Sink.written c.write_all-in-Version.new.sink ≡ g.E.Sink.written c.args.complaints.now ++ text))
    (ap policy_complaint (sym c.in-Version.is))
    (c.write_all-in-Version.ensures.all told)

pub returns-in-Version-clause-part : goal.returns-in-Version-clause-part
returns-in-Version-clause-part g c = λ told.
    subst (λ text. OnErr c.write_all-in-Version.result
    (AppendsPart (g.E.Sink.written c.args.complaints.now) (g.E.Sink.written c.write_all-in-Version.new.sink) text))
    (ap policy_complaint (sym c.in-Version.is))
    (c.write_all-in-Version.ensures.part told)

pub returns-in-Memory-clause-all : goal.returns-in-Memory-clause-all
returns-in-Memory-clause-all g c = λ told.
    subst (λ text. OnOk c.write_all-in-Memory.result (g.E.Sink.written c.write_all-in-Memory.new.sink ≡ g.E.Sink.written c.args.complaints.now ++ text))
    (ap policy_complaint (sym c.in-Memory.is))
    (c.write_all-in-Memory.ensures.all told)

pub returns-in-Memory-clause-part : goal.returns-in-Memory-clause-part
returns-in-Memory-clause-part g c = λ told.
    subst (λ text. OnErr c.write_all-in-Memory.result
    (AppendsPart (g.E.Sink.written c.args.complaints.now) (g.E.Sink.written c.write_all-in-Memory.new.sink) text))
    (ap policy_complaint (sym c.in-Memory.is))
    (c.write_all-in-Memory.ensures.part told)
