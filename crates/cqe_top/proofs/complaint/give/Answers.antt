use Rattle.std.proofs.Common.{◌≡◌, ◌++◌, sym, ap, subst, ◌∙◌}
use Rattle.std.specs.Prelude.{OnOk, OnErr, codes, slice_get}
use Rattle.outside.specs.Streams.{AppendsPart}
use Rattle.cqe_top.specs.Complaints.{complaint_of, user_line, journal_lines}
use Rattle.cqe_top.proofs.Writing.{three_parts}
use Rattle.cqe_top.proofs.complaint.give.Goals as goal

pub returns-in-Missing-clause-all : goal.returns-in-Missing-clause-all
returns-in-Missing-clause-all g c = λ told.
    subst (λ text. OnOk c.write_parts.result (g.E.Sink.written c.write_parts.new.sink ≡ g.E.Sink.written c.args.complaints.now ++ text))
    (three_parts (codes "cqe: missing ") c.as_bytes.result.now (codes "\n") ∙ ap (λ name. codes "cqe: missing " ++ name ++ codes "\n") c.as_bytes.ensures.value
    ∙ ap complaint_of (sym c.in-Missing.is))
    (c.write_parts.ensures.all told)

pub returns-in-Missing-clause-part : goal.returns-in-Missing-clause-part
returns-in-Missing-clause-part g c = λ told.
    subst (λ text. OnErr c.write_parts.result (AppendsPart (g.E.Sink.written c.args.complaints.now) (g.E.Sink.written c.write_parts.new.sink) text))
    (three_parts (codes "cqe: missing ") c.as_bytes.result.now (codes "\n") ∙ ap (λ name. codes "cqe: missing " ++ name ++ codes "\n") c.as_bytes.ensures.value
    ∙ ap complaint_of (sym c.in-Missing.is))
    (c.write_parts.ensures.part told)

pub returns-in-ReadFault-clause-all : goal.returns-in-ReadFault-clause-all
returns-in-ReadFault-clause-all g c = λ told.
    subst (λ end. OnOk c.write_all-in-ReadFault.result (g.E.Sink.written c.write_all-in-ReadFault.new.sink
    ≡ g.E.Sink.written c.args.complaints.now ++ complaint_of end)) (sym c.in-ReadFault.is)
    (c.write_all-in-ReadFault.ensures.all told)

pub returns-in-ReadFault-clause-part : goal.returns-in-ReadFault-clause-part
returns-in-ReadFault-clause-part g c = λ told.
    subst (λ end. OnErr c.write_all-in-ReadFault.result
    (AppendsPart (g.E.Sink.written c.args.complaints.now) (g.E.Sink.written c.write_all-in-ReadFault.new.sink) (complaint_of end))) (sym c.in-ReadFault.is)
    (c.write_all-in-ReadFault.ensures.part told)

pub returns-in-Memory-clause-all : goal.returns-in-Memory-clause-all
returns-in-Memory-clause-all g c = λ told.
    subst (λ end. OnOk c.write_all-in-Memory.result (g.E.Sink.written c.write_all-in-Memory.new.sink
    ≡ g.E.Sink.written c.args.complaints.now ++ complaint_of end)) (sym c.in-Memory.is)
    (c.write_all-in-Memory.ensures.all told)

pub returns-in-Memory-clause-part : goal.returns-in-Memory-clause-part
returns-in-Memory-clause-part g c = λ told.
    subst (λ end. OnErr c.write_all-in-Memory.result
    (AppendsPart (g.E.Sink.written c.args.complaints.now) (g.E.Sink.written c.write_all-in-Memory.new.sink) (complaint_of end))) (sym c.in-Memory.is)
    (c.write_all-in-Memory.ensures.part told)

pub returns-in-DiskFault-clause-all : goal.returns-in-DiskFault-clause-all
returns-in-DiskFault-clause-all g c = λ told.
    subst (λ end. OnOk c.write_all-in-DiskFault.result (g.E.Sink.written c.write_all-in-DiskFault.new.sink
    ≡ g.E.Sink.written c.args.complaints.now ++ complaint_of end)) (sym c.in-DiskFault.is)
    (c.write_all-in-DiskFault.ensures.all told)

pub returns-in-DiskFault-clause-part : goal.returns-in-DiskFault-clause-part
returns-in-DiskFault-clause-part g c = λ told.
    subst (λ end. OnErr c.write_all-in-DiskFault.result
    (AppendsPart (g.E.Sink.written c.args.complaints.now) (g.E.Sink.written c.write_all-in-DiskFault.new.sink) (complaint_of end))) (sym c.in-DiskFault.is)
    (c.write_all-in-DiskFault.ensures.part told)

pub returns-in-LinksFault-clause-all : goal.returns-in-LinksFault-clause-all
returns-in-LinksFault-clause-all g c = λ told.
    subst (λ end. OnOk c.write_all-in-LinksFault.result (g.E.Sink.written c.write_all-in-LinksFault.new.sink
    ≡ g.E.Sink.written c.args.complaints.now ++ complaint_of end)) (sym c.in-LinksFault.is)
    (c.write_all-in-LinksFault.ensures.all told)

pub returns-in-LinksFault-clause-part : goal.returns-in-LinksFault-clause-part
returns-in-LinksFault-clause-part g c = λ told.
    subst (λ end. OnErr c.write_all-in-LinksFault.result
    (AppendsPart (g.E.Sink.written c.args.complaints.now) (g.E.Sink.written c.write_all-in-LinksFault.new.sink) (complaint_of end)))
    (sym c.in-LinksFault.is)
    (c.write_all-in-LinksFault.ensures.part told)

pub returns-in-JournalAt-clause-part : goal.returns-in-JournalAt-clause-part
returns-in-JournalAt-clause-part g c = λ told.
    subst (λ text. OnErr c.give_user.result
    (AppendsPart (g.E.Sink.written c.args.complaints.now) (g.E.Sink.written c.give_user.new.complaints) text))
    (ap (λ users. user_line (slice_get users c.in-JournalAt.number) c.opening_cause.result) c.as_slice.ensures.value
    ∙ ap (user_line (slice_get c.in-JournalAt.users.items c.in-JournalAt.number)) c.opening_cause.ensures ∙ ap complaint_of (sym c.in-JournalAt.is))
    (c.give_user.ensures.part told)

pub returns-in-TargetAt-clause-part : goal.returns-in-TargetAt-clause-part
returns-in-TargetAt-clause-part g c = λ told.
    subst (λ text. OnErr c.give_user-in-TargetAt.result
    (AppendsPart (g.E.Sink.written c.args.complaints.now) (g.E.Sink.written c.give_user-in-TargetAt.new.complaints) text))
    (ap (λ users. user_line (slice_get users c.in-TargetAt.number) c.new.result) c.as_slice-in-TargetAt.ensures.value
    ∙ ap (user_line (slice_get c.in-TargetAt.users.items c.in-TargetAt.number)) c.new.ensures ∙ ap complaint_of (sym c.in-TargetAt.is))
    (c.give_user-in-TargetAt.ensures.part told)

pub returns-in-Journals-clause-part : goal.returns-in-Journals-clause-part
returns-in-Journals-clause-part g c = λ told.
    subst (λ text. OnErr c.give_journals.result (AppendsPart (g.E.Sink.written c.args.complaints.now) (g.E.Sink.written c.give_journals.new.complaints) text))
    (ap (λ users. journal_lines users c.as_slice-in-Journals-2.result.now) c.as_slice-in-Journals.ensures.value
    ∙ ap (journal_lines c.in-Journals.users.items) c.as_slice-in-Journals-2.ensures.value ∙ ap complaint_of (sym c.in-Journals.is))
    (c.give_journals.ensures.part told)
