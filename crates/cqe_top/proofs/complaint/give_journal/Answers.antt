use Rattle.std.proofs.Common.{◌≡◌, ◌++◌, subst}
use Rattle.std.specs.Prelude.{OnOk, OnErr}
use Rattle.outside.specs.Streams.{AppendsPart}
use Rattle.cqe_top.specs.Complaints.{cause_line}
use Rattle.cqe_top.proofs.complaint.give_journal.Goals as goal

pub returns-clause-all : goal.returns-clause-all
returns-clause-all g c = λ told.
    subst (λ t. OnOk c.give_cause.result
    (g.E.Sink.written c.give_cause.new.complaints ≡ g.E.Sink.written c.args.complaints.now ++ cause_line c.args.name.now t))
    c.journal_cause-cause.ensures
    (c.give_cause.ensures.all told)

pub returns-clause-part : goal.returns-clause-part
returns-clause-part g c = λ told.
    subst (λ t. OnErr c.give_cause.result
    (AppendsPart (g.E.Sink.written c.args.complaints.now) (g.E.Sink.written c.give_cause.new.complaints) (cause_line c.args.name.now t)))
    c.journal_cause-cause.ensures
    (c.give_cause.ensures.part told)
