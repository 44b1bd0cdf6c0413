use Rattle.std.proofs.Common.{◌∷◌, ◌++◌, sym, ap, subst, ◌∙◌}
use Rattle.std.specs.Prelude.{OnErr}
use Rattle.outside.specs.Streams.{AppendsPart}
use Rattle.cqe_top.specs.Complaints.{refusal_line, journal_lines}
use Rattle.cqe_top.proofs.Writing.{behind_refusal}
use Rattle.cqe_top.proofs.complaint.+give_journals.Goals as goal

pub returns-in-Ok-clause-part : goal.returns-in-Ok-clause-part
returns-in-Ok-clause-part g t c = λ told.
    subst (λ text. OnErr c.give_journals.result (AppendsPart (g.E.Sink.written c.args.complaints.now) (g.E.Sink.written c.give_journals.new.complaints) text))
    (ap (λ name. refusal_line name c.in-Some-split_first.refusal.now
    ++ journal_lines c.in-Some.users.now c.in-Some-split_first.refusals.now) c.as_str.ensures.value
    ∙ sym (ap (λ users. journal_lines users c.args.refusals.now) c.in-Some.ensures.cases.0
    ∙ ap (journal_lines (c.in-Some.user.now ∷ c.in-Some.users.now)) c.in-Some-split_first.ensures.cases.0))
    (behind_refusal c.give_journals.result (refusal_line c.as_str.result.now c.in-Some-split_first.refusal.now)
    (journal_lines c.in-Some.users.now c.in-Some-split_first.refusals.now) _ _ _
    (c.in-Ok.ensures.all told) (c.give_journals.ensures.part told))
