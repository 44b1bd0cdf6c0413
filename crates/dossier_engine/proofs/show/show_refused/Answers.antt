use Rattle.std.proofs.Common.{string_bytes, sym, ap, subst, ◌∙◌, ◌≢◌, true≢false}
use Rattle.cqe_base.specs.History.{profile_of}
use Rattle.log_journal.specs.declared.header.OpenError.TheVariants as open_errors
use Rattle.user_desk.specs.declared.standing.DeskError.TheVariants.{Journal}
use Rattle.user_desk.specs.declared.standing.Standing.TheVariants.{Sealed}
use Rattle.dossier_engine.specs.Shown.{IsRefusalShown, JudgesRefusal}
use Rattle.dossier_engine.proofs.Showing.{line_shown, refusal_judged, wanted, failed, no_shelf, never_done}
use Rattle.dossier_engine.proofs.show.show_refused.Goals as goal

pub returns-clause-shown : goal.returns-clause-shown
returns-clause-shown g c = λ told.
    let name = string_bytes c.args.user.now.name in
    let user = profile_of c.args.user.now in
    let old = g.K.Sink.written c.args.sink.now in
    let new = g.K.Sink.written c.write_unserved-written.new.sink in
    let other : c.args.why ≢ open_errors.Memory = λ is. true≢false (sym (rw is at c.eq.ensures) ∙ c.if-eq.false) in
    subst (λ end. IsRefusalShown name user c.args.why end old new) (sym c.end_of.ensures)
    (line_shown name user c.args.why other c.write_unserved-written.result old new (c.write_unserved-written.ensures.whole told)
    (c.write_unserved-written.ensures.part told) (λ is. ap g.K.Sink.written (c.write_unserved-written.ensures.nothing is)))

pub returns-clause-judged : goal.returns-clause-judged
returns-clause-judged g c =
    let other : c.args.why ≢ open_errors.Memory = λ is. true≢false (sym (rw is at c.eq.ensures) ∙ c.if-eq.false) in
    subst (JudgesRefusal c.args.why) (sym c.end_of.ensures) (refusal_judged c.args.why other c.write_unserved-written.result)

pub returns-clause-undone : goal.returns-clause-undone
returns-clause-undone g c = λ is. never_done (Journal c.args.why) c.write_unserved-written.result (sym c.end_of.ensures ∙ is)

pub returns-clause-silent : goal.returns-clause-silent
returns-clause-silent g c = λ is.
    c.write_unserved-written.ensures.nothing (wanted (Sealed (Journal c.args.why)) c.write_unserved-written.result (sym c.end_of.ensures ∙ is))

pub returns-clause-cause : goal.returns-clause-cause
returns-clause-cause g c = λ is.
    c.write_unserved-written.ensures.cause (failed (Sealed (Journal c.args.why)) c.write_unserved-written.result (sym c.end_of.ensures ∙ is))

pub returns-clause-shelf : goal.returns-clause-shelf
returns-clause-shelf g c = λ is. no_shelf (Sealed (Journal c.args.why)) c.write_unserved-written.result (sym c.end_of.ensures ∙ is)
