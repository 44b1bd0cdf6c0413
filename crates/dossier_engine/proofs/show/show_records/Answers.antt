use Rattle.std.proofs.Common.{map, string_bytes, refl, sym, ap, subst, ◌∙◌}
use Rattle.std.specs.Prelude.{codes}
use Rattle.cqe_base.specs.History.{profile_of, answered_query_of}
use Rattle.log_journal.specs.Opening.{recorded}
use Rattle.user_desk.specs.declared.standing.Standing.TheVariants.{Open, Closed, Sealed}
use Rattle.dossier.specs.Written.{head_text}
use Rattle.dossier_engine.specs.Shown.{IsShown, JudgesRecords}
use Rattle.dossier_engine.proofs.Showing.{shown_so, line_so, judged_so, line_judged, wanted, failed, no_shelf}
use Rattle.dossier_engine.proofs.show.show_records.Goals as goal

-- ---- the requirements of the writer

pub write_dossier-written-requires-clause-admitted : goal.write_dossier-written-requires-clause-admitted
write_dossier-written-requires-clause-admitted g c = (rw c.in-Open.is at c.in-Ok.ensures).0.0

pub write_dossier-written-requires-clause-legal : goal.write_dossier-written-requires-clause-legal
write_dossier-written-requires-clause-legal g c =
    let replayed = rw c.in-Open.is at c.in-Ok.ensures in
    (map answered_query_of c.in-Open._items.items, replayed.0.1, replayed.1, replayed.2)

-- ---- a user who is served

pub returns-in-Open-clause-shown : goal.returns-in-Open-clause-shown
returns-in-Open-clause-shown g c = λ told.
    let registry = c.args.registry.now in
    let schema = registry.schema.now in
    let world = registry.world.now in
    let name = string_bytes c.args.user.now.name in
    let user = profile_of c.args.user.now in
    let all = map recorded c.args.records.now in
    let old = g.K.Sink.written c.args.sink.now in
    let new = g.K.Sink.written c.write_dossier-written.new.sink in
    subst (λ end. IsShown schema world name user all end old new) (sym c.end_of.ensures)
    (shown_so schema world name user all Open
    (λ text is. let replayed = rw c.in-Open.is at c.in-Ok.ensures in record {
      entries = map answered_query_of c.in-Open._items.items;
      replay = replayed.0;
      legal = replayed.1;
      sizes = replayed.2;
      text_is = is;
    })
    c.write_dossier-written.result old new (c.write_dossier-written.ensures.whole told) (c.write_dossier-written.ensures.part told)
    (λ is. ap g.K.Sink.written (c.write_dossier-written.ensures.nothing is)))

pub returns-in-Open-clause-judged : goal.returns-in-Open-clause-judged
returns-in-Open-clause-judged g c =
    let registry = c.args.registry.now in
    let name = string_bytes c.args.user.now.name in
    let user = profile_of c.args.user.now in
    let all = map recorded c.args.records.now in
    let replayed = rw c.in-Open.is at c.in-Ok.ensures in
    subst (JudgesRecords registry.schema.now registry.world.now name user all) (sym c.end_of.ensures)
    (judged_so registry.schema.now registry.world.now name user all Open
    (record { entries = map answered_query_of c.in-Open._items.items; replay = replayed.0; legal = replayed.1; sizes = replayed.2 })
    c.write_dossier-written.result)

pub returns-in-Open-clause-silent : goal.returns-in-Open-clause-silent
returns-in-Open-clause-silent g c = λ is.
    c.write_dossier-written.ensures.nothing (wanted Open c.write_dossier-written.result (sym c.end_of.ensures ∙ is))

pub returns-in-Open-clause-cause : goal.returns-in-Open-clause-cause
returns-in-Open-clause-cause g c = λ is.
    c.write_dossier-written.ensures.cause (failed Open c.write_dossier-written.result (sym c.end_of.ensures ∙ is))

pub returns-in-Open-clause-shelf : goal.returns-in-Open-clause-shelf
returns-in-Open-clause-shelf g c = λ is. no_shelf Open c.write_dossier-written.result (sym c.end_of.ensures ∙ is)

-- ---- one who isn't admitted

pub returns-in-Closed-clause-shown : goal.returns-in-Closed-clause-shown
returns-in-Closed-clause-shown g c = λ told.
    let schema = c.args.registry.now.schema.now in
    let world = c.args.registry.now.world.now in
    let name = string_bytes c.args.user.now.name in
    let user = profile_of c.args.user.now in
    let all = map recorded c.args.records.now in
    let old = g.K.Sink.written c.args.sink.now in
    let new = g.K.Sink.written c.write_unserved-written.new.sink in
    let wrote = c.write_unserved-written.ensures in
    subst (λ end. IsShown schema world name user all end old new) (sym c.end_of-in-Closed.ensures)
    (line_so schema world name user all (Closed c.in-Closed._admission) (head_text name user (codes "closed")) refl
    (rw c.in-Closed.is at c.in-Ok.ensures) c.write_unserved-written.result old new (wrote.whole told) (wrote.part told)
    (λ is. ap g.K.Sink.written (wrote.nothing is)))

pub returns-in-Closed-clause-judged : goal.returns-in-Closed-clause-judged
returns-in-Closed-clause-judged g c =
    let registry = c.args.registry.now in
    let name = string_bytes c.args.user.now.name in
    let user = profile_of c.args.user.now in
    let all = map recorded c.args.records.now in
    subst (JudgesRecords registry.schema.now registry.world.now name user all) (sym c.end_of-in-Closed.ensures)
    (line_judged registry.schema.now registry.world.now name user all (Closed c.in-Closed._admission) (rw c.in-Closed.is at c.in-Ok.ensures)
    c.write_unserved-written.result)

pub returns-in-Closed-clause-silent : goal.returns-in-Closed-clause-silent
returns-in-Closed-clause-silent g c = λ is.
    c.write_unserved-written.ensures.nothing
    (wanted (Closed c.in-Closed._admission) c.write_unserved-written.result (sym c.end_of-in-Closed.ensures ∙ is))

pub returns-in-Closed-clause-cause : goal.returns-in-Closed-clause-cause
returns-in-Closed-clause-cause g c = λ is.
    c.write_unserved-written.ensures.cause
    (failed (Closed c.in-Closed._admission) c.write_unserved-written.result (sym c.end_of-in-Closed.ensures ∙ is))

pub returns-in-Closed-clause-shelf : goal.returns-in-Closed-clause-shelf
returns-in-Closed-clause-shelf g c = λ is.
    no_shelf (Closed c.in-Closed._admission) c.write_unserved-written.result (sym c.end_of-in-Closed.ensures ∙ is)

-- ---- one whose records are refused

pub returns-in-Sealed-clause-shown : goal.returns-in-Sealed-clause-shown
returns-in-Sealed-clause-shown g c = λ told.
    let schema = c.args.registry.now.schema.now in
    let world = c.args.registry.now.world.now in
    let name = string_bytes c.args.user.now.name in
    let user = profile_of c.args.user.now in
    let all = map recorded c.args.records.now in
    let old = g.K.Sink.written c.args.sink.now in
    let new = g.K.Sink.written c.write_unserved-written-in-Sealed.new.sink in
    let wrote = c.write_unserved-written-in-Sealed.ensures in
    subst (λ end. IsShown schema world name user all end old new) (sym c.end_of-in-Sealed.ensures)
    (line_so schema world name user all (Sealed c.in-Sealed.why) (head_text name user (codes "sealed")) refl
    (rw c.in-Sealed.is at c.in-Ok.ensures) c.write_unserved-written-in-Sealed.result old new (wrote.whole told) (wrote.part told)
    (λ is. ap g.K.Sink.written (wrote.nothing is)))

pub returns-in-Sealed-clause-judged : goal.returns-in-Sealed-clause-judged
returns-in-Sealed-clause-judged g c =
    let registry = c.args.registry.now in
    let name = string_bytes c.args.user.now.name in
    let user = profile_of c.args.user.now in
    let all = map recorded c.args.records.now in
    subst (JudgesRecords registry.schema.now registry.world.now name user all) (sym c.end_of-in-Sealed.ensures)
    (line_judged registry.schema.now registry.world.now name user all (Sealed c.in-Sealed.why) (rw c.in-Sealed.is at c.in-Ok.ensures)
    c.write_unserved-written-in-Sealed.result)

pub returns-in-Sealed-clause-silent : goal.returns-in-Sealed-clause-silent
returns-in-Sealed-clause-silent g c = λ is.
    c.write_unserved-written-in-Sealed.ensures.nothing
    (wanted (Sealed c.in-Sealed.why) c.write_unserved-written-in-Sealed.result (sym c.end_of-in-Sealed.ensures ∙ is))

pub returns-in-Sealed-clause-cause : goal.returns-in-Sealed-clause-cause
returns-in-Sealed-clause-cause g c = λ is.
    c.write_unserved-written-in-Sealed.ensures.cause
    (failed (Sealed c.in-Sealed.why) c.write_unserved-written-in-Sealed.result (sym c.end_of-in-Sealed.ensures ∙ is))

pub returns-in-Sealed-clause-shelf : goal.returns-in-Sealed-clause-shelf
returns-in-Sealed-clause-shelf g c = λ is.
    no_shelf (Sealed c.in-Sealed.why) c.write_unserved-written-in-Sealed.result (sym c.end_of-in-Sealed.ensures ∙ is)
