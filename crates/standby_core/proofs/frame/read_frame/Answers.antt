use Rattle.std.proofs.Common.{◌≡◌, ◌++◌, length, refl, sym, ap, subst, ◌∙◌, arith}
use Rattle.outside.proofs.Rises.{rose_since}
use Rattle.standby_core.specs.Frames.{EndsWithinFrame, IsFrame, IsOther, Shows, Reads, carried_in, end_behind}
use Rattle.standby_core.specs.declared.frame.Judged.TheVariants.{Short, Bad}
use Rattle.standby_core.proofs.Frames.{none_within, more_within, bad_read, other_read, end_read, same_room, never_whole, never_fault}
use Rattle.standby_core.proofs.frame.read_frame.Goals as goal

pub loop-size-init : goal.loop-size-init
loop-size-init g c = record {
  within = subst (EndsWithinFrame c.args.header.now) (sym c.clear.ensures) (none_within c.args.header.now);
  room = omega (arith, ap length c.clear.ensures);
  taken = λ told. ap (λ l. l ++ g.S.Source.left c.args.source.now) (sym c.clear.ensures);
  held = refl;
  later = omega arith;
}

pub judge-requires : goal.judge-requires
judge-requires g c = subst (EndsWithinFrame c.args.header.now) (sym c.bytes.ensures) c.loop-size.invariant.within

pub take_up_to-requires-clause-more : goal.take_up_to-requires-clause-more
take_up_to-requires-clause-more g c = omega (arith, c.in-Short.ensures.0, ap length c.bytes.ensures)

pub take_up_to-requires-clause-fits : goal.take_up_to-requires-clause-fits
take_up_to-requires-clause-fits g c = c.in-Short.ensures.1

pub loop-size-preserved : goal.loop-size-preserved
loop-size-preserved g c =
    let before = c.loop-size.invariant in
    let shows : Shows c.args.header.now c.loop-size.room (Short c.in-Short.size) =
    subst (λ l. Shows c.args.header.now l (Short c.in-Short.size)) c.bytes.ensures c.in-Short.ensures in
    record {
      within = more_within c.args.header.now c.loop-size.room c.take_up_to.new.self c.in-Short.size shows c.in-Ok.ensures.front c.in-Ok.ensures.size;
      room = omega (arith, c.in-Ok.ensures.size, shows.1);
      taken = λ told. before.taken told ∙ c.in-Ok.ensures.moved told;
      held = c.take_up_to.ensures.held ∙ before.held;
      later = omega (arith, before.later, c.take_up_to.ensures.cause.later);
    }

pub loop-size-smaller : goal.loop-size-smaller
loop-size-smaller g c =
    let shows = c.in-Short.ensures in
    omega (arith, c.in-Ok.ensures.more, c.in-Ok.ensures.size, shows.1, c.if-count-eq0.false)

-- ---- a whole frame

pub returns-in-Frame-clause-reads : goal.returns-in-Frame-clause-reads
returns-in-Frame-clause-reads g c told = c.loop-size.invariant.taken told

pub returns-in-Frame-clause-frame : goal.returns-in-Frame-clause-frame
returns-in-Frame-clause-frame g c whole =
    (carried_in c.in-Frame.field-0, subst (λ l. IsFrame c.args.header.now l (carried_in c.in-Frame.field-0)) c.bytes.ensures c.in-Frame.ensures)

-- ---- what refuses it

pub returns-in-Bad-clause-reads : goal.returns-in-Bad-clause-reads
returns-in-Bad-clause-reads g c told =
    bad_read c.args.header.now c.loop-size.room (g.S.Source.left c.args.source.now) (g.S.Source.left c.loop-size.source)
    (c.loop-size.invariant.taken told) (subst (λ l. Shows c.args.header.now l Bad) c.bytes.ensures c.in-Bad.ensures)

pub returns-in-Other-clause-reads : goal.returns-in-Other-clause-reads
returns-in-Other-clause-reads g c told =
    other_read c.args.header.now c.loop-size.room (g.S.Source.left c.args.source.now) (g.S.Source.left c.loop-size.source)
    (c.loop-size.invariant.taken told) (subst (IsOther c.args.header.now) c.bytes.ensures c.in-Other.ensures)

pub returns-in-Err-clause-cause : goal.returns-in-Err-clause-cause
returns-in-Err-clause-cause g c = λ is.
    rose_since (g.S.Source.faults c.args.source.now) (g.S.Source.faults c.loop-size.source) (g.S.Source.faults c.take_up_to.new.source)
    c.loop-size.invariant.later (c.in-Err.ensures.cause.failed refl)

-- ---- the end of the input

pub returns-then-count-eq0-clause-reads : goal.returns-then-count-eq0-clause-reads
returns-then-count-eq0-clause-reads g c = λ told.
    let same : c.take_up_to.new.self ≡ c.loop-size.room =
    same_room c.loop-size.room c.take_up_to.new.self (omega (arith, c.in-Ok.ensures.more, c.if-count-eq0.true)) c.in-Ok.ensures.front in
    subst (λ room. Reads c.end_behind.result c.args.header.now (g.S.Source.left c.args.source.now) (g.S.Source.left c.take_up_to.new.source) room)
    (sym same)
    (end_read c.args.header.now c.loop-size.room (g.S.Source.left c.args.source.now) (g.S.Source.left c.loop-size.source)
    (c.loop-size.invariant.taken told) c.in-Short.size (g.S.Source.left c.take_up_to.new.source) c.end_behind.result
    (subst (λ l. Shows c.args.header.now l (Short c.in-Short.size)) c.bytes.ensures c.in-Short.ensures)
    (c.in-Ok.ensures.end told c.if-count-eq0.true)
    (c.end_behind.ensures ∙ ap end_behind same))

pub returns-then-count-eq0-clause-frame : goal.returns-then-count-eq0-clause-frame
returns-then-count-eq0-clause-frame g c whole =
    absurd (never_whole c.take_up_to.new.self (sym c.end_behind.ensures ∙ whole))

pub returns-then-count-eq0-clause-later : goal.returns-then-count-eq0-clause-later
returns-then-count-eq0-clause-later g c = omega (arith, c.loop-size.invariant.later, c.take_up_to.ensures.cause.later)

pub returns-then-count-eq0-clause-cause : goal.returns-then-count-eq0-clause-cause
returns-then-count-eq0-clause-cause g c fault =
    absurd (never_fault c.take_up_to.new.self (sym c.end_behind.ensures ∙ fault))
