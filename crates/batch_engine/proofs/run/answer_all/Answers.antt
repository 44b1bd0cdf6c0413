use Rattle.std.proofs.Common.{◌||◌, take, refl, sym, ap, subst, ◌∙◌, arith, length}
use Rattle.std.specs.Prelude.{Err}
use Rattle.std.proofs.lemmas.Result.{err_from_is_err_and}
use Rattle.outside.proofs.Rises.{rose_wide}
use Rattle.log_journal.specs.Opening.{header_bytes}
use Rattle.desk_crew.specs.Registered.{registered_journals}
use Rattle.desk_crew.proofs.Taking.{length-journals}
use Rattle.batch_engine.specs.BatchOf.{ended_of, last_of}
use Rattle.batch_engine.specs.Batches.{AreShort, stretch_in, ended_in, stretches_in, items_in}
use Rattle.batch_engine.specs.Steps.{RunsAll, RunsUntil}
use Rattle.batch_engine.specs.Stretches.{CanServe, AllBack}
use Rattle.batch_engine.specs.declared.closed.Stopped.TheVariants.{Write}
use Rattle.batch_engine.proofs.Running.{stay_run, can_still, all_first, all_then, all_ended, until_then, until_stretch, stretches_more, stretches_end, asks_at}
use Rattle.batch_engine.proofs.Running.{same_error}
use Rattle.batch_engine.proofs.run.answer_all.Goals as goal

pub loop-asks-init : goal.loop-asks-init
loop-asks-init g c = record {
  so_far = all_first c.args.registry.now.schema.now c.args.registry.now.world.now (header_bytes c.args.registry.now.header.now) g.F.D.Disk g.K.Sink.tells
      c.args.seats.items (g.K.Sink.written c.args.sink.now);
  can = c.requires.can;
  same = refl;
  later = omega arith;
}

-- ---- a stretch that a restart ends

pub answer_ended-requires-clause-short : goal.answer_ended-requires-clause-short
answer_ended-requires-clause-short g c κs within =
    subst AreShort (sym c.as_slice-asks.ensures.value)
    (asks_at AreShort c.ended-asks-items.result.now c.loop-asks.asks-index c.asks-item.result c.loop-asks-test.true c.asks-item.is
    c.ended-asks-items.ensures.short)

pub answer_ended-requires-clause-can : goal.answer_ended-requires-clause-can
answer_ended-requires-clause-can g c κs within = c.loop-asks.invariant.can

-- it went on
pub loop-asks-preserved : goal.loop-asks-preserved
loop-asks-preserved g c =
    let before = c.loop-asks.invariant.later in
    let on = c.answer_ended.ensures.sink_later in
    let stretches = c.ended-asks-items.result.now in
    let told = c.in_ok-told.told in
    record {
      so_far = subst (λ l. RunsAll c.args.registry.now.schema.now c.args.registry.now.world.now (header_bytes c.args.registry.now.header.now)
          g.F.D.Disk g.K.Sink.tells l c.args.seats.items told.0.items (c.loop-asks.is_broken || told.1) (g.K.Sink.written c.args.sink.now)
          (g.K.Sink.written c.answer_ended.new.sink))
          (sym (stretches_more stretches c.loop-asks.asks-index c.asks-item.result c.loop-asks-test.true c.asks-item.is))
          (all_then c.args.registry.now.schema.now c.args.registry.now.world.now (header_bytes c.args.registry.now.header.now) g.F.D.Disk g.K.Sink.tells
          (stretches_in (take c.loop-asks.asks-index stretches)) (ended_in c.asks-item.result.items) c.args.seats.items c.loop-asks.seats.items told.0.items
          c.loop-asks.is_broken told.1 _ _ _ c.loop-asks.invariant.so_far
          (subst (λ asks. RunsAll c.args.registry.now.schema.now c.args.registry.now.world.now (header_bytes c.args.registry.now.header.now)
          g.F.D.Disk g.K.Sink.tells (ended_in asks) c.loop-asks.seats.items told.0.items told.1 (g.K.Sink.written c.loop-asks.sink)
          (g.K.Sink.written c.answer_ended.new.sink)) c.as_slice-asks.ensures.value c.in_ok-told.ensures.again));
      can = subst (λ s. CanServe c.args.registry.now.schema.now c.args.registry.now.world.now (header_bytes c.args.registry.now.header.now) g.F.D.Disk
          (registered_journals c.args.registry.now.directory.now c.args.registry.now.users.now) told.0.items (g.F.Shelf.is_out s) (g.F.Shelf.disk_faults s)
          (g.F.Shelf.lent s).origin) (sym c.in_ok-told.ensures.untouched)
          (can_still c.args.registry.now.schema.now c.args.registry.now.world.now (header_bytes c.args.registry.now.header.now) g.F.D.Disk _ _ _ _ _ _
          (stay_run _ _ _ _ _ _ _ _ _ c.in_ok-told.ensures.again.runs) c.loop-asks.invariant.can);
      same = c.in_ok-told.ensures.untouched ∙ c.loop-asks.invariant.same;
      later = omega (arith, before, on);
    }

-- it stopped
pub returns-in_err-told-clause-stopped : goal.returns-in_err-told-clause-stopped
returns-in_err-told-clause-stopped g c =
    let p = err_from_is_err_and c.from_residual.result c.from_residual.ensures.1 in
    let why = c.in_err-told.field-0.0 in
    let stop = c.in_err-told.ensures.stopped in
    rw (p.1, p.2) (
      stop.0,
      subst (λ e. RunsUntil c.args.registry.now.schema.now c.args.registry.now.world.now (header_bytes c.args.registry.now.header.now) g.F.D.Disk why
          g.K.Sink.tells (items_in e (last_of c.args.batch.now)) c.args.seats.items stop.0 (g.K.Sink.written c.args.sink.now)
          (g.K.Sink.written c.answer_ended.new.sink))
          c.ended-asks-items.ensures.stretches
          (until_stretch c.args.registry.now.schema.now c.args.registry.now.world.now (header_bytes c.args.registry.now.header.now) g.F.D.Disk why
          g.K.Sink.tells c.ended-asks-items.result.now (last_of c.args.batch.now) c.loop-asks.asks-index c.asks-item.result c.loop-asks-test.true c.asks-item.is
          c.args.seats.items c.loop-asks.seats.items stop.0 c.loop-asks.is_broken _ _ _ c.loop-asks.invariant.so_far
          (subst (λ asks. RunsUntil c.args.registry.now.schema.now c.args.registry.now.world.now (header_bytes c.args.registry.now.header.now) g.F.D.Disk why
          g.K.Sink.tells (ended_in asks) c.loop-asks.seats.items stop.0 (g.K.Sink.written c.loop-asks.sink) (g.K.Sink.written c.answer_ended.new.sink))
          c.as_slice-asks.ensures.value stop.1)),
      subst (λ s. AllBack g.F.Shelf g.F.D.Disk s c.answer_ended.new.shelf stop.0) c.loop-asks.invariant.same stop.2,
    )

pub returns-in_err-told-clause-cause : goal.returns-in_err-told-clause-cause
returns-in_err-told-clause-cause g c = λ is.
    let p = err_from_is_err_and c.from_residual.result c.from_residual.ensures.1 in
    rose_wide (g.K.Sink.faults c.args.sink.now) (g.K.Sink.faults c.loop-asks.sink) (g.K.Sink.faults c.answer_ended.new.sink)
    (g.K.Sink.faults c.answer_ended.new.sink) c.loop-asks.invariant.later (omega arith)
    (c.in_err-told.ensures.cause (same_error c.from_residual.result c.in_err-told.field-0.0 Write (p.1 ∙ ap Err p.2) is))

-- ---- the last one

pub answer_last-requires-clause-can : goal.answer_last-requires-clause-can
answer_last-requires-clause-can g c κs within = c.loop-asks.invariant.can

pub answer_last-requires-clause-refusals : goal.answer_last-requires-clause-refusals
answer_last-requires-clause-refusals g c κs within =
    let same = ap length (c.loop-asks.invariant.can.registered ∙ sym c.requires.can.registered) in
    let now = length-journals c.loop-asks.seats.items in
    let first = length-journals c.args.seats.items in
    omega (arith, c.requires.refusals, same, now, first)

pub returns-in_err-last-clause-stopped : goal.returns-in_err-last-clause-stopped
returns-in_err-last-clause-stopped g c =
    let p = err_from_is_err_and c.from_residual-in_err-last.result c.from_residual-in_err-last.ensures.1 in
    let why = c.in_err-last.field-0.0 in
    let stop = c.in_err-last.ensures.stopped in
    rw (p.1, p.2) (
      stop.0,
      until_then c.args.registry.now.schema.now c.args.registry.now.world.now (header_bytes c.args.registry.now.header.now) g.F.D.Disk why g.K.Sink.tells
          (stretches_in (ended_of c.args.batch.now)) (stretch_in (last_of c.args.batch.now)) c.args.seats.items c.loop-asks.seats.items stop.0
          c.loop-asks.is_broken _ _ _ (stretches_end (ended_of c.args.batch.now))
          (all_ended c.args.registry.now.schema.now c.args.registry.now.world.now (header_bytes c.args.registry.now.header.now) g.F.D.Disk g.K.Sink.tells
          (ended_of c.args.batch.now) c.ended-asks-items.result.now c.loop-asks.asks-index _ _ _ _ _ (omega (arith, c.loop-asks-test.false))
          c.ended-asks-items.ensures.stretches c.loop-asks.invariant.so_far)
          (subst (λ asks. RunsUntil c.args.registry.now.schema.now c.args.registry.now.world.now (header_bytes c.args.registry.now.header.now) g.F.D.Disk why
          g.K.Sink.tells (stretch_in asks) c.loop-asks.seats.items stop.0 (g.K.Sink.written c.loop-asks.sink) (g.K.Sink.written c.answer_last.new.sink))
          c.last-asks.ensures.stretch stop.1),
      subst (λ s. AllBack g.F.Shelf g.F.D.Disk s c.answer_last.new.shelf stop.0) c.loop-asks.invariant.same stop.2,
    )

pub returns-in_err-last-clause-cause : goal.returns-in_err-last-clause-cause
returns-in_err-last-clause-cause g c = λ is.
    let p = err_from_is_err_and c.from_residual-in_err-last.result c.from_residual-in_err-last.ensures.1 in
    rose_wide (g.K.Sink.faults c.args.sink.now) (g.K.Sink.faults c.loop-asks.sink) (g.K.Sink.faults c.answer_last.new.sink)
    (g.K.Sink.faults c.answer_last.new.sink) c.loop-asks.invariant.later (omega arith)
    (c.in_err-last.ensures.cause (same_error c.from_residual-in_err-last.result c.in_err-last.field-0.0 Write (p.1 ∙ ap Err p.2) is))

pub returns-clause-answered : goal.returns-clause-answered
returns-clause-answered g c =
    let all = c.in_ok-last.ensures.answered in (
      all.0,
      all_then c.args.registry.now.schema.now c.args.registry.now.world.now (header_bytes c.args.registry.now.header.now) g.F.D.Disk g.K.Sink.tells
          (stretches_in (ended_of c.args.batch.now)) (stretch_in (last_of c.args.batch.now)) c.args.seats.items c.loop-asks.seats.items all.0
          c.loop-asks.is_broken c.in_ok-last.last.1 _ _ _
          (all_ended c.args.registry.now.schema.now c.args.registry.now.world.now (header_bytes c.args.registry.now.header.now) g.F.D.Disk g.K.Sink.tells
          (ended_of c.args.batch.now) c.ended-asks-items.result.now c.loop-asks.asks-index _ _ _ _ _ (omega (arith, c.loop-asks-test.false))
          c.ended-asks-items.ensures.stretches c.loop-asks.invariant.so_far)
          (subst (λ asks. RunsAll c.args.registry.now.schema.now c.args.registry.now.world.now (header_bytes c.args.registry.now.header.now) g.F.D.Disk
          g.K.Sink.tells (stretch_in asks) c.loop-asks.seats.items all.0 c.in_ok-last.last.1 (g.K.Sink.written c.loop-asks.sink)
          (g.K.Sink.written c.answer_last.new.sink)) c.last-asks.ensures.stretch all.1),
      subst (λ s. AllBack g.F.Shelf g.F.D.Disk s c.answer_last.new.shelf all.0) c.loop-asks.invariant.same all.2,
      all.3,
    )
