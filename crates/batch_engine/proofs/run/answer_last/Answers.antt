use Rattle.std.proofs.Common.{[], length, map, sym, ap, subst, ◌∙◌, append-nil, arith}
use Rattle.std.proofs.lemmas.Result.{err_from_is_err_and}
use Rattle.outside.specs.Shelf.{AllIn}
use Rattle.log_journal.specs.Opening.{header_bytes}
use Rattle.desk_crew.proofs.Taking.{length-journals}
use Rattle.batch_engine.specs.Answers.{output_bytes}
use Rattle.batch_engine.specs.Batches.{stretch_in}
use Rattle.batch_engine.specs.Stretches.{AllBack}
use Rattle.batch_engine.proofs.Running.{until_first, until_written, asks_one}
use Rattle.batch_engine.proofs.run.answer_last.Given.{Over}
use Rattle.batch_engine.proofs.run.answer_last.Goals as goal
use Rattle.batch_engine.proofs.run.answer_last.Goals.{After-give_back}

-- no ask was answered
pub returns-in_default-clause-stopped : goal.returns-in_default-clause-stopped
returns-in_default-clause-stopped g c = (
  c.args.seats.items,
  until_first c.args.registry.now.schema.now c.args.registry.now.world.now (header_bytes c.args.registry.now.header.now) g.F.D.Disk g.K.Sink.tells
      (stretch_in c.args.asks.now) c.args.seats.items (g.K.Sink.written c.args.sink.now),
  c.in_default.ensures.back,
)

-- ---- the disks are given back

pub refusals_of-refusals-requires-clause-room : goal.refusals_of-refusals-requires-clause-room
refusals_of-refusals-requires-clause-room g c =
    let same = ap length (c.in-Some.ensures.can.registered ∙ sym c.requires.can.registered) in
    let now = length-journals c.in-Some.told.seats.items in
    let first = length-journals c.args.seats.items in
    let read = ap length c.as_slice.ensures.value in
    omega (arith, c.requires.refusals, same, now, first, read)

pub write_behind-requires-clause-closed : goal.write_behind-requires-clause-closed
write_behind-requires-clause-closed g c κs within =
    subst (λ ns. AllIn ns (g.F.Shelf.is_out c.give_back.new.shelf)) c.in-Some.ensures.can.registered c.give_back.ensures.inside

given : (g : Over) (c : After-give_back g) → AllBack g.F.Shelf g.F.D.Disk c.args.shelf.now c.give_back.new.shelf c.in-Some.told.seats.items
given g c =
    let given = c.give_back.ensures in
    subst (λ s. AllBack g.F.Shelf g.F.D.Disk s c.give_back.new.shelf c.in-Some.told.seats.items) c.in-Some.ensures.untouched
    (record { back = given.back; inside = given.inside; others_out = given.others_out; disks = given.disks; counts = given.counts })

pub returns-in_err-write_behind-clause-stopped : goal.returns-in_err-write_behind-clause-stopped
returns-in_err-write_behind-clause-stopped g c =
    let p = err_from_is_err_and c.from_residual.result c.from_residual.ensures.1 in
    let order = c.in-Some.ensures.told in
    rw (p.1, p.2) (
      c.in-Some.told.seats.items,
      until_written c.args.registry.now.schema.now c.args.registry.now.world.now (header_bytes c.args.registry.now.header.now) g.F.D.Disk _ g.K.Sink.tells
          (stretch_in c.args.asks.now) (stretch_in c.args.asks.now) [] c.args.seats.items c.in-Some.told.seats.items c.in-Some.told.is_broken _ _
          (output_bytes order.lines) (sym (append-nil _)) (asks_one c.args.asks.now) tt order.runs
          (λ told. c.in_err-write_behind.ensures.written told order.lines order.numbered order.moved),
      given g (goal.at.returns-in_err-write_behind-clause-stopped g c).After-give_back,
    )

pub returns-clause-answered : goal.returns-clause-answered
returns-clause-answered g c =
    let order = c.in-Some.ensures.told in (
      c.in-Some.told.seats.items,
      record {
        output = output_bytes order.lines;
        appended = λ told. c.in_ok-write_behind.ensures.written told order.lines order.numbered order.moved;
        runs = order.runs;
      },
      given g (goal.at.returns-clause-answered g c).After-give_back,
      c.refusals_of-refusals.ensures ∙ ap (map (λ s. s.refusal)) c.as_slice.ensures.value,
    )
