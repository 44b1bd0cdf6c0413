use Rattle.std.specs.List.{AllByRecursion}
use Rattle.std.proofs.Common.{◌∷◌, ◌++◌, [], length, inr, refl, sym, ap, subst, ◌∙◌, append-nil}
use Rattle.std.proofs.lemmas.Result.{err_from_is_err_and}
use Rattle.outside.specs.Shelf.{AllIn}
use Rattle.log_journal.specs.Opening.{header_bytes}
use Rattle.desk_crew.specs.Crew.{IsSeatAsOpened}
use Rattle.desk_crew.specs.Registered.{registered_journals}
use Rattle.batch_engine.specs.Answers.{output_bytes}
use Rattle.batch_engine.specs.BatchLines.{restarted}
use Rattle.batch_engine.specs.Batches.{stretch_in, ended_in}
use Rattle.batch_engine.specs.Stretches.{CanServe, InOrder, AllBack}
use Rattle.batch_engine.specs.declared.answer.Answer.{Answer}
use Rattle.batch_engine.proofs.Posts.{in_ended}
use Rattle.batch_engine.proofs.Running.{stay_reopened, can_still, until_first, until_here, until_written, asks_one, ended_one, all_as_opened}
use Rattle.batch_engine.proofs.run.answer_ended.Given.{Over}
use Rattle.batch_engine.proofs.run.answer_ended.Goals as goal
use Rattle.batch_engine.proofs.run.answer_ended.Goals.{In-Some-reopen_all, After-push_reserved}

-- no ask was answered
pub returns-in_default-clause-stopped : goal.returns-in_default-clause-stopped
returns-in_default-clause-stopped g c = (
  c.args.seats.items,
  until_first c.args.registry.now.schema.now c.args.registry.now.world.now (header_bytes c.args.registry.now.header.now) g.F.D.Disk g.K.Sink.tells
      (ended_in c.args.asks.now) c.args.seats.items (g.K.Sink.written c.args.sink.now),
  c.in_default.ensures.back,
)

-- ---- memory was wanting where the journals were opened again

pub write_behind-requires-clause-closed : goal.write_behind-requires-clause-closed
write_behind-requires-clause-closed g c κs within =
    subst (λ ns. AllIn ns (g.F.Shelf.is_out c.reopen_all.new.shelf)) c.in-Some.ensures.can.registered c.in_default-reopen_all.ensures.inside

pub returns-in_err-write_behind-clause-stopped : goal.returns-in_err-write_behind-clause-stopped
returns-in_err-write_behind-clause-stopped g c =
    let p = err_from_is_err_and c.from_residual.result c.from_residual.ensures.1 in
    let order = c.in-Some.ensures.told in
    let none = c.in_default-reopen_all.ensures in
    let shelf = c.reopen_all.ensures in
    rw (p.1, p.2) (
      c.in-Some.told.seats.items,
      until_written c.args.registry.now.schema.now c.args.registry.now.world.now (header_bytes c.args.registry.now.header.now) g.F.D.Disk _ g.K.Sink.tells
          (ended_in c.args.asks.now) (stretch_in c.args.asks.now) (restarted ∷ []) c.args.seats.items c.in-Some.told.seats.items c.in-Some.told.is_broken _ _
          (output_bytes order.lines) refl (asks_one c.args.asks.now) tt order.runs
          (λ told. c.in_err-write_behind.ensures.written told order.lines order.numbered order.moved),
      subst (λ s. AllBack g.F.Shelf g.F.D.Disk s c.reopen_all.new.shelf c.in-Some.told.seats.items) c.in-Some.ensures.untouched
          (record { back = none.back; inside = none.inside; others_out = shelf.others_out; disks = shelf.disks; counts = shelf.counts }),
    )

pub returns-in_default-reopen_all-clause-stopped : goal.returns-in_default-reopen_all-clause-stopped
returns-in_default-reopen_all-clause-stopped g c =
    let order = c.in-Some.ensures.told in
    let none = c.in_default-reopen_all.ensures in
    let shelf = c.reopen_all.ensures in (
      c.in-Some.told.seats.items,
      until_here c.args.registry.now.schema.now c.args.registry.now.world.now (header_bytes c.args.registry.now.header.now) g.F.D.Disk g.K.Sink.tells
          (stretch_in c.args.asks.now) (restarted ∷ []) c.args.seats.items c.in-Some.told.seats.items c.in-Some.told.is_broken _ _ (inr tt)
          (record {
            output = output_bytes order.lines;
            appended = λ told. c.in_ok-write_behind.ensures.written told order.lines order.numbered order.moved;
            runs = order.runs;
          }),
      subst (λ s. AllBack g.F.Shelf g.F.D.Disk s c.reopen_all.new.shelf c.in-Some.told.seats.items) c.in-Some.ensures.untouched
          (record { back = none.back; inside = none.inside; others_out = shelf.others_out; disks = shelf.disks; counts = shelf.counts }),
    )

-- ---- they are open again

-- the lines with that of the restart
lines : (g : Over) (c : After-push_reserved g)
    → InOrder c.args.registry.now.schema.now c.args.registry.now.world.now (header_bytes c.args.registry.now.header.now) g.F.D.Disk
    (ended_in c.args.asks.now) c.args.seats.items c.in-Some-reopen_all.seats.items c.push_reserved.new.self.items c.in-Some.told.is_broken
lines g c =
    in_ended c.args.registry.now.schema.now c.args.registry.now.world.now (header_bytes c.args.registry.now.header.now) g.F.D.Disk
    (stretch_in c.args.asks.now) (length c.args.asks.now) c.args.seats.items c.in-Some.told.seats.items c.in-Some-reopen_all.seats.items
    c.in-Some.told.answers.items c.push_reserved.new.self.items c.in-Some.told.is_broken
    (c.push_reserved.ensures.items ∙ ap (λ (a : Answer). c.in-Some.told.answers.items ++ a ∷ []) c.restarted.ensures) c.in-Some.ensures.below
    c.in-Some-reopen_all.ensures.reopened c.in-Some.ensures.told

pub write_again-requires-clause-closed : goal.write_again-requires-clause-closed
write_again-requires-clause-closed g c κs within =
    subst (AllByRecursion IsSeatAsOpened) (sym c.as_slice.ensures.value)
    (all_as_opened _ _ _ g.F.D.Disk c.in-Some.told.seats.items c.in-Some-reopen_all.seats.items c.in-Some-reopen_all.ensures.reopened)

pub returns-in-Ok-clause-again : goal.returns-in-Ok-clause-again
returns-in-Ok-clause-again g c =
    let order = lines g (goal.at.returns-in-Ok-clause-again g c).After-push_reserved in
    record {
      output = output_bytes order.lines;
      appended = λ told. c.in-Ok.ensures.written told order.lines order.numbered order.moved;
      runs = order.runs;
    }

-- ---- and the disks are given back, where not all lines could be written

can : (g : Over) (c : In-Some-reopen_all g)
    → CanServe c.args.registry.now.schema.now c.args.registry.now.world.now (header_bytes c.args.registry.now.header.now) g.F.D.Disk
    (registered_journals c.args.registry.now.directory.now c.args.registry.now.users.now) c.in-Some-reopen_all.seats.items
    (g.F.Shelf.is_out c.reopen_all.new.shelf) (g.F.Shelf.disk_faults c.reopen_all.new.shelf) (g.F.Shelf.lent c.reopen_all.new.shelf).origin
can g c =
    subst (λ s. CanServe c.args.registry.now.schema.now c.args.registry.now.world.now (header_bytes c.args.registry.now.header.now) g.F.D.Disk
    (registered_journals c.args.registry.now.directory.now c.args.registry.now.users.now) c.in-Some-reopen_all.seats.items (g.F.Shelf.is_out s)
    (g.F.Shelf.disk_faults s) (g.F.Shelf.lent s).origin) (sym (c.in-Some-reopen_all.ensures.untouched ∙ c.in-Some.ensures.untouched))
    (can_still c.args.registry.now.schema.now c.args.registry.now.world.now (header_bytes c.args.registry.now.header.now) g.F.D.Disk _ _ _ _ _ _
    (stay_reopened _ _ _ _ _ _ c.in-Some-reopen_all.ensures.reopened) c.in-Some.ensures.can)

pub give_back-requires-clause-distinct : goal.give_back-requires-clause-distinct
give_back-requires-clause-distinct g c = (can g (goal.at.give_back-requires-clause-distinct g c).In-Some-reopen_all).distinct

pub give_back-requires-clause-out : goal.give_back-requires-clause-out
give_back-requires-clause-out g c = (can g (goal.at.give_back-requires-clause-out g c).In-Some-reopen_all).out

pub give_back-requires-clause-later : goal.give_back-requires-clause-later
give_back-requires-clause-later g c = (can g (goal.at.give_back-requires-clause-later g c).In-Some-reopen_all).later

pub give_back-requires-clause-own : goal.give_back-requires-clause-own
give_back-requires-clause-own g c = (can g (goal.at.give_back-requires-clause-own g c).In-Some-reopen_all).own

pub returns-in-Err-clause-stopped : goal.returns-in-Err-clause-stopped
returns-in-Err-clause-stopped g c =
    let order = lines g (goal.at.returns-in-Err-clause-stopped g c).After-push_reserved in
    let given = c.give_back.ensures in (
      c.in-Some-reopen_all.seats.items,
      until_written c.args.registry.now.schema.now c.args.registry.now.world.now (header_bytes c.args.registry.now.header.now) g.F.D.Disk _ g.K.Sink.tells
          (ended_in c.args.asks.now) (ended_in c.args.asks.now) [] c.args.seats.items c.in-Some-reopen_all.seats.items c.in-Some.told.is_broken _ _
          (output_bytes order.lines) (sym (append-nil _)) (ended_one c.args.asks.now) tt order.runs
          (λ told. c.in-Err.ensures.written told order.lines order.numbered order.moved),
      subst (λ s. AllBack g.F.Shelf g.F.D.Disk s c.give_back.new.shelf c.in-Some-reopen_all.seats.items)
          (c.in-Some-reopen_all.ensures.untouched ∙ c.in-Some.ensures.untouched)
          (record { back = given.back; inside = given.inside; others_out = given.others_out; disks = given.disks; counts = given.counts }),
    )
