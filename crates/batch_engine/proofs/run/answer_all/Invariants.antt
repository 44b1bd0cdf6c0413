use Rattle.std.proofs.Common.{◌≡◌, ◌≤◌, take}
use Rattle.log_journal.specs.Opening.{header_bytes}
use Rattle.desk_crew.specs.Registered.{registered_journals}
use Rattle.batch_engine.specs.Batches.{stretches_in}
use Rattle.batch_engine.specs.Steps.{RunsAll}
use Rattle.batch_engine.specs.Stretches.{CanServe}
use Rattle.batch_engine.proofs.run.answer_all.Given as goal

-- the stretches so far were carried out with their restarts, and their lines written; the seats behind them can serve
abbrev pub invariant-loop-asks : goal.invariant-loop-asks
invariant-loop-asks g l = record {
  so_far : RunsAll l.registry.schema.now l.registry.world.now
      (header_bytes l.registry.header.now) g.F.D.Disk
      g.K.Sink.tells (stretches_in (take l.asks-index l.asks-items)) l.fn.seats.items l.seats.items l.is_broken (g.K.Sink.written l.fn.sink)
      (g.K.Sink.written l.sink);
  can : CanServe l.registry.schema.now l.registry.world.now (header_bytes l.registry.header.now) g.F.D.Disk
      (registered_journals l.registry.directory.now l.registry.users.now) l.seats.items (g.F.Shelf.is_out l.shelf) (g.F.Shelf.disk_faults l.shelf)
      (g.F.Shelf.lent l.shelf).origin;
  same : l.shelf ≡ l.fn.shelf;
  later : g.K.Sink.faults l.fn.sink ≤ g.K.Sink.faults l.sink;
}
