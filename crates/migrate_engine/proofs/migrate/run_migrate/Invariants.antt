use Rattle.std.proofs.Common.{◌≡◌, ◌≤◌, ◌++◌, List, ℕ, false, map}
use Rattle.outside.specs.Shelf.{SameBeside}
use Rattle.log_journal.specs.Names.{journal_name}
use Rattle.log_journal.specs.Opening.{header_bytes}
use Rattle.init_engine.specs.Disks.{user_names}
use Rattle.migrate_engine.specs.Moves.{Moves}
use Rattle.migrate_engine.proofs.migrate.run_migrate.Given as goal

abbrev pub invariant-loop-number : goal.invariant-loop-number
invariant-loop-number g l = record {
  moved : g.F.Shelf.tells
      → Moves g.F.D.Disk (header_bytes l.header) l.from l.to (user_names l.users) (g.F.Shelf.disk l.initial.shelf) (g.F.Shelf.disk l.shelf)
      l.number l.number;
  out : (name : List ℕ) → g.F.Shelf.is_out l.shelf name ≡ false;
  counts : (name : List ℕ) → g.F.Shelf.disk_faults l.initial.shelf name ≤ g.F.Shelf.disk_faults l.shelf name;
  other_counts : SameBeside (map (journal_name l.from) (user_names l.users) ++ map (journal_name l.to) (user_names l.users))
      (g.F.Shelf.disk_faults l.initial.shelf) (g.F.Shelf.disk_faults l.shelf);
  files : (name : List ℕ) → g.F.Shelf.file l.shelf name ≡ g.F.Shelf.file l.initial.shelf name;
  looked : g.F.Shelf.looked l.shelf ≡ g.F.Shelf.looked l.initial.shelf;
  later : g.F.Shelf.faults l.initial.shelf ≤ g.F.Shelf.faults l.shelf;
}
