use Rattle.std.proofs.Common.{◌≡◌, ◌≤◌, length}
use Rattle.std.specs.Prelude.{vec_len, vec_capacity}
use Rattle.outside.specs.Shelf.{SameNames}
use Rattle.log_journal.specs.Opening.{header_bytes}
use Rattle.standby_engine.specs.Opened.{PlacesOwn}
use Rattle.standby_engine.proofs.Places.{Opening}
use Rattle.standby_engine.proofs.opening.open_journals.Given as goal

-- the journals of the first users are opened
abbrev pub invariant-loop-user : goal.invariant-loop-user
invariant-loop-user g l = record {
  opening : Opening l.directory (header_bytes l.header) g.F.Shelf.tells g.F.D.Disk (g.F.Shelf.disk l.fn.shelf) (g.F.Shelf.disk_faults l.fn.shelf) l.users
      l.user-index l.places.items (g.F.Shelf.disk l.shelf) (g.F.Shelf.is_out l.shelf) (g.F.Shelf.disk_faults l.shelf);
  room : length l.users ≤ vec_capacity l.places;
  count : vec_len l.places ≡ l.user-index;
  later : g.F.Shelf.faults l.fn.shelf ≤ g.F.Shelf.faults l.shelf;
  own : PlacesOwn g.F.D.Disk.origin (g.F.Shelf.lent l.fn.shelf).origin l.places.items;
  lent : g.F.Shelf.lent l.shelf ≡ g.F.Shelf.lent l.fn.shelf;
  looked : g.F.Shelf.looked l.shelf ≡ g.F.Shelf.looked l.fn.shelf;
  files : SameNames (g.F.Shelf.file l.fn.shelf) (g.F.Shelf.file l.shelf);
}
