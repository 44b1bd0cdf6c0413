use Rattle.std.proofs.Common.{◌≡◌, ◌≤◌, length}
use Rattle.std.specs.Prelude.{vec_len, vec_capacity}
use Rattle.outside.specs.Shelf.{SameNames}
use Rattle.desk_crew.specs.Side.{OpeningsOwn}
use Rattle.desk_crew.proofs.Taking.{Taken}
use Rattle.desk_crew.proofs.crew.open_all.Given as goal

-- the journals of the first users are taken
abbrev pub invariant-loop-user : goal.invariant-loop-user
invariant-loop-user g l = record {
  taken : Taken l.registry.directory.now g.F.Shelf.tells g.F.D.Disk (g.F.Shelf.disk l.fn.shelf) (g.F.Shelf.disk_faults l.fn.shelf)
      l.registry.users.now l.user-index l.openings.items (g.F.Shelf.disk l.shelf) (g.F.Shelf.is_out l.shelf) (g.F.Shelf.disk_faults l.shelf);
  room : length l.registry.users.now ≤ vec_capacity l.openings;
  count : vec_len l.openings ≡ l.user-index;
  later : g.F.Shelf.faults l.fn.shelf ≤ g.F.Shelf.faults l.shelf;
  looked : g.F.Shelf.looked l.shelf ≡ g.F.Shelf.looked l.fn.shelf;
  own : OpeningsOwn g.F.D.Disk.origin (g.F.Shelf.lent l.fn.shelf).origin l.openings.items;
  lent : g.F.Shelf.lent l.shelf ≡ g.F.Shelf.lent l.fn.shelf;
  files : SameNames (g.F.Shelf.file l.fn.shelf) (g.F.Shelf.file l.shelf);
}
