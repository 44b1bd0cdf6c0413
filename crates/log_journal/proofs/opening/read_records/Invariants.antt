use Rattle.std.proofs.Common.{◌≡◌, ◌≤◌, All, map, drop}
use Rattle.outside.specs.Disk.{HearsNoMore}
use Rattle.log_journal.specs.Opening.{recorded, IsRecord, IsOnlyRead}
use Rattle.log_journal.proofs.Reading.{SoFar}
use Rattle.log_journal.proofs.opening.read_records.Given as goal

abbrev pub invariant-loop : goal.invariant-loop
invariant-loop g l = record {
  so_far : g.D.Disk.tells → SoFar l.kinds (g.D.Disk.reads l.disk) (map recorded l.records.items) (drop l.gate (g.D.Disk.reads l.disk));
  each : All (IsRecord l.kinds) l.records.items;
  only : IsOnlyRead (g.D.Disk.reads l.initial.disk) (g.D.Disk.reads l.disk) (g.D.Disk.image l.initial.disk) (g.D.Disk.image l.disk)
      (g.D.Disk.moment l.initial.disk) (g.D.Disk.moment l.disk) (g.D.Disk.image_since l.initial.disk) (g.D.Disk.image_since l.disk)
      (g.D.Disk.faults l.initial.disk) (g.D.Disk.faults l.disk);
  origin : g.D.Disk.origin l.disk ≡ g.D.Disk.origin l.initial.disk;
  still_told : g.D.Disk.tellable l.initial.disk ≤ g.D.Disk.tellable l.disk;
  heard : HearsNoMore (g.D.Disk.heard l.initial.disk) (g.D.Disk.heard l.disk);
}
