use Rattle.std.proofs.Common.{◌≡◌, ◌≤◌}
use Rattle.log_journal.specs.Opening.{IsOnlyRead}
use Rattle.log_journal.specs.Walk.{AreThere}
use Rattle.log_journal.proofs.tell.tell_all.Given as goal

-- the disk was told of the records so far, and stays as it was
abbrev pub invariant-loop-number : goal.invariant-loop-number
invariant-loop-number g l = record {
  told : l.number ≤ g.D.Disk.tellable l.disk;
  still_told : g.D.Disk.tellable l.fn.disk ≤ g.D.Disk.tellable l.disk;
  heard : g.D.Disk.tells → AreThere (g.D.Disk.heard l.fn.disk) (g.D.Disk.reads l.fn.disk)
      → AreThere (g.D.Disk.heard l.disk) (g.D.Disk.reads l.disk);
  only : IsOnlyRead (g.D.Disk.reads l.fn.disk) (g.D.Disk.reads l.disk) (g.D.Disk.image l.fn.disk) (g.D.Disk.image l.disk)
      (g.D.Disk.moment l.fn.disk) (g.D.Disk.moment l.disk) (g.D.Disk.image_since l.fn.disk) (g.D.Disk.image_since l.disk)
      (g.D.Disk.faults l.fn.disk) (g.D.Disk.faults l.disk);
  origin : g.D.Disk.origin l.disk ≡ g.D.Disk.origin l.fn.disk;
}
