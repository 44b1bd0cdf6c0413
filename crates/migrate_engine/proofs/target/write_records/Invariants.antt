use Rattle.std.proofs.Common.{◌≡◌, ◌≤◌, ◌++◌, length, map, take}
use Rattle.log_journal.specs.Opening.{recorded}
use Rattle.log_journal.specs.Records.{written}
use Rattle.migrate_engine.specs.Moves.{StaysShut}
use Rattle.migrate_engine.proofs.target.write_records.Given as goal

-- the records so far were written
abbrev pub invariant-loop-next : goal.invariant-loop-next
invariant-loop-next g l = record {
  more : g.D.Disk.tells → g.D.Disk.reads l.disk ≡ g.D.Disk.reads l.initial.disk ++ written (map recorded (take l.next-index l.records));
  end : g.D.Disk.tells → l.end ≡ length (g.D.Disk.reads l.disk);
  behind : 8 ≤ l.end;
  shut : g.D.Disk.tells → StaysShut g.D.Disk l.initial.disk l.disk;
  origin : g.D.Disk.origin l.disk ≡ g.D.Disk.origin l.initial.disk;
  count : g.D.Disk.faults l.initial.disk ≤ g.D.Disk.faults l.disk;
}
