use Rattle.std.proofs.Common.{◌≡◌, ◌≤◌, ◌+◌, ℕ, List, map}
use Rattle.standby_core.specs.Books.{copies_in, held_in}
use Rattle.standby_core.specs.Copies.{held_name, held_origin}
use Rattle.standby_core.specs.Lasting.{AllLast, CountTheirRecords}
use Rattle.standby_engine.specs.Served.{IsDoorServed}
use Rattle.standby_engine.proofs.serving.serve_door.Given as goal

-- the connections so far were served, and are back
abbrev pub invariant-loop : goal.invariant-loop
invariant-loop g l = record {
  served : g.O.Door.tells → g.D.Disk.tells
      → IsDoorServed g.O.Door.given g.O.Door.back l.header (copies_in g.D.Disk.reads l.fn.book) (copies_in g.D.Disk.reads l.book) l.fn.door l.door l.wanting;
  count : g.O.Door.tells → g.O.Door.given l.door ≡ g.O.Door.given l.fn.door + l.counter;
  left : g.O.Door.tells → g.O.Door.left l.fn.door + g.O.Door.given l.fn.door ≡ g.O.Door.left l.door + g.O.Door.given l.door;
  lasts : g.D.Disk.tells → (own : List ℕ) (disks : List _) → AllLast g.D.Disk own disks (held_in l.fn.book) → AllLast g.D.Disk own disks (held_in l.book);
  names : map held_name (held_in l.book) ≡ map held_name (held_in l.fn.book);
  origins : map (held_origin g.D.Disk.origin) (held_in l.book) ≡ map (held_origin g.D.Disk.origin) (held_in l.fn.book);
  counted : (counts : List ℕ) → CountTheirRecords g.D.Disk.faults counts (held_in l.fn.book) → CountTheirRecords g.D.Disk.faults counts (held_in l.book);
  ends : g.O.Door.ends l.door ≡ g.O.Door.ends l.fn.door;
  faults : g.O.Door.faults l.fn.door ≤ g.O.Door.faults l.door;
}
