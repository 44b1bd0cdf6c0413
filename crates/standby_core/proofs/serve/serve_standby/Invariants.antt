use Rattle.std.proofs.Common.{◌≡◌, ◌≤◌, ℕ, List, map}
use Rattle.standby_core.specs.Books.{copies_in}
use Rattle.standby_core.specs.Copies.{held_name, held_origin}
use Rattle.standby_core.specs.Lasting.{AllLast, CountTheirRecords}
use Rattle.standby_core.proofs.Serving.{SoFar}
use Rattle.standby_core.proofs.serve.serve_standby.Given as goal

-- the frames so far were taken, and their answers were written
abbrev pub invariant-loop : goal.invariant-loop
invariant-loop g l = record {
  so_far : g.S.Source.tells → g.D.Disk.tells → g.K.Sink.tells
      → SoFar l.header (g.S.Source.left l.fn.source) (copies_in g.D.Disk.reads l.fn.book) (g.S.Source.left l.source) (copies_in g.D.Disk.reads l.book)
      (g.K.Sink.written l.fn.sink) (g.K.Sink.written l.sink);
  lasts : g.D.Disk.tells → (own : List ℕ) (disks : List _) → AllLast g.D.Disk own disks l.fn.book.journals.items
      → AllLast g.D.Disk own disks l.book.journals.items;
  names : map held_name l.book.journals.items ≡ map held_name l.fn.book.journals.items;
  origins : map (held_origin g.D.Disk.origin) l.book.journals.items ≡ map (held_origin g.D.Disk.origin) l.fn.book.journals.items;
  counted : (counts : List ℕ) → CountTheirRecords g.D.Disk.faults counts l.fn.book.journals.items
      → CountTheirRecords g.D.Disk.faults counts l.book.journals.items;
  read_later : g.S.Source.faults l.fn.source ≤ g.S.Source.faults l.source;
  write_later : g.K.Sink.faults l.fn.sink ≤ g.K.Sink.faults l.sink;
  held : g.S.Source.held l.source ≡ g.S.Source.held l.fn.source;
  answers : g.K.Sink.answers l.sink ≡ g.K.Sink.answers l.fn.sink;
}
