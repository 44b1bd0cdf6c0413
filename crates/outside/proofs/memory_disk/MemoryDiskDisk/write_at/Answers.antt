use Rattle.std.proofs.Common.{◌≡◌, false, sym, ◌∙◌, rules}
use Rattle.outside.specs.Disk.{Holds}
use Rattle.outside.proofs.Calls.{write_call_of, write_refusal, refused_kept, written_kept}
use Rattle.outside.proofs.memory_disk.MemoryDiskDisk.write_at.Goals as goal

pub invariant_of-self-in-Break-1 : goal.invariant_of-self-in-Break-1
invariant_of-self-in-Break-1 c =
    record {
      kept = c.args.self.now.kept
          ∙ sym (refused_kept c.args.self.now.first.items c.args.self.now.calls.items c.note.new.calls.items c.args.at c.in-Ok-Ok.piece
          c.in_err-note.ensures.err);
    }

pub returns-in_err-note-clause-images : goal.returns-in_err-note-clause-images
returns-in_err-note-clause-images c =
    let same : c.in-Ok-Ok.piece.items ≡ c.args.bytes.now = search rules in
    (write_refusal c.args.self.now.first.items c.args.self.now.calls.items c.note.new.calls.items c.args.at c.in-Ok-Ok.piece c.args.bytes.now same
    c.in_err-note.ensures.err).images

pub returns-clause-images : goal.returns-clause-images
returns-clause-images c =
    let same : c.in-Ok-Ok.piece.items ≡ c.args.bytes.now = search rules in
    (write_call_of c.args.self.now.first.items c.args.self.now.calls.items c.note.new.calls.items c.args.at c.in-Ok-Ok.piece false c.args.bytes.now same
    c.in_ok-note.ensures.ok).images

pub returns-in_err-note-clause-time : goal.returns-in_err-note-clause-time
returns-in_err-note-clause-time c =
    let same : c.in-Ok-Ok.piece.items ≡ c.args.bytes.now = search rules in
    (write_refusal c.args.self.now.first.items c.args.self.now.calls.items c.note.new.calls.items c.args.at c.in-Ok-Ok.piece c.args.bytes.now same
    c.in_err-note.ensures.err).time

pub returns-clause-time : goal.returns-clause-time
returns-clause-time c =
    let same : c.in-Ok-Ok.piece.items ≡ c.args.bytes.now = search rules in
    (write_call_of c.args.self.now.first.items c.args.self.now.calls.items c.note.new.calls.items c.args.at c.in-Ok-Ok.piece false c.args.bytes.now same
    c.in_ok-note.ensures.ok).time

pub invariant_of-self-2 : goal.invariant_of-self-2
invariant_of-self-2 c =
    let same : c.in-Ok-Ok.piece.items ≡ c.args.bytes.now = search rules in
    let holds : Holds c.args.self.now.bytes.items c.args.at c.args.bytes.now c.in-Ok-Ok.next.items = search rules in
    record {
      kept = written_kept c.args.self.now.first.items c.args.self.now.calls.items c.note.new.calls.items c.args.at c.in-Ok-Ok.piece
          c.args.self.now.bytes.items c.args.bytes.now c.in-Ok-Ok.next.items same c.args.self.now.kept (c.requires tt) holds c.in_ok-note.ensures.ok;
    }
