use Rattle.std.proofs.Common.{sym, ◌∙◌}
use Rattle.outside.proofs.Calls.{quiet_either, only_after}
use Rattle.outside.proofs.memory_disk.MemoryDisk.note_reading.Goals as goal

pub invariant_of-self : goal.invariant_of-self
invariant_of-self c = record {
  kept = c.args.self.now.kept
      ∙ sym (quiet_either c.args.self.now.first.items c.args.self.now.calls.items c.note.new.calls.items c.args.operation c.note.result c.requires
      c.note.ensures.ok c.note.ensures.err).same;
}

pub returns-clause-images : goal.returns-clause-images
returns-clause-images c =
    (quiet_either c.args.self.now.first.items c.args.self.now.calls.items c.note.new.calls.items c.args.operation c.note.result c.requires c.note.ensures.ok
    c.note.ensures.err).images

pub returns-clause-time : goal.returns-clause-time
returns-clause-time c =
    (quiet_either c.args.self.now.first.items c.args.self.now.calls.items c.note.new.calls.items c.args.operation c.note.result c.requires c.note.ensures.ok
    c.note.ensures.err).time

pub returns-clause-moments : goal.returns-clause-moments
returns-clause-moments c =
    (quiet_either c.args.self.now.first.items c.args.self.now.calls.items c.note.new.calls.items c.args.operation c.note.result c.requires c.note.ensures.ok
    c.note.ensures.err).moments

pub returns-clause-durable : goal.returns-clause-durable
returns-clause-durable c is =
    only_after c.args.self.now.first.items c.args.self.now.calls.items c.note.new.calls.items c.args.operation c.args.self.now.bytes.items c.note.result is
    c.args.self.now.kept c.note.ensures.ok
