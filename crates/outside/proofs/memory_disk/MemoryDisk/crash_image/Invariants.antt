use Rattle.std.proofs.Common.{take}
use Rattle.outside.proofs.Calls.{Picked}
use Rattle.outside.proofs.memory_disk.MemoryDisk.crash_image.Given as goal

abbrev pub invariant-loop-call : goal.invariant-loop-call
invariant-loop-call l = Picked l.self.first.items (take l.call-index l.self.calls.items) l.bytes.items l.image.items
