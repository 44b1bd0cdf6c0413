use Rattle.outside.specs.MemoryDisk.{memory_moment, IsMemoryImage, IsMemoryImageSince}
use Rattle.outside.specs.RecordLaws.{image_counts, image_only}
use Rattle.outside.proofs.Moments.{elapses_none}
use Rattle.outside.proofs.memory_disk.MemoryDiskDisk.tell.Goals as goal

pub returns-clause-time : goal.returns-clause-time
returns-clause-time c =
    let disk = c.args.self.now in
    elapses_none (memory_moment disk) (IsMemoryImageSince disk) (IsMemoryImage disk)
    (λ t d le is. image_counts disk.first.items disk.calls.items t d le is) (λ d is. image_only disk.first.items disk.calls.items d is)

pub returns-clause-moments : goal.returns-clause-moments
returns-clause-moments c d is = image_only c.args.self.now.first.items c.args.self.now.calls.items d is
