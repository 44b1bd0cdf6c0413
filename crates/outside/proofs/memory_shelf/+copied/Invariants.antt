use Rattle.std.proofs.Common.{length}
use Rattle.outside.proofs.memory_shelf.+copied.Given as goal

abbrev pub decreases-copied : goal.decreases-copied
decreases-copied l = length l.files.now
