use Rattle.std.proofs.Common.{length}
use Rattle.command_words.proofs.command.+has_short.Given as goal

abbrev pub decreases-has_short : goal.decreases-has_short
decreases-has_short l = length l.words.now
