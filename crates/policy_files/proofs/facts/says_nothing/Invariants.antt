use Rattle.std.proofs.Common.{◌≡◌, drop}
use Rattle.policy_files.specs.Facts.{says_nothing}
use Rattle.policy_files.proofs.facts.says_nothing.Given as goal

-- the bytes that are left say nothing exactly where the whole line does
abbrev pub invariant-loop-byte : goal.invariant-loop-byte
invariant-loop-byte l = says_nothing (drop l.byte-index l.content) ≡ says_nothing l.content
