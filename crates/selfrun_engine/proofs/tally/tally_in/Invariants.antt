use Rattle.std.proofs.Common.{◌≡◌, ◌≤◌, take, fold}
use Rattle.selfrun_engine.specs.Counting.{after_byte, no_reply, total}
use Rattle.selfrun_engine.proofs.tally.tally_in.Given as goal

abbrev pub invariant-loop-byte : goal.invariant-loop-byte
invariant-loop-byte l = record {
  is : l.counter ≡ fold after_byte (record { blanks = 0; tally = no_reply }) (take l.byte-index l.lines);
  few : total l.counter.tally ≤ l.byte-index;
}
