use Rattle.std.proofs.Common.{◌≡◌, ◌<◌, ◌^◌, take}
use Rattle.line_protocol.specs.Words.{decimal_value}
use Rattle.line_protocol.proofs.words.decimal_value.Given as goal

abbrev pub invariant-loop-digit : goal.invariant-loop-digit
invariant-loop-digit l = record {
  so_far : l.value ≡ decimal_value (take l.digit-index l.digits);
  below : l.value < 10 ^ l.digit-index;
}
