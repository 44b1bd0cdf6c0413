use Rattle.std.proofs.Common.{◌≤◌, ◌∷◌, [], length, ap, arith, length-append}
use Rattle.std.specs.Prelude.{decimal}
use Rattle.line_protocol.proofs.Digits.{byte_digits, word_digits}
use Rattle.line_protocol.proofs.reply.syntax_text.Goals as goal

pub push_decimal-requires : goal.push_decimal-requires
push_decimal-requires c =
    let digits : length (decimal c.from.result) ≤ 3 = byte_digits c.from.result (omega arith) in
    omega (arith, ap length c.new-line.ensures)

pub push-requires : goal.push-requires
push-requires c =
    let digits : length (decimal c.from.result) ≤ 3 = byte_digits c.from.result (omega arith) in
    omega (arith, ap length c.new-line.ensures, ap length c.push_decimal.ensures, length-append c.new-line.result (decimal c.from.result))

pub push_decimal-requires-2 : goal.push_decimal-requires-2
push_decimal-requires-2 c =
    let digits : length (decimal c.from.result) ≤ 3 = byte_digits c.from.result (omega arith) in
    let more : length (decimal c.args.place) ≤ 10 = word_digits c.args.place (omega arith) in
    omega (
      arith,
      ap length c.new-line.ensures,
      ap length c.push_decimal.ensures,
      length-append c.new-line.result (decimal c.from.result),
      ap length c.push.ensures,
      length-append c.push_decimal.new.self (32 ∷ []),
    )

pub returns-clause-short : goal.returns-clause-short
returns-clause-short c =
    let digits : length (decimal c.from.result) ≤ 3 = byte_digits c.from.result (omega arith) in
    let more : length (decimal c.args.place) ≤ 10 = word_digits c.args.place (omega arith) in
    omega (
      arith,
      ap length c.new-line.ensures,
      ap length c.push_decimal.ensures,
      length-append c.new-line.result (decimal c.from.result),
      ap length c.push.ensures,
      length-append c.push_decimal.new.self (32 ∷ []),
      ap length c.push_decimal-2.ensures,
      length-append c.push.new.self (decimal c.args.place),
    )
