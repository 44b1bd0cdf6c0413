use Rattle.std.proofs.Common.{◌≤◌, length, ap, arith, length-append}
use Rattle.std.specs.Prelude.{decimal, codes}
use Rattle.dimacs_text.proofs.Digits.{digit_length}
use Rattle.dimacs_text.proofs.ending.refusal_text.Goals as goal
use Rattle.line_protocol.proofs.Digits.{word_digits}

pub push_decimal-requires : goal.push_decimal-requires
push_decimal-requires c =
    let digit : length (decimal c.refusal_number.result) ≤ 1 = digit_length c.refusal_number.result c.refusal_number.ensures.digit in
    omega (arith, ap length c.new-line.ensures)

pub push-requires : goal.push-requires
push-requires c =
    let digit : length (decimal c.refusal_number.result) ≤ 1 = digit_length c.refusal_number.result c.refusal_number.ensures.digit in
    omega (arith, ap length c.new-line.ensures, ap length c.push_decimal.ensures, length-append c.new-line.result (decimal c.refusal_number.result))

pub push_decimal-requires-2 : goal.push_decimal-requires-2
push_decimal-requires-2 c =
    let digit : length (decimal c.refusal_number.result) ≤ 1 = digit_length c.refusal_number.result c.refusal_number.ensures.digit in
    let digits : length (decimal c.args.refusal.line) ≤ 10 = word_digits c.args.refusal.line (omega arith) in
    omega (
      arith,
      ap length c.new-line.ensures,
      ap length c.push_decimal.ensures,
      length-append c.new-line.result (decimal c.refusal_number.result),
      ap length c.push.ensures,
      length-append c.push_decimal.new.self (codes " "),
    )

pub push-requires-2 : goal.push-requires-2
push-requires-2 c =
    let digit : length (decimal c.refusal_number.result) ≤ 1 = digit_length c.refusal_number.result c.refusal_number.ensures.digit in
    let digits : length (decimal c.args.refusal.line) ≤ 10 = word_digits c.args.refusal.line (omega arith) in
    omega (
      arith,
      ap length c.new-line.ensures,
      ap length c.push_decimal.ensures,
      length-append c.new-line.result (decimal c.refusal_number.result),
      ap length c.push.ensures,
      length-append c.push_decimal.new.self (codes " "),
      ap length c.push_decimal-2.ensures,
      length-append c.push.new.self (decimal c.args.refusal.line),
    )
