use Rattle.std.proofs.Common.{◌≤◌, length, ap, arith, length-append}
use Rattle.std.specs.Prelude.{decimal}
use Rattle.line_protocol.proofs.Digits.{word_digits}
use Rattle.line_protocol.proofs.reply.numbered_text.Goals as goal

pub push_decimal-requires : goal.push_decimal-requires
push_decimal-requires c =
    let digits : length (decimal c.args.number) ≤ 10 = word_digits c.args.number (omega arith) in
    omega (arith, c.requires, ap length c.new-line.ensures)

pub returns-clause-short : goal.returns-clause-short
returns-clause-short c =
    let digits : length (decimal c.args.number) ≤ 10 = word_digits c.args.number (omega arith) in
    omega (
      arith,
      c.requires,
      ap length c.new-line.ensures,
      ap length c.push_decimal.ensures,
      length-append c.new-line.result (decimal c.args.number),
    )
