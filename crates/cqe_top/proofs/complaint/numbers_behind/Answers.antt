use Rattle.std.proofs.Common.{◌≤◌, length, ap, arith, length-append}
use Rattle.std.specs.Prelude.{decimal, codes}
use Rattle.cqe_top.proofs.complaint.numbers_behind.Goals as goal
use Rattle.line_protocol.proofs.Digits.{word_digits}

pub push_decimal-requires : goal.push_decimal-requires
push_decimal-requires c =
    let digits : length (decimal c.args.second) ≤ 10 = word_digits c.args.second (omega arith) in
    omega (arith, digits, c.numbered-line.ensures.short, ap length c.push.ensures, length-append c.numbered-line.result (codes " "))

pub push-requires-2 : goal.push-requires-2
push-requires-2 c =
    let digits : length (decimal c.args.second) ≤ 10 = word_digits c.args.second (omega arith) in
    omega (
      arith,
      digits,
      c.requires.end,
      c.numbered-line.ensures.short,
      ap length c.push.ensures,
      length-append c.numbered-line.result (codes " "),
      ap length c.push_decimal.ensures,
      length-append c.push.new.self (decimal c.args.second),
    )
