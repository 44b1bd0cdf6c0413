use Rattle.std.proofs.Common.{◌≤◌, length, ap, arith, length-append}
use Rattle.std.specs.Prelude.{decimal}
use Rattle.line_protocol.proofs.Digits.{word_digits}
use Rattle.dossier_engine.proofs.check.say_sound.Goals as goal

pub push_decimal-requires : goal.push_decimal-requires
push_decimal-requires g c =
    let digits : length (decimal c.args.count) ≤ 10 = word_digits c.args.count (omega arith) in
    omega (arith, digits, ap length c.new-line.ensures)

pub push-requires : goal.push-requires
push-requires g c =
    let digits : length (decimal c.args.count) ≤ 10 = word_digits c.args.count (omega arith) in
    omega (arith, digits, ap length c.new-line.ensures, ap length c.push_decimal.ensures, length-append c.new-line.result (decimal c.args.count))
