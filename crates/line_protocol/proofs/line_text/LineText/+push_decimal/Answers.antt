use Rattle.std.proofs.Common.{◌+◌, ◌/◌, ◌%◌, ◌++◌, ◌∷◌, [], ℕ, List, length, ap, ◌∙◌, arith, length-append}
use Rattle.std.specs.Prelude.{decimal}
use Rattle.line_protocol.proofs.Digits.{length-last, length-digit, pushed_digit, pushed_last}
use Rattle.line_protocol.proofs.line_text.LineText.+push_decimal.Goals as goal
use Rattle.line_protocol.proofs.line_text.LineText.+push_decimal.Goals.{then-number-ge10, else-number-ge10}

pub push_decimal-requires : goal.push_decimal-requires
push_decimal-requires t c =
    (omega arith, omega (arith, length-last c.args.number c.if-number-ge10.true (omega arith)))

pub push_byte-requires : goal.push_byte-requires
push_byte-requires t c =
    elim c.if-number-ge10.branch [
      | then-number-ge10 w ↦
          omega (
            arith,
            ap length w.self-is,
            ap length w.push_decimal.ensures,
            length-append c.args.self.now (decimal (c.args.number / 10)),
            length-last c.args.number w.if-number-ge10.true (omega arith),
          )
      | else-number-ge10 w ↦ omega (arith, ap length w.self-is, length-digit c.args.number w.if-number-ge10.false)
    ]

pub returns : goal.returns
returns t c =
    let digit = 48 + c.args.number % 10 in
    elim c.if-number-ge10.branch [
      | then-number-ge10 w ↦
          c.push_byte.ensures
          ∙ ap (λ (l : List ℕ). l ++ digit ∷ []) (w.self-is ∙ w.push_decimal.ensures)
          ∙ pushed_last c.args.self.now c.args.number w.if-number-ge10.true (omega arith)
      | else-number-ge10 w ↦
          c.push_byte.ensures
          ∙ ap (λ (l : List ℕ). l ++ digit ∷ []) w.self-is
          ∙ pushed_digit c.args.self.now c.args.number w.if-number-ge10.false
    ]
