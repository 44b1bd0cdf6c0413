use Rattle.std.proofs.Common.{sym, ap, ◌∙◌, ◌||◌}
use Rattle.cqe_base.specs.Literal.{has_literal}
use Rattle.proof_check.proofs.LiteralSets.{has_already, is_left_out, is_no_other}
use Rattle.proof_check.proofs.refutation.add_unless.Goals as goal

pub returns-then-is : goal.returns-then-is
returns-then-is c = λ m. is_left_out (has_literal c.args.set.now m) c.args.literal m c.args.left_out (sym c.is.ensures ∙ c.if-is.true)

pub returns-then-has : goal.returns-then-has
returns-then-has c = λ m.
    has_already c.args.set.now c.args.literal (sym c.has.ensures ∙ c.if-has.true) m
    ∙ ap (λ b. has_literal c.args.set.now m || b) (is_no_other c.args.literal m c.args.left_out (sym c.is.ensures ∙ c.if-is.false))

pub returns : goal.returns
returns c = λ m.
    c.in_ok-insert.ensures m
    ∙ ap (λ b. has_literal c.args.set.now m || b) (is_no_other c.args.literal m c.args.left_out (sym c.is.ensures ∙ c.if-is.false))
