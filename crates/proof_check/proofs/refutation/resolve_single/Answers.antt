use Rattle.std.proofs.Common.{◌∙◌, ◌&&◌, ◌||◌, not, sym, ap, rules}
use Rattle.cqe_base.specs.Literal.{has_literal, same_literal}
use Rattle.proof_check.proofs.LiteralSets.{resolved_by}
use Rattle.proof_check.proofs.refutation.resolve_single.Goals as goal

pub returns : goal.returns
returns c = λ first same.
    resolved_by c.args.set.now c.remove.new.self c.join_without.new.set first c.args.second.now c.in-Some.l same (c.in-Some.ensures first same)
    (sym (same _) ∙ ap (has_literal c.args.set.now) (sym c.opposite.ensures) ∙ sym c.has.ensures ∙ (search rules))
    c.remove.ensures
    (λ m. c.in_ok-join_without.ensures m
    ∙ ap (λ o. has_literal c.remove.new.self m || (has_literal c.args.second.now m && not (same_literal m o))) c.opposite-2.ensures)
    _ (search rules)
