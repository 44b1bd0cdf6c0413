use Rattle.std.proofs.Common.{◌≡◌, ◌+◌, ◌∷◌, ◌∙◌, sym, ap, subst, drop, drop-cons, add-one, arith, rules, Some}
use Rattle.cqe_base.specs.Literal.{opposite, has_literal}
use Rattle.proof_check.specs.Clashing.{is_other}
use Rattle.proof_check.proofs.Clashing.{IsFound, two_clash, all_walked, one_clash, no_clash}
use Rattle.proof_check.proofs.refutation.single_clash.Goals as goal
use Rattle.proof_check.proofs.refutation.single_clash.Goals.{then-has+else-is_other, else-has, After-has}

split : (c : After-has) → drop c.loop-other.other-index c.args.clause.now ≡ c.other-item.result ∷ drop (c.loop-other.other-index + 1) c.args.clause.now
split c =
    drop-cons c.args.clause.now c.loop-other.other-index c.other-item.result c.loop-other-test.true
    ∙ (λ i. sym c.other-item.is i ∷ drop (sym (add-one c.loop-other.other-index) i) c.args.clause.now)

pub returns-then-is_other : goal.returns-then-is_other
returns-then-is_other c =
    let d = (goal.at.returns-then-is_other c).After-has in
    λ first same.
    two_clash first c.args.clause.now c.loop-other.other-index c.other-item.result c.loop-other.found
    (split d) (c.loop-other.invariant first same)
    (sym (same _) ∙ ap (has_literal c.args.set.now) (sym c.opposite-literal.ensures) ∙ sym c.has.ensures ∙ (search rules))
    (ap (is_other c.loop-other.found) (sym c.opposite-literal.ensures) ∙ sym c.is_other.ensures ∙ (search rules))

pub loop-other-preserved : goal.loop-other-preserved
loop-other-preserved c = λ first same.
    let d = (goal.at.loop-other-preserved c).After-has in
    let i = c.loop-other.other-index in
    let clause = c.args.clause.now in
    let has : has_literal first (opposite c.other-item.result) ≡ c.has.result =
    sym (same _) ∙ ap (has_literal c.args.set.now) (sym c.opposite-literal.ensures) ∙ sym c.has.ensures in
    elim c.if-has.branch [
      | then-has+else-is_other w ↦ subst (IsFound first clause (drop (i + 1) clause)) (ap Some (sym c.opposite-literal.ensures) ∙ sym w.found-is)
          (one_clash first clause i c.other-item.result c.loop-other.found (split d) (c.loop-other.invariant first same) (has ∙ w.if-has.true)
          (ap (is_other c.loop-other.found) (sym c.opposite-literal.ensures) ∙ sym w.is_other.ensures ∙ w.if-is_other.false))
      | else-has w ↦ subst (IsFound first clause (drop (i + 1) clause)) (sym w.found-is)
          (no_clash first clause i c.other-item.result c.loop-other.found (split d) (c.loop-other.invariant first same) (has ∙ w.if-has.false))
    ]

pub returns : goal.returns
returns c = λ first same. all_walked first c.args.clause.now c.loop-other.other-index c.loop-other.found
    (omega (arith, c.loop-other-test.false)) (c.loop-other.invariant first same)
