use Rattle.std.proofs.Common.{◌+◌, ◌∷◌, ◌++◌, ◌∙◌, List, map, drop, get_or, sym, subst, drop-cons, add-one, arith}
use Rattle.std.proofs.lemmas.List.{drop_all}
use Rattle.cqe_base.specs.Literal.{Literal}
use Rattle.cqe_base.specs.Refutation.{single_resolvent}
use Rattle.proof_check.specs.LiteralSets.{IsSetOf, IsSetOfResult}
use Rattle.proof_check.proofs.LiteralSets.{IsOnTheWay, way_lost, way_ends, way_on, way_done}
use Rattle.proof_check.proofs.refutation.resolve_chain.Goals as goal
use Rattle.proof_check.proofs.refutation.resolve_chain.Goals.{After-clause_at}

abbrev clauses : After-clause_at → List (List Literal)
clauses c = c.args.clauses.now ++ map (λ l. l.clause.items) c.args.lines.now

way : (c : After-clause_at) (d : List Literal) → IsSetOf c.args.set.now d
    → IsOnTheWay (clauses c) c.loop-number.set (get_or c.args.chain.now c.loop-number.number-index 0 ∷ drop (c.loop-number.number-index + 1) c.args.chain.now)
    d c.args.chain.now
way c d same =
    subst (λ left. IsOnTheWay (clauses c) c.loop-number.set left d c.args.chain.now)
    (drop-cons c.args.chain.now c.loop-number.number-index 0 c.loop-number-test.true
    ∙ (λ i. get_or c.args.chain.now c.loop-number.number-index 0 ∷ drop (sym (add-one c.loop-number.number-index) i) c.args.chain.now))
    (c.loop-number.invariant d same)

pub returns-in_default : goal.returns-in_default
returns-in_default c =
    let d = (goal.at.returns-in_default c).After-clause_at in
    λ first same. way_lost (clauses d) c.loop-number.set _ _ c.args.chain.now first (way d first same) c.in_default.ensures c.loop-number.set

pub returns-then-not-branch : goal.returns-then-not-branch
returns-then-not-branch c =
    let d = (goal.at.returns-then-not-branch c).After-clause_at in
    λ first same.
    let w = way d first same in
    way_ends (clauses d) c.loop-number.set _ _ c.args.chain.now first w c.in-Some.next.now c.in-Some.ensures c.resolve_single.new.set
    (subst (λ b. IsSetOfResult b c.resolve_single.new.set (single_resolvent w.so_far c.in-Some.next.now)) c.if-not-branch.true
    (c.in_ok-resolve_single.ensures w.so_far w.same))

pub loop-number-preserved : goal.loop-number-preserved
loop-number-preserved c =
    let d = (goal.at.loop-number-preserved c).After-clause_at in
    λ first same.
    let w = way d first same in
    way_on (clauses d) c.loop-number.set _ _ c.args.chain.now first w c.in-Some.next.now c.in-Some.ensures c.resolve_single.new.set
    (subst (λ b. IsSetOfResult b c.resolve_single.new.set (single_resolvent w.so_far c.in-Some.next.now)) c.if-not-branch.false
    (c.in_ok-resolve_single.ensures w.so_far w.same))

pub returns : goal.returns
returns c = λ first same.
    let clauses = c.args.clauses.now ++ map (λ l. l.clause.items) c.args.lines.now in
    way_done clauses c.loop-number.set first c.args.chain.now
    (subst (λ left. IsOnTheWay clauses c.loop-number.set left first c.args.chain.now)
    (drop_all c.loop-number.number-index c.args.chain.now (omega (arith, c.loop-number-test.false)))
    (c.loop-number.invariant first same))
