use Rattle.std.proofs.Common.{◌<◌, length, length-drop, arith, sym, ◌∙◌, ap}
use Rattle.std.proofs.lemmas.Result.{err_from_is_err_and}
use Rattle.cqe_base.specs.declared.text.Symbol.TheVariants.{And, Or}
use Rattle.cqe_base.specs.Formula.{formula_of, conjunction, disjunction}
use Rattle.cqe_base.specs.Reading.{unary, both, inside}
use Rattle.sentence_text.specs.Binders.{binders}
use Rattle.sentence_text.specs.Position.{Position}
use Rattle.sentence_text.proofs.Operands.{chain-done, chain-more}
use Rattle.sentence_text.proofs.Chains.{chain-refused}
use Rattle.sentence_text.proofs.reader.Reader.+parser.Goals as goal

pub both-returns-in_err-right-clause-read : goal.both-returns-in_err-right-clause-read
both-returns-in_err-right-clause-read t c =
    let p = err_from_is_err_and c.from_residual-in_err-right.result c.from_residual-in_err-right.ensures.1 in
    let same = c.loop-self.invariant.same in
    let refused = rw (
      ap (λ (p : Position). p.schema) c.advance.ensures ∙ same.schema,
      ap (λ (p : Position). p.refusal) c.advance.ensures ∙ same.refusal,
      ap (λ (p : Position). p.tokens) c.advance.ensures,
    ) at c.in_err-right.ensures.read in
    rw (p.1, p.2) (chain-refused And conjunction
    (unary c.args.self.now.schema c.args.self.now.refusal (inside c.args.self.now.schema c.args.self.now.refusal c.args.room) (binders c.args.scope.now))
    (formula_of c.loop-self.left) c.loop-self.self.tokens _
    (sym c.loop-self-test.ensures) c.in_err-right.field-0.0 refused c.loop-self.invariant.so_far)

pub both-loop-self-preserved : goal.both-loop-self-preserved
both-loop-self-preserved t c =
    let same = c.loop-self.invariant.same in
    let advanced = ap (λ (p : Position). p.tokens) c.advance.ensures in
    let schema = ap (λ (p : Position). p.schema) c.advance.ensures ∙ same.schema in
    let refusal = ap (λ (p : Position). p.refusal) c.advance.ensures ∙ same.refusal in
    let read = rw (schema, refusal, advanced) at c.in_ok-right.ensures.read in
    let shorter : length c.unary-in-loop-self.new.self.tokens < length c.loop-self.self.tokens =
    omega (arith, c.in_ok-right.ensures.shorter, ap length advanced, length-drop 1 c.loop-self.self.tokens) in
    let left = ap formula_of c.in_ok-new.ensures.ok in
    let right = ap formula_of c.in_ok-new-2.ensures.ok in
    record {
      same = record { schema = c.in_ok-right.ensures.same.schema ∙ schema; refusal = c.in_ok-right.ensures.same.refusal ∙ refusal };
      shorter = omega (arith, shorter, c.loop-self.invariant.shorter);
      so_far = rw (left, right)
          (chain-more And conjunction
          (unary c.args.self.now.schema c.args.self.now.refusal (inside c.args.self.now.schema c.args.self.now.refusal c.args.room)
          (binders c.args.scope.now)) (formula_of c.loop-self.left) c.loop-self.self.tokens _ (sym c.loop-self-test.ensures)
          (formula_of c.in_ok-right.right) c.unary-in-loop-self.new.self.tokens read shorter c.loop-self.invariant.so_far);
    }

pub both-returns-clause-read : goal.both-returns-clause-read
both-returns-clause-read t c =
    chain-done And conjunction
    (unary c.args.self.now.schema c.args.self.now.refusal (inside c.args.self.now.schema c.args.self.now.refusal c.args.room) (binders c.args.scope.now))
    (formula_of c.loop-self.left) c.loop-self.self.tokens _ (sym c.loop-self-test.ensures) c.loop-self.invariant.so_far

pub either-returns-in_err-right-clause-read : goal.either-returns-in_err-right-clause-read
either-returns-in_err-right-clause-read t c =
    let p = err_from_is_err_and c.from_residual-in_err-right.result c.from_residual-in_err-right.ensures.1 in
    let same = c.loop-self.invariant.same in
    let refused = rw (
      ap (λ (p : Position). p.schema) c.advance.ensures ∙ same.schema,
      ap (λ (p : Position). p.refusal) c.advance.ensures ∙ same.refusal,
      ap (λ (p : Position). p.tokens) c.advance.ensures,
    ) at c.in_err-right.ensures.read in
    rw (p.1, p.2) (chain-refused Or disjunction
    (both (unary c.args.self.now.schema c.args.self.now.refusal (inside c.args.self.now.schema c.args.self.now.refusal c.args.room)
    (binders c.args.scope.now))) (formula_of c.loop-self.left) c.loop-self.self.tokens _
    (sym c.loop-self-test.ensures) c.in_err-right.field-0.0 refused c.loop-self.invariant.so_far)

pub either-loop-self-preserved : goal.either-loop-self-preserved
either-loop-self-preserved t c =
    let same = c.loop-self.invariant.same in
    let advanced = ap (λ (p : Position). p.tokens) c.advance.ensures in
    let schema = ap (λ (p : Position). p.schema) c.advance.ensures ∙ same.schema in
    let refusal = ap (λ (p : Position). p.refusal) c.advance.ensures ∙ same.refusal in
    let read = rw (schema, refusal, advanced) at c.in_ok-right.ensures.read in
    let shorter : length c.both-in-loop-self.new.self.tokens < length c.loop-self.self.tokens =
    omega (arith, c.in_ok-right.ensures.shorter, ap length advanced, length-drop 1 c.loop-self.self.tokens) in
    let left = ap formula_of c.in_ok-new.ensures.ok in
    let right = ap formula_of c.in_ok-new-2.ensures.ok in
    record {
      same = record { schema = c.in_ok-right.ensures.same.schema ∙ schema; refusal = c.in_ok-right.ensures.same.refusal ∙ refusal };
      shorter = omega (arith, shorter, c.loop-self.invariant.shorter);
      so_far = rw (left, right)
          (chain-more Or disjunction
          (both (unary c.args.self.now.schema c.args.self.now.refusal (inside c.args.self.now.schema c.args.self.now.refusal c.args.room)
          (binders c.args.scope.now))) (formula_of c.loop-self.left) c.loop-self.self.tokens _ (sym c.loop-self-test.ensures)
          (formula_of c.in_ok-right.right) c.both-in-loop-self.new.self.tokens read shorter c.loop-self.invariant.so_far);
    }

pub either-returns-clause-read : goal.either-returns-clause-read
either-returns-clause-read t c =
    chain-done Or disjunction
    (both (unary c.args.self.now.schema c.args.self.now.refusal (inside c.args.self.now.schema c.args.self.now.refusal c.args.room)
    (binders c.args.scope.now))) (formula_of c.loop-self.left) c.loop-self.self.tokens _ (sym c.loop-self-test.ensures) c.loop-self.invariant.so_far
