use Rattle.std.proofs.Common.{◌∷◌, [], length, arith, ◌∙◌, ap, length-append}
use Rattle.std.proofs.lemmas.Result.{err_from_is_err_and}
use Rattle.sentence_text.specs.Binders.{binders}
use Rattle.sentence_text.proofs.Columns.{goes_on, ends_at_term, ends_behind_term, is_done}
use Rattle.sentence_text.proofs.reader.Reader.columns.Goals as goal

pub returns-in_err-term-clause-read : goal.returns-in_err-term-clause-read
returns-in_err-term-clause-read c =
    let p = err_from_is_err_and c.from_residual.result c.from_residual.ensures.1 in
    let same = c.loop-i.invariant.same in
    let refused = rw (same.schema, same.refusal) at c.in_err-term.ensures.read in
    rw (p.1, p.2) (ends_at_term c.args.self.now.schema c.args.self.now.refusal
    (binders c.args.scope.now) c.loop-i.terms.items c.args.domains.now c.loop-i.i c.loop-i.self.tokens _ c.loop-i-test.true c.in_err-term.field-0.0 refused
    c.loop-i.invariant.so_far)

pub returns-in_err-end_column-clause-read : goal.returns-in_err-end_column-clause-read
returns-in_err-end_column-clause-read c =
    let p = err_from_is_err_and c.from_residual-in_err-end_column.result c.from_residual-in_err-end_column.ensures.1 in
    let same = c.loop-i.invariant.same in
    let first = rw (same.schema, same.refusal) at c.in_ok-term.ensures.read in
    let refused = rw (c.in_ok-term.ensures.same.schema ∙ same.schema, c.in_ok-term.ensures.same.refusal ∙ same.refusal) at c.in_err-end_column.ensures.read in
    rw (p.1, p.2) (ends_behind_term c.args.self.now.schema c.args.self.now.refusal
    (binders c.args.scope.now) c.loop-i.terms.items c.args.domains.now c.loop-i.i c.loop-i.self.tokens _ c.loop-i-test.true c.term.new.self.tokens
    c.in_ok-term.term first c.loop-i.invariant.so_far c.in_err-end_column.field-0.0 refused)

pub loop-i-preserved : goal.loop-i-preserved
loop-i-preserved c =
    let same = c.loop-i.invariant.same in
    let first = rw (same.schema, same.refusal) at c.in_ok-term.ensures.read in
    let behind = rw (c.in_ok-term.ensures.same.schema ∙ same.schema, c.in_ok-term.ensures.same.refusal ∙ same.refusal) at c.in_ok-end_column.ensures.read in
    record {
      same = record {
        schema = c.in_ok-end_column.ensures.same.schema ∙ (c.in_ok-term.ensures.same.schema ∙ same.schema);
        refusal = c.in_ok-end_column.ensures.same.refusal ∙ (c.in_ok-term.ensures.same.refusal ∙ same.refusal);
      };
      one_each = omega (arith, ap length c.in_ok-push.ensures.items, length-append c.loop-i.terms.items (c.in_ok-term.term ∷ []), c.loop-i.invariant.one_each);
      no_more = omega (
        arith,
        ap length c.in_ok-push.ensures.items,
        length-append c.loop-i.terms.items (c.in_ok-term.term ∷ []),
        c.loop-i.invariant.one_each,
        c.loop-i-test.true,
      );
      no_longer = omega (arith, c.in_ok-end_column.ensures.shorter, c.in_ok-term.ensures.shorter, c.loop-i.invariant.no_longer);
      so_far = rw c.in_ok-push.ensures.items
          (goes_on c.args.self.now.schema c.args.self.now.refusal
          (binders c.args.scope.now) c.loop-i.terms.items c.args.domains.now c.loop-i.i c.loop-i.self.tokens _ c.loop-i-test.true c.term.new.self.tokens
          c.in_ok-term.term first c.loop-i.invariant.so_far c.end_column.new.self.tokens behind);
    }

pub returns-clause-read : goal.returns-clause-read
returns-clause-read c =
    rw c.from_vec.ensures
    (is_done c.args.self.now.schema c.args.self.now.refusal
    (binders c.args.scope.now) c.loop-i.terms.items c.args.domains.now c.loop-i.i c.loop-i.self.tokens _ c.loop-i-test.false c.loop-i.invariant.so_far)
