use Rattle.std.proofs.Common.{◌∷◌, [], sym, ◌∙◌, ap, arith, length, length-append}
use Rattle.cqe_base.specs.Formula.{formula_of}
use Rattle.open_queries.specs.Instances.{exists_over}
use Rattle.open_queries.proofs.Quantifiers.{one_more, made_of_parts, nothing_opens}
use Rattle.open_queries.proofs.opening.without_quantifiers.Goals as goal

pub loop-preserved : goal.loop-preserved
loop-preserved c =
    let inner = formula_of c.in-Some.inner.now in
    record {
      begins = ap (λ domains. exists_over domains inner) c.in_ok-push-in-Some.ensures.items
          ∙ one_more c.loop.domains.items c.in-Some.domain inner
          ∙ ap (exists_over c.loop.domains.items) (sym (made_of_parts (formula_of c.loop.body.now) c.in-Some.domain inner c.in-Some.ensures))
          ∙ c.loop.invariant.begins;
      quantifiers =
          omega (arith, ap length c.in_ok-push-in-Some.ensures.items, length-append c.loop.domains.items (c.in-Some.domain ∷ []), c.loop.invariant.quantifiers);
    }

pub returns-in-None-clause-none : goal.returns-in-None-clause-none
returns-in-None-clause-none c =
    nothing_opens c.args.count c.loop.domains.items (formula_of c.loop.body.now) (formula_of c.args.sentence.now) c.loop.invariant.begins
    (omega (arith, c.loop-test.true, c.loop.invariant.quantifiers)) c.in-None.ensures
