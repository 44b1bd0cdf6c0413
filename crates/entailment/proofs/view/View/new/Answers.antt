use Rattle.std.proofs.Common.{true, map, sym, ap, subst, ◌∙◌, arith}
use Rattle.cqe_base.specs.Formula.{formula_of}
use Rattle.cqe_base.specs.History.{known}
use Rattle.entailment.specs.Logs.{IsSmallLog}
use Rattle.entailment.proofs.KeptClauses.{none-begins}
use Rattle.entailment.proofs.view.View.new.Goals as goal

pub invariant_of-result : goal.invariant_of-result
unfolding known
invariant_of-result c =
    let told = c.in_ok-log.ensures ∙ ap (λ sentences. map (λ s. (s, true)) (map formula_of sentences)) c.as_slice.ensures.value in
    record {
      small = subst (IsSmallLog c.args.schema.now) (sym told) c.requires;
      within = omega arith;
      form = c.in_ok-former.ensures;
      kept = none-begins _ _ c.new-kept.ensures;
    }
