use Rattle.std.proofs.Common.{sym, ap, subst, arith}
use Rattle.entailment.specs.Logs.{IsSmallLog, told_log}
use Rattle.entailment.proofs.KeptClauses.{none-begins}
use Rattle.entailment.proofs.ViewForms.{small-none}
use Rattle.entailment.proofs.view.View.blank.Goals as goal

pub invariant_of-result : goal.invariant_of-result
invariant_of-result c =
    let none = ap told_log c.new-2.ensures.items in
    record {
      small = subst (IsSmallLog c.args.schema.now) (sym none) (small-none c.args.schema.now);
      within = omega arith;
      form = c.in_ok-former.ensures;
      kept = none-begins _ _ c.new-kept.ensures;
    }
