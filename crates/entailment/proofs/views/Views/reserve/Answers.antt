use Rattle.std.proofs.Common.{sym, ap, subst}
use Rattle.std.specs.Prelude.{All}
use Rattle.entailment.specs.Logs.{IsSmallLog, told_log}
use Rattle.entailment.specs.Views.{IsViewWithin}
use Rattle.entailment.proofs.views.Views.reserve.Goals as goal

pub invariant_of-self : goal.invariant_of-self
invariant_of-self c =
    let v = c.self.inside in
    let same = ap told_log (sym c.reserve.ensures.items) in
    record {
      small = subst (IsSmallLog v.schema.now) same c.self.invariant.small;
      spares = subst (λ log. All (IsViewWithin v.schema.now log) v.spares.items) same c.self.invariant.spares;
    }
