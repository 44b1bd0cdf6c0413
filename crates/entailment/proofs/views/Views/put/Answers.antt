use Rattle.std.proofs.Common.{sym, subst}
use Rattle.entailment.specs.Logs.{told_log}
use Rattle.entailment.specs.Views.{LogView, IsViewWithin}
use Rattle.entailment.proofs.LogBeginnings.{pushed-within}
use Rattle.entailment.proofs.views.Views.put.Goals as goal

pub invariant_of-self : goal.invariant_of-self
invariant_of-self c =
    let v = c.self.inside in
    let within = subst (λ (w : LogView). IsViewWithin w.schema w.log c.args.view) (sym c.self.view_is) c.requires in
    record {
      small = c.self.invariant.small;
      spares = pushed-within v.schema.now (told_log v.log.items) v.spares.items _ c.args.view c.push-kept.result c.push-kept.ensures.items
          c.self.invariant.spares within;
    }
