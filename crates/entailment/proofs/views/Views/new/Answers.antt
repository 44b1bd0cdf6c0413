use Rattle.std.proofs.Common.{true, map, sym, ap, subst, ◌∙◌}
use Rattle.std.proofs.lemmas.List.Elements.{All-nil}
use Rattle.std.specs.Prelude.{All}
use Rattle.cqe_base.specs.Formula.{formula_of}
use Rattle.cqe_base.specs.History.{known}
use Rattle.entailment.specs.Logs.{IsSmallLog, told_log}
use Rattle.entailment.specs.Views.{IsViewWithin}
use Rattle.entailment.proofs.views.Views.new.Goals as goal

pub invariant_of-result : goal.invariant_of-result
unfolding known
invariant_of-result c =
    let told = c.in_ok-log.ensures ∙ ap (λ sentences. map (λ s. (s, true)) (map formula_of sentences)) c.as_slice.ensures.value in
    let within = IsViewWithin c.args.schema.now (told_log c.in_ok-log.log.items) in
    record {
      small = subst (IsSmallLog c.args.schema.now) (sym told) c.requires;
      spares = subst (All within) (sym c.new.ensures.items) (All-nil within);
    }
