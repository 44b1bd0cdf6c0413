use Rattle.std.proofs.Common.{◌≡◌, ◌≤◌, ◌+◌, [], ◌∷◌, ◌++◌, true, sym, ap, subst, ◌∙◌}
use Rattle.std.proofs.lemmas.List.{map-append}
use Rattle.std.proofs.lemmas.List.Elements.{All-weaker}
use Rattle.cqe_base.specs.Formula.{formula_of, nodes, is_sentence_of}
use Rattle.cqe_base.specs.Entailment.{Signed}
use Rattle.cqe_base.specs.History.{signed_nodes}
use Rattle.entailment.specs.Logs.{IsSmallLog, log_nodes, told_log}
use Rattle.entailment.specs.Views.{LogView, IsViewWithin}
use Rattle.entailment.proofs.ViewForms.{small-more}
use Rattle.entailment.proofs.LogBeginnings.{within-more}
use Rattle.entailment.proofs.views.Views.push_reserved.Goals as goal

pub invariant_of-self : goal.invariant_of-self
invariant_of-self c =
    let v = c.self.inside in
    let log = told_log v.log.items in
    let s : Signed = (formula_of c.args.query, c.args.yes) in
    let whole = told_log c.push_reserved.new.self.items in
    let grown : whole ≡ log ++ s ∷ [] =
    ap told_log c.push_reserved.ensures.items ∙ map-append (λ t. (formula_of t.sentence, t.yes)) v.log.items _ in
    let sentence = subst (λ (w : LogView). is_sentence_of w.schema s.0 ≡ true) (sym c.self.view_is) c.requires.sentence in
    let few = subst (λ (w : LogView). nodes w.schema s.0 ≤ 20000) (sym c.self.view_is) c.requires.query in
    let room = subst (λ (w : LogView). log_nodes w.schema w.log + signed_nodes w.schema s.0 s.1 ≤ 60000) (sym c.self.view_is) c.requires.nodes in
    record {
      small = subst (IsSmallLog v.schema.now) (sym grown) (small-more v.schema.now log s c.self.invariant.small sentence few room);
      spares = All-weaker (IsViewWithin v.schema.now log) (IsViewWithin v.schema.now whole)
          (λ view is. within-more v.schema.now log (s ∷ []) whole view grown is) v.spares.items c.self.invariant.spares;
    }
