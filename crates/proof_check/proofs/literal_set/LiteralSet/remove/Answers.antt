use Rattle.std.proofs.Common.{◌≡◌, ◌&&◌, not, refl, sym, ap, ◌∙◌}
use Rattle.std.proofs.lemmas.Bool.{and_parts}
use Rattle.cqe_base.specs.Literal.{Literal, same_literal}
use Rattle.proof_check.specs.LiteralSets.{is_marked}
use Rattle.proof_check.proofs.LiteralSets.{has_marked, marked_less, touched_less}
use Rattle.proof_check.proofs.literal_set.LiteralSet.remove.Goals as goal

pub returns : goal.returns
returns c =
    let before = c.self.inside.marks.items in
    let touched = c.self.inside.touched.items in
    let marks = c.unmark.new.marks.items in
    let less : (l : Literal) → is_marked marks l ≡ (is_marked before l && not (same_literal l c.args.literal)) = λ l.
    ap (λ m. is_marked m l) c.unmark.ensures ∙ marked_less before c.args.literal l in
    λ l.
    has_marked marks touched _ refl (touched_less marks before touched (λ m e. (and_parts _ _ (sym (less m) ∙ e)).0) c.self.invariant) l
    ∙ less l
    ∙ ap (λ b. b && not (same_literal l c.args.literal)) (sym (has_marked before touched c.args.self.now c.self.view_is c.self.invariant l))
