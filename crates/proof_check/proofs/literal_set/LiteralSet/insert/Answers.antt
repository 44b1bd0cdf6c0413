use Rattle.std.proofs.Common.{◌≡◌, ◌||◌, true, set, refl, sym, ap, subst, ◌∙◌}
use Rattle.cqe_base.specs.Literal.{Literal, same_literal}
use Rattle.proof_check.specs.LiteralSets.{is_marked, AreTouched}
use Rattle.proof_check.proofs.LiteralSets.{has_marked, marked_more, touched_less, touched_more}
use Rattle.proof_check.proofs.literal_set.LiteralSet.insert.Goals as goal

pub returns : goal.returns
returns c =
    let marks = c.make_room.new.marks.items in
    let before = c.self.inside.marks.items in
    let touched = c.self.inside.touched.items in
    let now = set marks c.code.result true in
    let same = c.make_room.ensures.same in
    let more : (l : Literal) → is_marked now l ≡ (is_marked marks l || same_literal l c.args.literal) = λ l.
    ap (λ i. is_marked (set marks i true) l) c.code.ensures ∙ marked_more marks c.args.literal c.in_ok-make_room.ensures.room l in
    let inside : AreTouched now c.push.new.self.items = subst (AreTouched now) (sym c.in_ok-push.ensures.items)
    (touched_more now marks touched c.args.literal more (touched_less marks before touched (λ l e. sym (same l) ∙ e) c.self.invariant)) in
    λ l.
    has_marked now c.push.new.self.items _ refl inside l
    ∙ more l
    ∙ ap (λ b. b || same_literal l c.args.literal) (same l ∙ sym (has_marked before touched c.args.self.now c.self.view_is c.self.invariant l))
