use Rattle.std.proofs.Common.{◌≡◌, not, sym, ap, subst, ◌∙◌}
use Rattle.std.specs.List.{list_any}
use Rattle.proof_check.specs.LiteralSets.{is_marked, AreTouched}
use Rattle.proof_check.proofs.LiteralSets.{lacks_one, compared, none_left}
use Rattle.proof_check.proofs.literal_set.LiteralSet.has_exactly.Goals as goal

pub returns-then-not-has_all : goal.returns-then-not-has_all
returns-then-not-has_all c = λ d same. lacks_one c.args.self.now c.args.clause.now d same (sym c.has_all.ensures ∙ c.if-not-has_all.true)

pub returns-then-has_marked : goal.returns-then-has_marked
returns-then-has_marked c = λ d same.
    ap not (sym c.if-has_marked.true)
    ∙ compared c.self.inside.marks.items c.unmark_all.new.marks.items c.self.inside.touched.items c.args.clause.now c.self.invariant
    c.unmark_all.ensures c.has_marked.result
    (c.has_marked.ensures ∙ (λ i. list_any (is_marked (c.deref.ensures.value i)) (c.deref-2.ensures.value i)))
    c.args.self.now d c.self.view_is (sym c.has_all.ensures ∙ c.if-not-has_all.false) same

pub invariant_of-self-2 : goal.invariant_of-self-2
invariant_of-self-2 c =
    subst (AreTouched c.unmark_all.new.marks.items) (sym c.clear.ensures.items)
    (none_left c.self.inside.marks.items c.unmark_all.new.marks.items c.self.inside.touched.items c.args.clause.now c.self.invariant
    c.unmark_all.ensures c.has_marked.result
    (c.has_marked.ensures ∙ (λ i. list_any (is_marked (c.deref.ensures.value i)) (c.deref-2.ensures.value i))) c.if-has_marked.false)

pub returns : goal.returns
returns c = λ d same.
    ap not (sym c.if-has_marked.false)
    ∙ compared c.self.inside.marks.items c.unmark_all.new.marks.items c.self.inside.touched.items c.args.clause.now c.self.invariant
    c.unmark_all.ensures c.has_marked.result
    (c.has_marked.ensures ∙ (λ i. list_any (is_marked (c.deref.ensures.value i)) (c.deref-2.ensures.value i)))
    c.args.self.now d c.self.view_is (sym c.has_all.ensures ∙ c.if-not-has_all.false) same
