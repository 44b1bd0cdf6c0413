use Rattle.std.proofs.Common.{◌∙◌, sym, ap}
use Rattle.proof_check.specs.LiteralSets.{is_marked}
use Rattle.proof_check.proofs.LiteralSets.{has_marked}
use Rattle.proof_check.proofs.literal_set.LiteralSet.has.Goals as goal

pub returns : goal.returns
returns c =
    c.is_marked.ensures ∙ ap (λ m. is_marked m c.args.literal) c.deref.ensures.value
    ∙ sym (has_marked c.self.inside.marks.items c.self.inside.touched.items c.args.self.now c.self.view_is c.self.invariant c.args.literal)
