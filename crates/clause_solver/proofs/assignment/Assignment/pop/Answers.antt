use Rattle.std.proofs.Common.{◌≡◌, ◌++◌, ◌∷◌, [], reverse, ap, ◌∙◌}
use Rattle.cqe_base.specs.Literal.{variable_of}
use Rattle.clause_store.specs.Codes.{code_of}
use Rattle.clause_solver.proofs.Kept.{pop_kept, reverse_push}
use Rattle.clause_solver.proofs.assignment.Assignment.pop.Goals as goal

pub invariant_of-self-2 : goal.invariant_of-self-2
invariant_of-self-2 c =
    let a = c.self.inside in
    let t = reverse c.pop.new.self.items in
    let literal = c.literal-literal.ensures in
    let items : a.trail.items ≡ c.pop.new.self.items ++ c.in_ok-entry.entry ∷ [] = c.in_ok-entry.ensures.items in
    pop_kept a.variables c.in_ok-entry.entry a.trail.items t a.truths.items a.signs.items a.levels.items a.places.items a.decisions a.next c.code.result
    c.variable-variable.result c.level_without-self-inside.result c.min-self-inside.result
    (ap reverse items ∙ reverse_push c.pop.new.self.items c.in_ok-entry.entry) c.self.invariant
    (c.code.ensures ∙ ap code_of literal)
    (c.variable-variable.ensures.variable ∙ ap variable_of literal) c.level_without-self-inside.ensures c.min-self-inside.ensures
