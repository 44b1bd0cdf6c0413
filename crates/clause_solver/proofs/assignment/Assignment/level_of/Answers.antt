use Rattle.std.proofs.Common.{◌≡◌, get_or, sym, ap, ◌∙◌, arith}
use Rattle.std.proofs.lemmas.List.{get_or_past, get_or_read}
use Rattle.cqe_base.specs.Literal.{Positive}
use Rattle.cqe_base.specs.Machine.{level_of}
use Rattle.clause_solver.specs.Assigning.{Assigning}
use Rattle.clause_solver.proofs.Kept.{level_of-variable}
use Rattle.clause_solver.proofs.assignment.Assignment.level_of.Goals as goal
use Rattle.clause_solver.proofs.assignment.Assignment.level_of.Goals.{After-len}

read : (c : After-len) → get_or c.self.inside.levels.items c.variable-variable.result 0 ≡ level_of c.args.self.now.trail c.args.literal
read c =
    c.self.invariant.level_at c.variable-variable.result
    ∙ ap (λ (s : Assigning). level_of s.trail (Positive c.variable-variable.result)) c.self.view_is
    ∙ ap (λ v. level_of c.args.self.now.trail (Positive v)) c.variable-variable.ensures.variable
    ∙ sym (level_of-variable c.args.self.now.trail c.args.literal)

pub returns-then-variable-len : goal.returns-then-variable-len
returns-then-variable-len c =
    get_or_read c.self.inside.levels.items c.variable-variable.result c.index.result.now (let ok = c.self.inside.levels.ok.0 in
    omega (arith, c.len.ensures, c.if-variable-len.true)) c.index.ensures 0
    ∙ read (goal.at.returns-then-variable-len c).After-len

pub returns-else-variable-len : goal.returns-else-variable-len
returns-else-variable-len c =
    sym (get_or_past c.self.inside.levels.items c.variable-variable.result 0 (let ok = c.self.inside.levels.ok.0 in
    omega (arith, c.len.ensures, c.if-variable-len.false)))
    ∙ read (goal.at.returns-else-variable-len c).After-len
