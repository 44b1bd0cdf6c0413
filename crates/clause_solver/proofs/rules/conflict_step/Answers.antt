use Rattle.std.proofs.Common.{cond, sym, ap, ◌∙◌, subst, inl}
use Rattle.std.proofs.lemmas.Bool.{ne_eqb}
use Rattle.cqe_base.specs.Machine.{level, kept_count}
use Rattle.cqe_base.specs.MachineStates.{Walked}
use Rattle.cqe_base.proofs.Conflicts.{conflict_walked}
use Rattle.clause_solver.specs.IndexedStates.{plain_of}
use Rattle.clause_solver.proofs.rules.conflict_step.Goals as goal

pub learn-requires-clause-walked : goal.learn-requires-clause-walked
learn-requires-clause-walked c =
    let s = c.args.state.now in
    let n = s.assignment.variables in
    let t = s.assignment.trail in
    let walked = conflict_walked n (plain_of s) c.args.number c.requires.indexed.reached c.requires.conflict in
    subst (λ k. Walked n t k c.in_ok-line.line.clause.items) (ap (λ b. cond b 0 1) (ne_eqb (level t) 0 (λ e. c.if-level-eq0.false (c.level.ensures ∙ e))))
    (subst (λ x. Walked n t (kept_count t) x.clause) (sym c.in_ok-line.ensures.line) walked)

pub conflict_line-requires-clause-conflict : goal.conflict_line-requires-clause-conflict
conflict_line-requires-clause-conflict c = inl c.requires.conflict
