use Rattle.std.proofs.Common.{[], ◌∷◌, ◌++◌, ap, sym, ◌∙◌}
use Rattle.std.proofs.lemmas.List.{get_or_read}
use Rattle.cqe_base.proofs.Analysis.{walk_back}
use Rattle.cqe_base.proofs.Conflicts.{conflict_line-is}
use Rattle.clause_solver.specs.Lines.{line_with, state_at}
use Rattle.clause_store.specs.Marking.{Marking}
use Rattle.clause_solver.proofs.KeptEnds.{analysis_begins}
use Rattle.clause_solver.proofs.analysis.conflict_line.Goals as goal

pub returns-clause-line : goal.returns-clause-line
returns-clause-line c =
    let n = c.args.clause.now.variables in
    let s = state_at c.args.clauses.now c.args.assignment.now.trail in
    let found = get_or_read s.clauses c.args.number c.clause.result.now c.requires.number c.clause.ensures [] in
    let clause = ap (λ (m : Marking). m.clause) c.in_ok-append.ensures.appended ∙ (λ i. c.requires.empty i ++ found i) in
    let chain = c.in_ok-push.ensures.items ∙ ap (λ xs. xs ++ c.args.number ∷ []) c.new-chain.ensures.items in
    (λ i. line_with ((c.in_ok-literals.ensures.items ∙ c.literals.ensures) i) c.analyse.new.chain.items)
    ∙ c.in_ok-analyse.ensures.line
    ∙ (λ i. walk_back s.clauses s.trail (c.kept_count.ensures i) s.trail (line_with (clause i) (chain i)))
    ∙ sym (conflict_line-is n s c.args.number c.requires.reached (analysis_begins n s c.args.number c.requires.reached c.requires.number c.requires.conflict))
