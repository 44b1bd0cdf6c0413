use Rattle.std.proofs.Common.{length, refl, sym, ap, ◌∙◌, subst}
use Rattle.clause_store.specs.Marking.{Marking}
use Rattle.clause_solver.specs.Watching.{HaveSameLiterals}
use Rattle.clause_solver.specs.Assigning.{Assigning}
use Rattle.clause_solver.proofs.StateMoves.{moved, distinct_over, below_same}
use Rattle.clause_solver.proofs.Bases.{same_under}
use Rattle.clause_solver.proofs.indexed.Indexed.set_variables.Goals as goal

pub set_variables-requires-clause-below : goal.set_variables-requires-clause-below
set_variables-requires-clause-below c = distinct_over c.args.variables c.args.self.now c.requires.kept c.requires.below

pub set_variables-requires-3-clause-none : goal.set_variables-requires-3-clause-none
set_variables-requires-3-clause-none c = ap (λ (m : Marking). m.clause) c.requires.kept.indexed.looked.idle

pub returns-clause-kept : goal.returns-clause-kept
returns-clause-kept c =
    let s = c.args.self.now in
    let k = c.requires.kept in
    moved s _ c.args.variables k (ap (λ (a : Assigning). a.variables) c.in_ok-set_variables.ensures)
    (ap (λ (a : Assigning). a.trail) c.in_ok-set_variables.ensures) refl k.no_lines c.requires.variables c.requires.below
    (c.in_ok-set_variables-2.ensures.watches s.assignment.variables s.assignment.trail k.indexed.looked.watches
    (below_same c.args.variables s.clauses s.watches.sorted k.indexed.looked.same c.requires.below))
    (subst (HaveSameLiterals s.clauses) (sym c.set_variables-2.ensures.sorted) k.indexed.looked.same)
    (c.in_ok-set_variables-3.ensures.set ∙ ap (λ (m : Marking). record m { variables = c.args.variables }) k.indexed.looked.idle)

pub returns-clause-bases : goal.returns-clause-bases
returns-clause-bases c =
    let e = c.set_variables-2.ensures in
    λ b h. (
      h.0,
      (h.1.0, ap (λ (a : Assigning). a.trail) c.in_ok-set_variables.ensures ∙ h.1.1),
      h.2,
      same_under b.trail (length b.clauses) _ _ _ _ e.sorted (ap (λ ps. ps.items) e.pairs) h.3,
    )
