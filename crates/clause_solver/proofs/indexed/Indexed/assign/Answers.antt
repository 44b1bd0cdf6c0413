use Rattle.std.proofs.Common.{◌≡◌, ◌∷◌, [], length, get_or, sym, ap, ◌∙◌, subst}
use Rattle.cqe_base.specs.Literal.{Positive, opposite}
use Rattle.cqe_base.specs.Machine.{assigned_literal}
use Rattle.cqe_base.specs.MachineStates.{IsDistinct}
use Rattle.clause_store.specs.Codes.{code_of}
use Rattle.clause_solver.specs.Assigning.{Assigning}
use Rattle.clause_solver.specs.Beginnings.{EndsWith}
use Rattle.clause_solver.specs.Watching.{IsWatching, HaveSameLiterals}
use Rattle.clause_solver.specs.WatchesInside.{lists_of, units_of}
use Rattle.clause_solver.proofs.Looks.{looks_begin}
use Rattle.clause_solver.proofs.indexed.Indexed.assign.Goals as goal
use Rattle.clause_solver.proofs.indexed.Indexed.assign.Goals.{After-push}

distinct : (c : After-push) → IsDistinct c.args.self.now.assignment.variables (c.args.entry ∷ c.args.self.now.assignment.trail)
distinct c = (c.requires.below, c.requires.free, c.requires.looked.distinct)

pub visit_all-requires-clause-watching : goal.visit_all-requires-clause-watching
visit_all-requires-clause-watching c =
    let s = c.args.self.now in
    let d = (goal.at.visit_all-requires-clause-watching c).After-push in
    let o : c.opposite.result ≡ opposite (assigned_literal c.args.entry) = c.opposite.ensures ∙ ap opposite c.literal-literal.ensures in
    subst (λ (a : Assigning).
    IsWatching a.variables a.trail s.watches.sorted (lists_of s.watches) s.watches.pairs.items (units_of s.watches) s.watches.falsified c.opposite.result
    (get_or (lists_of s.watches) (code_of c.opposite.result) [])) (sym c.in_ok-push.ensures)
    (subst (λ l. IsWatching s.assignment.variables (c.args.entry ∷ s.assignment.trail) s.watches.sorted (lists_of s.watches) s.watches.pairs.items
    (units_of s.watches) s.watches.falsified l (get_or (lists_of s.watches) (code_of l) [])) (sym o)
    (looks_begin s.assignment.variables c.args.entry s.assignment.trail (distinct d) s.watches.sorted (lists_of s.watches) s.watches.pairs.items
    (units_of s.watches) s.watches.falsified (Positive 0) c.requires.looked.watches c.requires.steady))

pub returns-clause-looked : goal.returns-clause-looked
returns-clause-looked c =
    let s = c.args.self.now in
    let d = (goal.at.returns-clause-looked c).After-push in
    record {
      watches = c.in_ok-visit_all.ensures.watches;
      same = subst (HaveSameLiterals s.clauses) (sym c.in_ok-visit_all.ensures.sorted) c.requires.looked.same;
      distinct = subst (λ (a : Assigning). IsDistinct a.variables a.trail) (sym c.in_ok-push.ensures) (distinct d);
      idle = c.requires.looked.idle ∙ ap (λ (a : Assigning). record { variables = a.variables; clause = [] }) (sym c.in_ok-push.ensures);
    }

pub returns-clause-bases : goal.returns-clause-bases
returns-clause-bases c = λ b h.
    let ends : EndsWith b.trail c.push.new.self.trail =
    (c.args.entry ∷ h.1.0, ap (λ (a : Assigning). a.trail) c.in_ok-push.ensures ∙ ap (λ t. c.args.entry ∷ t) h.1.1) in
    (h.0, ends, h.2, c.in_ok-visit_all.ensures.kept b.trail (length b.clauses) ends h.3)
