use Rattle.std.proofs.Common.{[], ◌∷◌, ◌++◌, length, append_assoc, sym, ap, ◌∙◌, subst}
use Rattle.clause_solver.specs.Watching.{HaveSameLiterals}
use Rattle.clause_solver.proofs.Entering.{code_listed}
use Rattle.clause_solver.proofs.indexed.Indexed.enter.Goals as goal

pub enter-requires-clause-first : goal.enter-requires-clause-first
enter-requires-clause-first c =
    λ pos. code_listed c.args.self.now.assignment.variables c.args.self.now.watches c.args.clause.now c.args.first c.requires.looked.watches.lists_room
    c.requires.below (c.requires.watched.first_in pos)

pub enter-requires-clause-second : goal.enter-requires-clause-second
enter-requires-clause-second c =
    λ pos. code_listed c.args.self.now.assignment.variables c.args.self.now.watches c.args.clause.now c.args.second c.requires.looked.watches.lists_room
    c.requires.below (c.requires.watched.second_in pos)

pub returns-clause-looked : goal.returns-clause-looked
returns-clause-looked c =
    let s = c.args.self.now in
    record {
      watches =
          c.in_ok-enter.ensures.watches s.assignment.variables s.assignment.trail c.requires.looked.watches c.requires.below c.requires.watched
          c.requires.unit;
      same = subst (λ cs. HaveSameLiterals cs c.enter.new.self.sorted) (sym c.in_ok-push.ensures.pushed)
          (c.in_ok-enter.ensures.sorted s.clauses c.requires.looked.same);
      distinct = c.requires.looked.distinct;
      idle = c.requires.looked.idle;
    }

pub returns-clause-bases : goal.returns-clause-bases
returns-clause-bases c = λ b h. (
  (
    h.0.0 ++ c.args.clause.now ∷ [],
    c.in_ok-push.ensures.pushed ∙ ap (λ cs. cs ++ c.args.clause.now ∷ []) h.0.1 ∙ append_assoc b.clauses h.0.0 (c.args.clause.now ∷ []),
  ),
  h.1,
  h.2,
  c.in_ok-enter.ensures.kept b.trail (length b.clauses) c.requires.looked.watches.pairs_room h.3,
)
