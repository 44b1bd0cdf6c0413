use Rattle.std.proofs.Common.{◌≡◌, ◌<◌, true, eqb, List, [], ◌∷◌, ◌++◌, length, get_or, take, sym, ap, ◌∙◌, subst, arith}
use Rattle.std.proofs.lemmas.Bool.{eqb-true}
use Rattle.std.proofs.lemmas.List.{get_or_read, take_more}
use Rattle.cqe_base.specs.Literal.{Literal, HasNoRepeat, ClauseBelow}
use Rattle.cqe_base.proofs.Analysis.{each_at}
use Rattle.cqe_base.proofs.NoRepeats.{no_repeat_at}
use Rattle.clause_solver.specs.Watching.{IsWatched, HaveSameLiterals, AllFalseBut}
use Rattle.clause_solver.proofs.Entering.{code_listed, single_but}
use Rattle.clause_solver.proofs.Learnt.{given_watched}
use Rattle.clause_solver.proofs.run.watched.Goals as goal
use Rattle.clause_solver.proofs.run.watched.Goals.{After-first_two-first}

within : (c : After-first_two-first) → c.loop-number.number < length c.args.clauses.now
within c = let h = c.loop-number-test.true in let e = c.len-number-end.ensures in omega arith

at : (c : After-first_two-first) → c.clause-clause.result.now ≡ get_or c.args.clauses.now c.loop-number.number []
at c = get_or_read c.args.clauses.now c.loop-number.number c.clause-clause.result.now (within c) c.clause-clause.ensures []

below : (c : After-first_two-first) → ClauseBelow c.args.variables c.clause-clause.result.now
below c = subst (ClauseBelow c.args.variables) (sym (at c)) (each_at (ClauseBelow c.args.variables) c.args.clauses.now c.loop-number.number c.requires.below tt)

watched : (c : After-first_two-first) → IsWatched [] c.clause-clause.result.now (record {
  first =
      c.first_two-first.result.0;
  second = c.first_two-first.result.1;
}) (eqb (length c.clause-clause.result.now) 1) (eqb (length c.clause-clause.result.now) 0)
watched c =
    let x : List Literal = c.clause-clause.result.now in
    let once : HasNoRepeat x = subst HasNoRepeat (sym (at c)) (no_repeat_at c.args.clauses.now c.loop-number.number c.requires.no_repeat (within c)) in
    subst (λ (p : Literal × Literal). IsWatched [] x (record {
      first =
          p.0;
      second = p.1;
    }) (eqb (length x) 1) (eqb (length x) 0)) (sym c.first_two-first.ensures) (given_watched x once)

only : (c : After-first_two-first) → eqb (length c.clause-clause.result.now) 1 ≡ true → AllFalseBut [] c.first_two-first.result.0 c.clause-clause.result.now
only c u =
    let one = eqb-true (length c.clause-clause.result.now) 1 u in
    single_but [] c.clause-clause.result.now c.first_two-first.result.0 one ((watched c).first_in (omega arith))

pub enter-requires-clause-first : goal.enter-requires-clause-first
enter-requires-clause-first c =
    let d = (goal.at.enter-requires-clause-first c).After-first_two-first in
    λ pos. code_listed c.args.variables c.loop-number.watches c.clause-clause.result.now c.first_two-first.result.0 c.loop-number.invariant.watches.lists_room
    (below d) ((watched d).first_in pos)

pub enter-requires-clause-second : goal.enter-requires-clause-second
enter-requires-clause-second c =
    let d = (goal.at.enter-requires-clause-second c).After-first_two-first in
    λ pos. code_listed c.args.variables c.loop-number.watches c.clause-clause.result.now c.first_two-first.result.1 c.loop-number.invariant.watches.lists_room
    (below d) ((watched d).second_in pos)

pub loop-number-preserved : goal.loop-number-preserved
loop-number-preserved c =
    let d = (goal.at.loop-number-preserved c).After-first_two-first in
    let v = c.loop-number.invariant in
    let cs = c.args.clauses.now in
    let k = c.loop-number.number in
    record {
      watches = c.in_ok-enter.ensures.watches c.args.variables [] v.watches (below d)
          (subst (λ u. IsWatched [] c.clause-clause.result.now (record { first = c.first_two-first.result.0; second = c.first_two-first.result.1 }) u
          (eqb (length c.clause-clause.result.now) 0)) (sym c.is_single-unit.ensures) (watched d))
          (λ u. only d (sym c.is_single-unit.ensures ∙ u));
      same =
          subst (λ xs. HaveSameLiterals xs c.enter.new.self.sorted)
          (ap (λ x. take k cs ++ x ∷ []) (at d) ∙ sym (take_more cs k [] (within d)))
          (c.in_ok-enter.ensures.sorted (take k cs) v.same);
    }
