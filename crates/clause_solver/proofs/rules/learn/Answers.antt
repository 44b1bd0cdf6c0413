use Rattle.std.proofs.Common.{◌≡◌, ◌<◌, ℕ, [], ◌∷◌, ◌++◌, map, Some, None, length, eqb, sym, ap, ◌∙◌, subst, arith}
use Rattle.std.specs.Prelude.{not}
use Rattle.std.specs.List.{find, filter}
use Rattle.std.proofs.lemmas.List.{map_push}
use Rattle.cqe_base.specs.Literal.{variable_of}
use Rattle.cqe_base.specs.Machine.{State, Because, assigned_literal, is_current, highest_level, cut, with_asserted}
use Rattle.cqe_base.specs.MachineStates.{is_assigned, IsReached}
use Rattle.cqe_base.proofs.Conflicts.{GoesBack, goes_back, find_counted, learnt_reached}
use Rattle.clause_store.specs.PlainLines.{line_of}
use Rattle.clause_solver.specs.Watching.{IsWatched}
use Rattle.clause_solver.specs.IndexedStates.{plain_of, IsHighestBeside}
use Rattle.cqe_base.proofs.MachineBound.{back_low}
use Rattle.std.proofs.lemmas.Bool.{eqb-true}
use Rattle.clause_solver.proofs.Entering.{single_but}
use Rattle.clause_solver.proofs.Learnt.{learnt_watched}
use Rattle.clause_solver.proofs.rules.learn.Goals as goal
use Rattle.clause_solver.proofs.rules.learn.Goals.{In-Some, After-because}

pub returns-in_default-clause-plain : goal.returns-in_default-clause-plain
returns-in_default-clause-plain c =
    let t = c.args.state.now.assignment.trail in
    let some = find_counted (is_current t) c.args.line.clause.items (let w = c.requires.walked.count in omega arith) in
    let none : find (is_current t) c.args.line.clause.items ≡ None =
    ap (find (is_current t)) (sym c.deref.ensures.value) ∙ sym c.first_current.ensures ∙ c.in_default.is in
    let is = some.1 in
    absurd (let x : ⊥ = cc in x)

found : (c : In-Some) → find (is_current c.args.state.now.assignment.trail) c.args.line.clause.items ≡ Some c.in-Some.asserting
found c = ap (find (is_current c.args.state.now.assignment.trail)) (sym c.deref.ensures.value) ∙ sym c.first_current.ensures ∙ c.in-Some.is

abbrev back : In-Some → ℕ
back c = highest_level c.args.state.now.assignment.trail (filter (λ l. not (is_current c.args.state.now.assignment.trail l)) c.args.line.clause.items)

gone_back : (c : In-Some)
    → GoesBack c.args.state.now.assignment.variables c.args.state.now.assignment.trail (back c) c.args.line.clause.items c.in-Some.asserting
gone_back c = goes_back c.args.state.now.assignment.variables c.args.state.now.assignment.trail c.args.line.clause.items c.in-Some.asserting
    c.requires.indexed.looked.distinct c.requires.level c.requires.walked (found c)

pub cut-requires-clause-lower : goal.cut-requires-clause-lower
cut-requires-clause-lower c =
    let t = c.args.state.now.assignment.trail in
    let low = back_low t c.args.line.clause.items c.requires.level in
    let e = c.back_level-back.ensures ∙ ap (λ x. highest_level t (filter (λ l. not (is_current t l)) x)) c.deref-2.ensures.value in
    omega arith

shorter : (c : After-because) → c.cut.new.self.assignment.trail ≡ cut (back (goal.at.assign-requires-clause-below c).In-Some) c.args.state.now.assignment.trail
shorter c =
    let t = c.args.state.now.assignment.trail in
    ap (λ (x : State). x.trail) c.cut.ensures.plain
    ∙ ap (λ k. cut k t) (c.back_level-back.ensures ∙ ap (λ x. highest_level t (filter (λ l. not (is_current t l)) x)) c.deref-2.ensures.value)

pub assign-requires-clause-below : goal.assign-requires-clause-below
assign-requires-clause-below c =
    let d = (goal.at.assign-requires-clause-below c).In-Some in
    subst (λ m. variable_of (assigned_literal c.because.result) < m) (sym c.cut.ensures.variables)
    (subst (λ a. variable_of (assigned_literal a) < c.args.state.now.assignment.variables) (sym c.because.ensures) (gone_back d).below)

pub assign-requires-clause-free : goal.assign-requires-clause-free
assign-requires-clause-free c =
    let d = (goal.at.assign-requires-clause-below c).In-Some in
    (λ i. is_assigned (shorter c i) (variable_of (assigned_literal (c.because.ensures i)))) ∙ (gone_back d).free

pub enter-requires-clause-watched : goal.enter-requires-clause-watched
enter-requires-clause-watched c =
    let b = (goal.at.enter-requires-clause-watched c).After-because in
    let d = (goal.at.assign-requires-clause-below b).In-Some in
    let s = c.args.state.now in
    let t = s.assignment.trail in
    let trail : c.assign.new.self.assignment.trail ≡ Because c.len-number.result c.in-Some.asserting ∷ cut (back d) t =
    ap (λ (x : State). x.trail) c.in_ok-assign.ensures.plain ∙ (λ i. c.because.ensures i ∷ shorter b i) in
    let unit : c.is_single-unit.result ≡ eqb (length c.args.line.clause.items) 1 =
    c.is_single-unit.ensures ∙ ap (λ x. eqb (length x) 1) c.deref-4.ensures.value in
    subst (λ u. IsWatched u c.deref-5.result.now (record {
      first =
          c.in-Some.asserting;
      second = c.highest_beside-second.result;
    }) c.is_single-unit.result (eqb (length c.deref-5.result.now) 0)) (sym trail)
    (subst (λ x. IsWatched (Because c.len-number.result c.in-Some.asserting ∷ cut (back d) t) x
    (record { first = c.in-Some.asserting; second = c.highest_beside-second.result }) c.is_single-unit.result (eqb (length x) 0)) (sym c.deref-5.ensures.value)
    (subst (λ u. IsWatched (Because c.len-number.result c.in-Some.asserting ∷ cut (back d) t) c.args.line.clause.items
    (record { first = c.in-Some.asserting; second = c.highest_beside-second.result }) u (eqb (length c.args.line.clause.items) 0)) (sym unit)
    (learnt_watched s.assignment.variables c.len-number.result
    (back d) t c.args.line.clause.items c.in-Some.asserting c.highest_beside-second.result c.requires.indexed.looked.distinct
    (gone_back d) c.requires.walked.clause.no_repeat
    (subst (λ x. IsHighestBeside t x c.in-Some.asserting c.highest_beside-second.result) c.deref-3.ensures.value c.highest_beside-second.ensures))))

pub enter-requires-clause-unit : goal.enter-requires-clause-unit
enter-requires-clause-unit c =
    let unit : c.is_single-unit.result ≡ eqb (length c.deref-5.result.now) 1 =
    c.is_single-unit.ensures ∙ ap (λ x. eqb (length x) 1) (c.deref-4.ensures.value ∙ sym c.deref-5.ensures.value) in
    λ u.
    let one : length c.deref-5.result.now ≡ 1 = eqb-true (length c.deref-5.result.now) 1 (sym unit ∙ u) in
    single_but c.assign.new.self.assignment.trail c.deref-5.result.now c.in-Some.asserting one ((enter-requires-clause-watched c).first_in (omega arith))

pub returns-clause-plain : goal.returns-clause-plain
returns-clause-plain c =
    let b = (goal.at.returns-clause-plain c).After-because in
    let d = (goal.at.assign-requires-clause-below b).In-Some in
    let s = c.args.state.now in
    let t = s.assignment.trail in
    let one = c.in_ok-assign.ensures.plain in
    let two = c.in_ok-enter.ensures.plain in
    let clauses : c.enter.new.self.clauses ≡ s.clauses ++ c.args.line.clause.items ∷ [] =
    ap (λ (x : State). x.clauses) two
    ∙ (λ i. (ap (λ (x : State). x.clauses) (one
    ∙ (λ j. record {
      clauses = c.cut.new.self.clauses;
      trail = c.because.result ∷ c.cut.new.self.assignment.trail;
      lines =
          map line_of c.cut.new.self.lines.items;
    })) ∙ ap (λ (x : State). x.clauses) c.cut.ensures.plain) i ++ c.deref-5.ensures.value i ∷ []) in
    let trail : c.enter.new.self.assignment.trail ≡ with_asserted (length s.clauses) (find (is_current t) c.args.line.clause.items) (cut (back d) t) =
    ap (λ (x : State). x.trail) two ∙ ap (λ (x : State). x.trail) one
    ∙ (λ i. c.because.ensures i ∷ shorter b i)
    ∙ ap (λ k. Because k c.in-Some.asserting ∷ cut (back d) t) c.len-number.ensures
    ∙ sym (ap (λ o. with_asserted (length s.clauses) o (cut (back d) t)) (found d)) in
    let lines : map line_of c.push.new.self.items ≡ map line_of s.lines.items ++ line_of c.args.line ∷ [] =
    ap (map line_of) c.in_ok-push.ensures.items ∙ map_push line_of c.enter.new.self.lines.items c.args.line
    ∙ ap (λ ls. ls ++ line_of c.args.line ∷ []) (ap (λ (x : State). x.lines) two ∙ ap (λ (x : State). x.lines) one
    ∙ ap (λ (x : State). x.lines) c.cut.ensures.plain) in
    λ i. record { clauses = clauses i; trail = trail i; lines = lines i }

pub returns-clause-indexed : goal.returns-clause-indexed
returns-clause-indexed c =
    let s = c.args.state.now in
    let n = s.assignment.variables in
    let k = c.in_ok-enter.ensures.looked in
    let d = (goal.at.returns-clause-indexed c).In-Some in
    record {
      looked = record { watches = k.watches; same = k.same; distinct = k.distinct; idle = k.idle };
      reached =
          subst (λ m. IsReached m (plain_of (record c.enter.new.self { lines = c.push.new.self })))
          (sym (c.enter.ensures.variables ∙ c.in_ok-assign.ensures.variables ∙ c.cut.ensures.variables))
          (subst (IsReached n) (sym (returns-clause-plain c))
          (learnt_reached n (plain_of s) (line_of c.args.line) c.in-Some.asserting c.requires.indexed.reached c.requires.level c.requires.walked
          (found d)));
    }
