use Rattle.std.proofs.Common.{◌<◌, ◌≤◌, [], ◌∷◌, ◌++◌, None, length, sym, ap, ◌∙◌, subst, arith}
use Rattle.std.specs.List.{list_all}
use Rattle.std.proofs.lemmas.Bool.{false_from_ne_true}
use Rattle.std.proofs.lemmas.List.{get_or_read, take_all, take_more}
use Rattle.cqe_base.specs.Literal.{ClausesBelow, HaveNoRepeat}
use Rattle.cqe_base.specs.Machine.{State, level, is_false}
use Rattle.cqe_base.proofs.KeptTrails.{level_kept}
use Rattle.clause_solver.specs.KeptStates.{IsFirstOfFalsified}
use Rattle.clause_solver.proofs.FirstFalsified.{none_of_more}
use Rattle.clause_solver.proofs.StateMoves.{kept_more}
use Rattle.clause_solver.proofs.joining.enter_all.Goals as goal

pub enter_under-requires-clause-level : goal.enter_under-requires-clause-level
enter_under-requires-clause-level c =
    let s = c.args.state.now in
    ap level c.loop-number.invariant.trail ∙ level_kept s.clauses s.assignment.trail c.requires.kept.kept

pub enter_under-requires-clause-free : goal.enter_under-requires-clause-free
enter_under-requires-clause-free c =
    let s = c.args.state.now in
    let cs = c.args.clauses.now in
    let k = c.loop-number.number in
    let within : k < length cs = (let h = c.loop-number-test.true in let e = c.len-number-end.ensures in omega arith) in
    let low : length s.clauses ≤ k = (let h = c.loop-number.auto.number in let e = c.len-number.ensures in omega arith) in
    let at = get_or_read cs k c.clause.result.now within c.clause.ensures [] in
    false_from_ne_true _ (λ h. c.requires.none_falsified k low within
    (ap (list_all (is_false s.assignment.trail)) (sym at) ∙ ap (λ t. list_all (is_false t) c.clause.result.now) (sym c.loop-number.invariant.trail) ∙ h))

pub loop-number-preserved : goal.loop-number-preserved
loop-number-preserved c =
    let v = c.loop-number.invariant in
    let e = c.in_ok-enter_under.ensures in
    let cs = c.args.clauses.now in
    let k = c.loop-number.number in
    let within : k < length cs = (let h = c.loop-number-test.true in let e = c.len-number-end.ensures in omega arith) in
    let at = get_or_read cs k c.clause.result.now within c.clause.ensures [] in
    record {
      clauses = ap (λ (p : State). p.clauses) e.plain ∙ (λ i. v.clauses i ++ at i ∷ []) ∙ sym (take_more cs k [] within);
      trail = ap (λ (p : State). p.trail) e.plain ∙ v.trail;
      variables = e.variables ∙ v.variables;
      lines = ap (λ (p : State). p.lines) e.plain ∙ v.lines;
      looked = e.looked;
      bases = λ b h. e.bases b (v.bases b h);
    }

pub returns-clause-kept : goal.returns-clause-kept
returns-clause-kept c =
    let s = c.args.state.now in
    let t = s.assignment.trail in
    let v = c.loop-number.invariant in
    let more = c.requires.begins.0 in
    let split = c.requires.begins.1 in
    let n = s.assignment.variables in
    let end : length c.args.clauses.now ≤ c.loop-number.number = (let h = c.loop-number-test.false in let e = c.len-number-end.ensures in omega arith) in
    kept_more s c.loop-number.state more c.requires.kept
    (none_of_more t s.clauses more (subst (λ ds. IsFirstOfFalsified ds t (length s.clauses) (length ds) None) split c.requires.none_falsified))
    (v.clauses ∙ take_all c.loop-number.number c.args.clauses.now end ∙ split) v.trail v.variables v.lines v.looked
    (subst (ClausesBelow n) split c.requires.below) (subst HaveNoRepeat split c.requires.no_repeat)
