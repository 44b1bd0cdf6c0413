use Rattle.std.proofs.Common.{◌≡◌, ◌<◌, ◌-◌, [], length, drop, take, sym, ap, ◌∙◌, subst, arith}
use Rattle.std.proofs.lemmas.List.{length-reverse}
use Rattle.cqe_base.specs.MachineStates.{IsDistinct}
use Rattle.clause_solver.specs.Watching.{HaveSameLiterals}
use Rattle.clause_solver.specs.WatchesInside.{AreWatches, AreWatchedUnder}
use Rattle.clause_solver.proofs.Bases.{popped, drop_to_oldest, ends_distinct, same_take}
use Rattle.clause_solver.proofs.indexed.Indexed.go_back.Goals as goal

pub loop-self-preserved : goal.loop-self-preserved
loop-self-preserved c =
    let v = c.loop-self.invariant in
    let longer : c.args.entries < length c.loop-self.self.assignment.trail = (let lt = c.loop-self-test.true in let e = ap length c.entries.ensures in
    let r = length-reverse c.entries.result.now in omega arith) in
    let e = c.pop-entry.ensures in
    let p = popped c.args.entries c.loop-self.self.assignment c.pop-entry.new.self c.pop-entry.result e.some e.none longer in
    record {
      variables = p.1 ∙ v.variables;
      clauses = v.clauses;
      watches = v.watches;
      resolvent = v.resolvent;
      trail = p.0 ∙ v.trail;
    }

pub returns-clause-looked : goal.returns-clause-looked
returns-clause-looked c = λ b clauses entries h.
    let s = c.args.self.now in
    let l = c.loop-self.self in
    let v = c.loop-self.invariant in
    let k = c.requires.looked in
    let n = s.assignment.variables in
    let count = c.args.clauses in
    let short : length l.assignment.trail - c.args.entries ≡ 0 = (let le = c.loop-self-test.false in let e = ap length c.entries.ensures in
    let r = length-reverse c.entries.result.now in omega arith) in
    let trail : l.assignment.trail ≡ b.trail =
    ap (λ m. drop m l.assignment.trail) (sym short) ∙ v.trail ∙ ap (λ t. drop (length t - c.args.entries) t) h.1.1
    ∙ drop_to_oldest h.1.0 b.trail c.args.entries entries in
    let watches : AreWatches n b.trail c.go_back.new.self =
    c.go_back.ensures.watches n b.trail s.assignment.trail (subst (AreWatches n s.assignment.trail) (sym v.watches) k.watches)
    (subst (AreWatchedUnder b.trail count) (sym v.watches) (subst (λ m. AreWatchedUnder b.trail m s.watches) clauses h.3)) in
    record {
      watches = subst (λ m. AreWatches m l.assignment.trail c.go_back.new.self) (sym v.variables)
          (subst (λ t. AreWatches n t c.go_back.new.self) (sym trail) watches);
      same = subst (λ cs. HaveSameLiterals cs c.go_back.new.self.sorted) (sym (c.truncate.ensures ∙ ap (take count) v.clauses))
          (subst (HaveSameLiterals (take count s.clauses)) (sym (c.go_back.ensures.sorted ∙ ap (λ w. take count w.sorted) v.watches))
          (same_take count s.clauses s.watches.sorted c.requires.clauses k.same));
      distinct = subst (λ m. IsDistinct m l.assignment.trail) (sym v.variables)
          (subst (IsDistinct n) (sym trail) (ends_distinct n h.1.0 b.trail (subst (IsDistinct n) h.1.1 k.distinct)));
      idle = v.resolvent ∙ k.idle ∙ ap (λ m. record { variables = m; clause = [] }) (sym v.variables);
    }
