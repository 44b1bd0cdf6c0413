use Rattle.std.proofs.Common.{◌≡◌, ◌≤◌, List, [], None, length, map, sym, ap, ◌∙◌, subst, arith}
use Rattle.cqe_base.specs.Literal.{Positive}
use Rattle.cqe_base.specs.Machine.{Assigned, level, cut}
use Rattle.cqe_base.specs.MachineStates.{IsDistinct}
use Rattle.cqe_base.proofs.Conflicts.{cut_distinct}
use Rattle.clause_store.specs.PlainLines.{line_of}
use Rattle.clause_solver.specs.Watching.{IsWatching, HaveSameLiterals}
use Rattle.clause_solver.specs.WatchesInside.{lists_of, units_of}
use Rattle.clause_solver.proofs.Trails.{cut-low}
use Rattle.clause_solver.proofs.Looks.{watching_cut, same_watching}
use Rattle.clause_solver.proofs.Bases.{cut_ends, same_under}
use Rattle.clause_solver.proofs.indexed.Indexed.cut.Goals as goal
use Rattle.clause_solver.proofs.indexed.Indexed.cut.Goals.{After-clear}

trail : (c : After-clear) → c.loop-self.self.assignment.trail ≡ cut c.args.k c.args.self.now.assignment.trail
trail c =
    let low : level c.loop-self.self.assignment.trail ≤ c.args.k = (let e = c.level.ensures in let h = c.loop-self-test.false in omega arith) in
    sym (cut-low c.args.k c.loop-self.self.assignment.trail low) ∙ c.loop-self.invariant.trail

pub returns-clause-plain : goal.returns-clause-plain
returns-clause-plain c = λ i. record { clauses = c.loop-self.invariant.clauses i; trail = trail c i; lines = map line_of (c.loop-self.invariant.lines i).items }

pub returns-clause-looked : goal.returns-clause-looked
returns-clause-looked c =
    let s = c.args.self.now in
    let l = c.loop-self.self in
    let v = c.loop-self.invariant in
    let k = c.requires.looked in
    let n = s.assignment.variables in
    let t : List Assigned = cut c.args.k s.assignment.trail in
    let base : IsWatching n t s.watches.sorted (lists_of s.watches) s.watches.pairs.items [] None (Positive 0) [] =
    watching_cut n s.assignment.trail s.watches.sorted (lists_of s.watches) s.watches.pairs.items (units_of s.watches) s.watches.falsified
    (Positive 0) k.watches c.args.k k.distinct c.requires.lower in
    record {
      watches =
          same_watching l.assignment.variables l.assignment.trail (Positive 0) [] _ _ _ _ _ _ _ _ _ _
          (c.clear.ensures.sorted ∙ ap (λ w. w.sorted) v.watches)
          (ap (λ ls. map (λ v. v.items) ls.items) (c.clear.ensures.lists ∙ ap (λ w. w.lists) v.watches))
          (ap (λ ps. ps.items) (c.clear.ensures.pairs ∙ ap (λ w. w.pairs) v.watches))
          c.clear.ensures.units c.clear.ensures.falsified
          (subst (λ m. IsWatching m l.assignment.trail s.watches.sorted (lists_of s.watches) s.watches.pairs.items [] None (Positive 0) []) (sym v.variables)
          (subst (λ u. IsWatching n u s.watches.sorted (lists_of s.watches) s.watches.pairs.items [] None (Positive 0) []) (sym (trail c)) base));
      same =
          subst (λ cs. HaveSameLiterals cs c.clear.new.self.sorted) (sym v.clauses)
          (subst (λ ds. HaveSameLiterals s.clauses ds) (sym (c.clear.ensures.sorted ∙ ap (λ w. w.sorted) v.watches)) k.same);
      distinct = subst (λ m. IsDistinct m l.assignment.trail) (sym v.variables)
          (subst (IsDistinct n) (sym (trail c)) (cut_distinct n c.args.k s.assignment.trail k.distinct));
      idle = v.resolvent ∙ k.idle ∙ ap (λ m. record { variables = m; clause = [] }) (sym v.variables);
    }

pub returns-clause-bases : goal.returns-clause-bases
returns-clause-bases c = λ b h.
    let v = c.loop-self.invariant in
    let ends = cut_ends c.args.k b.trail h.1.0 h.2 in (
      (h.0.0, v.clauses ∙ h.0.1),
      (ends.0, trail c ∙ ap (cut c.args.k) h.1.1 ∙ ends.1),
      h.2,
      same_under b.trail (length b.clauses) _ _ _ _ (c.clear.ensures.sorted ∙ ap (λ w. w.sorted) v.watches)
          (ap (λ ps. ps.items) (c.clear.ensures.pairs ∙ ap (λ w. w.pairs) v.watches)) h.3,
    )
