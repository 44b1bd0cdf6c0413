use Rattle.std.proofs.Common.{◌≡◌, ◌∷◌, map, sym, ap, ◌∙◌, subst}
use Rattle.cqe_base.specs.Literal.{Negative}
use Rattle.cqe_base.specs.Machine.{Decided}
use Rattle.cqe_base.specs.MachineStates.{IsReached}
use Rattle.cqe_base.proofs.MachineRules.{decide_reached}
use Rattle.clause_store.specs.PlainLines.{line_of}
use Rattle.clause_solver.specs.IndexedStates.{plain_of}
use Rattle.clause_solver.proofs.rules.decide_step.Goals as goal

pub returns-in_ok-assign-in-Some-clause-indexed : goal.returns-in_ok-assign-in-Some-clause-indexed
returns-in_ok-assign-in-Some-clause-indexed c =
    let s = c.args.state.now in
    let n = s.assignment.variables in
    let v = c.in-Some.v in
    let e = c.in_ok-assign-in-Some.ensures in
    let plain : plain_of c.assign.new.self ≡ record {
      clauses =
          s.clauses;
      trail = Decided (Negative v) ∷ s.assignment.trail;
      lines = map line_of s.lines.items;
    } =
    e.plain ∙ (λ i. record {
      clauses =
          s.clauses;
      trail = (c.decided.ensures ∙ ap Decided c.negative.ensures) i ∷ (c.in-Some.ensures.same i).trail;
      lines = map line_of s.lines.items;
    }) in
    record {
      looked = e.looked;
      reached =
          subst (λ m. IsReached m (plain_of c.assign.new.self)) (sym (e.variables ∙ ap (λ a. a.variables) c.in-Some.ensures.same))
          (subst (IsReached n) (sym plain)
          (decide_reached n (plain_of s) v c.requires.indexed.reached c.requires.no_conflict c.requires.no_unit (sym c.in-Some.ensures.first)));
    }
