use Rattle.std.proofs.Common.{◌∷◌, map, sym, ap, ◌∙◌, subst}
use Rattle.cqe_base.specs.MachineStates.{IsReached}
use Rattle.cqe_base.proofs.MachineRules.{unit_reached}
use Rattle.clause_store.specs.PlainLines.{line_of}
use Rattle.clause_solver.specs.IndexedStates.{plain_of}
use Rattle.clause_solver.proofs.rules.unit_step.Goals as goal

pub returns-in_ok-assign-in-Some-clause-indexed : goal.returns-in_ok-assign-in-Some-clause-indexed
returns-in_ok-assign-in-Some-clause-indexed c =
    let s = c.args.state.now in
    let n = s.assignment.variables in
    let u = c.in-Some.ensures in
    let e = c.in_ok-assign-in-Some.ensures in
    let plain =
    e.plain ∙ (λ i. record { clauses = u.clauses i; trail = c.because.ensures i ∷ (u.assignment i).trail; lines = map line_of (u.lines i).items }) in
    record {
      looked = e.looked;
      reached =
          subst (λ m. IsReached m (plain_of c.assign.new.self)) (sym (e.variables ∙ ap (λ a. a.variables) u.assignment))
          (subst (IsReached n) (sym plain) (unit_reached n (plain_of s) c.in-Some.unit c.requires.indexed.reached (sym u.first)));
    }
