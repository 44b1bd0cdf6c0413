use Rattle.std.proofs.Common.{◌≡◌, ◌<◌, ◌+◌, false, length, reverse, cond, ◌∷◌, sym, ap, ◌∙◌, arith}
use Rattle.std.proofs.lemmas.List.{length-reverse}
use Rattle.cqe_base.specs.Literal.{Positive, variable_of, same_literal}
use Rattle.cqe_base.specs.Machine.{assigned_literal, level}
use Rattle.cqe_base.specs.MachineStates.{is_assigned}
use Rattle.clause_solver.specs.Entries.{is_decided}
use Rattle.clause_store.specs.Codes.{code_of}
use Rattle.clause_solver.specs.Assigning.{Assigning}
use Rattle.clause_solver.proofs.Trails.{level-cons}
use Rattle.cqe_base.proofs.MachineBound.{level_length}
use Rattle.clause_solver.proofs.Kept.{push_kept, reverse_push}
use Rattle.clause_solver.proofs.assignment.Assignment.push.Goals as goal

pub level_with-decisions-requires : goal.level_with-decisions-requires
level_with-decisions-requires c =
    let low = level_length (reverse c.self.inside.trail.items) in
    let size = length-reverse c.self.inside.trail.items in
    let is = c.self.invariant.level_is in
    let ok = c.self.inside.trail.ok.0 in
    let more = c.in_ok-push.ensures.len in
    omega (arith, c.push.new.self.ok.0)

pub invariant_of-self-2 : goal.invariant_of-self-2
invariant_of-self-2 c =
    let a = c.self.inside in
    let t = reverse a.trail.items in
    let literal = c.literal-literal.ensures in
    let more : c.level_with-decisions.result ≡ level (c.args.entry ∷ t) =
    c.level_with-decisions.ensures ∙ ap (λ k. cond (is_decided c.args.entry) (k + 1) k) c.self.invariant.level_is ∙ sym (level-cons c.args.entry t) in
    let below : c.variable-variable.result < a.variables =
    (let v : c.args.self.now.variables ≡ a.variables = ap (λ (s : Assigning). s.variables) (sym c.self.view_is) in
    let is = c.variable-variable.ensures.variable ∙ ap variable_of literal in let b = c.requires.below in omega arith) in
    let free : is_assigned t c.variable-variable.result ≡ false =
    ap (is_assigned t) (c.variable-variable.ensures.variable ∙ ap variable_of literal)
    ∙ ap (λ (s : Assigning). is_assigned s.trail (variable_of (assigned_literal c.args.entry))) c.self.view_is ∙ c.requires.free in
    let size : c.len-size.result ≡ length t + 1 =
    (let e = length-reverse a.trail.items in let ok = a.trail.ok.0 in let more_items = c.in_ok-push.ensures.len in omega (arith, c.len-size.ensures)) in
    push_kept a.variables t a.truths.items a.signs.items a.levels.items a.places.items a.decisions a.next c.self.invariant c.args.entry
    (reverse c.push.new.self.items) c.code.result c.variable-variable.result c.len-size.result c.level_with-decisions.result c.sign_of-sign.result
    (ap reverse c.in_ok-push.ensures.items
    ∙ reverse_push a.trail.items c.args.entry) (c.code.ensures ∙ ap code_of literal)
    (c.variable-variable.ensures.variable ∙ ap variable_of literal) size more
    (c.sign_of-sign.ensures ∙ ap (λ l. same_literal (Positive (variable_of l)) l) literal) below free
