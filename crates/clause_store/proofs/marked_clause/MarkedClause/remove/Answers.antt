use Rattle.std.proofs.Common.{rules, ◌≡◌, ◌∙◌, eqb, false, set, ap, sym, subst}
use Rattle.std.specs.Prelude.{not}
use Rattle.std.proofs.lemmas.Fn.{filter_same}
use Rattle.cqe_base.specs.Literal.{variable_of, opposite}
use Rattle.cqe_base.specs.Refutation.{without_variable}
use Rattle.clause_store.specs.Codes.{code_of}
use Rattle.clause_store.specs.Marking.{Marking, AreMarksOf}
use Rattle.clause_store.proofs.Marking.{marks_without}
use Rattle.clause_store.proofs.marked_clause.MarkedClause.remove.Goals as goal

kept : (c : goal.After-retain) → c.retain.new.self.items ≡ without_variable (variable_of c.args.literal) c.self.inside.literals.items
kept c =
    filter_same _ (λ l. not (eqb (variable_of l) c.variable-variable.result)) _ (λ x b f h. search rules) _ _ c.retain.ensures.filtered
    ∙ ap (λ v. without_variable v c.self.inside.literals.items) c.variable-variable.ensures.variable

pub invariant_of-self : goal.invariant_of-self
invariant_of-self c =
    let a = c.self.inside in
    let marks : c.unmark-2.new.marks.items ≡ set (set a.marks.items (code_of c.args.literal) false) (code_of (opposite c.args.literal)) false =
    c.unmark-2.ensures ∙ (λ i. set (c.unmark.ensures i) (code_of (c.opposite.ensures i)) false) in
    subst (λ xs. AreMarksOf a.variables xs c.unmark-2.new.marks.items) (sym (kept c))
    (subst (AreMarksOf a.variables (without_variable (variable_of c.args.literal) a.literals.items)) (sym marks)
    (marks_without a.variables a.literals.items a.marks.items c.args.literal c.self.invariant))

pub returns : goal.returns
returns c =
    let clause : c.retain.new.self.items ≡ without_variable (variable_of c.args.literal) c.args.self.now.clause =
    kept c ∙ ap (λ (s : Marking). without_variable (variable_of c.args.literal) s.clause) c.self.view_is in
    λ i. record { variables = (c.self.view_is i).variables; clause = clause i }
