use Rattle.std.proofs.Common.{◌≡◌, ◌∙◌, ℕ, [], false, get_or, ap, sym, subst}
use Rattle.cqe_base.specs.Literal.{has_literal}
use Rattle.clause_store.specs.Codes.{code_of, literal_of_code, code_of-literal_of_code}
use Rattle.clause_store.specs.Marking.{Marking, AreMarksOf}
use Rattle.clause_store.proofs.Marking.{at_refusal}
use Rattle.clause_store.proofs.marked_clause.MarkedClause.set_variables.Goals as goal

pub invariant_of-self : goal.invariant_of-self
invariant_of-self c =
    subst (AreMarksOf c.self.inside.variables c.self.inside.literals.items) (sym c.in_err-resize.ensures.refused) c.self.invariant

pub invariant_of-self-2 : goal.invariant_of-self-2
invariant_of-self-2 c =
    let a = c.self.inside in
    let empty : a.literals.items ≡ [] = ap (λ (s : Marking). s.clause) c.self.view_is ∙ c.requires.none in
    let none : (i : ℕ) → get_or a.marks.items i false ≡ false = λ i.
    ap (λ k. get_or a.marks.items k false) (sym (code_of-literal_of_code i))
    ∙ c.self.invariant.marked (literal_of_code i)
    ∙ ap (λ ls. has_literal ls (literal_of_code i)) empty in
    record {
      room = c.in_ok-resize.ensures.length;
      marked = λ l. c.in_ok-resize.ensures.none none (code_of l) ∙ sym (ap (λ ls. has_literal ls l) empty);
    }

pub returns-in_err-resize-clause-refused : goal.returns-in_err-resize-clause-refused
returns-in_err-resize-clause-refused c = at_refusal c.from_residual.result c.self.view_is
