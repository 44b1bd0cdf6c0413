use Rattle.std.proofs.Common.{◌≡◌, ◌+◌, ◌<◌, ◌^◌, ◌++◌, ◌∷◌, [], cond, refl, sym, ap, ◌∙◌, subst}
use Rattle.cqe_base.specs.Literal.{Positive}
use Rattle.cqe_base.specs.ClauseForm.{Numbering, NumberedFact}
use Rattle.cqe_base.proofs.Lists.{all_push}
use Rattle.clause_form.specs.Forms.{Form}
use Rattle.clause_form.specs.Inside.{numbered_facts}
use Rattle.clause_form.specs.Walks.{with_numbering}
use Rattle.clause_form.proofs.Beginnings.{begins_same, begins_more}
use Rattle.clause_form.proofs.NumberedEntries.{found_number, found_numbered, found_each, missing_numbered, missing_number, added}
use Rattle.clause_form.proofs.former.Former.number_fact.Goals as goal

pub positive-requires : goal.positive-requires
positive-requires c =
    found_each c.args.fact.now _ (λ g. refl)
    (λ n. n + 1 < 2 ^ 31) c.self.inside.facts.entries c.in-Some.number.now c.self.invariant.numbers c.in-Some.ensures.value

pub returns-in-Some-clause-literal : goal.returns-in-Some-clause-literal
returns-in-Some-clause-literal c =
    rw (← c.self.view_is)
    (c.positive.ensures
    ∙ ap Positive (sym
    (found_number c.args.fact.now _ (λ g. refl) c.self.inside.facts.entries c.in-Some.number.now c.self.inside.variables c.in-Some.ensures.value)))

pub returns-in-Some-clause-numbered : goal.returns-in-Some-clause-numbered
returns-in-Some-clause-numbered c =
    rw (← c.self.view_is)
    (let n : Numbering = record { variables = c.self.inside.variables; facts = numbered_facts c.self.inside.facts.entries } in
    ap (λ b. with_numbering (record { clauses = c.self.inside.clauses; numbering = n })
    (cond b n (record { variables = n.variables + 1; facts = n.facts ++ record { fact = c.args.fact.now; number = n.variables } ∷ [] })))
    (sym (found_numbered c.args.fact.now _ (λ g. refl) c.self.inside.facts.entries c.in-Some.number.now c.in-Some.ensures.value)))

pub invariant_of-self-2 : goal.invariant_of-self-2
invariant_of-self-2 c =
    let few : c.self.inside.variables + 1 < 2 ^ 31 = subst (λ (f : Form). f.numbering.variables + 1 < 2 ^ 31) (sym c.self.view_is) c.requires in
    record {
      numbers =
          rw (added c.self.inside.facts c.args.fact.now c.self.inside.variables _ (sym c.in_default.ensures.value) c.in_ok-insert.ensures.entries)
          (all_push (λ (e : NumberedFact). e.number + 1 < 2 ^ 31) (numbered_facts c.self.inside.facts.entries) _ c.self.invariant.numbers few);
      variables = few;
    }

pub returns-clause-literal : goal.returns-clause-literal
returns-clause-literal c =
    rw (← c.self.view_is)
    (c.positive-2.ensures
    ∙ ap Positive (sym (missing_number c.args.fact.now _ (λ g. refl) c.self.inside.facts.entries c.self.inside.variables c.in_default.ensures.value)))

pub returns-clause-numbered : goal.returns-clause-numbered
returns-clause-numbered c =
    let n : Numbering = record { variables = c.self.inside.variables; facts = numbered_facts c.self.inside.facts.entries } in
    let facts : numbered_facts c.insert.new.self.entries ≡ n.facts ++ record { fact = c.args.fact.now; number = n.variables } ∷ [] =
    added c.self.inside.facts c.args.fact.now c.self.inside.variables _ (sym c.in_default.ensures.value) c.in_ok-insert.ensures.entries in
    rw (← c.self.view_is)
    ((λ i. record { clauses = c.self.inside.clauses; numbering = record { variables = n.variables + 1; facts = facts i } })
    ∙ ap (λ b. with_numbering (record { clauses = c.self.inside.clauses; numbering = n })
    (cond b n (record { variables = n.variables + 1; facts = n.facts ++ record { fact = c.args.fact.now; number = n.variables } ∷ [] })))
    (sym (missing_numbered c.args.fact.now _ (λ g. refl) c.self.inside.facts.entries c.in_default.ensures.value)))

pub returns-clause-goes_on : goal.returns-clause-goes_on
returns-clause-goes_on c =
    rw (← c.self.view_is)
    record {
      clauses = begins_same _ _ refl;
      facts = begins_more _ _ _
          (added c.self.inside.facts c.args.fact.now c.self.inside.variables _ (sym c.in_default.ensures.value) c.in_ok-insert.ensures.entries);
    }
