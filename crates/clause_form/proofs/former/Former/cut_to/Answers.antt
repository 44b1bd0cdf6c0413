use Rattle.std.proofs.Common.{◌≡◌, take}
use Rattle.clause_form.specs.Inside.{numbered_facts}
use Rattle.clause_form.proofs.Cuts.{each_of_take, facts_of_take}
use Rattle.clause_form.proofs.former.Former.cut_to.Goals as goal

pub invariant_of-self : goal.invariant_of-self
invariant_of-self c = record {
  numbers =
      rw (facts_of_take c.mark.inside.facts c.self.inside.facts.entries c.truncate-2.new.self.entries c.truncate-2.ensures.entries)
      (each_of_take _ c.mark.inside.facts (numbered_facts c.self.inside.facts.entries) c.self.invariant.numbers);
  variables = c.mark.invariant;
}

pub returns : goal.returns
returns c =
    let facts : numbered_facts c.truncate-2.new.self.entries ≡ take c.mark.inside.facts (numbered_facts c.self.inside.facts.entries) =
    facts_of_take c.mark.inside.facts c.self.inside.facts.entries c.truncate-2.new.self.entries c.truncate-2.ensures.entries in
    rw (← c.self.view_is, ← c.mark.view_is)
    (λ i. record { clauses = c.truncate.ensures i; numbering = record { variables = c.mark.inside.variables; facts = facts i } })
