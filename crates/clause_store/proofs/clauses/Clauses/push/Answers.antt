use Rattle.std.proofs.Common.{◌≡◌, ◌+◌, [], ◌∷◌, ◌++◌, length, sym, ap, ◌∙◌, arith, length-append}
use Rattle.clause_store.proofs.Parts.{length-view, parts-push, ascends-push}
use Rattle.clause_store.proofs.clauses.Clauses.push.Goals as goal

-- where the new clause ends
end_is : (c : goal.In_ok-push) → c.len.result ≡ length c.self.inside.literals.items + length c.args.literals.now
end_is c =
    let old = c.self.inside.literals.ok.0 in
    let new = c.in_ok-extend_from_slice.ensures.len in
    c.len.ensures ∙ c.in_ok-extend_from_slice.ensures.len ∙ ap (λ n. n + length c.args.literals.now) c.self.inside.literals.ok.0

-- the ends with the new one
ends_are : (c : goal.In_ok-push) → c.push.new.self.items ≡ c.self.inside.ends.items ++ (length c.self.inside.literals.items + length c.args.literals.now) ∷ []
ends_are c = c.in_ok-push.ensures.items ∙ (λ i. c.reserve.ensures.items i ++ end_is c i ∷ [])

pub invariant_of-self-2 : goal.invariant_of-self-2
invariant_of-self-2 c =
    rw (ends_are c, c.in_ok-extend_from_slice.ensures.items)
    (let e = length-append c.self.inside.literals.items c.args.literals.now in
    rw e (ascends-push 0 c.self.inside.ends.items (length c.self.inside.literals.items) _ (omega arith) c.self.invariant))

pub returns-clause-number : goal.returns-clause-number
returns-clause-number c = c.len-number.ensures ∙ c.self.inside.ends.ok.0 ∙ sym (length-view c.self.inside _ c.self.view_is)

pub returns-clause-pushed : goal.returns-clause-pushed
returns-clause-pushed c =
    rw (ends_are c, c.in_ok-extend_from_slice.ensures.items)
    (parts-push 0 c.self.inside.ends.items c.self.inside.literals.items c.args.literals.now c.self.invariant
    ∙ ap (λ v. v ++ c.args.literals.now ∷ []) c.self.view_is)
