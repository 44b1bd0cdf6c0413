use Rattle.std.proofs.Common.{◌≡◌, ◌≤◌, length, take, ap, ◌∙◌, arith}
use Rattle.clause_store.specs.Ends.{start_of}
use Rattle.clause_store.proofs.Parts.{length-view, ascends-take, length-take-start, parts-take}
use Rattle.clause_store.proofs.clauses.Clauses.truncate.Goals as goal

pub start_of-end-requires : goal.start_of-end-requires
start_of-end-requires c =
    let size = length-view c.self.inside _ c.self.view_is in
    let same = ap length c.as_slice.ensures.value in
    omega arith

pub invariant_of-self : goal.invariant_of-self
invariant_of-self c =
    let size = length-view c.self.inside _ c.self.view_is in
    let low : c.args.len ≤ length c.self.inside.ends.items = omega arith in
    let at : c.start_of-end.result ≡ start_of 0 c.self.inside.ends.items c.args.len =
    c.start_of-end.ensures ∙ ap (λ es. start_of 0 es c.args.len) c.as_slice.ensures.value in
    rw (
      c.truncate.ensures.items,
      c.truncate-2.ensures.items,
      at,
      length-take-start c.self.inside.ends.items c.self.inside.literals.items c.args.len c.self.invariant,
    )
    (ascends-take 0 c.self.inside.ends.items (length c.self.inside.literals.items) c.args.len low c.self.invariant)

pub returns : goal.returns
returns c =
    let size = length-view c.self.inside _ c.self.view_is in
    let low : c.args.len ≤ length c.self.inside.ends.items = omega arith in
    let at : c.start_of-end.result ≡ start_of 0 c.self.inside.ends.items c.args.len =
    c.start_of-end.ensures ∙ ap (λ es. start_of 0 es c.args.len) c.as_slice.ensures.value in
    rw (c.truncate.ensures.items, c.truncate-2.ensures.items, at)
    (parts-take c.self.inside.ends.items c.self.inside.literals.items c.args.len low c.self.invariant ∙ ap (take c.args.len) c.self.view_is)
