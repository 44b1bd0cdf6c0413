use Rattle.std.proofs.Common.{◌<◌, length, sym, ap, ◌∙◌, subst, arith}
use Rattle.std.specs.Prelude.{slice_range}
use Rattle.clause_store.specs.Ends.{start_of}
use Rattle.clause_store.proofs.Parts.{length-view, IsPlaced, placed_inside, part_inside}
use Rattle.clause_store.proofs.clauses.Clauses.clause.Goals as goal

pub start_of-start-requires : goal.start_of-start-requires
start_of-start-requires c =
    let size = length-view c.self.inside _ c.self.view_is in
    let same = ap length c.as_slice.ensures.value in
    omega arith

pub index-end-requires : goal.index-end-requires
index-end-requires c =
    let size = length-view c.self.inside _ c.self.view_is in
    let count = c.self.inside.ends.ok.0 in
    omega arith

-- what is lent stands among the literals
placed : (c : goal.After-deref) → IsPlaced c.start_of-start.result c.index-end.result.now (length c.deref.result.now)
placed c =
    let size = length-view c.self.inside _ c.self.view_is in
    let low : c.args.number < length c.self.inside.ends.items = omega arith in
    subst (λ xs. IsPlaced c.start_of-start.result c.index-end.result.now (length xs)) (sym c.deref.ensures.value)
    (placed_inside c.self.inside c.self.invariant c.args.number _ _ low (c.start_of-start.ensures
    ∙ ap (λ es. start_of 0 es c.args.number) c.as_slice.ensures.value) c.index-end.ensures)

pub slice_bounds-result-count : goal.slice_bounds-result-count
slice_bounds-result-count c = (placed c).ordered

pub slice_bounds-result-start : goal.slice_bounds-result-start
slice_bounds-result-start c = (placed c).ordered

pub slice_bounds-result-end : goal.slice_bounds-result-end
slice_bounds-result-end c = (placed c).within

pub offset_bounds-deref-start : goal.offset_bounds-deref-start
offset_bounds-deref-start c =
    let ordered = (placed c).ordered in
    let within = (placed c).within in
    omega arith

pub returns : goal.returns
returns c =
    let size = length-view c.self.inside _ c.self.view_is in
    let low : c.args.number < length c.self.inside.ends.items = omega arith in
    ap (λ xs. slice_range xs c.start_of-start.result c.index-end.result.now) c.deref.ensures.value
    ∙ part_inside c.self.inside _ c.self.view_is c.args.number _ _ _ low (c.start_of-start.ensures
    ∙ ap (λ es. start_of 0 es c.args.number) c.as_slice.ensures.value) c.index-end.ensures
