use Rattle.std.proofs.Common.{◌≡◌, ◌<◌, List, [], length, map, get_or, set, sym, ap, ◌∙◌, subst, arith}
use Rattle.std.proofs.lemmas.List.{length-map, length-set, get_or-map, map-set}
use Rattle.cqe_base.specs.Literal.{same_literal}
use Rattle.clause_solver.specs.declared.watches.Watch.{Watch}
use Rattle.clause_store.specs.Codes.{code_of}
use Rattle.clause_solver.specs.Watching.{HaveLeft, LosesLater, one_if}
use Rattle.clause_solver.proofs.LeavingWatches.{past_left, put_lost}
use Rattle.clause_solver.proofs.watches.leave_literal.Goals as goal

pub returns-then-place-len-clause-left : goal.returns-then-place-len-clause-left
returns-then-place-len-clause-left c =
    let vs = c.args.lists.now.items in
    past_left c.args.clauses (map (λ v. v.items) vs) c.args.literal
    (let e = length-map vs (λ v. v.items) in let ok = c.args.lists.now.ok.0 in
    let is = c.code-place.ensures in omega (arith, c.len.ensures, c.if-place-len.true))

pub returns-clause-left : goal.returns-clause-left
returns-clause-left c =
    let vs = c.args.lists.now.items in
    let j = c.code-place.result in
    let m = c.args.literal in
    let count = c.args.clauses in
    let lists : List (List Watch) = map (λ v. v.items) vs in
    let ys = c.leave_list.new.list.items in
    let same : j ≡ code_of m = c.code-place.ensures in
    let within : j < length vs = (let ok = c.args.lists.now.ok.0 in omega (arith, c.len.ensures, c.if-place-len.false)) in
    let low : code_of m < length lists = (let e = length-map vs (λ v. v.items) in omega arith) in
    let is : c.index_mut.result.now.items ≡ get_or lists (code_of m) [] =
    ap (λ v. v.items) c.index_mut.ensures.value ∙ sym (get_or-map (λ v. v.items) vs j c.index_mut.result.now [] within) ∙ ap (λ k. get_or lists k []) same in
    let moved : map (λ v. v.items) (set vs j c.leave_list.new.list) ≡ set lists (code_of m) ys =
    map-set (λ v. v.items) vs j c.leave_list.new.list ∙ ap (λ k. set lists k ys) same in
    subst (HaveLeft count (λ l. one_if (same_literal m l)) lists) (sym moved)
    (put_lost count lists m ys low (subst (λ xs. LosesLater count 1 xs ys) is c.leave_list.ensures))

pub returns-clause-length : goal.returns-clause-length
returns-clause-length c = length-set c.args.lists.now.items c.code-place.result c.leave_list.new.list
