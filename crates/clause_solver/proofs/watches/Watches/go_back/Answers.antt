use Rattle.std.proofs.Common.{◌≡◌, List, [], None, length, map, take, drop, ap, ◌∙◌, sym, subst}
use Rattle.std.proofs.lemmas.List.{length-map}
use Rattle.cqe_base.specs.Literal.{Positive}
use Rattle.clause_solver.specs.declared.watches.Watch.{Watch}
use Rattle.clause_solver.specs.Watching.{HaveLeft, times_watched_by}
use Rattle.clause_solver.specs.WatchesInside.{lists_of, units_of}
use Rattle.clause_solver.proofs.Looks.{same_watching}
use Rattle.clause_solver.proofs.Bases.{gone_back}
use Rattle.clause_solver.proofs.LeavingWatches.{all_left}
use Rattle.clause_solver.proofs.watches.Watches.go_back.Goals as goal

pub returns-clause-watches : goal.returns-clause-watches
returns-clause-watches c =
    let s = c.args.self.now in
    let count = c.args.clauses in
    let e = c.clear.ensures in
    let lists : List (List Watch) = map (λ v. v.items) c.leave.new.lists.items in
    let room : length lists ≡ length (lists_of s) =
    length-map c.leave.new.lists.items (λ v. v.items) ∙ c.leave.ensures.length ∙ ap (λ ls. length ls.items) e.lists
    ∙ sym (length-map s.lists.items (λ v. v.items)) in
    let left : HaveLeft count (times_watched_by (drop count s.pairs.items)) (lists_of s) lists =
    subst (λ ps. HaveLeft count (times_watched_by (drop count ps.items)) (lists_of s) lists) e.pairs
    (subst (λ ls. HaveLeft count (times_watched_by (drop count c.clear.new.self.pairs.items)) (map (λ v. v.items) ls.items) lists) e.lists
    c.leave.ensures.left) in
    λ n oldest t h under.
    same_watching n oldest (Positive 0) [] _ _ lists lists _ _ [] _ None _ (c.truncate-2.ensures ∙ ap (take count) e.sorted) (λ i. lists)
    (c.truncate.ensures.items ∙ ap (λ ps. take count ps.items) e.pairs) e.units e.falsified
    (gone_back n t oldest s.sorted (lists_of s) lists s.pairs.items (units_of s) s.falsified (Positive 0) count h c.requires under room
    (all_left n t s.sorted (lists_of s) lists s.pairs.items (units_of s) s.falsified (Positive 0) count h c.requires left))
