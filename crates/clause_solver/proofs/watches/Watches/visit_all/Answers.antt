use Rattle.std.proofs.Common.{◌≡◌, ◌<◌, ◌+◌, ◌*◌, List, [], ◌∷◌, ◌++◌, length, get_or, set, map, take, drop, refl, sym, ap, ◌∙◌, subst, arith}
use Rattle.std.specs.List.{AllByRecursion}
use Rattle.std.proofs.lemmas.List.{length-map, length-set, get_or_read, get_or-map, get_or-set_same, map-set, set-get_or, set-set, drop_more, drop_all}
use Rattle.std.proofs.lemmas.List.{append-nil}
use Rattle.cqe_base.specs.Literal.{Positive, variable_of, ClauseBelow}
use Rattle.cqe_base.proofs.Analysis.{each_at}
use Rattle.cqe_base.proofs.MachineRules.{each_has}
use Rattle.clause_solver.specs.declared.watches.Watch.{Watch}
use Rattle.clause_store.specs.Codes.{code_of}
use Rattle.clause_solver.specs.Watching.{IsWatching, IsWatchOf, kept_with}
use Rattle.clause_solver.specs.WatchesInside.{lists_of, units_of}
use Rattle.clause_store.proofs.Marking.{code_of-below}
use Rattle.clause_solver.proofs.Looks.{watch_of, same_watching, looks_end, here_of}
use Rattle.clause_solver.proofs.watches.Watches.visit_all.Goals as goal
use Rattle.clause_solver.proofs.watches.Watches.visit_all.Goals.{After-index-in-loop-i}

pub loop-i-init : goal.loop-i-init
loop-i-init c =
    let s = c.args.self.now in
    let k = code_of c.args.literal in
    let all : List Watch = get_or (lists_of s) k [] in
    let room : length (lists_of s) ≡ 2 * c.args.assignment.now.variables = c.requires.watching.lists_room in
    let same_length = length-map s.lists.items (λ v. v.items) in
    let low : k < length s.lists.items = (let e = code_of-below c.args.assignment.now.variables c.args.literal c.requires.below in omega arith) in
    let items : c.in_ok-list.list.items ≡ all =
    ap (λ v. v.items) (c.in_ok-list.ensures.value ∙ c.index_mut.ensures.value) ∙ ap (λ j. (get_or s.lists.items j c.index_mut.result.now).items) c.code.ensures
    ∙ sym (get_or-map (λ v. v.items) s.lists.items k c.index_mut.result.now [] low) in
    let lists : set (map (λ v. v.items) (set s.lists.items c.code.result c.try_take.new.dest)) k all ≡ lists_of s =
    ap (λ ls. set ls k all) (map-set (λ v. v.items) s.lists.items c.code.result c.try_take.new.dest
    ∙ ap (λ j. set (lists_of s) j c.try_take.new.dest.items) c.code.ensures)
    ∙ set-set (lists_of s) k c.try_take.new.dest.items all ∙ set-get_or (lists_of s) k [] in
    record {
      most = omega arith;
      size = refl;
      sorted = refl;
      kept = λ oldest count ends under. under;
      watching =
          subst (λ ls. IsWatching c.args.assignment.now.variables c.args.assignment.now.trail s.sorted
          (set (map (λ v. v.items) (set s.lists.items c.code.result c.try_take.new.dest)) k ls) s.pairs.items (units_of s) s.falsified c.args.literal ls)
          (sym items)
          (same_watching c.args.assignment.now.variables c.args.assignment.now.trail c.args.literal all _ _ _ _ _ _ _ _ _ _ refl lists refl refl refl
          c.requires.watching);
    }

abbrev list : After-index-in-loop-i → List Watch
list c = c.loop-i.list.items

abbrev watch : After-index-in-loop-i → Watch
watch c = watch_of c.index.result.now.clause c.index-in-loop-i.result.now.blocker

within : (c : After-index-in-loop-i) → c.loop-i.i < length (list c)
within c = let e = c.loop-i.invariant.size in let lt = c.loop-i-test.true in let all = c.len-i-end.ensures in let ok = c.in_ok-list.list.ok.0 in omega arith

opened : (c : After-index-in-loop-i) → drop c.loop-i.i (list c) ≡ watch c ∷ drop (c.loop-i.i + 1) (list c)
opened c =
    let lt = within c in
    let second : c.index-in-loop-i.result.now ≡ c.index.result.now =
    get_or_read (list c) c.loop-i.i c.index-in-loop-i.result.now lt c.index-in-loop-i.ensures c.index.result.now ∙ sym c.index.ensures in
    drop_more (list c) c.loop-i.i c.index.result.now lt
    ∙ ap (λ w. w ∷ drop (c.loop-i.i + 1) (list c)) (sym c.index.ensures ∙ (λ i. record {
      clause =
          c.index.result.now.clause;
      blocker = (sym second i).blocker;
    }))

abbrev Looking : After-index-in-loop-i → List Watch → Type 0
Looking c left =
    IsWatching c.args.assignment.now.variables c.args.assignment.now.trail c.loop-i.self.sorted
    (set (lists_of c.loop-i.self) (code_of c.args.literal) (take c.loop-i.kept (list c) ++ left)) c.loop-i.self.pairs.items
    (units_of c.loop-i.self) c.loop-i.self.falsified c.args.literal left

looking : (c : After-index-in-loop-i) → Looking c (watch c ∷ drop (c.loop-i.i + 1) (list c))
looking c = subst (Looking c) (opened c) c.loop-i.invariant.watching

-- the watch that is looked at is of a clause, and its blocker is a literal of that
seen : (c : After-index-in-loop-i) → IsWatchOf c.loop-i.self.sorted (watch c)
seen c =
    let s = c.loop-i.self in
    let k = code_of c.args.literal in
    let h = looking c in
    let ws = take c.loop-i.kept (list c) ++ watch c ∷ drop (c.loop-i.i + 1) (list c) in
    let low : k < length (lists_of s) = (let e = code_of-below c.args.assignment.now.variables c.args.literal c.requires.below in let room = h.lists_room in
    let same = length-set (lists_of s) k ws in omega arith) in
    here_of (IsWatchOf s.sorted) (take c.loop-i.kept (list c)) (drop (c.loop-i.i + 1) (list c)) (watch c)
    (subst (AllByRecursion (IsWatchOf s.sorted)) (get_or-set_same (lists_of s) k ws [] low) (h.watches c.args.literal))

pub visit-requires-clause-within : goal.visit-requires-clause-within
visit-requires-clause-within c = (seen (goal.at.visit-requires-clause-within c).After-index-in-loop-i).within

pub visit-requires-clause-blocker : goal.visit-requires-clause-blocker
visit-requires-clause-blocker c =
    let d = (goal.at.visit-requires-clause-blocker c).After-index-in-loop-i in
    let n = c.args.assignment.now.variables in
    let clause = c.index.result.now.clause in
    each_has (λ l. variable_of l < n) (get_or c.loop-i.self.sorted clause []) c.index-in-loop-i.result.now.blocker
    (each_at (ClauseBelow n) c.loop-i.self.sorted clause (looking d).below tt) (seen d).blocker

pub loop-i-preserved : goal.loop-i-preserved
loop-i-preserved c =
    let d = (goal.at.loop-i-preserved c).After-index-in-loop-i in
    let k = code_of c.args.literal in
    let i = c.loop-i.i in
    let rest : drop (i + 1) c.keep-kept.new.list.items ≡ drop (i + 1) (list d) =
    c.keep-kept.ensures.rest (i + 1) (let m = c.loop-i.invariant.most in omega arith) in
    record {
      most = let m = c.loop-i.invariant.most in let r = c.keep-kept.ensures.most in omega arith;
      size = c.keep-kept.ensures.length ∙ c.loop-i.invariant.size;
      sorted = c.visit.ensures.sorted ∙ c.loop-i.invariant.sorted;
      kept = λ oldest count ends under. c.in_ok-blocker.ensures.kept oldest count ends (c.loop-i.invariant.kept oldest count ends under);
      watching =
          subst (λ ks. IsWatching c.args.assignment.now.variables c.args.assignment.now.trail c.visit.new.self.sorted
          (set (lists_of c.visit.new.self) k (ks ++ drop (i + 1) c.keep-kept.new.list.items)) c.visit.new.self.pairs.items
          (units_of c.visit.new.self) c.visit.new.self.falsified c.args.literal (drop (i + 1) c.keep-kept.new.list.items))
          (sym c.keep-kept.ensures.kept)
          (subst (λ rs. IsWatching c.args.assignment.now.variables c.args.assignment.now.trail c.visit.new.self.sorted
          (set (lists_of c.visit.new.self) k (kept_with (take c.loop-i.kept (list d)) c.index.result.now.clause c.in_ok-blocker.blocker ++ rs))
          c.visit.new.self.pairs.items (units_of c.visit.new.self) c.visit.new.self.falsified c.args.literal rs) (sym rest)
          (c.in_ok-blocker.ensures.watching (take c.loop-i.kept (list d)) (drop (i + 1) (list d)) (looking d)));
    }

pub returns-clause-watches : goal.returns-clause-watches
returns-clause-watches c =
    let s = c.loop-i.self in
    let k = code_of c.args.literal in
    let none : drop c.loop-i.i c.loop-i.list.items ≡ [] = drop_all c.loop-i.i c.loop-i.list.items (let e = c.loop-i.invariant.size in
    let lt = c.loop-i-test.false in let all = c.len-i-end.ensures in let ok = c.in_ok-list.list.ok.0 in omega arith) in
    let ended =
    subst (λ ls. IsWatching c.args.assignment.now.variables c.args.assignment.now.trail s.sorted
    (set (lists_of s) k (take c.loop-i.kept c.loop-i.list.items ++ ls)) s.pairs.items (units_of s) s.falsified c.args.literal ls) none
    c.loop-i.invariant.watching in
    same_watching c.args.assignment.now.variables c.args.assignment.now.trail (Positive 0) [] _ _ _ _ _ _ _ _ _ _ refl
    (map-set (λ v. v.items) s.lists.items c.code-2.result c.truncate.new.self
    ∙ (λ i. set (lists_of s) (c.code-2.ensures i) ((c.truncate.ensures.items ∙ sym (append-nil (take c.loop-i.kept c.loop-i.list.items))) i)))
    refl refl refl
    (looks_end c.args.assignment.now.variables c.args.assignment.now.trail s.sorted
    (set (lists_of s) k (take c.loop-i.kept c.loop-i.list.items ++ [])) s.pairs.items (units_of s) s.falsified c.args.literal ended (Positive 0))
