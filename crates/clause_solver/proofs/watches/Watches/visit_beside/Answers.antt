use Rattle.std.proofs.Common.{◌≡◌, ◌<◌, Bool, true, false, List, [], ◌∷◌, ◌++◌, length, get_or, set, map, refl, sym, ap, ◌∙◌, subst, arith}
use Rattle.std.specs.List.{find}
use Rattle.std.proofs.lemmas.List.{get_or_read}
use Rattle.cqe_base.specs.Literal.{variable_of, ClauseBelow}
use Rattle.cqe_base.specs.Machine.{is_false}
use Rattle.cqe_base.proofs.Analysis.{each_at}
use Rattle.cqe_base.proofs.MachineRules.{each_has}
use Rattle.clause_solver.specs.declared.watches.Watch.{Watch}
use Rattle.clause_store.specs.Codes.{code_of}
use Rattle.clause_solver.specs.Watching.{IsWatching, AllFalseBut}
use Rattle.clause_solver.specs.WatchesInside.{lists_of, units_of}
use Rattle.clause_store.proofs.Marking.{code_of-below}
use Rattle.clause_solver.proofs.Looks.{same_watching, low_listed}
use Rattle.clause_solver.proofs.Visits.{next_test, IsNext, found_next, none_next, visited_other, visited_unit, visited_falsified, visited_next}
use Rattle.clause_solver.proofs.Bases.{next_under, same_under}
use Rattle.clause_solver.proofs.watches.Watches.visit_beside.Goals as goal
use Rattle.clause_solver.proofs.watches.Watches.visit_beside.Goals.{In-Some, In-None}

found : (c : In-Some) → IsNext c.args.assignment.now.trail c.args.other (get_or c.args.self.now.sorted c.args.clause []) c.in-Some.next
found c =
    found_next c.args.assignment.now.trail c.args.other (get_or c.args.self.now.sorted c.args.clause []) c.in-Some.next
    (ap (find (next_test c.args.assignment.now.trail c.args.other))
    (sym (get_or_read c.args.self.now.sorted c.args.clause c.clause.result.now c.requires.within c.clause.ensures [])) ∙ sym c.other_open.ensures
    ∙ c.in-Some.is)

only : (c : In-None) → AllFalseBut c.args.assignment.now.trail c.args.other (get_or c.args.self.now.sorted c.args.clause [])
only c =
    none_next c.args.assignment.now.trail c.args.other (get_or c.args.self.now.sorted c.args.clause [])
    (ap (find (next_test c.args.assignment.now.trail c.args.other))
    (sym (get_or_read c.args.self.now.sorted c.args.clause c.clause.result.now c.requires.within c.clause.ensures [])) ∙ sym c.other_open.ensures
    ∙ c.in-None.is)

room : (c : In-Some) → code_of c.in-Some.next < length c.args.self.now.lists.items
room c =
    let n = c.args.assignment.now.variables in
    let below = each_has (λ l. variable_of l < n) (get_or c.args.self.now.sorted c.args.clause []) c.in-Some.next
    (each_at (ClauseBelow n) c.args.self.now.sorted c.args.clause c.requires.below tt) (found c).has in
    let code = code_of-below n c.in-Some.next below in
    let all = c.requires.lists_room in
    omega arith

pub returns-then-is_true-clause-watching : goal.returns-then-is_true-clause-watching
returns-then-is_true-clause-watching c =
    let s = c.args.self.now in
    λ kept rest h.
    visited_other c.args.assignment.now.variables c.args.assignment.now.trail s.sorted (lists_of s) s.pairs.items
    (units_of s) s.falsified c.args.literal c.requires.current c.args.clause c.args.blocker
    (low_listed s (code_of c.args.literal) c.requires.listed) kept rest h c.args.other c.requires.beside (sym c.is_true.ensures ∙ c.if-is_true.true)

pub other_open-requires : goal.other_open-requires
other_open-requires c =
    let n = c.args.assignment.now.variables in
    subst (ClauseBelow n) (sym (get_or_read c.args.self.now.sorted c.args.clause c.clause.result.now c.requires.within c.clause.ensures []))
    (each_at (ClauseBelow n) c.args.self.now.sorted c.args.clause c.requires.below tt)

pub watch-requires : goal.watch-requires
watch-requires c = room (goal.at.watch-requires c).In-Some

pub returns-in_ok-watch-in-Some-clause-watching : goal.returns-in_ok-watch-in-Some-clause-watching
returns-in_ok-watch-in-Some-clause-watching c =
    let s = c.args.self.now in
    let d = (goal.at.returns-in_ok-watch-in-Some-clause-watching c).In-Some in
    let e = c.in_ok-watch-in-Some.ensures in
    λ kept rest h.
    same_watching c.args.assignment.now.variables c.args.assignment.now.trail c.args.literal rest _ _ _ _ _ _ _ _ _ _ e.sorted
    (ap (λ ls. set ls (code_of c.args.literal) (kept ++ rest)) e.lists) (ap (λ v. v.items) e.pairs) e.units e.falsified
    (visited_next c.args.assignment.now.variables c.args.assignment.now.trail s.sorted (lists_of s) s.pairs.items
    (units_of s) s.falsified c.args.literal c.requires.current c.args.clause c.args.blocker
    (low_listed s (code_of c.args.literal) c.requires.listed) kept rest h c.args.other c.requires.beside c.in-Some.next (found d) c.requires.false_now
    (low_listed s (code_of c.in-Some.next) (room d)))

pub returns-in_ok-note-in-None-clause-watching : goal.returns-in_ok-note-in-None-clause-watching
returns-in_ok-note-in-None-clause-watching c = step (is_false c.args.assignment.now.trail c.args.other) refl
  where
    step : (b : Bool) → is_false c.args.assignment.now.trail c.args.other ≡ b → (kept rest : List Watch)
        → IsWatching c.args.assignment.now.variables c.args.assignment.now.trail c.args.self.now.sorted
        (set (lists_of c.args.self.now) (code_of c.args.literal) (kept ++ record { clause = c.args.clause; blocker = c.args.blocker } ∷ rest))
        c.args.self.now.pairs.items (units_of c.args.self.now) c.args.self.now.falsified c.args.literal
        (record { clause = c.args.clause; blocker = c.args.blocker } ∷ rest)
        → IsWatching c.args.assignment.now.variables c.args.assignment.now.trail c.note.new.self.sorted
        (set (lists_of c.note.new.self) (code_of c.args.literal)
        ((kept ++ record { clause = c.args.clause; blocker = c.args.other } ∷ []) ++ rest)) c.note.new.self.pairs.items
        (units_of c.note.new.self) c.note.new.self.falsified c.args.literal rest
    step true e = λ kept rest h.
        let s = c.args.self.now in
        let d = (goal.at.returns-in_ok-note-in-None-clause-watching c).In-None in
        let f = c.in_ok-note-in-None.ensures in
        same_watching c.args.assignment.now.variables c.args.assignment.now.trail c.args.literal rest _ _ _ _ _ _ _ _ _ _ f.sorted
        (ap (λ ls. set (map (λ v. v.items) ls.items) (code_of c.args.literal)
        ((kept ++ record { clause = c.args.clause; blocker = c.args.other } ∷ []) ++ rest)) f.lists) (ap (λ v. v.items) f.pairs) (f.caught e).1
        (f.caught e).0
        (visited_falsified c.args.assignment.now.variables c.args.assignment.now.trail s.sorted (lists_of s) s.pairs.items
        (units_of s) s.falsified c.args.literal c.requires.current c.args.clause c.args.blocker
        (low_listed s (code_of c.args.literal) c.requires.listed) kept rest h c.args.other c.requires.beside (only d) e)
    step false e = λ kept rest h.
        let s = c.args.self.now in
        let d = (goal.at.returns-in_ok-note-in-None-clause-watching c).In-None in
        let f = c.in_ok-note-in-None.ensures in
        same_watching c.args.assignment.now.variables c.args.assignment.now.trail c.args.literal rest _ _ _ _ _ _ _ (units_of c.note.new.self) _ _ f.sorted
        (ap (λ ls. set (map (λ v. v.items) ls.items) (code_of c.args.literal)
        ((kept ++ record { clause = c.args.clause; blocker = c.args.other } ∷ []) ++ rest)) f.lists) (ap (λ v. v.items) f.pairs) refl (f.unit e).0
        (visited_unit c.args.assignment.now.variables c.args.assignment.now.trail s.sorted (lists_of s) s.pairs.items
        (units_of s) s.falsified c.args.literal c.requires.current c.args.clause c.args.blocker
        (low_listed s (code_of c.args.literal) c.requires.listed) kept rest h c.args.other c.requires.beside (only d) e (units_of c.note.new.self)
        (f.unit e).1)

pub returns-in_ok-watch-in-Some-clause-kept : goal.returns-in_ok-watch-in-Some-clause-kept
returns-in_ok-watch-in-Some-clause-kept c =
    let s = c.args.self.now in
    let d = (goal.at.returns-in_ok-watch-in-Some-clause-kept c).In-Some in
    let e = c.in_ok-watch-in-Some.ensures in
    λ oldest count ends under.
    same_under oldest count _ _ _ _ e.sorted (ap (λ v. v.items) e.pairs)
    (next_under oldest c.args.assignment.now.trail count c.args.clause s.sorted s.pairs.items c.args.literal c.args.other c.in-Some.next ends
    c.requires.beside (found d) (let a = c.requires.within in let r = c.requires.pairs_room in omega arith) under)

pub returns-in_ok-note-in-None-clause-kept : goal.returns-in_ok-note-in-None-clause-kept
returns-in_ok-note-in-None-clause-kept c =
    let e = c.in_ok-note-in-None.ensures in
    λ oldest count ends under. same_under oldest count _ _ _ _ e.sorted (ap (λ v. v.items) e.pairs) under
