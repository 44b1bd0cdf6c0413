use Rattle.std.proofs.Common.{◌≡◌, ◌<◌, ℕ, true, false, eqb, ◌⊎◌, List, [], ◌∷◌, ◌++◌, length, get_or, set, map, refl, sym, ap, ◌∙◌, subst, arith}
use Rattle.std.proofs.lemmas.Bool.{eqb-true, eqb-false}
use Rattle.std.proofs.lemmas.List.Elements.{recursion_from_All, All-from_recursion}
use Rattle.std.proofs.lemmas.List.Sorted.{list_any-IsPermutation, length_permutation, All-permutation}
use Rattle.cqe_base.specs.Literal.{Literal, Positive, variable_of, same_literal, has_literal, ClauseBelow}
use Rattle.cqe_base.specs.Machine.{Assigned, is_false}
use Rattle.clause_solver.specs.declared.watches.Pair.{Pair}
use Rattle.clause_store.specs.Codes.{code_of}
use Rattle.clause_solver.specs.Watching.{IsWatched, HaveSameLiterals, AllFalseBut}
use Rattle.clause_solver.specs.WatchesInside.{AreWatches, lists_of, units_of}
use Rattle.clause_solver.proofs.Looks.{watch_of, same_watching, low_listed}
use Rattle.clause_solver.proofs.Entering.{watched_same, entered_watched, entered_empty, same_more}
use Rattle.clause_solver.proofs.Bases.{same_under, more_under}
use Rattle.clause_solver.proofs.watches.Watches.enter.Goals as goal
use Rattle.clause_solver.proofs.watches.Watches.enter.Goals.{In_ok-push}

abbrev sorted : In_ok-push → List Literal
sorted c = c.sort_clause.new.sorted.items

abbrev pair : In_ok-push → Pair
pair c = record { first = c.args.first; second = c.args.second }

same_has : (c : In_ok-push) (l : Literal) → has_literal c.args.clause.now l ≡ has_literal (sorted c) l
same_has c l = list_any-IsPermutation (same_literal l) c.args.clause.now (sorted c) c.in_ok-sort_clause.ensures

same_size : (c : In_ok-push) → length c.args.clause.now ≡ length (sorted c)
same_size c = sym (length_permutation c.args.clause.now (sorted c) c.in_ok-sort_clause.ensures)

low : (c : In_ok-push) (n : ℕ) → ClauseBelow n c.args.clause.now → ClauseBelow n (sorted c)
low c n h = recursion_from_All (λ l. variable_of l < n) (sorted c)
    (All-permutation (λ l. variable_of l < n) c.args.clause.now (sorted c) c.in_ok-sort_clause.ensures
    (All-from_recursion (λ l. variable_of l < n) c.args.clause.now h))

watched : (c : In_ok-push) (t : List Assigned) → IsWatched t c.args.clause.now (pair c) c.args.unit (eqb (length c.args.clause.now) 0)
    → IsWatched t (sorted c) (pair c) c.args.unit (eqb (length (sorted c)) 0)
watched c t w = subst (λ m. IsWatched t (sorted c) (pair c) c.args.unit (eqb m 0)) (same_size c)
    (watched_same t c.args.clause.now (sorted c) (same_has c) (same_size c) (pair c) _ _ w)

unit : (c : In_ok-push) (t : List Assigned) → (c.args.unit ≡ true → AllFalseBut t c.args.first c.args.clause.now)
    → c.args.unit ≡ true → AllFalseBut t c.args.first (sorted c)
unit c t h u = recursion_from_All (λ m. (m ≡ c.args.first) ⊎ (is_false t m ≡ true)) (sorted c)
    (All-permutation (λ m. (m ≡ c.args.first) ⊎ (is_false t m ≡ true)) c.args.clause.now (sorted c) c.in_ok-sort_clause.ensures
    (All-from_recursion (λ m. (m ≡ c.args.first) ⊎ (is_false t m ≡ true)) c.args.clause.now (h u)))

number : (c : In_ok-push) (n : ℕ) (t : List Assigned) → AreWatches n t c.args.self.now → c.len-number.result ≡ length c.args.self.now.sorted
number c n t h = c.len-number.ensures ∙ c.args.self.now.pairs.ok.0 ∙ h.pairs_room

pushed : (c : In_ok-push) → c.push.new.self ≡ c.args.self.now.sorted ++ sorted c ∷ []
pushed c = c.in_ok-_number.ensures.pushed ∙ ap (λ x. c.args.self.now.sorted ++ x ∷ []) c.deref.ensures.value

size_zero : (c : In_ok-push) → length c.args.clause.now ≡ 0 → length (sorted c) ≡ 0
size_zero c e = sym (same_size c) ∙ e

pub returns-then-is_empty-clause-watches : goal.returns-then-is_empty-clause-watches
returns-then-is_empty-clause-watches c =
    let d = (goal.at.returns-then-is_empty-clause-watches c).In_ok-push in
    let s = c.args.self.now in
    let none : length c.args.clause.now ≡ 0 = eqb-true (length c.args.clause.now) 0 (sym c.is_empty.ensures ∙ c.if-is_empty.true) in
    λ n t h b w u.
    same_watching n t (Positive 0) [] _ _ _ _ _ _ _ _ _ _ (pushed d) refl c.in_ok-push.ensures.items refl c.lower.ensures
    (entered_empty n t s.sorted (lists_of s) s.pairs.items (units_of s) s.falsified (Positive 0) h (sorted d) (pair d) (low d n b) c.len-number.result
    (number d n t h) (size_zero d none) (w.empty none).0)

pub returns-then-is_empty-clause-sorted : goal.returns-then-is_empty-clause-sorted
returns-then-is_empty-clause-sorted c =
    let d = (goal.at.returns-then-is_empty-clause-sorted c).In_ok-push in
    λ cs h. subst (λ x. HaveSameLiterals (cs ++ c.args.clause.now ∷ []) x) (sym (pushed d))
    (same_more cs c.args.self.now.sorted c.args.clause.now (sorted d) h (same_has d) (same_size d))

positive : (m : ℕ) → eqb m 0 ≡ false → 0 < m
positive m e = let ne = eqb-false m 0 e in grind arith

pub returns-clause-watches : goal.returns-clause-watches
returns-clause-watches c =
    let d = (goal.at.returns-clause-watches c).In_ok-push in
    let s = c.args.self.now in
    let pos : 0 < length c.args.clause.now = positive (length c.args.clause.now) (sym c.is_empty.ensures ∙ c.if-is_empty.false) in
    let k1 = code_of c.args.first in
    let k2 = code_of c.args.second in
    let v1 = watch_of c.len-number.result c.args.second in
    let v2 = watch_of c.len-number.result c.args.first in
    let m = c.in_ok-add_unit.ensures in
    let w1 = c.in_ok-watch.ensures in
    let w2 = c.in_ok-watch-2.ensures in
    λ n t h b w u.
    same_watching n t (Positive 0) [] _ _ _ _ _ _ (units_of c.add_unit.new.self) _ _ _
    (w2.sorted ∙ w1.sorted ∙ m.sorted ∙ pushed d)
    (w2.lists ∙ ap (λ ls. set ls k2 (get_or ls k2 [] ++ v2 ∷ [])) (w1.lists
    ∙ ap (λ ls. set (map (λ v. v.items) ls.items) k1 (get_or (map (λ v. v.items) ls.items) k1 [] ++ v1 ∷ [])) m.lists))
    (ap (λ v. v.items) (w2.pairs ∙ w1.pairs ∙ m.pairs) ∙ c.in_ok-push.ensures.items)
    (w2.units ∙ w1.units)
    (w2.falsified ∙ w1.falsified ∙ m.falsified)
    (entered_watched n t s.sorted (lists_of s) s.pairs.items (units_of s) s.falsified (Positive 0) h (sorted d) (pair d) (low d n b) c.len-number.result
    (number d n t h)
    (let e = same_size d in omega arith)
    (low_listed s k1 (c.requires.first pos)) (low_listed s k2 (c.requires.second pos))
    (units_of c.add_unit.new.self)
    c.args.unit m.units
    (watched d t w) (unit d t u))

pub returns-clause-sorted : goal.returns-clause-sorted
returns-clause-sorted c =
    let d = (goal.at.returns-clause-sorted c).In_ok-push in
    λ cs h. subst (λ x. HaveSameLiterals (cs ++ c.args.clause.now ∷ []) x)
    (sym (c.in_ok-watch-2.ensures.sorted ∙ c.in_ok-watch.ensures.sorted ∙ c.in_ok-add_unit.ensures.sorted ∙ pushed d))
    (same_more cs c.args.self.now.sorted c.args.clause.now (sorted d) h (same_has d) (same_size d))

pub returns-then-is_empty-clause-kept : goal.returns-then-is_empty-clause-kept
returns-then-is_empty-clause-kept c =
    let d = (goal.at.returns-then-is_empty-clause-kept c).In_ok-push in
    let s = c.args.self.now in
    λ t count room under.
    same_under t count _ _ _ _ (pushed d) c.in_ok-push.ensures.items (more_under t count s.sorted s.pairs.items (sorted d) (pair d) room under)

pub returns-clause-kept : goal.returns-clause-kept
returns-clause-kept c =
    let d = (goal.at.returns-clause-kept c).In_ok-push in
    let s = c.args.self.now in
    let m = c.in_ok-add_unit.ensures in
    let w1 = c.in_ok-watch.ensures in
    let w2 = c.in_ok-watch-2.ensures in
    λ t count room under.
    same_under t count _ _ _ _ (w2.sorted ∙ w1.sorted ∙ m.sorted ∙ pushed d)
    (ap (λ v. v.items) (w2.pairs ∙ w1.pairs ∙ m.pairs) ∙ c.in_ok-push.ensures.items)
    (more_under t count s.sorted s.pairs.items (sorted d) (pair d) room under)
