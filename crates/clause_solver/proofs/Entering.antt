-- One more clause among those that are watched.
use Rattle.std.proofs.Common.{◌≡◌, ℕ, ◌+◌, ◌*◌, ◌<◌, ◌≤◌, Bool, true, false, ◌&&◌, ◌||◌, eqb, List, [], ◌∷◌, ◌++◌, length, get_or, set, Option, Some, None}
use Rattle.std.proofs.Common.{refl, sym, ap, ◌∙◌, subst, inl, inr, ⊎_elim, ◌⊎◌, arith}
use Rattle.std.specs.Prelude.{IfSome}
use Rattle.std.specs.List.{list_all, AllByRecursion}
use Rattle.std.proofs.lemmas.Bool.{both_ways, cases_lt, or_cases, or_left, or_right, eq-eqb, eqb-true, and_parts, and_from}
use Rattle.std.proofs.lemmas.List.{length_push, length-map, length-set, get_or_append_left, get_or_push, get_or_past, get_or-set_same}
use Rattle.cqe_base.specs.Literal.{Literal, variable_of, same_literal, has_literal, ClauseBelow, ClausesBelow}
use Rattle.cqe_base.specs.Machine.{Assigned, is_false, level}
use Rattle.cqe_base.proofs.ClauseTruth.{same_literal-true}
use Rattle.cqe_base.proofs.Trails.{level_of-le}
use Rattle.cqe_base.proofs.MachineRules.{each_has}
use Rattle.clause_solver.specs.declared.watches.Pair.{Pair}
use Rattle.clause_solver.specs.declared.watches.Watch.{Watch}
use Rattle.clause_solver.specs.declared.watches.Watches.{Watches}
use Rattle.clause_store.specs.Codes.{code_of}
use Rattle.clause_solver.specs.Watching.{IsAnswered, satisfied, is_unit, is_falsified, IsWatched, IsWatching, IsWatchOf, AllFalseBut, has_number, has_clause}
use Rattle.clause_solver.specs.Watching.{is_caught, lowest, no_pair, one_if, times_listed, times_watched, HaveSameLiterals}
use Rattle.clause_solver.specs.WatchesInside.{lists_of}
use Rattle.clause_store.proofs.Marking.{code_of-below}
use Rattle.clause_solver.proofs.Watching.{watched_more}
use Rattle.clause_solver.proofs.Listed.{none_listed, other_more, pushed_times}
use Rattle.clause_solver.proofs.Looks.{watch_of, more_at, more_has, more_all, last_has}
use Rattle.clause_solver.proofs.Visits.{lowest_more, lowest_caught, lowest_is}

-- ---- the same literals in another order

module _ (t : List Assigned) (c d : List Literal) (same : (l : Literal) → has_literal c l ≡ has_literal d l) (size : length c ≡ length d) where
  answered_same : (u q : Bool) (k : ℕ) (l : Literal) → IsAnswered t c u q k l → IsAnswered t d u q k l
  answered_same u q k l (satisfied h) = satisfied (record { literal = h.literal; has = sym (same h.literal) ∙ h.has; holds = h.holds; low = h.low })
  answered_same u q k l (is_unit e o h) = is_unit e o h
  answered_same u q k l (is_falsified e h) = is_falsified e h

  pub watched_same : (p : Pair) (u q : Bool) → IsWatched t c p u q → IsWatched t d p u q
  watched_same p u q w = record {
    first_in = λ pos. sym (same p.first) ∙ w.first_in (omega arith);
    second_in = λ pos. sym (same p.second) ∙ w.second_in (omega arith);
    single = λ e. let le = w.single e in omega arith;
    first_answered = λ f. answered_same u q _ _ (w.first_answered f);
    second_answered = λ f. answered_same u q _ _ (w.second_answered f);
    alone = λ pos e. answered_same u q _ _ (w.alone (omega arith) e);
    empty = λ none. w.empty (omega arith);
  }

pub single_but : (t : List Assigned) (c : List Literal) (l : Literal) → length c ≡ 1 → has_literal c l ≡ true → AllFalseBut t l c
single_but t [] l e h = tt
single_but t (x ∷ []) l e h =
    (inl (sym (⊎_elim (λ s. same_literal-true l x s) (λ s. absurd (both_ways false refl s)) (or_cases (same_literal l x) false h))), tt)
single_but t (x ∷ y ∷ c) l e h = absurd (omega arith)

below_push : (n : ℕ) (cs : List (List Literal)) (c : List Literal) → ClausesBelow n cs → ClauseBelow n c → ClausesBelow n (cs ++ c ∷ [])
below_push n [] c h b = (b, tt)
below_push n (d ∷ cs) c h b = (h.0, below_push n cs c h.1 b)

all_weaker : (P Q : Watch → Type 0) → ((w : Watch) → P w → Q w) → (ws : List Watch) → AllByRecursion P ws → AllByRecursion Q ws
all_weaker P Q f [] h = tt
all_weaker P Q f (w ∷ ws) h = (f w h.0, all_weaker P Q f ws h.1)

module _ (n : ℕ) (t : List Assigned) (cs : List (List Literal)) (lists : List (List Watch)) (pairs : List Pair) (units : List ℕ) (falsified : Option ℕ)
    (g : Literal)
    (before : IsWatching n t cs lists pairs units falsified g []) (c : List Literal) (p : Pair) (low : ClauseBelow n c) (m : ℕ) (number : m ≡ length cs) where
  abbrev cs' : List (List Literal)
  cs' = cs ++ c ∷ []

  size : length cs' ≡ length cs + 1
  size = length_push cs c

  old_clause : (i : ℕ) → i < length cs → get_or cs' i [] ≡ get_or cs i []
  old_clause i lt = get_or_append_left cs (c ∷ []) [] i lt

  new_clause : (i : ℕ) → i ≡ m → get_or cs' i [] ≡ c
  new_clause i e = get_or_push cs c [] i (sym number ∙ sym e)

  old_pair : (i : ℕ) → i < length cs → get_or (pairs ++ p ∷ []) i no_pair ≡ get_or pairs i no_pair
  old_pair i lt = get_or_append_left pairs (p ∷ []) no_pair i (let e = before.pairs_room in omega arith)

  new_pair : (i : ℕ) → i ≡ m → get_or (pairs ++ p ∷ []) i no_pair ≡ p
  new_pair i e = get_or_push pairs p no_pair i (before.pairs_room ∙ sym number ∙ sym e)

  watch_more : (w : Watch) → IsWatchOf cs w → IsWatchOf cs' w
  watch_more w h = record {
    within = let lt = h.within in let e = size in
        omega arith;
    blocker = ap (λ x. has_literal x w.blocker) (old_clause w.clause h.within) ∙ h.blocker;
  }

  module _ (lists' : List (List Watch)) (units' : List ℕ) (falsified' : Option ℕ)
      (lists_kept : (i k : ℕ) → has_clause (get_or lists k []) i ≡ true → has_clause (get_or lists' k []) i ≡ true)
      (lists_room : length lists' ≡ length lists)
      (lists_all : (l : Literal) → AllByRecursion (IsWatchOf cs') (get_or lists' (code_of l) []))
      (first_now : 0 < length c → has_clause (get_or lists' (code_of p.first) []) m ≡ true)
      (second_now : 0 < length c → has_clause (get_or lists' (code_of p.second) []) m ≡ true)
      (units_kept : (i : ℕ) → has_number units i ≡ true → has_number units' i ≡ true)
      (caught_kept : (i : ℕ) → is_caught falsified i ≡ true → is_caught falsified' i ≡ true)
      (now : IsWatched t c p (has_number units' m) (is_caught falsified' m))
      (units_now : (i : ℕ) → has_number units' i ≡ true → (has_number units i ≡ true) ⊎ ((i ≡ m) × (l : Literal) × AllFalseBut t l c))
      (falsified_now : IfSome falsified' (λ i. (i < length cs') × (list_all (is_false t) (get_or cs' i []) ≡ true)))
      (few_before : (i : ℕ) (l : Literal) → i < length cs → times_listed (get_or lists' (code_of l) []) i ≡ times_listed (get_or lists (code_of l) []) i)
      (few_now : (l : Literal) → times_listed (get_or lists' (code_of l) []) m ≤ times_watched p l) where
    abbrev pairs' : List Pair
    pairs' = pairs ++ p ∷ []

    last : (i : ℕ) → i < length cs' → length cs ≤ i → i ≡ m
    last i lt ge = let e = size in omega arith

    pub entered : IsWatching n t cs' lists' pairs' units' falsified' g []
    entered = record {
      below = below_push n cs c before.below low;
      lists_room = lists_room ∙ before.lists_room;
      pairs_room = let a = length_push pairs p in let b = size in let e = before.pairs_room in omega arith;
      watches = lists_all;
      first_listed = λ i lt pos. elim (cases_lt i (length cs)) [
        | inl old ↦ subst (λ x. has_clause (get_or lists' (code_of x.first) []) i ≡ true) (sym (old_pair i old))
            (lists_kept i _ (before.first_listed i old (subst (λ x. 0 < length x) (old_clause i old) pos)))
        | inr ge ↦ let e = last i lt ge in
            subst (λ x. has_clause (get_or lists' (code_of x.first) []) i ≡ true) (sym (new_pair i e))
            (subst (λ j. has_clause (get_or lists' (code_of p.first) []) j ≡ true) (sym e) (first_now (subst (λ x. 0 < length x) (new_clause i e) pos)))
      ];
      second_listed = λ i lt pos. elim (cases_lt i (length cs)) [
        | inl old ↦ subst (λ x. has_clause (get_or lists' (code_of x.second) []) i ≡ true) (sym (old_pair i old))
            (lists_kept i _ (before.second_listed i old (subst (λ x. 0 < length x) (old_clause i old) pos)))
        | inr ge ↦ let e = last i lt ge in
            subst (λ x. has_clause (get_or lists' (code_of x.second) []) i ≡ true) (sym (new_pair i e))
            (subst (λ j. has_clause (get_or lists' (code_of p.second) []) j ≡ true) (sym e) (second_now (subst (λ x. 0 < length x) (new_clause i e) pos)))
      ];
      few = λ i l lt. elim (cases_lt i (length cs)) [
        | inl old ↦ subst (λ x. times_listed (get_or lists' (code_of l) []) i ≤ times_watched x l) (sym (old_pair i old))
            (subst (λ k. k ≤ times_watched (get_or pairs i no_pair) l) (sym (few_before i l old)) (before.few i l old))
        | inr ge ↦ let e = last i lt ge in
            subst (λ x. times_listed (get_or lists' (code_of l) []) i ≤ times_watched x l) (sym (new_pair i e))
            (subst (λ j. times_listed (get_or lists' (code_of l) []) j ≤ times_watched p l) (sym e) (few_now l))
      ];
      each = λ i lt. inl (elim (cases_lt i (length cs)) [
        | inl old ↦
            subst (λ x. IsWatched t x (get_or pairs' i no_pair) (has_number units' i) (is_caught falsified' i)) (sym (old_clause i old))
            (subst (λ x. IsWatched t (get_or cs i []) x (has_number units' i) (is_caught falsified' i)) (sym (old_pair i old))
            (⊎_elim (λ w. watched_more t _ _ _ _ _ _ (units_kept i) (caught_kept i) w) (λ h. absurd (both_ways false refl h.0)) (before.each i old)))
        | inr ge ↦ let e = last i lt ge in
            subst (λ x. IsWatched t x (get_or pairs' i no_pair) (has_number units' i) (is_caught falsified' i)) (sym (new_clause i e))
            (subst (λ x. IsWatched t c x (has_number units' i) (is_caught falsified' i)) (sym (new_pair i e))
            (subst (λ j. IsWatched t c p (has_number units' j) (is_caught falsified' j)) (sym e) now))
      ]);
      units_are = λ i h. ⊎_elim
          (λ old. let u = before.units_are i old in let lt = u.0 in let e = size in (omega arith, u.1, subst (AllFalseBut t u.1) (sym (old_clause i u.0)) u.2))
          (λ new. let e = size in let z = new.0 in (omega arith, new.1, subst (AllFalseBut t new.1) (sym (new_clause i new.0)) new.2))
          (units_now i h);
      falsified_is = falsified_now;
    }

  falsified_before : (o : Option ℕ) → IfSome o (λ i. (i < length cs) × (list_all (is_false t) (get_or cs i []) ≡ true))
      → IfSome o (λ i. (i < length cs') × (list_all (is_false t) (get_or cs' i []) ≡ true))
  falsified_before None h = tt
  falsified_before (Some i) h = let lt = h.0 in let e = size in (omega arith, ap (list_all (is_false t)) (old_clause i h.0) ∙ h.1)

  -- the clause had no watch before
  not_listed : (l : Literal) → times_listed (get_or lists (code_of l) []) m ≡ 0
  not_listed l = none_listed cs (get_or lists (code_of l) []) m (omega arith) (before.watches l)

  no_less : (k : ℕ) → 0 ≤ k
  no_less k = omega arith

  -- a clause with no literal
  pub entered_empty : length c ≡ 0 → level t ≡ 0 → IsWatching n t cs' lists (pairs ++ p ∷ []) units (lowest falsified m) g []
  entered_empty none base =
      entered lists units (lowest falsified m)
      (λ i k h. h) refl (λ l. all_weaker (IsWatchOf cs) (IsWatchOf cs') watch_more _ (before.watches l))
      (λ pos. absurd (omega arith)) (λ pos. absurd (omega arith))
      (λ i h. h) (λ i h. lowest_more falsified m i h)
      none_watched
      (λ i h. inl h)
      (lowest_is (λ i. (i < length cs')
      × (list_all (is_false t) (get_or cs' i []) ≡ true)) falsified m (falsified_before falsified before.falsified_is) (
        let e = size in
            omega arith,
        ap (list_all (is_false t)) (new_clause m refl) ∙ no_literal c none,
      ))
      (λ i l lt. refl)
      (λ l. subst (λ k. k ≤ times_watched p l) (sym (not_listed l)) (no_less (times_watched p l)))
    where
      none_watched : IsWatched t c p (has_number units m) (is_caught (lowest falsified m) m)
      none_watched = record {
        first_in = λ pos. absurd (omega arith);
        second_in = λ pos. absurd (omega arith);
        first_answered = λ f. is_falsified (let le = level_of-le t p.first in omega arith) (lowest_caught falsified m);
        second_answered = λ f. is_falsified (let le = level_of-le t p.second in omega arith) (lowest_caught falsified m);
        single = λ e. omega arith;
        alone = λ pos e. absurd (omega arith);
        empty = λ e. (base, lowest_caught falsified m);
      }

      no_literal : (d : List Literal) → length d ≡ 0 → list_all (is_false t) d ≡ true
      no_literal [] e = refl
      no_literal (x ∷ d) e = absurd (omega arith)

  -- a clause with a literal is watched by two of them
  module _ (pos : 0 < length c) (first_room : code_of p.first < length lists) (second_room : code_of p.second < length lists)
      (units' : List ℕ) (u : Bool) (units_are : (i : ℕ) → has_number units' i ≡ (has_number units i || (u && eqb m i)))
      (w : IsWatched t c p u (eqb (length c) 0)) (only : u ≡ true → AllFalseBut t p.first c) where
    abbrev v1 : Watch
    v1 = watch_of m p.second

    abbrev v2 : Watch
    v2 = watch_of m p.first

    abbrev lists1 : List (List Watch)
    lists1 = set lists (code_of p.first) (get_or lists (code_of p.first) [] ++ v1 ∷ [])

    abbrev lists2 : List (List Watch)
    lists2 = set lists1 (code_of p.second) (get_or lists1 (code_of p.second) [] ++ v2 ∷ [])

    room1 : length lists1 ≡ length lists
    room1 = length-set lists (code_of p.first) _

    second1 : code_of p.second < length lists1
    second1 = let e = room1 in omega arith

    more_both : (P : List Watch → Type 0) → ((zs : List Watch) → P zs → P (zs ++ v1 ∷ [])) → ((zs : List Watch) → P zs → P (zs ++ v2 ∷ [])) → (k : ℕ)
        → P (get_or lists k []) → P (get_or lists2 k [])
    more_both P f1 f2 k h =
        more_at P lists1 (code_of p.second) second1 (code_of p.second) v2 second1 f2 k
        (more_at P lists (code_of p.first) first_room (code_of p.first) v1 first_room f1 k h)

    is_watch : (b : Literal) → has_literal c b ≡ true → IsWatchOf cs' (watch_of m b)
    is_watch b h = record { within = let e = size in omega arith; blocker = ap (λ x. has_literal x b) (new_clause m refl) ∙ h }

    earlier : (i : ℕ) → i < length cs → i ≡ m → ⊥
    earlier i lt e = omega arith

    same_times : (i : ℕ) (l : Literal) → i < length cs → times_listed (get_or lists2 (code_of l) []) i ≡ times_listed (get_or lists (code_of l) []) i
    same_times i l lt =
        more_both (λ zs. times_listed zs i ≡ times_listed (get_or lists (code_of l) []) i) (λ zs e. other_more zs v1 i (earlier i lt) ∙ e)
        (λ zs e. other_more zs v2 i (earlier i lt) ∙ e) (code_of l) refl

    times_now : (l : Literal) → times_listed (get_or lists2 (code_of l) []) m ≤ times_watched p l
    times_now l =
        let none = not_listed l in
        let one : times_listed (get_or lists1 (code_of l) []) m ≤ one_if (same_literal p.first l) + times_listed (get_or lists (code_of l) []) m =
        pushed_times lists p.first l v1 first_room m in
        let two : times_listed (get_or lists2 (code_of l) []) m ≤ one_if (same_literal p.second l) + times_listed (get_or lists1 (code_of l) []) m =
        pushed_times lists1 p.second l v2 second1 m in
        let both : times_listed (get_or lists2 (code_of l) []) m ≤ one_if (same_literal p.first l) + one_if (same_literal p.second l) = omega arith in
        both

    pub entered_watched : IsWatching n t cs' lists2 (pairs ++ p ∷ []) units' falsified g []
    entered_watched =
        entered lists2 units' falsified
        (λ i k h. more_both (λ zs. has_clause zs i ≡ true) (λ zs. more_has zs v1 i) (λ zs. more_has zs v2 i) k h)
        (length-set lists1 (code_of p.second) _ ∙ room1)
        (λ l. more_both (AllByRecursion (IsWatchOf cs')) (λ zs. more_all (IsWatchOf cs') zs v1 (is_watch p.second (w.second_in pos))) (λ zs.
        more_all (IsWatchOf cs') zs v2 (is_watch p.first (w.first_in pos))) (code_of l)
        (all_weaker (IsWatchOf cs) (IsWatchOf cs') watch_more _ (before.watches l)))
        (λ _. more_at (λ zs. has_clause zs m ≡ true) lists1 (code_of p.second) second1 (code_of p.second) v2 second1 (λ zs. more_has zs v2 m) (code_of p.first)
        (ap (λ zs. has_clause zs m) (get_or-set_same lists (code_of p.first) _ [] first_room) ∙ last_has (get_or lists (code_of p.first) []) m p.second))
        (λ _. ap (λ zs. has_clause zs m) (get_or-set_same lists1 (code_of p.second) _ [] second1) ∙ last_has (get_or lists1 (code_of p.second) []) m p.first)
        (λ i h. units_are i ∙ or_left _ _ h)
        (λ i h. h)
        (watched_more t c p _ _ _ _ (λ e. units_are m ∙ or_right _ _ (and_from _ _ e (eq-eqb m m refl))) (λ e. absurd (let x = eqb-true (length c) 0 e in
        omega arith)) w)
        (λ i h. ⊎_elim
        (λ e. inl e)
        (λ e. let parts : (u ≡ true) × (eqb m i ≡ true) = and_parts _ _ e in
        inr (sym (eqb-true m i parts.1), p.first, only parts.0))
        (or_cases _ _ (sym (units_are i) ∙ h)))
        (falsified_before falsified before.falsified_is)
        same_times times_now

-- ---- the same literals in each clause, with one more

pub same_more : (cs ds : List (List Literal)) (c d : List Literal) → HaveSameLiterals cs ds → ((l : Literal) → has_literal c l ≡ has_literal d l)
    → length c ≡ length d → HaveSameLiterals (cs ++ c ∷ []) (ds ++ d ∷ [])
same_more cs ds c d h same size = record {
  room = let a = length_push cs c in let b = length_push ds d in let e = h.room in omega arith;
  sizes = λ i. at (λ x y. length x ≡ length y) i (h.sizes i) size refl;
  same = λ i l. at (λ x y. has_literal x l ≡ has_literal y l) i (h.same i l) (same l) refl;
}
  where
    at : (R : List Literal → List Literal → Type 0) (i : ℕ) → R (get_or cs i []) (get_or ds i []) → R c d → R [] []
        → R (get_or (cs ++ c ∷ []) i []) (get_or (ds ++ d ∷ []) i [])
    at R i old new none = elim (cases_lt i (length cs)) [
      | inl lt ↦ subst (λ x. R x (get_or (ds ++ d ∷ []) i [])) (sym (get_or_append_left cs (c ∷ []) [] i lt))
          (subst (λ y. R (get_or cs i []) y) (sym (get_or_append_left ds (d ∷ []) [] i (let e = h.room in omega arith))) old)
      | inr ge ↦ elim (cases_lt (length cs) i) [
        | inl past ↦
            subst (λ x. R x (get_or (ds ++ d ∷ []) i [])) (sym (get_or_past (cs ++ c ∷ []) i [] (let a = length_push cs c in omega arith)))
            (subst (λ y. R [] y) (sym (get_or_past (ds ++ d ∷ []) i [] (let a = length_push ds d in let e = h.room in omega arith))) none)
        | inr le ↦
            subst (λ x. R x (get_or (ds ++ d ∷ []) i [])) (sym (get_or_push cs c [] i (omega arith)))
            (subst (λ y. R c y) (sym (get_or_push ds d [] i (let e = h.room in omega arith))) new)
      ]
    ]

-- a literal of a clause has a list
pub code_listed : (n : ℕ) (w : Watches) (clause : List Literal) (l : Literal) → length (lists_of w) ≡ 2 * n → ClauseBelow n clause → has_literal clause l ≡ true
    → code_of l < length w.lists.items
code_listed n w clause l room below has =
    let e = length-map w.lists.items (λ v. v.items) in
    let k = code_of-below n l (each_has (λ m. variable_of m < n) clause l below has) in
    omega arith
