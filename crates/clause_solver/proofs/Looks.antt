-- What is kept of all clauses: a look at one watch after the other, one more entry of the trail, and a cut.
use Rattle.std.proofs.Common.{◌≡◌, ℕ, ◌<◌, ◌≤◌, true, false, eqb, List, [], ◌∷◌, ◌++◌, length, get_or, set, map, Option, Some, None, refl, sym, ap, ◌∙◌, subst}
use Rattle.std.proofs.Common.{inl, inr, ⊎_elim, ◌⊎◌, arith}
use Rattle.std.specs.Prelude.{IfSome}
use Rattle.std.specs.List.{list_all, AllByRecursion}
use Rattle.std.proofs.lemmas.Bool.{both_ways, cases_eq, cases_lt, or_cases, or_left, or_right, eq-eqb, eqb-true, and_parts, and_from}
use Rattle.std.proofs.lemmas.List.{get_or-set_same, get_or-set_other, length-set, map-set, get_or-map, length-map}
use Rattle.std.proofs.lemmas.List.Folds.{list_any-append}
use Rattle.cqe_base.specs.Literal.{Literal, opposite, has_literal}
use Rattle.cqe_base.specs.Machine.{Assigned, assigned_literal, is_false, level, cut}
use Rattle.cqe_base.specs.MachineStates.{IsDistinct}
use Rattle.clause_solver.specs.declared.watches.Pair.{Pair}
use Rattle.clause_solver.specs.declared.watches.Watch.{Watch}
use Rattle.clause_solver.specs.declared.watches.Watches.{Watches}
use Rattle.clause_store.specs.Codes.{code_of}
use Rattle.clause_solver.specs.Watching.{IsWatched, IsHalfWatched, IsWatching, IsWatchOf, WatchesBeside, AllFalseBut, has_number, has_clause, is_caught}
use Rattle.clause_solver.specs.Watching.{no_pair, times_listed, times_watched}
use Rattle.clause_store.proofs.Marking.{code_of-injective}
use Rattle.clause_solver.proofs.Watching.{which, watched_more, half_more, IsSteady, watched_push, half_push, none_push, watched_cut}
use Rattle.clause_solver.specs.WatchesInside.{lists_of}
use Rattle.clause_solver.proofs.Listed.{keep_few, drop_few, other_few, moved_times}

-- a code that has a list has one among the lists
pub low_listed : (w : Watches) (k : ℕ) → k < length w.lists.items → k < length (lists_of w)
low_listed w k low = let same = length-map w.lists.items (λ v. v.items) in omega arith

-- a clause with a blocker
abbrev pub watch_of : ℕ → Literal → Watch
watch_of j b = record { clause = j; blocker = b }

-- ---- one list in place of another

module _ (P : List Watch → Type 0) (lists : List (List Watch)) (c : ℕ) (low : c < length lists) where
  at_same : (zs : List Watch) (k : ℕ) → k ≡ c → get_or (set lists c zs) k [] ≡ zs
  at_same zs k same = ap (λ j. get_or (set lists c zs) j []) same ∙ get_or-set_same lists c zs [] low

  put_list : (xs ys : List Watch) → (P xs → P ys) → (k : ℕ) → P (get_or (set lists c xs) k []) → P (get_or (set lists c ys) k [])
  put_list xs ys go k h = elim (cases_eq k c) [
    | inl same ↦ subst P (sym (at_same ys k same)) (go (subst P (at_same xs k same) h))
    | inr other ↦ subst P (sym (get_or-set_other lists c k ys [] other)) (subst P (get_or-set_other lists c k xs [] other) h)
  ]

  -- and one more watch in another one
  module _ (co : ℕ) (v : Watch) (within : co < length lists) (more : (zs : List Watch) → P zs → P (zs ++ v ∷ [])) where
    abbrev longer : List (List Watch)
    longer = set lists co (get_or lists co [] ++ v ∷ [])

    pub more_at : (k : ℕ) → P (get_or lists k []) → P (get_or longer k [])
    more_at k h = elim (cases_eq k co) [
      | inl same ↦ subst P (sym (ap (λ j. get_or longer j []) same ∙ get_or-set_same lists co (get_or lists co [] ++ v ∷ []) [] within))
          (more (get_or lists co []) (subst (λ j. P (get_or lists j [])) same h))
      | inr other ↦ subst P (sym (get_or-set_other lists co k (get_or lists co [] ++ v ∷ []) [] other)) h
    ]

    put_elsewhere : (xs ys : List Watch) (k : ℕ) → (k ≡ c → ⊥) → P (get_or (set lists c xs) k []) → P (get_or (set longer c ys) k [])
    put_elsewhere xs ys k other h = subst P (sym (get_or-set_other longer c k ys [] other)) (more_at k (subst P (get_or-set_other lists c k xs [] other) h))

    put_both : (xs ys : List Watch) → (P xs → P ys) → (k : ℕ) → P (get_or (set lists c xs) k []) → P (get_or (set longer c ys) k [])
    put_both xs ys go k h = elim (cases_eq k c) [
      | inl same ↦
          subst P (sym (ap (λ j. get_or (set longer c ys) j []) same
          ∙ get_or-set_same longer c ys [] (let e = length-set lists co (get_or lists co [] ++ v ∷ []) in omega arith)))
          (go (subst P (at_same xs k same) h))
      | inr other ↦ put_elsewhere xs ys k other h
    ]

-- ---- the list that is looked at

keep_has : (kept rest : List Watch) (i j : ℕ) (b b' : Literal) → has_clause (kept ++ watch_of j b ∷ rest) i ≡ true
    → has_clause ((kept ++ watch_of j b' ∷ []) ++ rest) i ≡ true
keep_has [] rest i j b b' h = h
keep_has (x ∷ kept) rest i j b b' h =
    ⊎_elim (λ e. or_left _ _ e) (λ e. or_right _ _ (keep_has kept rest i j b b' e)) (or_cases (eqb x.clause i) (has_clause (kept ++ watch_of j b ∷ rest) i) h)

rest_has : (rest : List Watch) (i j : ℕ) (b : Literal) → (i ≡ j → ⊥) → has_clause (watch_of j b ∷ rest) i ≡ true → has_clause rest i ≡ true
rest_has rest i j b ne h = ⊎_elim (λ e. absurd (ne (sym (eqb-true j i e)))) (λ e. e) (or_cases (eqb j i) (has_clause rest i) h)

drop_has : (kept rest : List Watch) (i j : ℕ) (b : Literal) → (i ≡ j → ⊥) → has_clause (kept ++ watch_of j b ∷ rest) i ≡ true
    → has_clause (kept ++ rest) i ≡ true
drop_has [] rest i j b ne h = rest_has rest i j b ne h
drop_has (x ∷ kept) rest i j b ne h =
    ⊎_elim (λ e. or_left _ _ e) (λ e. or_right _ _ (drop_has kept rest i j b ne e)) (or_cases (eqb x.clause i) (has_clause (kept ++ watch_of j b ∷ rest) i) h)

pub more_has : (zs : List Watch) (v : Watch) (i : ℕ) → has_clause zs i ≡ true → has_clause (zs ++ v ∷ []) i ≡ true
more_has zs v i h = list_any-append (λ w. eqb w.clause i) zs (v ∷ []) ∙ or_left _ _ h

pub last_has : (zs : List Watch) (j : ℕ) (b : Literal) → has_clause (zs ++ watch_of j b ∷ []) j ≡ true
last_has zs j b = list_any-append (λ w. eqb w.clause j) zs (watch_of j b ∷ []) ∙ or_right _ _ (or_left _ _ (eq-eqb j j refl))

module _ (P : Watch → Type 0) where
  keep_all : (kept rest : List Watch) (w w' : Watch) → P w' → AllByRecursion P (kept ++ w ∷ rest) → AllByRecursion P ((kept ++ w' ∷ []) ++ rest)
  keep_all [] rest w w' p h = (p, h.1)
  keep_all (x ∷ kept) rest w w' p h = (h.0, keep_all kept rest w w' p h.1)

  drop_all : (kept rest : List Watch) (w : Watch) → AllByRecursion P (kept ++ w ∷ rest) → AllByRecursion P (kept ++ rest)
  drop_all [] rest w h = h.1
  drop_all (x ∷ kept) rest w h = (h.0, drop_all kept rest w h.1)

  pub more_all : (zs : List Watch) (v : Watch) → P v → AllByRecursion P zs → AllByRecursion P (zs ++ v ∷ [])
  more_all [] v p h = (p, tt)
  more_all (x ∷ zs) v p h = (h.0, more_all zs v p h.1)

  pub here_of : (kept rest : List Watch) (w : Watch) → AllByRecursion P (kept ++ w ∷ rest) → P w
  here_of [] rest w h = h.0
  here_of (x ∷ kept) rest w h = here_of kept rest w h.1

-- ---- a look at one watch

module _ (n : ℕ) (t : List Assigned) (cs : List (List Literal)) (lists : List (List Watch)) (pairs : List Pair) (units : List ℕ) (falsified : Option ℕ)
    (f : Literal) (kept rest : List Watch) (j : ℕ) (b : Literal) (low : code_of f < length lists)
    (before : IsWatching n t cs (set lists (code_of f) (kept ++ watch_of j b ∷ rest)) pairs units falsified f (watch_of j b ∷ rest)) where
  abbrev xs : List Watch
  xs = kept ++ watch_of j b ∷ rest

  -- the watch that is looked at is one of a clause
  pub looked_watch : IsWatchOf cs (watch_of j b)
  looked_watch =
      here_of (IsWatchOf cs) kept rest (watch_of j b) (subst (AllByRecursion (IsWatchOf cs)) (get_or-set_same lists (code_of f) xs [] low) (before.watches f))

  -- the clause goes on watching the literal
  module _ (units' : List ℕ) (falsified' : Option ℕ) (b' : Literal)
      (more_units : (i : ℕ) → has_number units i ≡ true → has_number units' i ≡ true)
      (more_caught : (i : ℕ) → is_caught falsified i ≡ true → is_caught falsified' i ≡ true)
      (now : IsWatched t (get_or cs j []) (get_or pairs j no_pair) (has_number units' j) (is_caught falsified' j))
      (units_now : (i : ℕ) → has_number units' i ≡ true → (i < length cs) × (l : Literal) × AllFalseBut t l (get_or cs i []))
      (falsified_now : IfSome falsified' (λ i. (i < length cs) × (list_all (is_false t) (get_or cs i []) ≡ true)))
      (blocker : has_literal (get_or cs j []) b' ≡ true) where
    abbrev ys : List Watch
    ys = (kept ++ watch_of j b' ∷ []) ++ rest

    pub looked_kept : IsWatching n t cs (set lists (code_of f) ys) pairs units' falsified' f rest
    looked_kept = record {
      below = before.below;
      lists_room = length-set lists (code_of f) ys ∙ sym (length-set lists (code_of f) xs) ∙ before.lists_room;
      pairs_room = before.pairs_room;
      watches = λ l. put_list (AllByRecursion (IsWatchOf cs)) lists (code_of f) low xs ys
          (keep_all (IsWatchOf cs) kept rest (watch_of j b) (watch_of j b') (record { within = looked_watch.within; blocker = blocker })) (code_of l)
          (before.watches l);
      first_listed =
          λ i lt pos. put_list (λ zs. has_clause zs i ≡ true) lists (code_of f) low xs ys (keep_has kept rest i j b b') _ (before.first_listed i lt pos);
      second_listed =
          λ i lt pos. put_list (λ zs. has_clause zs i ≡ true) lists (code_of f) low xs ys (keep_has kept rest i j b b') _ (before.second_listed i lt pos);
      few = λ i l lt. put_list (λ zs. times_listed zs i ≤ times_watched (get_or pairs i no_pair) l) lists (code_of f) low xs ys
          (keep_few kept rest (watch_of j b) (watch_of j b') i (times_watched (get_or pairs i no_pair) l) refl) (code_of l) (before.few i l lt);
      each = λ i lt. ⊎_elim
          (λ w. inl (watched_more t _ _ _ _ _ _ (more_units i) (more_caught i) w))
          (λ h. elim (cases_eq i j) [
            | inl same ↦ inl (subst (λ m. IsWatched t (get_or cs m []) (get_or pairs m no_pair) (has_number units' m) (is_caught falsified' m)) (sym same) now)
            | inr other ↦ inr (rest_has rest i j b other h.0, half_more t _ _ _ _ _ _ f (more_units i) (more_caught i) h.1)
          ])
          (before.each i lt);
      units_are = units_now;
      falsified_is = falsified_now;
    }

  -- the clause watches another literal from now on
  module _ (next other : Literal) (room : code_of next < length lists) (apart : next ≡ f → ⊥) (elsewhere : other ≡ f → ⊥)
      (has : has_literal (get_or cs j []) other ≡ true)
      (listed : has_clause (get_or (set lists (code_of f) xs) (code_of other) []) j ≡ true)
      (now : IsWatched t (get_or cs j []) (record { first = next; second = other }) (has_number units j) (is_caught falsified j))
      (beside : WatchesBeside (get_or pairs j no_pair) f other) where
    abbrev pair : Pair
    pair = record { first = next; second = other }

    abbrev lists' : List (List Watch)
    lists' = set lists (code_of next) (get_or lists (code_of next) [] ++ watch_of j other ∷ [])

    within_pairs : j < length pairs
    within_pairs = let e = before.pairs_room in let w = looked_watch.within in omega arith

    pair_same : (i : ℕ) → i ≡ j → get_or (set pairs j pair) i no_pair ≡ pair
    pair_same i same = ap (λ m. get_or (set pairs j pair) m no_pair) same ∙ get_or-set_same pairs j pair no_pair within_pairs

    pair_other : (i : ℕ) → (i ≡ j → ⊥) → get_or (set pairs j pair) i no_pair ≡ get_or pairs i no_pair
    pair_other i ne = get_or-set_other pairs j i pair no_pair ne

    has_other : (i k : ℕ) → (i ≡ j → ⊥) → has_clause (get_or (set lists (code_of f) xs) k []) i ≡ true
        → has_clause (get_or (set lists' (code_of f) (kept ++ rest)) k []) i ≡ true
    has_other i k ne h =
        put_both (λ zs. has_clause zs i ≡ true) lists (code_of f) low (code_of next) (watch_of j other) room (λ zs. more_has zs (watch_of j other) i) xs
        (kept ++ rest) (drop_has kept rest i j b ne) k h

    has_next : has_clause (get_or (set lists' (code_of f) (kept ++ rest)) (code_of next) []) j ≡ true
    has_next =
        ap (λ zs. has_clause zs j) (get_or-set_other lists' (code_of f) (code_of next) (kept ++ rest) [] (λ e. apart (code_of-injective next f e))
        ∙ get_or-set_same lists (code_of next) (get_or lists (code_of next) [] ++ watch_of j other ∷ []) [] room)
        ∙ last_has (get_or lists (code_of next) []) j other

    has_second : has_clause (get_or (set lists' (code_of f) (kept ++ rest)) (code_of other) []) j ≡ true
    has_second = put_elsewhere (λ zs. has_clause zs j ≡ true) lists (code_of f) low (code_of next) (watch_of j other) room
        (λ zs. more_has zs (watch_of j other) j) xs (kept ++ rest) (code_of other) (λ e. elsewhere (code_of-injective other f e)) listed

    few_now : (l : Literal) → times_listed (get_or (set lists' (code_of f) (kept ++ rest)) (code_of l) []) j ≤ times_watched pair l
    few_now l = moved_times lists kept rest (get_or pairs j no_pair) f other next (watch_of j b) (watch_of j other) low room beside elsewhere
        (λ m. before.few j m looked_watch.within) l

    few_other : (i : ℕ) (l : Literal) → (i ≡ j → ⊥)
        → times_listed (get_or (set lists (code_of f) xs) (code_of l) []) i ≤ times_watched (get_or pairs i no_pair) l
        → times_listed (get_or (set lists' (code_of f) (kept ++ rest)) (code_of l) []) i ≤ times_watched (get_or pairs i no_pair) l
    few_other i l ne h =
        let most = times_watched (get_or pairs i no_pair) l in
        put_both (λ zs. times_listed zs i ≤ most) lists (code_of f) low (code_of next) (watch_of j other) room
        (λ zs. other_few zs (watch_of j other) i most ne) xs (kept ++ rest) (drop_few kept rest (watch_of j b) i most) (code_of l) h

    pub looked_gone : IsWatching n t cs (set lists' (code_of f) (kept ++ rest)) (set pairs j pair) units falsified f rest
    looked_gone = record {
      below = before.below;
      lists_room = length-set lists' (code_of f) (kept ++ rest) ∙ length-set lists (code_of next) _ ∙ sym (length-set lists (code_of f) xs) ∙ before.lists_room;
      pairs_room = length-set pairs j pair ∙ before.pairs_room;
      watches = λ l. put_both (AllByRecursion (IsWatchOf cs)) lists (code_of f) low (code_of next) (watch_of j other) room (λ zs.
          more_all (IsWatchOf cs) zs (watch_of j other) (record { within = looked_watch.within; blocker = has })) xs (kept ++ rest)
          (drop_all (IsWatchOf cs) kept rest (watch_of j b)) (code_of l) (before.watches l);
      first_listed = λ i lt pos. elim (cases_eq i j) [
        | inl same ↦ subst (λ m. has_clause (get_or (set lists' (code_of f) (kept ++ rest)) (code_of m.first) []) i
            ≡ true) (sym (pair_same i same))
            (subst (λ m. has_clause (get_or (set lists' (code_of f) (kept ++ rest)) (code_of next) []) m ≡ true) (sym same) has_next)
        | inr ne ↦ subst (λ m. has_clause (get_or (set lists' (code_of f) (kept ++ rest)) (code_of m.first) []) i
            ≡ true) (sym (pair_other i ne)) (has_other i _ ne (before.first_listed i lt pos))
      ];
      second_listed = λ i lt pos. elim (cases_eq i j) [
        | inl same ↦ subst (λ m. has_clause (get_or (set lists' (code_of f) (kept ++ rest)) (code_of m.second) []) i
            ≡ true) (sym (pair_same i same))
            (subst (λ m. has_clause (get_or (set lists' (code_of f) (kept ++ rest)) (code_of other) []) m ≡ true) (sym same) has_second)
        | inr ne ↦ subst (λ m. has_clause (get_or (set lists' (code_of f) (kept ++ rest)) (code_of m.second) []) i
            ≡ true) (sym (pair_other i ne)) (has_other i _ ne (before.second_listed i lt pos))
      ];
      few = λ i l lt. elim (cases_eq i j) [
        | inl same ↦ subst (λ m. times_listed (get_or (set lists' (code_of f) (kept ++ rest)) (code_of l) []) i ≤ times_watched m l) (sym (pair_same i same))
            (subst (λ m. times_listed (get_or (set lists' (code_of f) (kept ++ rest)) (code_of l) []) m ≤ times_watched pair l) (sym same) (few_now l))
        | inr ne ↦ subst (λ m. times_listed (get_or (set lists' (code_of f) (kept ++ rest)) (code_of l) []) i ≤ times_watched m l) (sym (pair_other i ne))
            (few_other i l ne (before.few i l lt))
      ];
      each = λ i lt. elim (cases_eq i j) [
        | inl same ↦ inl
            (subst (λ m. IsWatched t (get_or cs i []) m (has_number units i) (is_caught falsified i)) (sym (pair_same i same))
            (subst (λ m. IsWatched t (get_or cs m []) pair (has_number units m) (is_caught falsified m)) (sym same) now))
        | inr ne ↦ ⊎_elim
            (λ w. inl (subst (λ m. IsWatched t (get_or cs i []) m (has_number units i) (is_caught falsified i)) (sym (pair_other i ne)) w))
            (λ h. inr (
              rest_has rest i j b ne h.0,
              subst (λ m. IsHalfWatched t (get_or cs i []) m (has_number units i) (is_caught falsified i) f) (sym (pair_other i ne)) h.1,
            ))
            (before.each i lt)
      ];
      units_are = before.units_are;
      falsified_is = before.falsified_is;
    }

  -- the clause doesn't watch the literal any more
  pub looked_stale : IsWatched t (get_or cs j []) (get_or pairs j no_pair) (has_number units j) (is_caught falsified j)
      → (0 < length (get_or cs j []) → ((get_or pairs j no_pair).first ≡ f → ⊥) × ((get_or pairs j no_pair).second ≡ f → ⊥))
      → IsWatching n t cs (set lists (code_of f) (kept ++ rest)) pairs units falsified f rest
  looked_stale now free = record {
    below = before.below;
    lists_room = length-set lists (code_of f) (kept ++ rest) ∙ sym (length-set lists (code_of f) xs) ∙ before.lists_room;
    pairs_room = before.pairs_room;
    watches = λ l. put_list (AllByRecursion (IsWatchOf cs)) lists (code_of f) low xs (kept ++ rest) (drop_all (IsWatchOf cs) kept rest (watch_of j b))
        (code_of l) (before.watches l);
    first_listed = λ i lt pos.
        has_still i (get_or pairs i no_pair).first (λ same e.
        (free (subst (λ m. 0 < length (get_or cs m [])) same pos)).0 (ap (λ m. (get_or pairs m no_pair).first) (sym same) ∙ e))
        (before.first_listed i lt pos);
    second_listed = λ i lt pos.
        has_still i (get_or pairs i no_pair).second (λ same e.
        (free (subst (λ m. 0 < length (get_or cs m [])) same pos)).1 (ap (λ m. (get_or pairs m no_pair).second) (sym same) ∙ e))
        (before.second_listed i lt pos);
    few = λ i l lt. put_list (λ zs. times_listed zs i ≤ times_watched (get_or pairs i no_pair) l) lists (code_of f) low xs (kept ++ rest)
        (drop_few kept rest (watch_of j b) i (times_watched (get_or pairs i no_pair) l)) (code_of l) (before.few i l lt);
    each = λ i lt. elim (cases_eq i j) [
      | inl same ↦ inl (subst (λ m. IsWatched t (get_or cs m []) (get_or pairs m no_pair) (has_number units m) (is_caught falsified m)) (sym same) now)
      | inr ne ↦ ⊎_elim (λ w. inl w) (λ h. inr (rest_has rest i j b ne h.0, h.1)) (before.each i lt)
    ];
    units_are = before.units_are;
    falsified_is = before.falsified_is;
  }
    where
      has_still : (i : ℕ) (l : Literal) → (i ≡ j → l ≡ f → ⊥) → has_clause (get_or (set lists (code_of f) xs) (code_of l) []) i ≡ true
          → has_clause (get_or (set lists (code_of f) (kept ++ rest)) (code_of l) []) i ≡ true
      has_still i l apart h = elim (cases_eq (code_of l) (code_of f)) [
        | inl same ↦ put_list (λ zs. has_clause zs i ≡ true) lists (code_of f) low xs (kept ++ rest)
            (drop_has kept rest i j b (λ e. apart e (code_of-injective l f same))) (code_of l) h
        | inr other ↦ subst (λ zs. has_clause zs i ≡ true) (sym (get_or-set_other lists (code_of f) (code_of l) (kept ++ rest) [] other))
            (subst (λ zs. has_clause zs i ≡ true) (get_or-set_other lists (code_of f) (code_of l) xs [] other) h)
      ]

-- ---- before the first look, after the last one, and after a cut

module _ (n : ℕ) (a : Assigned) (t : List Assigned) (d : IsDistinct n (a ∷ t)) (cs : List (List Literal)) (lists : List (List Watch)) (pairs : List Pair)
    (units : List ℕ) (falsified : Option ℕ) (g : Literal)
    (before : IsWatching n t cs lists pairs units falsified g []) where
  false_all : (c : List Literal) → list_all (is_false t) c ≡ true → list_all (is_false (a ∷ t)) c ≡ true
  false_all [] h = refl
  false_all (l ∷ c) h =
      let parts : (is_false t l ≡ true) × (list_all (is_false t) c ≡ true) = and_parts _ _ h in and_from _ _ (or_right _ _ parts.0) (false_all c parts.1)

  false_but : (l : Literal) (c : List Literal) → AllFalseBut t l c → AllFalseBut (a ∷ t) l c
  false_but l [] h = tt
  false_but l (m ∷ c) h = (⊎_elim (λ e. inl e) (λ e. inr (or_right _ _ e)) h.0, false_but l c h.1)

  if_falsified : (o : Option ℕ) → IfSome o (λ i. (i < length cs) × (list_all (is_false t) (get_or cs i []) ≡ true))
      → IfSome o (λ i. (i < length cs) × (list_all (is_false (a ∷ t)) (get_or cs i []) ≡ true))
  if_falsified None h = tt
  if_falsified (Some i) h = (h.0, false_all _ h.1)

  -- the level stays, or no clause is known to be unit or falsified
  pub looks_begin : (level (a ∷ t) ≡ level t) ⊎ ((units ≡ []) × (falsified ≡ None))
      → IsWatching n (a ∷ t) cs lists pairs units falsified (opposite (assigned_literal a)) (get_or lists (code_of (opposite (assigned_literal a))) [])
  looks_begin steady = record {
    below = before.below;
    lists_room = before.lists_room;
    pairs_room = before.pairs_room;
    watches = before.watches;
    first_listed = before.first_listed;
    second_listed = before.second_listed;
    few = before.few;
    each = λ i lt. ⊎_elim (λ w. now i lt w) (λ h. absurd (both_ways false refl h.0)) (before.each i lt);
    units_are = λ i h. let u = before.units_are i h in (u.0, u.1, false_but u.1 _ u.2);
    falsified_is = if_falsified falsified before.falsified_is;
  }
    where
      f : Literal
      f = opposite (assigned_literal a)

      steady_at : (i : ℕ) → IsSteady a t (has_number units i) (is_caught falsified i)
      steady_at i = ⊎_elim (λ e. inl e) (λ e. inr (ap (λ us. has_number us i) e.0, ap (λ o. is_caught o i) e.1)) steady

      now : (i : ℕ) → i < length cs → IsWatched t (get_or cs i []) (get_or pairs i no_pair) (has_number units i) (is_caught falsified i)
          → IsWatched (a ∷ t) (get_or cs i []) (get_or pairs i no_pair) (has_number units i) (is_caught falsified i)
          ⊎ ((has_clause (get_or lists (code_of f) []) i ≡ true)
          × IsHalfWatched (a ∷ t) (get_or cs i []) (get_or pairs i no_pair) (has_number units i) (is_caught falsified i) f)
      now i lt w = elim (cases_lt 0 (length (get_or cs i []))) [
        | inr none ↦ inl (none_push n a t d _ _ _ (steady_at i) _ (omega arith) w)
        | inl pos ↦ ⊎_elim
            (λ e. inr (
              subst (λ l. has_clause (get_or lists (code_of l) []) i ≡ true) e (before.first_listed i lt pos),
              half_push n a t d _ _ _ (steady_at i) _ (inl e) w,
            ))
            (λ nf. ⊎_elim
            (λ e. inr (
              subst (λ l. has_clause (get_or lists (code_of l) []) i ≡ true) e (before.second_listed i lt pos),
              half_push n a t d _ _ _ (steady_at i) _ (inr e) w,
            ))
            (λ ns. inl (watched_push n a t d _ _ _ (steady_at i) _ nf ns w))
            (which f (get_or pairs i no_pair).second))
            (which f (get_or pairs i no_pair).first)
      ]

module _ (n : ℕ) (t : List Assigned) (cs : List (List Literal)) (lists : List (List Watch)) (pairs : List Pair) (units : List ℕ) (falsified : Option ℕ)
    (f : Literal)
    (before : IsWatching n t cs lists pairs units falsified f []) where
  pub looks_end : (g : Literal) → IsWatching n t cs lists pairs units falsified g []
  looks_end g = record {
    below = before.below;
    lists_room = before.lists_room;
    pairs_room = before.pairs_room;
    watches = before.watches;
    first_listed = before.first_listed;
    second_listed = before.second_listed;
    few = before.few;
    each = λ i lt. ⊎_elim (λ w. inl w) (λ h. absurd (both_ways false refl h.0)) (before.each i lt);
    units_are = before.units_are;
    falsified_is = before.falsified_is;
  }

  pub watching_cut : (k : ℕ) → IsDistinct n t → k < level t → IsWatching n (cut k t) cs lists pairs [] None f []
  watching_cut k d lower = record {
    below = before.below;
    lists_room = before.lists_room;
    pairs_room = before.pairs_room;
    watches = before.watches;
    first_listed = before.first_listed;
    second_listed = before.second_listed;
    few = before.few;
    each = λ i lt. ⊎_elim (λ w. inl (watched_cut n k t d _ _ _ _ _ lower _ w)) (λ h. absurd (both_ways false refl h.0)) (before.each i lt);
    units_are = λ i h. absurd (both_ways false refl h);
    falsified_is = tt;
  }

-- ---- the same under equal parts

pub same_watching : (n : ℕ) (t : List Assigned) (f : Literal) (left : List Watch) (cs cs' : List (List Literal)) (lists lists' : List (List Watch))
    (pairs pairs' : List Pair) (units units' : List ℕ) (falsified falsified' : Option ℕ)
    → cs' ≡ cs → lists' ≡ lists → pairs' ≡ pairs → units' ≡ units → falsified' ≡ falsified → IsWatching n t cs lists pairs units falsified f left
    → IsWatching n t cs' lists' pairs' units' falsified' f left
same_watching n t f left cs cs' lists lists' pairs pairs' units units' falsified falsified' ec el ep eu eq h =
    subst (λ x. IsWatching n t x lists' pairs' units' falsified' f left) (sym ec)
    (subst (λ x. IsWatching n t cs x pairs' units' falsified' f left) (sym el)
    (subst (λ x. IsWatching n t cs lists x units' falsified' f left) (sym ep)
    (subst (λ x. IsWatching n t cs lists pairs x falsified' f left) (sym eu)
    (subst (λ x. IsWatching n t cs lists pairs units x f left) (sym eq) h))))

-- one more watch in a list
pub note_map : {V W : Type 0} (g : V → List W) (zs : List V) (i j : ℕ) (old new : V) (w : W) → j < length zs → i ≡ j → g new ≡ g (get_or zs i old) ++ w ∷ []
    → map g (set zs i new) ≡ set (map g zs) j (get_or (map g zs) j [] ++ w ∷ [])
note_map g zs i j old new w low same more =
    ap (λ k. map g (set zs k new)) same ∙ map-set g zs j new
    ∙ ap (set (map g zs) j) (more ∙ ap (λ ys. ys ++ w ∷ []) (sym (get_or-map g zs j old [] low ∙ ap (λ k. g (get_or zs k old)) (sym same))))
