-- What stays of the first clauses under the oldest entries of a trail, and what is left where a state goes back to them.
use Rattle.std.proofs.Common.{◌≡◌, ℕ, zero, suc, ◌-◌, ◌<◌, ◌≤◌, Bool, true, false, cond, leb, ltb, eqb, List, [], ◌∷◌, ◌++◌, length, get_or, set, take}
use Rattle.std.proofs.Common.{drop, Option, Some, None, refl, sym, ap, ◌∙◌, subst, inl, inr, ⊎_elim, arith, append-nil}
use Rattle.std.specs.Prelude.{IfSome, IfNone}
use Rattle.std.specs.List.{AllByRecursion}
use Rattle.std.proofs.lemmas.Bool.{both_ways, cases_eq, cases_lt, false_from_ne_true, or_cases, or_left, or_right, lt-ltb, ltb-true, eqb-true}
use Rattle.std.proofs.lemmas.List.{get_or-set_same, get_or-set_other, get_or_append_left, get_or_past, get_or-take, length-take-le}
use Rattle.std.proofs.lemmas.List.Folds.{list_any-append}
use Rattle.cqe_base.specs.Literal.{Literal, opposite, same_literal, has_literal, ClausesBelow}
use Rattle.cqe_base.specs.Machine.{Assigned, assigned_literal, is_false, level, level_of, cut}
use Rattle.cqe_base.specs.MachineStates.{IsDistinct}
use Rattle.cqe_base.proofs.KeptTrails.{level_kept}
use Rattle.clause_solver.specs.declared.indexed.Indexed.{Indexed}
use Rattle.clause_solver.specs.declared.watches.Pair.{Pair}
use Rattle.clause_solver.specs.declared.watches.Watch.{Watch}
use Rattle.clause_store.specs.Codes.{code_of}
use Rattle.clause_solver.specs.Assigning.{Assigning}
use Rattle.clause_solver.specs.Beginnings.{EndsWith}
use Rattle.clause_solver.specs.Watching.{IsAnswered, satisfied, is_unit, is_falsified, IsWatched, IsWatching, IsWatchOf, WatchesBeside, HaveSameLiterals}
use Rattle.clause_solver.specs.Watching.{has_clause, has_number, is_caught, no_pair, watches_below, StaysBelow, times_listed, times_watched}
use Rattle.clause_solver.specs.WatchesInside.{units_of}
use Rattle.clause_solver.specs.Bases.{Base, StandsOn}
use Rattle.clause_solver.specs.KeptStates.{IsSettled}
use Rattle.clause_solver.proofs.Trails.{cut-low}
use Rattle.clause_solver.proofs.Listed.{below_few}
use Rattle.clause_solver.proofs.Visits.{IsNext}

-- ---- the oldest entries of a trail

-- what isn't false under a trail isn't under its oldest entries
pub open_before : (oldest t : List Assigned) (l : Literal) → EndsWith oldest t → is_false t l ≡ false → is_false oldest l ≡ false
open_before oldest t l ends h = false_from_ne_true _ (λ f. both_ways _ h (ap (λ x. is_false x l) ends.1
    ∙ list_any-append (λ a. same_literal (opposite l) (assigned_literal a)) ends.0 oldest ∙ or_right _ _ f))

-- the oldest entries of level 0 stay at a cut
pub cut_ends : (k : ℕ) (oldest latest : List Assigned) → level oldest ≡ 0 → EndsWith oldest (cut k (latest ++ oldest))
cut_ends k oldest [] zero_level = ([], cut-low k oldest (omega arith))
cut_ends k oldest (a ∷ latest) zero_level = step (leb (level (a ∷ latest ++ oldest)) k) (cut_ends k oldest latest zero_level)
  where
    step : (b : Bool) → EndsWith oldest (cut k (latest ++ oldest)) → EndsWith oldest (cond b (a ∷ latest ++ oldest) (cut k (latest ++ oldest)))
    step true ends = (a ∷ latest, refl)
    step false ends = ends

pub ends_distinct : (n : ℕ) (latest oldest : List Assigned) → IsDistinct n (latest ++ oldest) → IsDistinct n oldest
ends_distinct n [] oldest d = d
ends_distinct n (a ∷ latest) oldest d = ends_distinct n latest oldest d.2

-- one more entry goes
pub drop_latest : (a : Assigned) (t : List Assigned) (entries : ℕ) → entries ≤ length t
    → drop (length t - entries) t ≡ drop (length (a ∷ t) - entries) (a ∷ t)
drop_latest a t entries low = ap (λ k. drop k (a ∷ t)) (let e : suc (length t - entries) ≡ length (a ∷ t) - entries = omega arith in e)

pub drop_to_oldest : (latest oldest : List Assigned) (entries : ℕ) → length oldest ≡ entries
    → drop (length (latest ++ oldest) - entries) (latest ++ oldest) ≡ oldest
drop_to_oldest [] oldest entries e = ap (λ k. drop k oldest) (let z : length oldest - entries ≡ 0 = omega arith in z)
drop_to_oldest (a ∷ latest) oldest entries e =
    sym (drop_latest a (latest ++ oldest) entries (longer latest)) ∙ drop_to_oldest latest oldest entries e
  where
    longer : (xs : List Assigned) → entries ≤ length (xs ++ oldest)
    longer [] = omega arith
    longer (x ∷ xs) = let le = longer xs in omega arith

pub popped : (entries : ℕ) (old new : Assigning) (o : Option Assigned) → IfSome o (λ a. old ≡ record new { trail = a ∷ new.trail })
    → IfNone o (old.trail ≡ []) → entries < length old.trail
    → (drop (length new.trail - entries) new.trail ≡ drop (length old.trail - entries) old.trail) × (new.variables ≡ old.variables)
popped entries old new None some none lt = absurd (let e = ap length none in omega arith)
popped entries old new (Some a) some none lt = (
  drop_latest a new.trail entries (let e = ap (λ (x : Assigning). length x.trail) some in omega arith)
      ∙ ap (λ (x : Assigning). drop (length x.trail - entries) x.trail) (sym some),
  ap (λ (x : Assigning). x.variables) (sym some),
)

-- ---- clauses that are watched, of which none is unit or falsified

abbrev pub Under : List Assigned → ℕ → List (List Literal) → List Pair → Type 0
Under t count cs pairs = (i : ℕ) → i < count → IsWatched t (get_or cs i []) (get_or pairs i no_pair) false false

answered_beside : (t : List Assigned) (c : List Literal) (k : ℕ) (l m : Literal) → IsAnswered t c false false k l → IsAnswered t c false false k m
answered_beside t c k l m (satisfied h) = satisfied h
answered_beside t c k l m (is_unit e o h) = absurd (both_ways false refl h)
answered_beside t c k l m (is_falsified e h) = absurd (both_ways false refl h)

-- another literal that isn't false is watched from now on
moved_under : (t : List Assigned) (c : List Literal) (p : Pair) (f other next : Literal) → WatchesBeside p f other → has_literal c next ≡ true
    → is_false t next ≡ false → (next ≡ other → ⊥) → IsWatched t c p false false → IsWatched t c (record { first = next; second = other }) false false
moved_under t c p f other next beside has free apart w = record {
  first_in = λ _. has;
  second_in = λ pos. ⊎_elim
      (λ e. subst (λ m. has_literal c m ≡ true) e.1 (w.second_in pos))
      (λ e. subst (λ m. has_literal c m ≡ true) e.1 (w.first_in pos))
      beside;
  first_answered = λ h. absurd (both_ways _ free h);
  second_answered = λ h. ⊎_elim
      (λ e. subst (λ m. IsAnswered t c false false (level_of t m) next) e.1
      (answered_beside t c _ _ next (w.second_answered (ap (is_false t) e.1 ∙ h))))
      (λ e. subst (λ m. IsAnswered t c false false (level_of t m) next) e.1
      (answered_beside t c _ _ next (w.first_answered (ap (is_false t) e.1 ∙ h))))
      beside;
  single = λ same. absurd (apart same);
  alone = λ pos same. absurd (apart same);
  empty = w.empty;
}

pub next_under : (oldest t : List Assigned) (count j : ℕ) (cs : List (List Literal)) (pairs : List Pair) (f other next : Literal) → EndsWith oldest t
    → WatchesBeside (get_or pairs j no_pair) f other → IsNext t other (get_or cs j []) next → j < length pairs
    → Under oldest count cs pairs → Under oldest count cs (set pairs j (record { first = next; second = other }))
next_under oldest t count j cs pairs f other next ends beside found within under i low = elim (cases_eq i j) [
  | inl same ↦ subst (λ p. IsWatched oldest (get_or cs i []) p false false)
      (sym (ap (λ m. get_or (set pairs j pair) m no_pair) same ∙ get_or-set_same pairs j pair no_pair within))
      (subst (λ m. IsWatched oldest (get_or cs m []) pair false false) (sym same)
      (moved_under oldest (get_or cs j []) (get_or pairs j no_pair) f other next beside found.has (open_before oldest t next ends found.free) found.apart
      (under j (subst (λ m. m < count) same low))))
  | inr ne ↦ subst (λ p. IsWatched oldest (get_or cs i []) p false false) (sym (get_or-set_other pairs j i pair no_pair ne)) (under i low)
]
  where
    pair : Pair
    pair = record { first = next; second = other }

pub same_under : (t : List Assigned) (count : ℕ) (cs cs' : List (List Literal)) (pairs pairs' : List Pair) → cs' ≡ cs → pairs' ≡ pairs
    → Under t count cs pairs → Under t count cs' pairs'
same_under t count cs cs' pairs pairs' ec ep under i low =
    subst (λ ds. IsWatched t (get_or ds i []) (get_or pairs' i no_pair) false false) (sym ec)
    (subst (λ ps. IsWatched t (get_or cs i []) (get_or ps i no_pair) false false) (sym ep) (under i low))

-- a clause that isn't there is none of them
within_under : (t : List Assigned) (count i : ℕ) (cs : List (List Literal)) (pairs : List Pair) → Under t count cs pairs → i < count → length cs ≤ i → ⊥
within_under t count i cs pairs under low past = both_ways false refl ((under i low).empty (ap length (get_or_past cs i [] past))).1

-- one more clause
pub more_under : (t : List Assigned) (count : ℕ) (cs : List (List Literal)) (pairs : List Pair) (c : List Literal) (p : Pair) → length pairs ≡ length cs
    → Under t count cs pairs → Under t count (cs ++ c ∷ []) (pairs ++ p ∷ [])
more_under t count cs pairs c p room under i low = elim (cases_lt i (length cs)) [
  | inl lt ↦ subst (λ x. IsWatched t x (get_or (pairs ++ p ∷ []) i no_pair) false false) (sym (get_or_append_left cs (c ∷ []) [] i lt))
      (subst (λ x. IsWatched t (get_or cs i []) x false false) (sym (get_or_append_left pairs (p ∷ []) no_pair i (omega arith))) (under i low))
  | inr ge ↦ absurd (within_under t count i cs pairs under low ge)
]

-- ---- without the later clauses

take_below : (n k : ℕ) (cs : List (List Literal)) → ClausesBelow n cs → ClausesBelow n (take k cs)
take_below n zero cs h = tt
take_below n (suc k) [] h = tt
take_below n (suc k) (c ∷ cs) h = (h.0, take_below n k cs h.1)

pub same_take : (k : ℕ) (cs ds : List (List Literal)) → k ≤ length cs → HaveSameLiterals cs ds → HaveSameLiterals (take k cs) (take k ds)
same_take k cs ds low h = record {
  room = length-take-le k cs low ∙ sym (length-take-le k ds low');
  sizes = λ i. at (λ x y. length x ≡ length y) i (h.sizes i) refl;
  same = λ i l. at (λ x y. has_literal x l ≡ has_literal y l) i (h.same i l) refl;
}
  where
    low' : k ≤ length ds
    low' = let e = h.room in omega arith

    at : (R : List Literal → List Literal → Type 0) (i : ℕ) → R (get_or cs i []) (get_or ds i []) → R [] []
        → R (get_or (take k cs) i []) (get_or (take k ds) i [])
    at R i here none = elim (cases_lt i k) [
      | inl lt ↦ subst (λ x. R x (get_or (take k ds) i [])) (sym (get_or-take k cs i [] lt))
          (subst (λ y. R (get_or cs i []) y) (sym (get_or-take k ds i [] lt)) here)
      | inr ge ↦
          subst (λ x. R x (get_or (take k ds) i [])) (sym (get_or_past (take k cs) i [] (let e = length-take-le k cs low in omega arith)))
          (subst (λ y. R [] y) (sym (get_or_past (take k ds) i [] (let e = length-take-le k ds low' in omega arith))) none)
    ]

module _ (count : ℕ) where
  has_below : (ws : List Watch) (i : ℕ) → i < count → has_clause ws i ≡ true → has_clause (watches_below count ws) i ≡ true
  has_below [] i low h = h
  has_below (w ∷ ws) i low h = step (ltb w.clause count) refl (has_below ws i low)
    where
      step : (b : Bool) → ltb w.clause count ≡ b → (has_clause ws i ≡ true → has_clause (watches_below count ws) i ≡ true)
          → has_clause (cond b (w ∷ watches_below count ws) (watches_below count ws)) i ≡ true
      step true e go = ⊎_elim (λ here. or_left _ _ here) (λ there. or_right _ _ (go there)) (or_cases (eqb w.clause i) (has_clause ws i) h)
      step false e go = ⊎_elim
          (λ here. absurd (both_ways _ e (lt-ltb w.clause count (let s = eqb-true w.clause i here in omega arith))))
          go (or_cases (eqb w.clause i) (has_clause ws i) h)

  all_below : (P Q : Watch → Type 0) → ((w : Watch) → w.clause < count → P w → Q w) → (ws : List Watch) → AllByRecursion P ws
      → AllByRecursion Q (watches_below count ws)
  all_below P Q f [] h = tt
  all_below P Q f (w ∷ ws) h = step (ltb w.clause count) refl (all_below P Q f ws h.1)
    where
      step : (b : Bool) → ltb w.clause count ≡ b → AllByRecursion Q (watches_below count ws)
          → AllByRecursion Q (cond b (w ∷ watches_below count ws) (watches_below count ws))
      step true e rest = (f w (ltb-true w.clause count e) h.0, rest)
      step false e rest = rest

module _ (n : ℕ) (t oldest : List Assigned) (cs : List (List Literal)) (lists lists' : List (List Watch)) (pairs : List Pair) (units : List ℕ)
    (falsified : Option ℕ) (g : Literal) (count : ℕ) (before : IsWatching n t cs lists pairs units falsified g []) (within : count ≤ length cs)
    (under : Under oldest count cs pairs) (room : length lists' ≡ length lists)
    (kept : (l : Literal) → StaysBelow count lists lists' (code_of l)) where
  taken : length (take count cs) ≡ count
  taken = length-take-le count cs within

  low : (i : ℕ) → i < length (take count cs) → i < count
  low i lt = let e = taken in omega arith

  clause_at : (i : ℕ) → i < count → get_or (take count cs) i [] ≡ get_or cs i []
  clause_at i lt = get_or-take count cs i [] lt

  pair_at : (i : ℕ) → i < count → get_or (take count pairs) i no_pair ≡ get_or pairs i no_pair
  pair_at i lt = get_or-take count pairs i no_pair lt

  still : (i : ℕ) (l : Literal) → i < count → has_clause (get_or lists (code_of l) []) i ≡ true → has_clause (get_or lists' (code_of l) []) i ≡ true
  still i l lt h = ap (λ ws. has_clause ws i) (kept l) ∙ has_below count (get_or lists (code_of l) []) i lt h

  pub gone_back : IsWatching n oldest (take count cs) lists' (take count pairs) [] None g []
  gone_back = record {
    below = take_below n count cs before.below;
    lists_room = room ∙ before.lists_room;
    pairs_room = length-take-le count pairs (let e = before.pairs_room in omega arith) ∙ sym taken;
    watches = λ l. subst (AllByRecursion (IsWatchOf (take count cs))) (sym (kept l))
        (all_below count (IsWatchOf cs) (IsWatchOf (take count cs)) (λ w lt h. record {
          within = let e = taken in omega arith;
          blocker = ap (λ c. has_literal c w.blocker) (clause_at w.clause lt) ∙ h.blocker;
        }) (get_or lists (code_of l) []) (before.watches l));
    first_listed = λ i lt pos. subst (λ p. has_clause (get_or lists' (code_of p.first) []) i ≡ true) (sym (pair_at i (low i lt)))
        (still i _ (low i lt) (before.first_listed i (let a = low i lt in omega arith) (subst (λ c. 0 < length c) (clause_at i (low i lt)) pos)));
    second_listed = λ i lt pos. subst (λ p. has_clause (get_or lists' (code_of p.second) []) i ≡ true) (sym (pair_at i (low i lt)))
        (still i _ (low i lt) (before.second_listed i (let a = low i lt in omega arith) (subst (λ c. 0 < length c) (clause_at i (low i lt)) pos)));
    few = λ i l lt. subst (λ p. times_listed (get_or lists' (code_of l) []) i ≤ times_watched p l) (sym (pair_at i (low i lt)))
        (subst (λ zs. times_listed zs i ≤ times_watched (get_or pairs i no_pair) l) (sym (kept l))
        (below_few count (get_or lists (code_of l) []) i (times_watched (get_or pairs i no_pair) l)
        (before.few i l (let a = low i lt in omega arith))));
    each = λ i lt. inl (subst (λ c. IsWatched oldest c (get_or (take count pairs) i no_pair) false false) (sym (clause_at i (low i lt)))
        (subst (λ p. IsWatched oldest (get_or cs i []) p false false) (sym (pair_at i (low i lt))) (under i (low i lt))));
    units_are = λ i h. absurd (both_ways false refl h);
    falsified_is = tt;
  }

-- ---- a settled state stands on all of its clauses and entries

abbrev pub base_of : Indexed → Base
base_of s = record { clauses = s.clauses; trail = s.assignment.trail }

pub stands_on_all : (s : Indexed) → IsSettled s → StandsOn (base_of s) s
stands_on_all s h = (
  ([], sym (append-nil s.clauses)),
  ([], refl),
  level_kept s.clauses s.assignment.trail h.state.kept,
  λ i lt. ⊎_elim
      (λ w. subst (λ b. IsWatched s.assignment.trail (get_or s.watches.sorted i []) (get_or s.watches.pairs.items i no_pair) b false)
      (ap (λ us. has_number us i) h.no_units)
      (subst (λ b. IsWatched s.assignment.trail (get_or s.watches.sorted i []) (get_or s.watches.pairs.items i no_pair)
      (has_number (units_of s.watches) i) b) (ap (λ o. is_caught o i) h.no_falsified) w))
      (λ w. absurd (both_ways false refl w.0))
      (h.state.indexed.looked.watches.each i (let e = h.state.indexed.looked.same.room in omega arith)),
)
