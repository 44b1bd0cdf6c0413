-- What a look at one watch leaves, by what was found.
use Rattle.std.proofs.Common.{◌≡◌, ℕ, ◌<◌, ◌≤◌, min, Bool, true, false, cond, not, ◌&&◌, ◌||◌, eqb, List, [], ◌∷◌, ◌++◌, length, get_or, set, Option, Some}
use Rattle.std.proofs.Common.{None, refl, sym, ap, ◌∙◌, subst, inl, inr, ⊎_elim, arith}
use Rattle.std.specs.Prelude.{IfSome}
use Rattle.std.specs.List.{find, list_all}
use Rattle.std.proofs.lemmas.Bool.{both_ways, cases_lt, or_cases, or_left, or_right, eq-eqb, eqb-true, and_parts, and_from, not-true, le-leb, leb-true}
use Rattle.std.proofs.lemmas.List.Sums.{length-filter, count_by-le-length}
use Rattle.cqe_base.specs.Literal.{Literal, same_literal, has_literal}
use Rattle.cqe_base.specs.Machine.{Assigned, is_true, is_false, level, level_of}
use Rattle.cqe_base.proofs.ClauseTruth.{same_literal-true, same_literal-same}
use Rattle.cqe_base.proofs.Trails.{level_of-le}
use Rattle.cqe_base.proofs.Conflicts.{two_kept}
use Rattle.clause_solver.specs.declared.watches.Pair.{Pair}
use Rattle.clause_solver.specs.declared.watches.Watch.{Watch}
use Rattle.clause_store.specs.Codes.{code_of}
use Rattle.clause_solver.specs.Watching.{IsWatched, IsHalfWatched, IsWatching, IsWatchOf, WatchesBeside, AllFalseBut, has_number, has_clause, is_caught, lowest}
use Rattle.clause_solver.specs.Watching.{no_pair}
use Rattle.clause_solver.proofs.Watching.{watched_half, looked_true, looked_unit, looked_falsified, looked_moved, half_turned, watched_turned, half_more}
use Rattle.clause_solver.proofs.Looks.{watch_of, looked_watch, looked_kept, looked_gone, looked_stale}

-- ---- the least falsified clause

pub lowest_more : (o : Option ℕ) (j i : ℕ) → is_caught o i ≡ true → is_caught (lowest o j) i ≡ true
lowest_more None j i h = absurd (both_ways false refl h)
lowest_more (Some m) j i h = let le = leb-true m i h in le-leb (min m j) i (omega arith)

pub lowest_caught : (o : Option ℕ) (j : ℕ) → is_caught (lowest o j) j ≡ true
lowest_caught None j = le-leb j j (omega arith)
lowest_caught (Some m) j = le-leb (min m j) j (omega arith)

pub lowest_is : (P : ℕ → Type 0) (o : Option ℕ) (j : ℕ) → IfSome o P → P j → IfSome (lowest o j) P
lowest_is P None j h p = p
lowest_is P (Some m) j h p = elim (cases_lt m j) [
  | inl lt ↦ subst P (let e : m ≡ min m j = omega arith in e) h
  | inr ge ↦ subst P (let e : j ≡ min m j = omega arith in e) p
]

-- ---- literals of a clause

pub not_empty : (c : List Literal) (l : Literal) → has_literal c l ≡ true → 0 < length c
not_empty [] l h = absurd (both_ways false refl h)
not_empty (x ∷ c) l h = omega arith

two_in : (a b : Literal) (c : List Literal) → has_literal c a ≡ true → has_literal c b ≡ true → (a ≡ b → ⊥) → 2 ≤ length c
two_in a b c ha hb ne =
    let two = two_kept (λ m. true) a b c ha hb ne refl refl in
    let e = length-filter (λ m. true) c in
    let le = count_by-le-length (λ m. true) c in
    omega arith

-- a literal that is found beside another one
pub record IsNext (t : List Assigned) (other : Literal) (c : List Literal) (l : Literal) : Type 0 where
  pub has : has_literal c l ≡ true
  pub free : is_false t l ≡ false
  pub apart : l ≡ other → ⊥

abbrev pub next_test : List Assigned → Literal → Literal → Bool
next_test t other l = not (is_false t l) && not (same_literal l other)

next_is : (t : List Assigned) (other : Literal) (c : List Literal) (l : Literal) → next_test t other l ≡ true → has_literal c l ≡ true → IsNext t other c l
next_is t other c l h m =
    let parts : (not (is_false t l) ≡ true) × (not (same_literal l other) ≡ true) = and_parts _ _ h in
    record {
      has = m;
      free = not-true _ parts.0;
      apart = λ same. both_ways _ (not-true _ parts.1) (subst (λ x. same_literal l x ≡ true) same (same_literal-same l));
    }

pub found_next : (t : List Assigned) (other : Literal) (c : List Literal) (l : Literal) → find (next_test t other) c ≡ Some l → IsNext t other c l
found_next t other [] l h = absurd (let x : ⊥ = cc in x)
found_next t other (x ∷ c) l h = step (next_test t other x) refl (λ e. found_next t other c l e) h
  where
    step : (b : Bool) → next_test t other x ≡ b → (find (next_test t other) c ≡ Some l → IsNext t other c l)
        → cond b (Some x) (find (next_test t other) c) ≡ Some l → IsNext t other (x ∷ c) l
    step true e go h = let same : x ≡ l = cc in subst (IsNext t other (x ∷ c)) same (next_is t other (x ∷ c) x e (or_left _ _ (same_literal-same x)))
    step false e go h = let r = go h in record { has = or_right _ _ r.has; free = r.free; apart = r.apart }

pub none_next : (t : List Assigned) (other : Literal) (c : List Literal) → find (next_test t other) c ≡ None → AllFalseBut t other c
none_next t other [] h = tt
none_next t other (x ∷ c) h = step (is_false t x) (same_literal x other) refl refl (λ e. none_next t other c e) h
  where
    step : (b d : Bool) → is_false t x ≡ b → same_literal x other ≡ d → (find (next_test t other) c ≡ None → AllFalseBut t other c)
        → cond (not b && not d) (Some x) (find (next_test t other) c) ≡ None → AllFalseBut t other (x ∷ c)
    step true d e g go h = (inr e, go h)
    step false true e g go h = (inl (same_literal-true x other g), go h)
    step false false e g go h = absurd (let y : ⊥ = cc in y)

pub all_but_false : (t : List Assigned) (other : Literal) (c : List Literal) → is_false t other ≡ true → AllFalseBut t other c → list_all (is_false t) c ≡ true
all_but_false t other [] f h = refl
all_but_false t other (x ∷ c) f h = and_from _ _ (⊎_elim (λ e. ap (is_false t) e ∙ f) (λ e. e) h.0) (all_but_false t other c f h.1)

-- ---- the watched literals by the one that is false and the other one

module _ (t : List Assigned) (c : List Literal) (f other : Literal) (p : Pair) (beside : WatchesBeside p f other) (u q : Bool) where
  turn_half : IsHalfWatched t c p u q f → IsHalfWatched t c (record { first = f; second = other }) u q f
  turn_half h =
      ⊎_elim (λ e. subst (λ x. IsHalfWatched t c x u q f) (λ i. record { first = e.0 i; second = e.1 i }) h)
      (λ e. half_turned t c other f u q f (subst (λ x. IsHalfWatched t c x u q f) (λ i. record { first = e.1 i; second = e.0 i }) h))
      beside

  turn_watched : IsWatched t c (record { first = f; second = other }) u q → IsWatched t c p u q
  turn_watched w =
      ⊎_elim (λ e. subst (λ x. IsWatched t c x u q) (sym (λ i. record { first = e.0 i; second = e.1 i })) w)
      (λ e. subst (λ x. IsWatched t c x u q) (sym (λ i. record { first = e.1 i; second = e.0 i })) (watched_turned t c f other u q w))
      beside

  half_from_watched : IsWatched t c p u q → IsHalfWatched t c p u q f
  half_from_watched w = watched_half t c p u q f (⊎_elim (λ e. inl e.0) (λ e. inr e.0) beside) w

-- ---- one look

module _ (n : ℕ) (t : List Assigned) (cs : List (List Literal)) (lists : List (List Watch)) (pairs : List Pair) (units : List ℕ) (falsified : Option ℕ)
    (f : Literal) (current : level_of t f ≡ level t) (j : ℕ) (b : Literal) (low : code_of f < length lists)
    (kept rest : List Watch)
    (before : IsWatching n t cs (set lists (code_of f) (kept ++ watch_of j b ∷ rest)) pairs units falsified f (watch_of j b ∷ rest)) where
  abbrev c : List Literal
  c = get_or cs j []

  abbrev p : Pair
  p = get_or pairs j no_pair

  abbrev u : Bool
  u = has_number units j

  abbrev q : Bool
  q = is_caught falsified j

  watch : IsWatchOf cs (watch_of j b)
  watch = looked_watch n t cs lists pairs units falsified f kept rest j b low before

  positive : 0 < length c
  positive = not_empty c b watch.blocker

  -- a true literal keeps the clause
  pub visited_true : (m b' : Literal) → has_literal c m ≡ true → is_true t m ≡ true → has_literal c b' ≡ true
      → IsWatching n t cs (set lists (code_of f) ((kept ++ watch_of j b' ∷ []) ++ rest)) pairs units falsified f rest
  visited_true m b' has holds has' =
      looked_kept n t cs lists pairs units falsified f kept rest j b low before units falsified b' (λ i e. e) (λ i e. e)
      (⊎_elim (λ w. w) (λ h. looked_true t c f current p u q (record { literal = m; has = has; holds = holds; low = level_of-le t m }) h.1)
      (before.each j watch.within))
      before.units_are before.falsified_is has'

  pub visited_blocker : is_true t b ≡ true → IsWatching n t cs (set lists (code_of f) ((kept ++ watch_of j b ∷ []) ++ rest)) pairs units falsified f rest
  visited_blocker holds = visited_true b b watch.blocker holds watch.blocker

  -- the clause watches other literals
  pub visited_stale : (p.first ≡ f → ⊥) × (p.second ≡ f → ⊥) → IsWatching n t cs (set lists (code_of f) (kept ++ rest)) pairs units falsified f rest
  visited_stale free =
      looked_stale n t cs lists pairs units falsified f kept rest j b low before
      (⊎_elim (λ w. w) (λ h. absurd (⊎_elim (λ e. free.0 e) (λ e. free.1 e) h.1.watches)) (before.each j watch.within))
      (λ _. free)

  module _ (other : Literal) (beside : WatchesBeside p f other) where
    half : IsHalfWatched t c (record { first = f; second = other }) u q f
    half = turn_half t c f other p beside u q (⊎_elim (λ w. half_from_watched t c f other p beside u q w) (λ h. h.1) (before.each j watch.within))

    pub other_in : has_literal c other ≡ true
    other_in = half.second_in positive

    pub visited_other : is_true t other ≡ true
        → IsWatching n t cs (set lists (code_of f) ((kept ++ watch_of j other ∷ []) ++ rest)) pairs units falsified f rest
    visited_other holds = visited_true other other other_in holds other_in

    -- no other literal is open but perhaps the other one
    module _ (only : AllFalseBut t other c) where
      pub visited_unit : is_false t other ≡ false → (units' : List ℕ) → ((i : ℕ) → has_number units' i ≡ (has_number units i || eqb j i))
          → IsWatching n t cs (set lists (code_of f) ((kept ++ watch_of j other ∷ []) ++ rest)) pairs units' falsified f rest
      visited_unit free units' are =
          looked_kept n t cs lists pairs units falsified f kept rest j b low before units' falsified other
          (λ i h. are i ∙ or_left _ _ h) (λ i e. e)
          (turn_watched t c f other p beside (has_number units' j) q
          (looked_unit t c f current other (has_number units' j) q known free
          (half_more t c _ u q (has_number units' j) q f (λ h. are j ∙ or_left _ _ h) (λ h. h) half)))
          (λ i h. ⊎_elim (λ e. before.units_are i e) (λ e. let same : j ≡ i = eqb-true j i e in
          (subst (λ m. m < length cs) same watch.within, other, subst (λ m. AllFalseBut t other (get_or cs m [])) same only))
          (or_cases (has_number units i) (eqb j i) (sym (are i) ∙ h)))
          before.falsified_is other_in
        where
          known : has_number units' j ≡ true
          known = are j ∙ or_right _ _ (eq-eqb j j refl)

      pub visited_falsified : is_false t other ≡ true
          → IsWatching n t cs (set lists (code_of f) ((kept ++ watch_of j other ∷ []) ++ rest)) pairs units (lowest falsified j) f rest
      visited_falsified false_now =
          looked_kept n t cs lists pairs units falsified f kept rest j b low before units (lowest falsified j) other
          (λ i e. e) (λ i e. lowest_more falsified j i e)
          (turn_watched t c f other p beside u (is_caught (lowest falsified j) j)
          (looked_falsified t c f current other u (is_caught (lowest falsified j) j) (lowest_caught falsified j)
          (half_more t c _ u q u (is_caught (lowest falsified j) j) f (λ h. h) (λ h. lowest_more falsified j j h) half)))
          before.units_are
          (lowest_is (λ i. (i < length cs)
          × (list_all (is_false t) (get_or cs i []) ≡ true)) falsified j before.falsified_is (watch.within, all_but_false t other c false_now only))
          other_in

    -- another literal is open
    module _ (next : Literal) (found : IsNext t other c next) (false_now : is_false t f ≡ true) (room : code_of next < length lists) where
      next_apart : next ≡ f → ⊥
      next_apart e = both_ways _ found.free (ap (is_false t) e ∙ false_now)

      other_apart : other ≡ f → ⊥
      other_apart e = let two = two_in next other c found.has other_in found.apart in let one = half.single (sym e) in omega arith

      listed : has_clause (get_or (set lists (code_of f) (kept ++ watch_of j b ∷ rest)) (code_of other) []) j ≡ true
      listed = ⊎_elim
          (λ e. subst (λ l. has_clause (get_or (set lists (code_of f) (kept ++ watch_of j b ∷ rest)) (code_of l) []) j
          ≡ true) e.1 (before.second_listed j watch.within positive))
          (λ e. subst (λ l. has_clause (get_or (set lists (code_of f) (kept ++ watch_of j b ∷ rest)) (code_of l) []) j
          ≡ true) e.1 (before.first_listed j watch.within positive))
          beside

      pub visited_next : IsWatching n t cs (set (set lists (code_of next) (get_or lists (code_of next) [] ++ watch_of j other ∷ [])) (code_of f) (kept ++ rest))
          (set pairs j (record { first = next; second = other })) units falsified f rest
      visited_next =
          looked_gone n t cs lists pairs units falsified f kept rest j b low before next other room next_apart other_apart other_in listed
          (looked_moved t c f current other u q next found.has found.free found.apart (λ e. other_apart (sym e)) half) beside
