-- The first of some things that has a name, where one is changed in its place.
use Rattle.std.proofs.Common.{◌≡◌, ℕ, suc, ◌+◌, Bool, true, false, Some, None, List, [], ◌∷◌, get_or, refl, sym, ap, subst, ◌∙◌, arith}
use Rattle.std.specs.Prelude.{bytes_eq, position, cond, slice_set, if◌then◌else◌}
use Rattle.std.specs.List.{position_from}
use Rattle.std.specs.Cmp.Lexicographic.{same_text}
use Rattle.std.proofs.lemmas.Iterator.Adapters.{position_from-zero}
use Rattle.standby_core.specs.Named.{first_named}

-- who has a name hasn't another
other_name : (own wanted other : List ℕ) → bytes_eq own wanted ≡ true → bytes_eq other wanted ≡ false → bytes_eq own other ≡ false
other_name own wanted other same differs = by (bytes_eq own other) refl
  where
    by : (b : Bool) → bytes_eq own other ≡ b → b ≡ false
    by false is = refl
    by true is =
        let other_is : own ≡ other = same_text own other (sym is) in
        let clash : true ≡ false = sym same ∙ ap (λ n. bytes_eq n wanted) other_is ∙ differs in
        absurd cc

-- this one stands at a place, and is the first of which a test holds
pub data Stands {X : Type 0} (has : X → Bool) : List X → ℕ → X → Type 0 where
  here : (x : X) (xs : List X) → has x ≡ true → Stands has (x ∷ xs) 0 x
  further : (y x : X) (xs : List X) (place : ℕ) → has y ≡ false → Stands has xs place x → Stands has (y ∷ xs) (suc place) x

module _ {X : Type 0} (name : X → List ℕ) (wanted : List ℕ) where
  abbrev has_it : X → Bool
  has_it x = bytes_eq (name x) wanted

  -- the first one of this name stands at a place, and what is put there with its name is the first one then
  pub record IsAt (xs : List X) (place : ℕ) (x : X) : Type 0 where
    pub stands : Stands has_it xs place x
    pub is_first : first_named name xs wanted ≡ Some x
    pub set : (y : X) → name y ≡ name x → first_named name (slice_set xs place y) wanted ≡ Some y
    pub others : (y : X) → name y ≡ name x → (one : List ℕ) → bytes_eq one wanted ≡ false
        → first_named name (slice_set xs place y) one ≡ first_named name xs one

  at_front : (x : X) (xs : List X) → has_it x ≡ true → IsAt (x ∷ xs) 0 x
  at_front x xs is = record {
    stands = here x xs is;
    is_first = ap (λ b. if b then Some x else first_named name xs wanted) is;
    set = λ y same. ap (λ b. if b then Some y else first_named name xs wanted) (ap (λ n. bytes_eq n wanted) same ∙ is);
    others = λ y same one differs.
        let misses = other_name (name x) wanted one is differs in
        ap (λ b. if b then Some y else first_named name xs one) (ap (λ n. bytes_eq n one) same ∙ misses)
        ∙ sym (ap (λ b. if b then Some x else first_named name xs one) misses);
  }

  at_next : (x y : X) (xs : List X) (place : ℕ) → has_it x ≡ false → IsAt xs place y → IsAt (x ∷ xs) (suc place) y
  at_next x y xs place miss at = record {
    stands = further x y xs place miss at.stands;
    is_first = ap (λ b. if b then Some x else first_named name xs wanted) miss ∙ at.is_first;
    set = λ z same. ap (λ b. if b then Some x else first_named name (slice_set xs place z) wanted) miss ∙ at.set z same;
    others = λ z same one differs. ap (λ r. if bytes_eq (name x) one then Some x else r) (at.others z same one differs);
  }

  -- the search from a place on finds it there
  found_from : (xs : List X) (i found : ℕ) (other : X) → position_from has_it i xs ≡ Some found
      → (k : ℕ) × (found ≡ i + k) × IsAt xs k (get_or xs k other)
  found_from [] i found other is = absurd cc
  found_from (x ∷ xs) i found other is = by (has_it x) refl (found_from xs (i + 1) found other) is
    where
      by : (b : Bool) → has_it x ≡ b
          → (position_from has_it (i + 1) xs ≡ Some found → (k : ℕ) × (found ≡ (i + 1) + k) × IsAt xs k (get_or xs k other))
          → cond b (Some i) (position_from has_it (i + 1) xs) ≡ Some found
          → (k : ℕ) × (found ≡ i + k) × IsAt (x ∷ xs) k (get_or (x ∷ xs) k other)
      by true it on is = let same : i ≡ found = cc in (0, omega (arith, same), at_front x xs it)
      by false miss on is =
          let later = on is in
          (suc later.0, omega (arith, later.1), at_next x (get_or xs later.0 other) xs later.0 miss later.2)

  none_from : (xs : List X) (i : ℕ) → position_from has_it i xs ≡ None → first_named name xs wanted ≡ None
  none_from [] i is = refl
  none_from (x ∷ xs) i is = by (has_it x) (none_from xs (i + 1)) is
    where
      by : (b : Bool) → (position_from has_it (i + 1) xs ≡ None → first_named name xs wanted ≡ None)
          → cond b (Some i) (position_from has_it (i + 1) xs) ≡ None → (if b then Some x else first_named name xs wanted) ≡ None
      by true on is = absurd cc
      by false on is = on is

  pub found : (xs : List X) (place : ℕ) (x : X) → Some place ≡ position has_it xs → x ≡ get_or xs place x → IsAt xs place x
  found xs place x is at_place =
      let at = found_from xs 0 place x (sym (is ∙ position_from-zero has_it xs)) in
      let same : at.0 ≡ place = omega (arith, at.1) in
      subst (λ y. IsAt xs place y) (sym at_place) (subst (λ k. IsAt xs k (get_or xs k x)) same at.2)

  pub not_found : (xs : List X) → None ≡ position has_it xs → first_named name xs wanted ≡ None
  not_found xs is = none_from xs 0 (sym (is ∙ position_from-zero has_it xs))
