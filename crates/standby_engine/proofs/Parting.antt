-- Places that are taken apart, and disks with their names.
use Rattle.std.proofs.Common.{◌≡◌, ◌+◌, ◌<◌, ◌≤◌, List, [], ◌∷◌, ◌++◌, length, map, refl, sym, ap, ◌∙◌, append_assoc, append-nil, arith}
use Rattle.std.specs.Prelude.{slice_index_or, remove, string_bytes}
use Rattle.std.proofs.lemmas.List.{map-append}
use Rattle.standby_engine.specs.Opened.{opened_in, names_in, others_in}
use Rattle.standby_engine.specs.declared.opening.Place.{Place}
use Rattle.standby_engine.specs.declared.opening.Place.TheVariants.{Opened, Refused}

module _ {D : Type 0} {g : _} where
  pub journals_more : (xs ys : List (Place D g)) → opened_in (xs ++ ys) ≡ opened_in xs ++ opened_in ys
  journals_more [] ys = refl
  journals_more (Opened journal held ∷ xs) ys = ap (λ l. held ∷ l) (journals_more xs ys)
  journals_more (Refused journal disk why ∷ xs) ys = journals_more xs ys

  pub names_more : (xs ys : List (Place D g)) → names_in (xs ++ ys) ≡ names_in xs ++ names_in ys
  names_more [] ys = refl
  names_more (Opened journal held ∷ xs) ys = ap (λ l. string_bytes journal ∷ l) (names_more xs ys)
  names_more (Refused journal disk why ∷ xs) ys = names_more xs ys

  pub others_more : (xs ys : List (Place D g)) → others_in (xs ++ ys) ≡ others_in xs ++ others_in ys
  others_more [] ys = refl
  others_more (Opened journal held ∷ xs) ys = others_more xs ys
  others_more (Refused journal disk why ∷ xs) ys = ap (λ l. record { journal = journal; disk = disk } ∷ l) (others_more xs ys)

  -- they are no more than the places
  pub journals_few : (xs : List (Place D g)) → length (opened_in xs) ≤ length xs
  journals_few [] = omega arith
  journals_few (Opened journal held ∷ xs) = omega (arith, journals_few xs)
  journals_few (Refused journal disk why ∷ xs) = omega (arith, journals_few xs)

  pub names_few : (xs : List (Place D g)) → length (names_in xs) ≤ length xs
  names_few [] = omega arith
  names_few (Opened journal held ∷ xs) = omega (arith, names_few xs)
  names_few (Refused journal disk why ∷ xs) = omega (arith, names_few xs)

  pub others_few : (xs : List (Place D g)) → length (others_in xs) ≤ length xs
  others_few [] = omega arith
  others_few (Opened journal held ∷ xs) = omega (arith, others_few xs)
  others_few (Refused journal disk why ∷ xs) = omega (arith, others_few xs)

  -- each place is one or the other
  pub each_parted : (xs : List (Place D g)) → length xs ≡ length (others_in xs) + length (opened_in xs)
  each_parted [] = omega arith
  each_parted (Opened journal held ∷ xs) = omega (arith, each_parted xs)
  each_parted (Refused journal disk why ∷ xs) = omega (arith, each_parted xs)

  pub names_many : (xs : List (Place D g)) → length (names_in xs) ≡ length (opened_in xs)
  names_many [] = refl
  names_many (Opened journal held ∷ xs) = omega (arith, names_many xs)
  names_many (Refused journal disk why ∷ xs) = names_many xs

-- the first of a list, which is removed
pub taken_first : {X : Type 0} (xs : List X) (x : X) (rest : List X) → 0 < length xs → x ≡ slice_index_or xs 0 x → rest ≡ remove xs 0 → xs ≡ x ∷ rest
taken_first [] x rest some is removed = absurd (omega (arith, some))
taken_first (y ∷ ys) x rest some is removed = ap (λ z. z ∷ ys) (sym is) ∙ ap (λ l. x ∷ l) (sym removed)

module _ {X Y Z : Type 0} (f : X → Z) (h : Y → Z) where
  -- what goes from the front of one list to the end of another changes nothing of both
  pub moved : (xs new : List X) (x : X) (ys rest : List Y) (y : Y) (all : List Z) → new ≡ xs ++ x ∷ [] → ys ≡ y ∷ rest → f x ≡ h y
      → map f xs ++ map h ys ≡ all → map f new ++ map h rest ≡ all
  moved xs new x ys rest y all added first is so_far =
      ap (λ (l : List X). map f l ++ map h rest) added
      ∙ ap (λ (l : List Z). l ++ map h rest) (map-append f xs (x ∷ []) ∙ ap (λ z. map f xs ++ z ∷ []) is)
      ∙ append_assoc (map f xs) (h y ∷ []) (map h rest)
      ∙ ap (λ (l : List Y). map f xs ++ map h l) (sym first) ∙ so_far

  pub moved_all : (xs : List X) (ys : List Y) (all : List Z) → length ys ≡ 0 → map f xs ++ map h ys ≡ all → map f xs ≡ all
  moved_all xs [] all none so_far = sym (append-nil (map f xs)) ∙ so_far
  moved_all xs (y ∷ ys) all none so_far = absurd (omega (arith, none))

-- something of each grows by one
pub joined : {X Y Z : Type 0} (f : X → Z) (h : Y → Z) (xs new : List X) (x : X) (front : List Z) (ys : List Y) (y : Y) → new ≡ xs ++ x ∷ [] → f x ≡ h y
    → map f xs ≡ front ++ map h ys → map f new ≡ front ++ map h (ys ++ y ∷ [])
joined f h xs new x front ys y added is so_far =
    ap (map f) added ∙ map-append f xs (x ∷ []) ∙ (λ i. so_far i ++ is i ∷ []) ∙ append_assoc front (map h ys) (h y ∷ [])
    ∙ ap (λ l. front ++ l) (sym (map-append h ys (y ∷ [])))
