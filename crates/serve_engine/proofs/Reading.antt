-- Lists that are read item by item, while others grow with them.
use Rattle.std.proofs.Common.{◌≡◌, ℕ, ◌<◌, ◌≤◌, List, [], ◌∷◌, ◌++◌, length, map, sym, ap, ◌∙◌, append_assoc, append-nil, arith}
use Rattle.std.specs.Prelude.{slice_index_or, remove}
use Rattle.std.proofs.lemmas.List.{map-append, length-map}
use Rattle.worker_pool.proofs.Seating.{read_more, read_all}

module _ {X Y : Type 0} (f : X → Y) where
  -- one more was read, and something of it appended
  pub grown : (ys new : List Y) (read : List X) (x : X) → new ≡ ys ++ f x ∷ [] → ys ≡ map f read → new ≡ map f (read ++ x ∷ [])
  grown ys new read x added so_far = added ∙ ap (λ (l : List Y). l ++ f x ∷ []) so_far ∙ sym (map-append f read (x ∷ []))

  -- so there is still room in a list with room for all
  pub room_left : (ys : List Y) (all read left rest : List X) (x : X) (len room : ℕ) → ys ≡ map f read → read ++ left ≡ all → left ≡ x ∷ rest → len ≡ length ys
      → length all ≤ room → len < room
  room_left ys all read left rest x len room so_far is next counted enough =
      let less = read_more all read left rest x is next in
      let many = ap length so_far ∙ length-map read f in
      omega (arith, less, many, counted, enough)

  -- in the end all was read
  pub grown_all : (ys : List Y) (all read left : List X) → ys ≡ map f read → read ++ left ≡ all → length left ≡ 0 → ys ≡ map f all
  grown_all ys all read left so_far is none = so_far ∙ ap (map f) (read_all all read left is none)

-- the first of a list, which is removed
pub taken_first : {X : Type 0} (xs : List X) (x : X) (rest : List X) → 0 < length xs → x ≡ slice_index_or xs 0 x → rest ≡ remove xs 0 → xs ≡ x ∷ rest
taken_first [] x rest some is removed = absurd (omega (arith, some))
taken_first (y ∷ ys) x rest some is removed = ap (λ z. z ∷ ys) (sym is) ∙ ap (λ l. x ∷ l) (sym removed)

module _ {X Y : Type 0} (f : X → Y) where
  -- one more was put together, and of what was left the first is gone
  pub returned : (xs new : List X) (x : X) (left rest all : List Y) (y : Y) → new ≡ xs ++ x ∷ [] → f x ≡ y → left ≡ y ∷ rest → map f xs ++ left ≡ all
      → map f new ++ rest ≡ all
  returned xs new x left rest all y added is next so_far =
      ap (λ (l : List X). map f l ++ rest) added ∙ ap (λ (l : List Y). l ++ rest) (map-append f xs (x ∷ []) ∙ ap (λ z. map f xs ++ z ∷ []) is)
      ∙ append_assoc (map f xs) (y ∷ []) rest ∙ ap (λ (l : List Y). map f xs ++ l) (sym next) ∙ so_far

  pub regrown : (xs new : List X) (x : X) (ys : List Y) (y : Y) → new ≡ xs ++ x ∷ [] → f x ≡ y → map f xs ≡ ys → map f new ≡ ys ++ y ∷ []
  regrown xs new x ys y added is so_far =
      ap (map f) added ∙ map-append f xs (x ∷ []) ∙ ap (λ z. map f xs ++ z ∷ []) is ∙ ap (λ (l : List Y). l ++ y ∷ []) so_far

  -- in the end nothing is left
  pub returned_all : (xs : List X) (left all : List Y) → length left ≡ 0 → map f xs ++ left ≡ all → map f xs ≡ all
  returned_all xs [] all none so_far = sym (append-nil (map f xs)) ∙ so_far
  returned_all xs (y ∷ left) all none so_far = absurd (omega (arith, none))
