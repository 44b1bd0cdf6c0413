-- Lists that stand in one list: which part has which number, and how parts come and go.
use Rattle.std.proofs.Common.{◌≡◌, ℕ, zero, suc, ◌+◌, ◌-◌, ◌<◌, ◌≤◌, List, [], ◌∷◌, ◌++◌, length, take, drop, refl, sym, ap, ◌∙◌, arith, length-drop}
use Rattle.std.specs.Prelude.{slice_range, slice_index_or}
use Rattle.std.proofs.Math.Seq.{drop-append_seam}
use Rattle.std.proofs.Math.ListN.{length-take}
use Rattle.std.proofs.lemmas.List.{take-append-le, drop-append-le, take-append-drop}
use Rattle.cqe_base.specs.Literal.{Literal}
use Rattle.clause_store.specs.declared.clauses.Clauses.TheInside.{Inside}
use Rattle.clause_store.specs.Ends.{parts_from, Ascends, start_of}

pub length-parts : {X : Type 0} (from : ℕ) (ends : List ℕ) (xs : List X) → length (parts_from from ends xs) ≡ length ends
length-parts from [] xs = refl
length-parts from (end ∷ ends) xs = ap suc (length-parts end ends xs)

-- how many parts a value of these fields has
pub length-view : (a : Inside) (v : List (List Literal)) → parts_from 0 a.ends.items a.literals.items ≡ v → length v ≡ length a.ends.items
length-view a v is = ap length (sym is) ∙ length-parts 0 a.ends.items a.literals.items

-- a part is what stands between its start and its end
pub part_at : {X : Type 0} (from : ℕ) (ends : List ℕ) (xs : List X) (number : ℕ) (d : List X) → number < length ends
    → slice_index_or (parts_from from ends xs) number d ≡ slice_range xs (start_of from ends number) (slice_index_or ends number 0)
part_at from [] xs number d low = absurd (omega arith)
part_at from (end ∷ ends) xs zero d low = refl
part_at from (end ∷ ends) xs (suc number) d low = part_at end ends xs number d (omega arith)

-- a part starts before its end, within the list
pub record IsPlaced (start end n : ℕ) : Type 0 where
  pub ordered : start ≤ end
  pub within : end ≤ n

pub ascends-within : (from : ℕ) (ends : List ℕ) (n : ℕ) → Ascends from ends n → from ≤ n
ascends-within from [] n h = omega arith
ascends-within from (end ∷ ends) n h = let low = h.0 in let rest = ascends-within end ends n h.1 in omega arith

pub part_placed : (from : ℕ) (ends : List ℕ) (n number : ℕ) → Ascends from ends n → number < length ends
    → IsPlaced (start_of from ends number) (slice_index_or ends number 0) n
part_placed from [] n number h low = absurd (omega arith)
part_placed from (end ∷ ends) n zero h low = record { ordered = h.0; within = ascends-within end ends n h.1 }
part_placed from (end ∷ ends) n (suc number) h low = part_placed end ends n number h.1 (omega arith)

pub start-within : (from : ℕ) (ends : List ℕ) (n number : ℕ) → Ascends from ends n → start_of from ends number ≤ n
start-within from ends n zero h = ascends-within from ends n h
start-within from [] n (suc number) h = ascends-within from [] n h
start-within from (end ∷ ends) n (suc number) h = start-within end ends n number h.1

-- a part starts where the one before it ends
pub start_is_end : (from : ℕ) (ends : List ℕ) (number : ℕ) → number < length ends → slice_index_or ends number 0 ≡ start_of from ends (suc number)
start_is_end from [] number low = absurd (omega arith)
start_is_end from (end ∷ ends) zero low = refl
start_is_end from (end ∷ ends) (suc number) low = start_is_end end ends number (omega arith)

-- a part of a longer list
pub part_of_append : {X : Type 0} (xs ys : List X) (start end : ℕ) → start ≤ end → end ≤ length xs → slice_range (xs ++ ys) start end ≡ slice_range xs start end
part_of_append xs ys start end ordered within =
    ap (take (end - start)) (drop-append-le start xs ys (omega arith))
    ∙ take-append-le (end - start) (drop start xs) ys (let e = length-drop start xs in omega arith)

take_all : {X : Type 0} (xs : List X) → take (length xs) xs ≡ xs
take_all [] = refl
take_all (x ∷ xs) = ap (λ ys. x ∷ ys) (take_all xs)

parts_of_append : {X : Type 0} (from : ℕ) (ends : List ℕ) (n : ℕ) (xs ys : List X) → n ≤ length xs → Ascends from ends n
    → parts_from from ends (xs ++ ys) ≡ parts_from from ends xs
parts_of_append from [] n xs ys within h = refl
parts_of_append from (end ∷ ends) n xs ys within h =
    let low = ascends-within end ends n h.1 in
    λ i. part_of_append xs ys from end h.0 (omega arith) i ∷ parts_of_append end ends n xs ys within h.1 i

last_part : {X : Type 0} (from : ℕ) (ends : List ℕ) (xs : List X) (n m : ℕ) → Ascends from ends n
    → parts_from from (ends ++ m ∷ []) xs ≡ parts_from from ends xs ++ slice_range xs n m ∷ []
last_part from [] xs n m h = ap (λ k. slice_range xs k m ∷ []) h
last_part from (end ∷ ends) xs n m h = ap (λ ps. slice_range xs from end ∷ ps) (last_part end ends xs n m h.1)

-- one more part at the end
pub parts-push : {X : Type 0} (from : ℕ) (ends : List ℕ) (xs ys : List X) → Ascends from ends (length xs)
    → parts_from from (ends ++ (length xs + length ys) ∷ []) (xs ++ ys) ≡ parts_from from ends xs ++ ys ∷ []
parts-push from ends xs ys h =
    last_part from ends (xs ++ ys) (length xs) (length xs + length ys) h
    ∙ ap (λ ps. ps ++ slice_range (xs ++ ys) (length xs) (length xs + length ys) ∷ []) (parts_of_append from ends (length xs) xs ys (omega arith) h)
    ∙ ap (λ p. parts_from from ends xs ++ p ∷ []) the_last
  where
    the_last : slice_range (xs ++ ys) (length xs) (length xs + length ys) ≡ ys
    the_last =
        ap (take (length xs + length ys - length xs)) (drop-append_seam xs ys)
        ∙ ap (λ k. take k ys) (let e : length xs + length ys - length xs ≡ length ys = omega arith in e)
        ∙ take_all ys

pub ascends-push : (from : ℕ) (ends : List ℕ) (n m : ℕ) → n ≤ m → Ascends from ends n → Ascends from (ends ++ m ∷ []) m
ascends-push from [] n m le h = (omega arith, refl)
ascends-push from (end ∷ ends) n m le h = (h.0, ascends-push end ends n m le h.1)

pub ascends-take : (from : ℕ) (ends : List ℕ) (n k : ℕ) → k ≤ length ends → Ascends from ends n → Ascends from (take k ends) (start_of from ends k)
ascends-take from ends n zero le h = refl
ascends-take from [] n (suc k) le h = absurd (omega arith)
ascends-take from (end ∷ ends) n (suc k) le h = (h.0, ascends-take end ends n k (omega arith) h.1)

parts_of_take : {X : Type 0} (from : ℕ) (ends : List ℕ) (xs : List X) (k : ℕ) → parts_from from (take k ends) xs ≡ take k (parts_from from ends xs)
parts_of_take from ends xs zero = refl
parts_of_take from [] xs (suc k) = refl
parts_of_take from (end ∷ ends) xs (suc k) = ap (λ ps. slice_range xs from end ∷ ps) (parts_of_take end ends xs k)

pub length-take-start : {X : Type 0} (ends : List ℕ) (xs : List X) (k : ℕ) → Ascends 0 ends (length xs)
    → length (take (start_of 0 ends k) xs) ≡ start_of 0 ends k
length-take-start ends xs k h =
    let low = start-within 0 ends (length xs) k h in
    let e = length-take (start_of 0 ends k) xs in
    omega arith

-- the first parts stand in the first of the list
pub parts-take : {X : Type 0} (ends : List ℕ) (xs : List X) (k : ℕ) → k ≤ length ends → Ascends 0 ends (length xs)
    → parts_from 0 (take k ends) (take (start_of 0 ends k) xs) ≡ take k (parts_from 0 ends xs)
parts-take ends xs k le h =
    let b : ℕ = start_of 0 ends k in
    let size = length-take-start ends xs k h in
    sym (parts_of_append 0 (take k ends) b (take b xs) (drop b xs) (omega arith) (ascends-take 0 ends (length xs) k le h))
    ∙ ap (parts_from 0 (take k ends)) (take-append-drop b xs)
    ∙ parts_of_take 0 ends xs k

-- ---- the same of the fields

index_same : (xs : List ℕ) (i d e : ℕ) → i < length xs → slice_index_or xs i d ≡ slice_index_or xs i e
index_same [] i d e low = absurd (omega arith)
index_same (x ∷ xs) zero d e low = refl
index_same (x ∷ xs) (suc i) d e low = index_same xs i d e (omega arith)

-- the invariant of these fields
abbrev pub HasEnds : Inside → Type 0
HasEnds a = Ascends 0 a.ends.items (length a.literals.items)

pub placed_inside : (a : Inside) → HasEnds a → (number start end : ℕ) → number < length a.ends.items → start ≡ start_of 0 a.ends.items number
    → end ≡ slice_index_or a.ends.items number end → IsPlaced start end (length a.literals.items)
placed_inside a ends number start end low starts ends_at =
    let placed = part_placed 0 a.ends.items (length a.literals.items) number ends low in
    let same = index_same a.ends.items number end 0 low in
    let ordered = placed.ordered in
    let within = placed.within in
    record { ordered = omega arith; within = omega arith }

pub part_inside : (a : Inside) (v : List (List Literal)) → parts_from 0 a.ends.items a.literals.items ≡ v → (number start end : ℕ) (d : List Literal)
    → number < length a.ends.items → start ≡ start_of 0 a.ends.items number → end ≡ slice_index_or a.ends.items number end
    → slice_range a.literals.items start end ≡ slice_index_or v number d
part_inside a v is number start end d low starts ends_at =
    (λ i. slice_range a.literals.items (starts i) ((ends_at ∙ index_same a.ends.items number end 0 low) i))
    ∙ sym (part_at 0 a.ends.items a.literals.items number d low)
    ∙ ap (λ w. slice_index_or w number d) is
