-- Parts of an array that are moved, cut and filled.
use Rattle.std.proofs.Common.{◌≡◌, ℕ, ◌+◌, ◌-◌, ◌≤◌, List, [], ◌++◌, length, take, drop, refl, sym, ap, ◌∙◌, arith, append_assoc, length-take, length-drop}
use Rattle.std.proofs.Common.{length-append}
use Rattle.std.specs.List.{copy_within}
use Rattle.std.proofs.lemmas.List.{take_at, drop-take, drop-drop, take-append-drop, length-take-le}
use Rattle.outside.specs.Streams.{Moves}

-- how long a part is
pub length-part : (bytes : List ℕ) (start end : ℕ) → start ≤ end → end ≤ length bytes → length (take (end - start) (drop start bytes)) ≡ end - start
length-part bytes start end order fits = simp (length-take, length-drop) (omega arith)

-- a part without bytes
pub empty_part : (bytes : List ℕ) (n : ℕ) → take (n - n) bytes ≡ []
empty_part bytes n = let nothing : n - n ≡ 0 = omega arith in rw nothing refl

-- a part without its first bytes
pub drop-part : (bytes : List ℕ) (start end n : ℕ) → start + n ≤ end
    → drop n (take (end - start) (drop start bytes)) ≡ take (end - (start + n)) (drop (start + n) bytes)
drop-part bytes start end n fits =
    let size : end - start ≡ n + (end - (start + n)) = omega arith in
    rw size (drop-take n (end - (start + n)) (drop start bytes) ∙ ap (λ (l : List ℕ). take (end - (start + n)) l) (drop-drop n start bytes))

-- a part that is moved to the front
pub moved_to_front : (bytes : List ℕ) (start end : ℕ) → start ≤ end → end ≤ length bytes
    → take (end - start) (copy_within bytes start end 0) ≡ take (end - start) (drop start bytes)
moved_to_front bytes start end order fits = take_at _ _ (end - start) (length-part bytes start end order fits)

-- what a source moves behind the bytes of a front, and what it has left then
pub part_filled : (front post left left' piece piece' : List ℕ) (n : ℕ) → Moves n left left' piece piece'
    → take (length front + n) (front ++ (piece' ++ post)) ++ left' ≡ front ++ left
part_filled front post left left' piece piece' n moves =
    let within : n ≤ length left = moves.within in
    let given : length (take n left) ≡ n = length-take-le n left within in
    let whole : front ++ (piece' ++ post) ≡ (front ++ take n left) ++ (drop n piece ++ post) =
    rw moves.filled (ap (λ (l : List ℕ). front ++ l) (append_assoc (take n left) (drop n piece) post)
    ∙ sym (append_assoc front (take n left) (drop n piece ++ post))) in
    let taken : take (length front + n) (front ++ (piece' ++ post)) ≡ front ++ take n left =
    rw whole (take_at (front ++ take n left) (drop n piece ++ post) (length front + n) (omega (arith, length-append front (take n left)))) in
    rw (taken, moves.rest) (append_assoc front (take n left) (drop n left) ∙ ap (λ (l : List ℕ). front ++ l) (take-append-drop n left))
