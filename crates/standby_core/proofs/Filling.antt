-- A part of an array that is filled from a source.
use Rattle.std.proofs.Common.{◌≡◌, ℕ, ◌+◌, ◌≤◌, List, ◌++◌, length, take, drop, sym, ap, ◌∙◌, arith, append_assoc, length-append}
use Rattle.std.proofs.lemmas.List.{take_at, take-append-drop, length-take-le}
use Rattle.outside.specs.Streams.{Moves}

-- what a source moves behind the bytes of a front, and what it has left then
pub part_filled : (front post left left' piece piece' : List ℕ) (n : ℕ) → Moves n left left' piece piece'
    → take (length front + n) (front ++ (piece' ++ post)) ++ left' ≡ front ++ left
part_filled front post left left' piece piece' n moves =
    let within : n ≤ length left = moves.within in
    let given : length (take n left) ≡ n = length-take-le n left within in
    let whole : front ++ (piece' ++ post) ≡ (front ++ take n left) ++ (drop n piece ++ post) =
    rw moves.filled (ap (λ (l : List ℕ). front ++ l) (append_assoc (take n left) (drop n piece) post)
    ∙ sym (append_assoc front (take n left) (drop n piece ++ post))) in
    let taken : take (length front + n) (front ++ (piece' ++ post)) ≡ front ++ take n left =
    rw whole (take_at (front ++ take n left) (drop n piece ++ post) (length front + n) (omega (arith, length-append front (take n left)))) in
    rw (taken, moves.rest) (append_assoc front (take n left) (drop n left) ∙ ap (λ (l : List ℕ). front ++ l) (take-append-drop n left))
