-- What is read of a source.
use Rattle.std.proofs.Common.{◌≡◌, ℕ, ◌+◌, ◌<◌, ◌≤◌, List, [], ◌++◌, length, take, drop, sym, ap, ◌∙◌, arith, append_assoc, length-append}
use Rattle.std.proofs.Math.ListN.{drop_of_length-le}
use Rattle.std.proofs.Math.Seq.{drop-append_seam}
use Rattle.std.proofs.lemmas.List.{append-nil, length-take-le, nil_from_length, take-append-drop, take_at}
use Rattle.outside.specs.Streams.{Moves}
use Rattle.line_protocol.specs.Rests.{IsRest}

-- a piece that was taken leaves the rest
pub rest_taken : (n : ℕ) (left left' piece piece' : List ℕ) → Moves n left left' piece piece' → IsRest left left'
rest_taken n left left' piece piece' moves = λ bytes ends. record {
  front = ends.front ++ take n left;
  whole = ends.whole ∙ ap (λ (l : List ℕ). ends.front ++ l) (sym (take-append-drop n left)) ∙ sym (append_assoc ends.front (take n left) (drop n left))
      ∙ ap (λ (l : List ℕ). (ends.front ++ take n left) ++ l) (sym moves.rest);
}

-- what came through a window, and what is left behind it
pub through : (bytes left left' piece piece' : List ℕ) (n : ℕ) → Moves n left left' piece piece' → (bytes ++ take n piece') ++ left' ≡ bytes ++ left
through bytes left left' piece piece' n moves =
    let given : length (take n left) ≡ n = length-take-le n left moves.within in
    let front : take n piece' ≡ take n left =
    ap (λ (l : List ℕ). take n l) moves.filled ∙ take_at (take n left) (drop n piece) n given in
    rw (front, moves.rest) (append_assoc bytes (take n left) (drop n left) ∙ ap (λ (l : List ℕ). bytes ++ l) (take-append-drop n left))

-- ---- a text that was read

-- the last piece was empty: all is read
pub all_read : (before now left left' all : List ℕ) (n : ℕ) → n ≡ 0 → length now ≡ length before + n → now ++ left' ≡ before ++ left → left ≡ []
    → before ++ left ≡ all → length before ≤ 67108864 → (now ≡ all) × (left' ≡ drop 67108865 all)
all_read before now left left' all n none more moved end read few =
    let whole : now ++ left' ≡ all = moved ∙ read in
    let short : all ≡ before = sym read ∙ ap (λ (l : List ℕ). before ++ l) end ∙ append-nil before in
    let sizes : length now + length left' ≡ length all = sym (length-append now left') ∙ ap length whole in
    let same : length all ≡ length before = ap length short in
    let rest : left' ≡ [] = nil_from_length left' (omega (arith, none, more, sizes, same)) in (
      sym (append-nil now) ∙ ap (λ (l : List ℕ). now ++ l) (sym rest) ∙ whole,
      rest ∙ sym (drop_of_length-le all {i = 67108865} (omega (arith, same, few))),
    )

-- one more byte than all came
pub too_many : (before now left left' all : List ℕ) → now ++ left' ≡ before ++ left → before ++ left ≡ all → 67108864 < length now → length now ≤ 67108865
    → (67108864 < length all) × (left' ≡ drop 67108865 all)
too_many before now left left' all moved read many most =
    let whole : now ++ left' ≡ all = moved ∙ read in
    let sizes : length now + length left' ≡ length all = sym (length-append now left') ∙ ap length whole in
    let size : length now ≡ 67108865 = omega (arith, many, most) in (
      omega (arith, sizes, many),
      sym (drop-append_seam now left') ∙ ap (λ (l : List ℕ). drop (length now) l) whole ∙ ap (λ (k : ℕ). drop k all) size,
    )
