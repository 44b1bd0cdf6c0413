-- Lists of words that are cut at their first colon.
use Rattle.std.proofs.Common.{◌≡◌, ℕ, zero, suc, ◌+◌, ◌<◌, ◌≤◌, Bool, true, false, cond, List, [], ◌∷◌, length, map, take, drop, get_or}
use Rattle.std.proofs.Common.{refl, sym, ap, ◌∙◌, arith}
use Rattle.std.specs.Prelude.{Some, None, not, nat_lt, position}
use Rattle.std.specs.List.{position_or_len, list_any, before_first, after_first}
use Rattle.std.proofs.lemmas.List.{length-map, take-map}
use Rattle.std.proofs.lemmas.List.Folds.{list_any_at}
use Rattle.std.proofs.lemmas.List.Sums.{fails_before_first}
use Rattle.std.proofs.lemmas.List.Quantifiers.{position-Some}
use Rattle.cqe_base.specs.Schema.{Text}
use Rattle.line_protocol.proofs.Positions.{place_of, past_end}

-- what is dropped of a list whose parts are read
drop-map : {X Y : Type 0} (f : X → Y) (n : ℕ) (xs : List X) → drop n (map f xs) ≡ map f (drop n xs)
drop-map f zero xs = refl
drop-map f (suc n) [] = refl
drop-map f (suc n) (x ∷ xs) = drop-map f n xs

-- a test that fails at each place passes nowhere
none_passes : (p : Text → Bool) (xs : List Text) → ((k : ℕ) → k < length xs → p (get_or xs k []) ≡ false) → list_any p xs ≡ false
none_passes p [] fails = refl
none_passes p (x ∷ xs) fails =
    let first : p x ≡ false = fails 0 (omega arith) in
    rw first (none_passes p xs (λ k below. fails (suc k) (omega arith)))

module _ {W : Type 0} (now : W → Text) (p : Text → Bool) where
  -- the first place is the same in memory
  place-now : (ws : List W) → position_or_len p (map now ws) ≡ position_or_len (λ w. p (now w)) ws
  place-now [] = refl
  place-now (w ∷ ws) = ap (λ n. cond (not (p (now w))) (1 + n) 0) (place-now ws)

  found-now : (ws : List W) → position p (map now ws) ≡ position (λ w. p (now w)) ws
  found-now ws = (λ i. cond (nat_lt (place-now ws i) (length-map ws now i)) (Some (place-now ws i)) None)

  -- there is no such word
  pub no-such : (ws : List W) → position (λ w. p (now w)) ws ≡ None → list_any p (map now ws) ≡ false
  no-such ws none =
      let texts = map now ws in
      let past : length texts ≤ position_or_len p texts = past_end (position_or_len p texts) (length texts) (found-now ws ∙ none) in
      none_passes p texts (λ k below. fails_before_first p texts k [] (omega arith))

  module _ (ws : List W) (n : ℕ) (is : position (λ w. p (now w)) ws ≡ Some n) where
    place : position_or_len p (map now ws) ≡ n
    place = place_of (position_or_len p (map now ws)) (length (map now ws)) n (found-now ws ∙ is)

    -- there is one
    pub is-there : list_any p (map now ws) ≡ true
    is-there =
        let found = position-Some p (map now ws) n [] (found-now ws ∙ is) in
        list_any_at p (map now ws) n [] found.0 found.1

    -- what stands before it, and behind it
    pub before-it : map now (take n ws) ≡ before_first p (map now ws)
    before-it = sym (take-map now n ws) ∙ ap (λ k. take k (map now ws)) (sym place)

    pub behind-it : map now (drop (n + 1) ws) ≡ after_first p (map now ws)
    behind-it = sym (drop-map now (n + 1) ws) ∙ ap (λ k. drop (k + 1) (map now ws)) (sym place)
