-- A text that begins with a part and the byte that ends it.
use Rattle.std.proofs.Common.{◌≡◌, ℕ, ◌+◌, ◌==◌, Bool, true, false, ◌||◌, not, cond, List, [], ◌∷◌, ◌++◌, length, take, drop, refl, sym, ap, ◌∙◌}
use Rattle.std.proofs.Common.{append_assoc, arith}
use Rattle.std.specs.List.{list_any, list_all, slice_split, onto_first, before_first, after_first, position_or_len}
use Rattle.std.proofs.lemmas.Bool.{or_parts, eqb-true}
use Rattle.std.proofs.lemmas.Bool.Decides.{nat_tests}
use Rattle.std.proofs.lemmas.List.{take_at, drop_at, length_push}
use Rattle.std.proofs.lemmas.List.Splits.{slice_split-cons_yes, slice_split-cons_no}
use Rattle.cqe_base.specs.Schema.{Text}
use Rattle.cqe_base.proofs.Truths.{true_is_not_false, and_first, and_second}
use Rattle.dossier.specs.Fields.{without_empty_end, ended_parts, first_word, by_rest}
use Rattle.dossier.proofs.Lines.{split-some, kept, word-whole}

module _ {X : Type 0} (p : X → Bool) where
  -- where no element of the part passes and the next one does, that is the first that does
  place-at : (part : List X) (end : X) (rest : List X) → list_any p part ≡ false → p end ≡ true → position_or_len p (part ++ end ∷ rest) ≡ length part
  place-at [] end rest none is = ap (λ b. cond (not b) (1 + position_or_len p rest) 0) is
  place-at (b ∷ part) end rest none is =
      let parts = or_parts (p b) (list_any p part) none in
      let further = place-at part end rest parts.1 is in
      ap (λ t. cond (not t) (1 + position_or_len p (part ++ end ∷ rest)) 0) parts.0 ∙ omega (arith, further)

  -- where none does, there is no such place
  pub place-none : (part : List X) → list_any p part ≡ false → position_or_len p part ≡ length part
  place-none [] none = refl
  place-none (b ∷ part) none =
      let parts = or_parts (p b) (list_any p part) none in
      let further = place-none part parts.1 in
      ap (λ t. cond (not t) (1 + position_or_len p part) 0) parts.0 ∙ omega (arith, further)

  -- the first part, and what stands behind the one that ends it
  pub before-at : (part : List X) (end : X) (rest : List X) → list_any p part ≡ false → p end ≡ true → before_first p (part ++ end ∷ rest) ≡ part
  before-at part end rest none is =
      ap (λ n. take n (part ++ end ∷ rest)) (place-at part end rest none is) ∙ take_at part (end ∷ rest) (length part) refl

  pub after-at : (part : List X) (end : X) (rest : List X) → list_any p part ≡ false → p end ≡ true → after_first p (part ++ end ∷ rest) ≡ rest
  after-at part end rest none is =
      ap (λ n. drop (n + 1) (part ++ end ∷ rest)) (place-at part end rest none is)
      ∙ ap (drop (length part + 1)) (sym (append_assoc part (end ∷ []) rest))
      ∙ drop_at (part ++ end ∷ []) rest (length part + 1) (length_push part end)

  -- the parts of a text that begins with such a part
  pub split-at : (part : List X) (end : X) (rest : List X) → list_any p part ≡ false → p end ≡ true
      → slice_split p (part ++ end ∷ rest) ≡ part ∷ slice_split p rest
  split-at [] end rest none is = slice_split-cons_yes p end rest is
  split-at (b ∷ part) end rest none is =
      let parts = or_parts (p b) (list_any p part) none in
      slice_split-cons_no p b (part ++ end ∷ rest) parts.0 ∙ ap (onto_first b) (split-at part end rest parts.1 is)

  -- and of one in which none ends
  pub split-none : (part : List X) → list_any p part ≡ false → slice_split p part ≡ part ∷ []
  split-none [] none = refl
  split-none (b ∷ part) none =
      let parts = or_parts (p b) (list_any p part) none in
      slice_split-cons_no p b part parts.0 ∙ ap (onto_first b) (split-none part parts.1)

-- in two lists none passes
pub none-both : {X : Type 0} (p : X → Bool) (xs ys : List X) → list_any p xs ≡ false → list_any p ys ≡ false → list_any p (xs ++ ys) ≡ false
none-both p [] ys first second = second
none-both p (x ∷ xs) ys first second =
    let parts = or_parts (p x) (list_any p xs) first in
    λ i. parts.0 i || none-both p xs ys parts.1 second i

-- bytes of a kind have none of another
pub kind-lacks : (kind : ℕ → Bool) (end : ℕ) → kind end ≡ false → (text : Text) → list_all kind text ≡ true → list_any (λ b. b == end) text ≡ false
kind-lacks kind end isnt [] all = refl
kind-lacks kind end isnt (b ∷ text) all = λ i. differ (b == end) refl i || kind-lacks kind end isnt text (and_second _ _ all) i
  where
    differ : (t : Bool) → (b == end) ≡ t → (b == end) ≡ false
    differ false apart = apart
    differ true tied =
        let same : b ≡ end = eqb-true b end tied in
        absurd (true_is_not_false (sym (and_first _ _ all) ∙ ap kind same ∙ isnt))

-- a byte is equal to itself
pub same-byte : (b : ℕ) → (b == b) ≡ true
same-byte b = grind (arith, nat_tests)

-- the parts of a text that end with a byte
pub ended-at : (end : ℕ) (part rest : Text) → list_any (λ b. b == end) part ≡ false → ended_parts end (part ++ end ∷ rest) ≡ part ∷ ended_parts end rest
ended-at end part rest none =
    ap without_empty_end (split-at (λ b. b == end) part end rest none (same-byte end))
    ∙ kept (λ b. b == end) part (slice_split (λ b. b == end) rest) (split-some (λ b. b == end) rest)

-- a word without a blank, with a blank and something behind it
pub word-at : (word : Text) (b : ℕ) (rest : Text) → list_any (λ b. b == 32) word ≡ false → first_word (word ++ 32 ∷ b ∷ rest) ≡ (word, b ∷ rest)
word-at word b rest none =
    (λ i. by_rest (word ++ 32 ∷ b ∷ rest) (before-at (λ b. b == 32) word 32 (b ∷ rest) none refl i, after-at (λ b. b == 32) word 32 (b ∷ rest) none refl i))

-- a word without a blank alone
pub word-only : (word : Text) → list_any (λ b. b == 32) word ≡ false → first_word word ≡ (word, [])
word-only word none = word-whole word (place-none (λ b. b == 32) word none)
