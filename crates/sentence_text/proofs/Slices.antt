-- The tokens of a text are slices of it, and the bytes of a text that tokens and blanks make up are ASCII.
use Rattle.std.proofs.Common.{◌≡◌, ℕ, zero, suc, ◌+◌, ◌<◌, ◌≤◌, Bool, true, false, [], ◌∷◌, length, get_or, take, drop, drop-cons, refl, sym, ap, subst, ◌∙◌}
use Rattle.std.proofs.Common.{arith, length-take, length-drop, add-one}
use Rattle.std.specs.Prelude.{nat_lt}
use Rattle.std.specs.List.{prefix_len}
use Rattle.std.specs.Str.{IsAscii}
use Rattle.std.proofs.lemmas.Bool.Decides.{nat_tests}
use Rattle.std.proofs.Math.Seq.{drop-drop}
use Rattle.std.proofs.lemmas.List.{take-append-drop}
use Rattle.std.proofs.lemmas.Str.{IsAscii-append, IsUtf8-from_ascii}
use Rattle.cqe_base.specs.Schema.{Text}
use Rattle.cqe_base.specs.Tokens.{IsAsciiUpTo, IsLongestToken, is_blank, token_length, tokens_from, end_from, tokens, end_of_tokens}
use Rattle.cqe_base.specs.Grammar.{ReadingsAreDerived}
use Rattle.sentence_text.specs.Slices.{AreBlanks, IsTokenAfter, at_end, at_byte, HasTokens}
use Rattle.sentence_text.specs.Laws.{SentencesAreAscii}
use Rattle.sentence_text.proofs.TokenLaws.{blank-ascii, blank-tokens, blank-end, token_length-ascii, tokens-next, end-next, no_tokens, end-here}
use Rattle.sentence_text.proofs.LongestToken.{token_length-longest}

-- what stands at a place, and behind it
at_place : (source : Text) (place b : ℕ) (rest : Text) → b ∷ rest ≡ drop place source → (place < length source) × (get_or source place 0 ≡ b)
    × (rest ≡ drop (place + 1) source)
at_place source place b rest is =
    let lt : place < length source = omega (arith, ap length is, length-drop place source) in
    let split : b ∷ rest ≡ get_or source place 0 ∷ drop (place + 1) source = rw add-one (is ∙ drop-cons source place 0 lt) in
    (lt, cc, cc)

-- no blank at the front
no_blank : (b : ℕ) (rest : Text) → is_blank b ≡ false → prefix_len is_blank (b ∷ rest) ≡ 0
no_blank b rest h = rw h refl

module _ (source : Text) where
  -- one blank more
  more_blanks : (from place b : ℕ) → AreBlanks source from place → get_or source place 0 ≡ b → is_blank b ≡ true → AreBlanks source from (place + 1)
  more_blanks from place b blanks is blank k le lt = at (nat_lt k place) refl
    where
      at : (t : Bool) → nat_lt k place ≡ t → is_blank (get_or source k 0) ≡ true
      at true e = let before : k < place = grind (arith, nat_tests) in blanks k le before
      at false e = let here : k ≡ place = grind (arith, nat_tests) in
          subst (λ n. is_blank (get_or source n 0) ≡ true) (sym here) (subst (λ c. is_blank c ≡ true) (sym is) blank)

  no_blanks : (place : ℕ) → AreBlanks source place place
  no_blanks place k le lt = absurd (omega arith)

  abbrev FromHere : ℕ → ℕ → Text → Type 0
  FromHere from place text = HasTokens source from (tokens_from place 0 text) (end_from place 0 text)

  -- the token at the front, and what is behind it
  token_here : (from place n : ℕ) (text : Text) → n ≡ token_length text → 0 < n → text ≡ drop place source → from ≤ place → AreBlanks source from place
      → FromHere (place + n) (place + n) (drop n text) → FromHere from place text
  token_here from place n text long some is le blanks later =
      let has : 0 < token_length text = omega (arith, long) in
      let size : length (take n text) ≡ n = omega (arith, length-take n text, long, (token_length-ascii text).0) in
      let token : IsTokenAfter source from (record { text = take n text; start = place }) = record {
        behind = le;
        blanks = blanks;
        some = omega (arith, size, some);
        slice = subst (λ k. take n text ≡ take k (drop place source)) (sym size) (ap (take n) is);
        longest = subst (λ k. IsLongestToken (drop place source) k) (sym size)
            (subst (λ t. IsLongestToken t n) is (subst (IsLongestToken text) (sym long) (token_length-longest text)));
      } in
      let behind : HasTokens source (place + length (take n text)) (tokens_from (place + n) 0 (drop n text)) (end_from (place + n) 0 (drop n text)) =
      subst (λ k. HasTokens source (place + k) (tokens_from (place + n) 0 (drop n text)) (end_from (place + n) 0 (drop n text))) (sym size) later in
      rw (tokens-next place text has, end-next place text has, ← long) (token, behind)

  -- no token is at the front
  none_here : (from place b : ℕ) (rest : Text) → b ∷ rest ≡ drop place source → token_length (b ∷ rest) ≡ 0 → is_blank b ≡ false → from ≤ place
      → AreBlanks source from place → FromHere from place (b ∷ rest)
  none_here from place b rest is none blank le blanks =
      let here = at_place source place b rest is in
      let byte : is_blank (get_or source place 0) ≡ false = subst (λ c. is_blank c ≡ false) (sym here.1) blank in
      let longest : IsLongestToken (drop place source) 0 =
      subst (λ t. IsLongestToken t 0) is (subst (IsLongestToken (b ∷ rest)) none (token_length-longest (b ∷ rest))) in
      rw (
        no_tokens place (b ∷ rest) none (no_blank b rest blank),
        end-here place (b ∷ rest) none (no_blank b rest blank),
      ) (le, blanks, at_byte here.0 byte longest)

  from_here : (fuel place from : ℕ) (text : Text) → length text ≤ fuel → text ≡ drop place source → place ≤ length source → from ≤ place
      → AreBlanks source from place → FromHere from place text
  unfolding tokens_from end_from
  from_here fuel place from [] fits is within le blanks = (le, blanks, at_end (omega (arith, ap length is, length-drop place source)))
  from_here zero place from (b ∷ rest) fits is within le blanks = absurd (omega arith)
  from_here (suc fuel) place from (b ∷ rest) fits is within le blanks = at (is_blank b) refl (from_here fuel)
    where
      longer : (n : ℕ) → token_length (b ∷ rest) ≡ n → is_blank b ≡ false
          → ((place from : ℕ) (text : Text) → length text ≤ fuel → text ≡ drop place source → place ≤ length source → from ≤ place → AreBlanks source from place
          → FromHere from place text) → FromHere from place (b ∷ rest)
      longer zero none blank later = none_here from place b rest is none blank le blanks
      longer (suc m) long blank later =
          let within_text = (token_length-ascii (b ∷ rest)).0 in
          let shorter : length (drop (suc m) (b ∷ rest)) ≤ fuel = omega (arith, length-drop (suc m) (b ∷ rest), fits) in
          let behind : drop (suc m) (b ∷ rest) ≡ drop (place + suc m) source = ap (drop (suc m)) is ∙ drop-drop (suc m) place source in
          token_here from place (suc m) (b ∷ rest) (sym long) (omega arith) is le blanks
          (later (place + suc m) (place + suc m) (drop (suc m) (b ∷ rest)) shorter behind
          (omega (arith, within_text, long, ap length is, length-drop place source)) (omega arith) (no_blanks (place + suc m)))

      at : (t : Bool) → is_blank b ≡ t
          → ((place from : ℕ) (text : Text) → length text ≤ fuel → text ≡ drop place source → place ≤ length source → from ≤ place → AreBlanks source from place
          → FromHere from place text) → FromHere from place (b ∷ rest)
      at true blank later =
          let here = at_place source place b rest is in
          rw (blank-tokens place b rest blank, blank-end place b rest blank)
          (later (place + 1) from rest (omega arith) here.2 (omega (arith, here.0)) (omega arith) (more_blanks from place b blanks here.1 blank))
      at false blank later = longer (token_length (b ∷ rest)) refl blank later

-- the tokens of a text are slices of it, one behind the other, up to its end or the first byte that begins none
pub has_tokens : (text : Text) → HasTokens text 0 (tokens text) (end_of_tokens text)
has_tokens text = from_here text (length text) 0 0 text (omega arith) refl (omega arith) (omega arith) (no_blanks text 0)

one-ascii : (b : ℕ) (rest : Text) → b < 128 → IsAscii rest → IsAscii (b ∷ rest)
one-ascii b rest low ascii zero = low
one-ascii b rest low ascii (suc i) = ascii i

front-ascii : (n : ℕ) (text : Text) → IsAsciiUpTo n text → IsAscii (take n text)
front-ascii zero text ascii i = omega arith
front-ascii (suc n) [] ascii i = omega arith
front-ascii (suc n) (b ∷ text) ascii zero = ascii.1 0 (omega arith)
front-ascii (suc n) (b ∷ text) ascii (suc i) = front-ascii n text (omega (arith, ascii.0), λ k lt. ascii.1 (suc k) (omega arith)) i

-- a text whose tokens end with it has ASCII bytes alone
whole-ascii : (fuel place : ℕ) (text : Text) → length text ≤ fuel → end_from place 0 text ≡ place + length text → IsAscii text
whole-ascii fuel place [] fits whole = λ i. omega arith
whole-ascii zero place (b ∷ rest) fits whole = absurd (omega arith)
whole-ascii (suc fuel) place (b ∷ rest) fits whole = at (is_blank b) refl (whole-ascii fuel)
  where
    longer : (n : ℕ) → token_length (b ∷ rest) ≡ n → is_blank b ≡ false
        → ((place : ℕ) (text : Text) → length text ≤ fuel → end_from place 0 text ≡ place + length text → IsAscii text) → IsAscii (b ∷ rest)
    longer zero none blank later = absurd (omega (arith, end-here place (b ∷ rest) none (no_blank b rest blank), whole))
    longer (suc m) long blank later =
        let within_text = (token_length-ascii (b ∷ rest)).0 in
        let has : 0 < token_length (b ∷ rest) = omega (arith, long) in
        let size : length (drop (suc m) (b ∷ rest)) + suc m ≡ length (b ∷ rest) = omega (arith, length-drop (suc m) (b ∷ rest), within_text, long) in
        let next : end_from (place + suc m) 0 (drop (suc m) (b ∷ rest)) ≡ end_from place 0 (b ∷ rest) =
        subst (λ k. end_from (place + k) 0 (drop k (b ∷ rest)) ≡ end_from place 0 (b ∷ rest)) long (sym (end-next place (b ∷ rest) has)) in
        let ascii : IsAsciiUpTo (suc m) (b ∷ rest) = subst (λ k. IsAsciiUpTo k (b ∷ rest)) long (token_length-ascii (b ∷ rest)) in
        let behind = later (place + suc m) (drop (suc m) (b ∷ rest)) (omega (arith, size, fits)) (omega (arith, next, whole, size)) in
        subst IsAscii (take-append-drop (suc m) (b ∷ rest))
        (IsAscii-append (take (suc m) (b ∷ rest)) (drop (suc m) (b ∷ rest)) (front-ascii (suc m) (b ∷ rest) ascii) behind)

    at : (t : Bool) → is_blank b ≡ t → ((place : ℕ) (text : Text) → length text ≤ fuel → end_from place 0 text ≡ place + length text → IsAscii text)
        → IsAscii (b ∷ rest)
    at true blank later = one-ascii b rest (blank-ascii b blank) (later (place + 1) rest (omega arith) (omega (arith, blank-end place b rest blank, whole)))
    at false blank later = longer (token_length (b ∷ rest)) refl blank later

-- the bytes of a sentence are ASCII
pub sentences_are_ascii : ReadingsAreDerived → SentencesAreAscii
sentences_are_ascii law schema text a read =
    let is = law schema text a read in
    let ascii = whole-ascii (length text) 0 text (omega arith) (omega (arith, is.no_bad_character)) in
    (ascii, IsUtf8-from_ascii text ascii)
