-- Where a text may be cut, and what is left of it.
use Rattle.std.proofs.Common.{true, false, ◌≡◌, ℕ, zero, suc, ◌+◌, ◌<◌, List, [], ◌∷◌, length, take, drop, refl, arith, ap, sym, subst, ◌∙◌, length-drop}
use Rattle.std.proofs.Common.{add-one}
use Rattle.std.specs.Prelude.{◌==◌}
use Rattle.std.specs.List.{prefix_len}
use Rattle.std.proofs.lemmas.List.Sums.{prefix_len-le-length}
use Rattle.std.specs.Str.{IsUtf8, IsCharBoundary}
use Rattle.std.proofs.lemmas.Str.{IsCharBoundary-start, IsCharBoundary-after_ascii}
use Rattle.cqe_base.specs.Tokens.{IsAsciiUpTo, is_blank, token_length, tokens_from, end_from}
use Rattle.cqe_base.specs.Reading.{refusal_at_end, unexpected, bad_character}
use Rattle.std.proofs.lemmas.Bool.Decides.{nat_tests}
use Rattle.sentence_text.specs.Upcoming.{start_or}
use Rattle.sentence_text.proofs.TokenLaws.{blanks-tokens, blanks-end, tokens-next, end-next, no_blank_left, token_length-ascii, no_tokens, end-here}

pub cut_behind_ascii : (text : List ℕ) (n : ℕ) → IsUtf8 text → IsAsciiUpTo n text → IsCharBoundary text n
cut_behind_ascii text zero utf8 ascii = IsCharBoundary-start text utf8
cut_behind_ascii text (suc n) utf8 ascii = rw (← add-one n) (IsCharBoundary-after_ascii text n utf8 (omega (arith, ascii.0)) (ascii.1 n (omega arith)))

-- what is left behind the blanks has the same tokens and the same end
module _ (text rest : List ℕ) (place blanks at : ℕ) (moved : at ≡ place + blanks) (count : blanks ≡ prefix_len is_blank text)
    (back : rest ≡ drop blanks text) where
  same_behind : rest ≡ drop (prefix_len is_blank text) text
  same_behind = back ∙ ap (λ n. drop n text) count

  pub behind_blanks-tokens : tokens_from at 0 rest ≡ tokens_from place 0 text
  behind_blanks-tokens = rw (same_behind, moved, count) (sym (blanks-tokens place text))

  pub behind_blanks-start : prefix_len is_blank rest ≡ 0
  behind_blanks-start = rw same_behind (no_blank_left text)

  pub behind_blanks-total : at + length rest ≡ place + length text
  behind_blanks-total = omega (arith, ap length back, length-drop blanks text, count, prefix_len-le-length is_blank text)

  pub behind_blanks-end : end_from at 0 rest ≡ end_from place 0 text
  behind_blanks-end = rw (same_behind, moved, count) (sym (blanks-end place text))

-- what is left behind the token at the front, and the blanks after it
module _ (text after rest : List ℕ) (place n blanks at : ℕ) (some : 0 < n) (moved : at ≡ place + n + blanks) (long : n ≡ token_length text)
    (cut : after ≡ drop n text) (count : blanks ≡ prefix_len is_blank after) (back : rest ≡ drop blanks after) where
  some_token : 0 < token_length text
  some_token = subst (λ k. 0 < k) long some

  pub behind_token-tokens : tokens_from place 0 text ≡ record { text = take n text; start = place } ∷ tokens_from at 0 rest
  behind_token-tokens =
      let e = behind_blanks-tokens after rest (place + n) blanks at moved count back in
      rw (e, cut, long) (tokens-next place text some_token)

  pub behind_token-total : at + length rest ≡ place + length text
  behind_token-total =
      let t = behind_blanks-total after rest (place + n) blanks at moved count back in
      omega (arith, ap length cut, length-drop n text, long, (token_length-ascii text).0)

  pub behind_token-end : end_from at 0 rest ≡ end_from place 0 text
  behind_token-end =
      let next : end_from (place + n) 0 after ≡ end_from place 0 text = rw (cut, long) (sym (end-next place text some_token)) in
      behind_blanks-end after rest (place + n) blanks at moved count back ∙ next

-- a text without a token at its front has none
token_length-from_none : (place : ℕ) (text : List ℕ) → tokens_from place 0 text ≡ [] → token_length text ≡ 0
token_length-from_none place text none = at (token_length text) refl
  where
    same : zero ≡ zero
    same = refl

    at : (n : ℕ) → token_length text ≡ n → n ≡ 0
    at zero e = same
    at (suc n) e = let some : 0 < token_length text = omega arith in let next = tokens-next place text some in cc

-- the end is here, where no token is left
pub end_where_none : (place : ℕ) (text : List ℕ) → tokens_from place 0 text ≡ [] → prefix_len is_blank text ≡ 0 → end_from place 0 text ≡ place
end_where_none place text none start = end-here place text (token_length-from_none place text none) start

-- the refusal at the end of the text, and before a byte that begins no token
pub refusal_at_empty : (place : ℕ) (text : List ℕ) → length text ≡ 0 → refusal_at_end (end_from place 0 text) (place + length text) ≡ unexpected place
unfolding end_from
refusal_at_empty place [] h = let same : (place == place + 0) ≡ true = grind (arith, nat_tests) in rw same refl
refusal_at_empty place (b ∷ text) h = absurd (omega (arith, h))

pub refusal_at_bad : (place : ℕ) (text : List ℕ) → 0 < length text → tokens_from place 0 text ≡ [] → prefix_len is_blank text ≡ 0
    → refusal_at_end (end_from place 0 text) (place + length text) ≡ bad_character place
refusal_at_bad place text some none start =
    let differ : (place == place + length text) ≡ false = grind (arith, nat_tests) in
    rw (end_where_none place text none start, differ) refl

-- the next token starts here, or the tokens end here
pub place_here : (place : ℕ) (text : List ℕ) → prefix_len is_blank text ≡ 0 → start_or (tokens_from place 0 text) (end_from place 0 text) ≡ place
place_here place text start = at (token_length text) refl
  where
    at : (n : ℕ) → token_length text ≡ n → start_or (tokens_from place 0 text) (end_from place 0 text) ≡ place
    at zero e = rw (no_tokens place text e start) (end-here place text e start)
    at (suc n) e = let some : 0 < token_length text = omega arith in rw (tokens-next place text some) refl
