-- The first line of bytes, by where the first line feed stands.
use Rattle.std.proofs.Common.{◌≡◌, ℕ, ◌+◌, ◌<◌, ◌≤◌, ◌==◌, true, false, List, [], ◌∷◌, ◌++◌, length, take, drop, get_or, refl, sym, ap, ◌∙◌, arith}
use Rattle.std.proofs.Common.{append_assoc, length-append}
use Rattle.std.specs.Prelude.{if◌then◌else◌, nat_lt}
use Rattle.std.proofs.lemmas.Bool.{eq-eqb, ne_eqb}
use Rattle.std.proofs.lemmas.Bool.Decides.{nat_tests}
use Rattle.std.proofs.lemmas.List.{append-nil, take_all, drop_all, length-take-le, take-append-drop, get_or_append_left, drop_more}
use Rattle.cqe_base.specs.Lines.{TextLine, lines_begun, text_lines, is_too_long, without_return}
use Rattle.cqe_base.proofs.TextLines.{lines_begun-feed, lines_begun-skip}
use Rattle.line_protocol.specs.Feeds.{HasNoFeedBelow, HasFeedAt}
use Rattle.line_protocol.specs.Reads.{TakesLine, BeginsTooLong, whole_line}

-- the lines of bytes without a line feed at their front
text_lines-skip : (bytes : List ℕ) (n : ℕ) → n ≤ length bytes → HasNoFeedBelow n bytes → text_lines bytes ≡ lines_begun (take n bytes) (drop n bytes)
unfolding text_lines
text_lines-skip bytes n fits none = lines_begun-skip [] bytes n fits (λ k low. ne_eqb (get_or bytes k 0) 10 (none k low))

-- more bytes bring no line feed to the front
pub no_feed_before : (bytes left : List ℕ) (n : ℕ) → n ≤ length bytes → HasNoFeedBelow n bytes → HasNoFeedBelow n (bytes ++ left)
no_feed_before bytes left n within none k below =
    let same : get_or (bytes ++ left) k 0 ≡ get_or bytes k 0 = get_or_append_left bytes left 0 k (omega arith) in
    rw same (none k below)

-- nor do they move the first one
pub feed_before : (bytes left : List ℕ) (n : ℕ) → HasFeedAt n bytes → HasFeedAt n (bytes ++ left)
feed_before bytes left n feed =
    let within : n < length bytes = feed.within in
    record {
      within = omega (arith, length-append bytes left);
      feed = get_or_append_left bytes left 0 n within ∙ feed.feed;
      first = no_feed_before bytes left n (omega arith) feed.first;
    }

-- a line that has begun is the first, with all that it has
begun : (line bytes : List ℕ) → 4096 < length line → (first : TextLine) × (rest : List TextLine) × (lines_begun line bytes ≡ first ∷ rest)
    × (is_too_long first ≡ true)
begun [] bytes long = absurd (omega arith)
begun (b ∷ line) [] long =
    let too_long : nat_lt 4096 (length (b ∷ line)) ≡ true = grind (arith, nat_tests) in
    (record { bytes = b ∷ line; ended = false }, [], refl, too_long)
begun (b ∷ line) (c ∷ bytes) long =
    elim (c == 10) as (λ t. (first : TextLine) × (rest : List TextLine)
    × ((if t then record { bytes = b ∷ line; ended = true } ∷ lines_begun [] bytes else lines_begun (b ∷ line ++ c ∷ []) bytes) ≡ first ∷ rest)
    × (is_too_long first ≡ true)) [
      | true ↦
          let too_long : nat_lt 4096 (length (b ∷ line)) ≡ true = grind (arith, nat_tests) in
          (record { bytes = b ∷ line; ended = true }, lines_begun [] bytes, refl, too_long)
      | false ↦ begun (b ∷ line ++ c ∷ []) bytes (omega (arith, length-append (b ∷ line) (c ∷ [])))
    ]

-- the same lines are taken at equal bytes
pub takes_at : (b b' a a' l l' : List ℕ) → TakesLine b a l → b' ≡ b → a' ≡ a → l' ≡ l → TakesLine b' a' l'
takes_at b b' a a' l l' takes before after line = record {
  first = takes.first;
  lines = ap text_lines before ∙ takes.lines ∙ ap (λ (x : List ℕ). takes.first ∷ text_lines x) (sym after);
  bytes = before ∙ takes.bytes ∙ ap (λ (x : List ℕ). whole_line takes.first ++ x) (sym after);
  fits = takes.fits;
  says = line ∙ takes.says;
}

-- a line that a line feed ends
pub takes_first : (bytes : List ℕ) (n : ℕ) → HasFeedAt n bytes → n ≤ 4096 → TakesLine bytes (drop (n + 1) bytes) (without_return (take n bytes))
unfolding text_lines
takes_first bytes n feed fits =
    let within : n < length bytes = feed.within in
    let some : n ≤ length bytes = omega arith in
    let here : get_or bytes n 0 ≡ 10 = feed.feed in
    let split : drop n bytes ≡ get_or bytes n 0 ∷ drop (n + 1) bytes = drop_more bytes n 0 within in
    let size : length (take n bytes) ≡ n = length-take-le n bytes some in
    record {
      first = record { bytes = take n bytes; ended = true };
      lines =
          text_lines-skip bytes n some feed.first
          ∙ ap (λ (l : List ℕ). lines_begun (take n bytes) l) split
          ∙ lines_begun-feed (take n bytes) (drop (n + 1) bytes) (get_or bytes n 0) (eq-eqb (get_or bytes n 0) 10 here);
      bytes = sym (take-append-drop n bytes) ∙ ap (λ (l : List ℕ). take n bytes ++ l) (split ∙ ap (λ (b : ℕ). b ∷ drop (n + 1) bytes) here)
          ∙ sym (append_assoc (take n bytes) (10 ∷ []) (drop (n + 1) bytes));
      fits = grind (arith, nat_tests);
      says = refl;
    }

-- a rest without a line feed
pub takes_last : (bytes : List ℕ) → HasNoFeedBelow (length bytes) bytes → 0 < length bytes → length bytes ≤ 4096 → TakesLine bytes [] bytes
unfolding text_lines
takes_last [] none some fits = absurd (omega arith)
takes_last (b ∷ bytes) none some fits =
    let all : take (length bytes) bytes ≡ bytes = take_all (length bytes) bytes (omega arith) in
    let none_left : drop (length bytes) bytes ≡ [] = drop_all (length bytes) bytes (omega arith) in
    record {
      first = record { bytes = b ∷ bytes; ended = false };
      lines = text_lines-skip (b ∷ bytes) (length (b ∷ bytes)) (omega arith) none ∙ rw (all, none_left) refl;
      bytes = sym (append-nil (b ∷ bytes)) ∙ ap (λ (l : List ℕ). l ++ []) (sym (append-nil (b ∷ bytes)));
      fits = grind (arith, nat_tests);
      says = refl;
    }

-- too many bytes without a line feed
pub too_long : (bytes left : List ℕ) (n : ℕ) → n ≤ length bytes → HasNoFeedBelow n bytes → 4096 < n → BeginsTooLong (bytes ++ left)
too_long bytes left n within none long =
    let size : length (take n (bytes ++ left)) ≡ n = length-take-le n (bytes ++ left) (omega (arith, length-append bytes left)) in
    let skipped : text_lines (bytes ++ left) ≡ lines_begun (take n (bytes ++ left)) (drop n (bytes ++ left)) =
    text_lines-skip (bytes ++ left) n (omega (arith, length-append bytes left)) (no_feed_before bytes left n within none) in
    let has = begun (take n (bytes ++ left)) (drop n (bytes ++ left)) (omega arith) in
    record { first = has.0; rest = has.1; lines = skipped ∙ has.2; too_long = has.3 }
