-- Tokens one after the other.
use Rattle.std.proofs.Common.{◌≡◌, ℕ, zero, suc, ◌+◌, ◌-◌, ◌<◌, ◌≤◌, Bool, true, false, cond, List, [], ◌∷◌, length, get_or, take, drop, refl, sym, ap, subst}
use Rattle.std.proofs.Common.{◌∙◌, arith, add-zero, one-add, sub-one, rules, tests, length-take, get_or-take}
use Rattle.std.specs.Prelude.{◌==◌, ◌||◌, ◌&&◌, not, codes, nat_eq}
use Rattle.std.specs.List.{prefix_len, starts_with}
use Rattle.std.specs.Char.{is_ascii_alphabetic}
use Rattle.std.proofs.lemmas.Bool.Decides.{nat_tests}
use Rattle.std.proofs.lemmas.List.Sums.{prefix_len-le-length, prefix_len_passes}
use Rattle.std.specs.Cmp.Lexicographic.{same_text}
use Rattle.cqe_base.specs.Tokens.{Token, IsAsciiUpTo, is_blank, begins, mark_length, token_length, tokens_from, end_from}
use Rattle.cqe_base.specs.Schema.{is_name_byte}

abbrev AllAscii : List ℕ → Type 0
AllAscii [] = Unit {0}
AllAscii (x ∷ xs) = (x < 128) × AllAscii xs

AllAscii-at : (xs : List ℕ) (k : ℕ) → AllAscii xs → k < length xs → get_or xs k 0 < 128
AllAscii-at [] k all lt = absurd (omega arith)
AllAscii-at (x ∷ xs) zero all lt = all.0
AllAscii-at (x ∷ xs) (suc k) all lt = AllAscii-at xs k all.1 (omega arith)

starts_with-ascii : (mark text : List ℕ) → AllAscii mark → starts_with nat_eq text mark ≡ true → IsAsciiUpTo (length mark) text
starts_with-ascii mark text all h =
    let same : mark ≡ take (length mark) text = same_text mark (take (length mark) text) (sym h) in
    let long : length mark ≤ length text = omega (arith, ap length same, length-take (length mark) text) in (
      long,
      λ k lt.
          let at : get_or mark k 0 ≡ get_or text k 0 = ap (λ (xs : List ℕ). get_or xs k 0) same ∙ get_or-take (length mark) text k 0 lt in
          omega (arith, AllAscii-at mark k all lt, at),
    )

pub cond_holds : (P : ℕ → Type 0) (b : Bool) (x y : ℕ) → (b ≡ true → P x) → P y → P (cond b x y)
cond_holds P true x y at_true at_false = at_true refl
cond_holds P false x y at_true at_false = at_false

pub or_holds : {P : Type 0} (a b : Bool) → (a ≡ true → P) → (b ≡ true → P) → (a || b) ≡ true → P
or_holds true b at_a at_b h = at_a refl
or_holds false b at_a at_b h = at_b h

one-ascii : (c : ℕ) (text : List ℕ) → c < 128 → starts_with nat_eq text (c ∷ []) ≡ true → IsAsciiUpTo 1 text
one-ascii c text lt h = starts_with-ascii (c ∷ []) text (lt, tt) h

pub mark_length-ascii : (text : List ℕ) → IsAsciiUpTo (mark_length text) text
unfolding mark_length
mark_length-ascii text =
    let P : ℕ → Type 0 = λ n. IsAsciiUpTo n text in
    cond_holds P (begins "<->" text) 3 _ (starts_with-ascii (codes "<->") text (omega arith, (omega arith, (omega arith, tt))))
    (cond_holds P (begins "->" text || begins "!=" text) 2 _
    (or_holds (begins "->" text) _ (starts_with-ascii (codes "->") text (omega arith, (omega arith, tt)))
    (starts_with-ascii (codes "!=") text (omega arith, (omega arith, tt))))
    (cond_holds P (begins "(" text || begins ")" text || begins "," text || begins ":" text || begins "." text || begins "=" text) 1 0
    (or_holds _ (begins "=" text)
    (or_holds _ (begins "." text) (or_holds _ (begins ":" text) (or_holds _ (begins "," text) (or_holds (begins "(" text) (begins ")" text)
    (one-ascii 40 text (omega arith)) (one-ascii 41 text (omega arith))) (one-ascii 44 text (omega arith))) (one-ascii 58 text (omega arith)))
    (one-ascii 46 text (omega arith))) (one-ascii 61 text (omega arith)))
    (omega arith, λ k lt. absurd (omega arith))))

pub blank-ascii : (b : ℕ) → is_blank b ≡ true → b < 128
blank-ascii b h = grind (arith, nat_tests)

name_byte-ascii : (b : ℕ) → is_name_byte b ≡ true → b < 128
name_byte-ascii b h = grind (arith, nat_tests)

letter-ascii : (b : ℕ) → is_ascii_alphabetic b ≡ true → b < 128
letter-ascii b h = grind (arith, nat_tests)

prefix-ascii : (p : ℕ → Bool) (ascii : (b : ℕ) → p b ≡ true → b < 128) (text : List ℕ) → IsAsciiUpTo (prefix_len p text) text
prefix-ascii p ascii text = (prefix_len-le-length p text, λ k lt. ascii (get_or text k 0) (prefix_len_passes p text k 0 lt))

pub blanks-ascii : (text : List ℕ) → IsAsciiUpTo (prefix_len is_blank text) text
blanks-ascii = prefix-ascii is_blank blank-ascii

cons-ascii : (b n : ℕ) (text : List ℕ) → b < 128 → IsAsciiUpTo n text → IsAsciiUpTo (1 + n) (b ∷ text)
cons-ascii b n text lt ascii = (omega (arith, ascii.0), λ k below. cons-at k below)
  where
    cons-at : (k : ℕ) → k < 1 + n → get_or (b ∷ text) k 0 < 128
    cons-at zero below = lt
    cons-at (suc k) below = ascii.1 k (omega arith)

pub token_length-ascii : (text : List ℕ) → IsAsciiUpTo (token_length text) text
unfolding token_length
token_length-ascii [] = (omega arith, λ k lt. absurd (omega arith))
token_length-ascii (b ∷ text) =
    cond_holds (λ n. IsAsciiUpTo n (b ∷ text)) (is_ascii_alphabetic b) _ _ (λ h.
    cons-ascii b _ text (letter-ascii b h) (prefix-ascii is_name_byte name_byte-ascii text)) (mark_length-ascii (b ∷ text))

-- the bytes of a token are passed
tokens_from-inside : (place n : ℕ) (text : List ℕ) → tokens_from place n text ≡ tokens_from (place + n) 0 (drop n text)
unfolding tokens_from
tokens_from-inside place zero text = rw add-zero refl
tokens_from-inside place (suc n) [] = refl
tokens_from-inside place (suc n) (b ∷ text) =
    let e : place + 1 + n ≡ place + suc n = omega arith in
    tokens_from-inside (place + 1) n text ∙ ap (λ k. tokens_from k 0 (drop n text)) e

end_from-inside : (place n : ℕ) (text : List ℕ) → n ≤ length text → end_from place n text ≡ end_from (place + n) 0 (drop n text)
unfolding end_from
end_from-inside place zero text le = rw add-zero refl
end_from-inside place (suc n) [] le = absurd (omega arith)
end_from-inside place (suc n) (b ∷ text) le =
    let e : place + 1 + n ≡ place + suc n = omega arith in
    end_from-inside (place + 1) n text (omega arith) ∙ ap (λ k. end_from k 0 (drop n text)) e

-- a blank begins no token
blank-no_token : (b : ℕ) (text : List ℕ) → is_blank b ≡ true → token_length (b ∷ text) ≡ 0
unfolding token_length mark_length
blank-no_token b text h = or_holds (b == 32) (b == 9) at_space at_tab h
  where
    at_space : (b == 32) ≡ true → token_length (b ∷ text) ≡ 0
    at_space e = let same : b ≡ 32 = search (rules, tests) in subst (λ c. token_length (c ∷ text) ≡ 0) (sym same) refl

    at_tab : (b == 9) ≡ true → token_length (b ∷ text) ≡ 0
    at_tab e = let same : b ≡ 9 = search (rules, tests) in subst (λ c. token_length (c ∷ text) ≡ 0) (sym same) refl

pub blank-tokens : (place b : ℕ) (text : List ℕ) → is_blank b ≡ true → tokens_from place 0 (b ∷ text) ≡ tokens_from (place + 1) 0 text
unfolding tokens_from
blank-tokens place b text h = rw (h, blank-no_token b text h) refl

pub blank-end : (place b : ℕ) (text : List ℕ) → is_blank b ≡ true → end_from place 0 (b ∷ text) ≡ end_from (place + 1) 0 text
unfolding end_from
blank-end place b text h = rw (h, blank-no_token b text h) refl

-- where F goes on behind one blank, it goes on behind all of them
blanks-pass : {X : Type 0} (F : ℕ → List ℕ → X) (one : (place b : ℕ) (text : List ℕ) → is_blank b ≡ true → F place (b ∷ text) ≡ F (place + 1) text)
    (place : ℕ) (text : List ℕ) → F place text ≡ F (place + prefix_len is_blank text) (drop (prefix_len is_blank text) text)
blanks-pass F one place [] = ap (λ k. F k []) (sym (add-zero place))
blanks-pass F one place (b ∷ text) = at_first (is_blank b) refl (blanks-pass F one (place + 1) text)
  where
    at_first : (t : Bool) → is_blank b ≡ t → F (place + 1) text ≡ F (place + 1 + prefix_len is_blank text) (drop (prefix_len is_blank text) text)
        → F place (b ∷ text) ≡ F (place + cond t (1 + prefix_len is_blank text) 0) (drop (cond t (1 + prefix_len is_blank text) 0) (b ∷ text))
    at_first true h others =
        let e : place + 1 + prefix_len is_blank text ≡ place + (1 + prefix_len is_blank text) = omega arith in
        let d : drop (prefix_len is_blank text) text ≡ drop (1 + prefix_len is_blank text) (b ∷ text) = rw one-add refl in
        one place b text h ∙ (others ∙ (ap (λ k. F k (drop (prefix_len is_blank text) text)) e ∙ ap (F (place + (1 + prefix_len is_blank text))) d))
    at_first false h others = ap (λ k. F k (b ∷ text)) (sym (add-zero place))

-- blanks are passed
pub blanks-tokens : (place : ℕ) (text : List ℕ)
    → tokens_from place 0 text ≡ tokens_from (place + prefix_len is_blank text) 0 (drop (prefix_len is_blank text) text)
blanks-tokens = blanks-pass (λ place text. tokens_from place 0 text) blank-tokens

pub blanks-end : (place : ℕ) (text : List ℕ) → end_from place 0 text ≡ end_from (place + prefix_len is_blank text) 0 (drop (prefix_len is_blank text) text)
blanks-end = blanks-pass (λ place text. end_from place 0 text) blank-end

-- behind all its blanks a text begins with none
pub no_blank_left : (text : List ℕ) → prefix_len is_blank (drop (prefix_len is_blank text) text) ≡ 0
no_blank_left [] = refl
no_blank_left (b ∷ text) = at_first (is_blank b) refl (no_blank_left text)
  where
    at_first : (t : Bool) → is_blank b ≡ t → prefix_len is_blank (drop (prefix_len is_blank text) text) ≡ 0
        → prefix_len is_blank (drop (cond t (1 + prefix_len is_blank text) 0) (b ∷ text)) ≡ 0
    at_first true h others = rw one-add others
    at_first false h others = rw h refl

not_blank : (b : ℕ) (text : List ℕ) → 0 < token_length (b ∷ text) → is_blank b ≡ false
not_blank b text h = at (is_blank b) refl
  where
    at : (t : Bool) → is_blank b ≡ t → t ≡ false
    at true e = absurd (omega (arith, blank-no_token b text e))
    at false e = refl

pub not_zero : (n : ℕ) → 0 < n → (n == 0) ≡ false
not_zero n h = grind (arith, nat_tests)

drop-less : (n b : ℕ) (text : List ℕ) → 0 < n → drop (n - 1) text ≡ drop n (b ∷ text)
drop-less zero b text h = absurd (omega arith)
drop-less (suc n) b text h = rw sub-one refl

starts_unblank : (b : ℕ) (text : List ℕ) → prefix_len is_blank (b ∷ text) ≡ 0 → is_blank b ≡ false
starts_unblank b text h = at (is_blank b) h
  where
    at : (t : Bool) → cond t (1 + prefix_len is_blank text) 0 ≡ 0 → t ≡ false
    at true e = absurd (omega arith)
    at false e = refl

-- the token at the front is the first, and the others are behind it
pub tokens-next : (place : ℕ) (text : List ℕ) → 0 < token_length text
    → tokens_from place 0 text
    ≡ record { text = take (token_length text) text; start = place } ∷ tokens_from (place + token_length text) 0 (drop (token_length text) text)
unfolding tokens_from token_length
tokens-next place [] h = absurd (omega arith)
tokens-next place (b ∷ text) h =
    let n = token_length (b ∷ text) in
    let t : Token = record { text = take n (b ∷ text); start = place } in
    let e : place + 1 + (n - 1) ≡ place + n = omega arith in
    let d : drop (n - 1) text ≡ drop n (b ∷ text) = drop-less n b text h in
    rw (not_blank b text h, not_zero n h)
    (ap (λ (ts : List Token). t ∷ ts) (tokens_from-inside (place + 1) (n - 1) text
    ∙ (ap (λ k. tokens_from k 0 (drop (n - 1) text)) e ∙ ap (tokens_from (place + n) 0) d)))

pub end-next : (place : ℕ) (text : List ℕ) → 0 < token_length text
    → end_from place 0 text ≡ end_from (place + token_length text) 0 (drop (token_length text) text)
unfolding end_from token_length
end-next place [] h = absurd (omega arith)
end-next place (b ∷ text) h =
    let n = token_length (b ∷ text) in
    let e : place + 1 + (n - 1) ≡ place + n = omega arith in
    let d : drop (n - 1) text ≡ drop n (b ∷ text) = drop-less n b text h in
    let long : n ≤ 1 + length text = omega (arith, (token_length-ascii (b ∷ text)).0) in
    rw (not_blank b text h, not_zero n h) (end_from-inside (place + 1) (n - 1) text (omega arith)
    ∙ (ap (λ k. end_from k 0 (drop (n - 1) text)) e ∙ ap (end_from (place + n) 0) d))

-- where no token is at the front, there is none
pub no_tokens : (place : ℕ) (text : List ℕ) → token_length text ≡ 0 → prefix_len is_blank text ≡ 0 → tokens_from place 0 text ≡ []
unfolding tokens_from
no_tokens place [] none start = refl
no_tokens place (b ∷ text) none start = rw (starts_unblank b text start, none) refl

pub end-here : (place : ℕ) (text : List ℕ) → token_length text ≡ 0 → prefix_len is_blank text ≡ 0 → end_from place 0 text ≡ place
unfolding end_from
end-here place [] none start = refl
end-here place (b ∷ text) none start = rw (starts_unblank b text start, none) refl

-- the tokens end within the text
pub end_from-le : (place inside : ℕ) (text : List ℕ) → end_from place inside text ≤ place + length text
unfolding end_from
end_from-le place inside [] = omega arith
end_from-le place zero (b ∷ text) =
    let n = token_length (b ∷ text) in
    cond_holds (λ k. k ≤ place + length (b ∷ text)) (not (is_blank b) && (n == 0)) place _ (λ h. omega arith)
    (omega (arith, end_from-le (place + 1) (n - 1) text))
end_from-le place (suc inside) (b ∷ text) = omega (arith, end_from-le (place + 1) inside text)
