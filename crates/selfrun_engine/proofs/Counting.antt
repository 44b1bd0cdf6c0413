-- The replies that are counted byte by byte are those of the lines.
use Rattle.std.proofs.Common.{◌≡◌, ◌∙◌, sym, ap, refl, ℕ, zero, suc, ◌+◌, ◌/◌, ◌%◌, ◌==◌, Bool, true, false, not, ◌&&◌, List, [], ◌∷◌, ◌++◌, fold, Some, None}
use Rattle.std.proofs.Common.{codes, decimal, if◌then◌else◌, arith, append_assoc}
use Rattle.std.specs.Fmt.{digits, digits_onto, digit_glyph}
use Rattle.std.specs.List.{list_all, range_with_len, AllByRecursion}
use Rattle.std.proofs.Math.Nat.{mod-lt}
use Rattle.std.proofs.lemmas.Bool.{and_parts, not-true}
use Rattle.std.proofs.lemmas.List.Folds.{list_all-append}
use Rattle.std.proofs.lemmas.List.Sums.{fold-append}
use Rattle.cqe_base.specs.declared.user.Mark.TheVariants.{Yes, No, Refused, Undecided, Protected}
use Rattle.cqe_base.specs.Schema.{Text}
use Rattle.cqe_base.specs.Run.{Reply, marked, no_sentence, history_full, too_large, user_closed, desk_sealed, desk_broken, no_memory}
use Rattle.cqe_base.specs.Run.{secrets_full, unsafe_secret, is_answer}
use Rattle.cqe_base.specs.Transcript.{Caller, by_session, by_operator, caller_text, Line, reply_line, restart_line, line_text, reply_text}
use Rattle.batch_engine.specs.Batch.{line_bytes}
use Rattle.selfrun_engine.specs.Counting.{no_reply, with_first, after_byte, tally_in}
use Rattle.selfrun_engine.specs.Tallies.{with_reply, with_line, tally_of}
use Rattle.selfrun_engine.specs.declared.tally.Tally.{Tally}
use Rattle.selfrun_engine.specs.declared.tally.Counter.{Counter}
use Rattle.workload.proofs.Lining.{all_at}

-- a byte that ends neither a line nor a word
abbrev pub is_inside : ℕ → Bool
is_inside b = not (b == 10) && not (b == 32)

-- a byte that ends no line
abbrev is_other : ℕ → Bool
is_other b = not (b == 10)

-- a line's name is one word, and its reply is one to a text that is asked
abbrev pub IsPlain : Line → Type 0
IsPlain (reply_line name caller (Some told)) = (list_all is_inside name ≡ true) × (is_answer told ≡ true)
IsPlain (reply_line name caller None) = list_all is_inside name ≡ true
IsPlain restart_line = Unit {0}

-- ---- digits

ten_digits : list_all (λ d. is_inside (digit_glyph false d)) (range_with_len 0 10) ≡ true
ten_digits = refl

one_digit : (n : ℕ) → is_inside (digit_glyph false (n % 10)) ≡ true
one_digit n = all_at (λ d. is_inside (digit_glyph false d)) 0 10 (n % 10) (n % 10) (omega arith) (mod-lt n {m = 10} (omega arith)) ten_digits

either : (t : Bool) (xs ys : List ℕ) → list_all is_inside xs ≡ true → list_all is_inside ys ≡ true → list_all is_inside (if t then xs else ys) ≡ true
either true xs ys first second = first
either false xs ys first second = second

digits_inside : (k n : ℕ) (behind : List ℕ) → list_all is_inside behind ≡ true → list_all is_inside (digits_onto k 10 false n behind) ≡ true
digits_inside zero n behind all = all
digits_inside (suc k) n behind all =
    let next : list_all is_inside (digit_glyph false (n % 10) ∷ behind) ≡ true = (λ i. one_digit n i && all i) in
    either (n / 10 == 0) (digit_glyph false (n % 10) ∷ behind) (digits_onto k 10 false (n / 10) (digit_glyph false (n % 10) ∷ behind)) next
    (digits_inside k (n / 10) (digit_glyph false (n % 10) ∷ behind) next)

pub decimal_inside : (n : ℕ) → list_all is_inside (decimal n) ≡ true
unfolding digits
decimal_inside n = digits_inside 64 n [] refl

caller_inside : (caller : Caller) → list_all is_inside (caller_text caller) ≡ true
caller_inside (by_session number) = decimal_inside number
caller_inside by_operator = refl

all_other : (bytes : List ℕ) → list_all is_inside bytes ≡ true → list_all is_other bytes ≡ true
all_other [] all = refl
all_other (b ∷ bytes) all =
    let parts = and_parts (is_inside b) (list_all is_inside bytes) all in
    λ i. (and_parts (is_other b) (not (b == 32)) parts.0).0 i && all_other bytes parts.1 i

decimal_other : (n : ℕ) → list_all is_other (decimal n) ≡ true
decimal_other n = all_other (decimal n) (decimal_inside n)

-- ---- bytes that change nothing

abbrev at : ℕ → Tally → Counter
at blanks tally = record { blanks = blanks; tally = tally }

inside_first : (tally : Tally) (bytes : List ℕ) → list_all is_inside bytes ≡ true → fold after_byte (at 0 tally) bytes ≡ at 0 tally
inside_first tally [] all = refl
inside_first tally (b ∷ bytes) all =
    let parts = and_parts (is_inside b) (list_all is_inside bytes) all in
    let two = and_parts (not (b == 10)) (not (b == 32)) parts.0 in
    ap (λ c. fold after_byte c bytes) (λ i. if not-true (b == 10) two.0 i then at 0 tally else if not-true (b == 32) two.1 i && true then at 1 tally
    else if not-true (b == 32) two.1 i && false then at 2 tally else at 0 tally)
    ∙ inside_first tally bytes parts.1

inside_second : (tally : Tally) (bytes : List ℕ) → list_all is_inside bytes ≡ true → fold after_byte (at 1 tally) bytes ≡ at 1 tally
inside_second tally [] all = refl
inside_second tally (b ∷ bytes) all =
    let parts = and_parts (is_inside b) (list_all is_inside bytes) all in
    let two = and_parts (not (b == 10)) (not (b == 32)) parts.0 in
    ap (λ c. fold after_byte c bytes) (λ i. if not-true (b == 10) two.0 i then at 0 tally else if not-true (b == 32) two.1 i && false then at 1 tally
    else if not-true (b == 32) two.1 i && true then at 2 tally else at 1 tally)
    ∙ inside_second tally bytes parts.1

behind_reply : (tally : Tally) (bytes : List ℕ) → list_all is_other bytes ≡ true → fold after_byte (at 3 tally) (bytes ++ 10 ∷ []) ≡ at 0 tally
behind_reply tally [] all = refl
behind_reply tally (b ∷ bytes) all =
    let parts = and_parts (is_other b) (list_all is_other bytes) all in
    ap (λ c. fold after_byte c (bytes ++ 10 ∷ []))
    ((λ i. if not-true (b == 10) parts.0 i then at 0 tally else if (b == 32) && false then at 1 tally else if (b == 32) && false then at 2 tally
    else at 3 tally) ∙ never (b == 32))
    ∙ behind_reply tally bytes parts.1
  where
    never : (t : Bool) → (if t && false then at 1 tally else if t && false then at 2 tally else at 3 tally) ≡ at 3 tally
    never true = refl
    never false = refl

-- ---- a line

-- from the first byte of its reply on
reply_counted : (tally : Tally) (told : Reply) → is_answer told ≡ true
    → fold after_byte (at 2 tally) (reply_text told ++ 10 ∷ []) ≡ at 0 (with_reply tally (Some told))
reply_counted tally (marked Yes) asked = refl
reply_counted tally (marked No) asked = refl
reply_counted tally (marked Refused) asked = refl
reply_counted tally (marked Undecided) asked = refl
reply_counted tally (no_sentence kind place) asked =
    behind_reply (with_first tally 101) (codes "rror 20 " ++ decimal kind ++ codes " " ++ decimal place)
    (list_all-append is_other (decimal kind ++ codes " ") (decimal place)
    ∙ (λ i. (list_all-append is_other (decimal kind) (codes " ") ∙ (λ j. decimal_other kind j && true)) i && decimal_other place i))
reply_counted tally history_full asked = refl
reply_counted tally too_large asked = refl
reply_counted tally user_closed asked = refl
reply_counted tally desk_sealed asked = refl
reply_counted tally desk_broken asked = refl
reply_counted tally no_memory asked = refl
reply_counted tally secrets_full asked = absurd cc
reply_counted tally unsafe_secret asked = absurd cc
reply_counted tally (marked Protected) asked = absurd cc

-- a name, a caller, and what stands behind them
words_counted : (tally : Tally) (name : Text) (caller : Caller) (rest : List ℕ) → list_all is_inside name ≡ true
    → fold after_byte (at 0 tally) (name ++ codes " " ++ caller_text caller ++ codes " " ++ rest) ≡ fold after_byte (at 2 tally) rest
words_counted tally name caller rest plain =
    fold-append after_byte (at 0 tally) (name ++ codes " " ++ caller_text caller ++ codes " ") rest
    ∙ ap (λ c. fold after_byte c rest) (
    fold-append after_byte (at 0 tally) (name ++ codes " " ++ caller_text caller) (codes " ")
    ∙ ap (λ c. fold after_byte c (codes " ")) (
    fold-append after_byte (at 0 tally) (name ++ codes " ") (caller_text caller)
    ∙ ap (λ c. fold after_byte c (caller_text caller)) (fold-append after_byte (at 0 tally) name (codes " ")
    ∙ ap (λ c. fold after_byte c (codes " ")) (inside_first tally name plain))
    ∙ inside_second tally (caller_text caller) (caller_inside caller)))

line_counted : (tally : Tally) (line : Line) → IsPlain line → fold after_byte (at 0 tally) (line_text line ++ 10 ∷ []) ≡ at 0 (with_line tally line)
line_counted tally (reply_line name caller (Some told)) plain =
    ap (fold after_byte (at 0 tally)) (append_assoc (name ++ codes " " ++ caller_text caller ++ codes " ") (reply_text told) (10 ∷ []))
    ∙ words_counted tally name caller (reply_text told ++ 10 ∷ []) plain.0 ∙ reply_counted tally told plain.1
line_counted tally (reply_line name caller None) plain =
    ap (fold after_byte (at 0 tally)) (append_assoc (name ++ codes " " ++ caller_text caller) (codes " error 23") (10 ∷ [])
    ∙ sym (append_assoc (name ++ codes " " ++ caller_text caller) (codes " ") (codes "error 23\n")))
    ∙ words_counted tally name caller (codes "error 23\n") plain
line_counted tally restart_line plain = refl

lines_counted : (lines : List Line) (tally : Tally) → AllByRecursion IsPlain lines
    → fold after_byte (at 0 tally) (line_bytes lines) ≡ at 0 (fold with_line tally lines)
lines_counted [] tally plain = refl
lines_counted (line ∷ lines) tally plain =
    fold-append after_byte (at 0 tally) (line_text line ++ 10 ∷ []) (line_bytes lines)
    ∙ ap (λ c. fold after_byte c (line_bytes lines)) (line_counted tally line plain.0)
    ∙ lines_counted lines (with_line tally line) plain.1

-- the tally of the bytes of lines is that of the lines
pub tally_is : (lines : List Line) → AllByRecursion IsPlain lines → tally_in (line_bytes lines) ≡ tally_of lines
tally_is lines plain = ap (λ (c : Counter). c.tally) (lines_counted lines no_reply plain)
