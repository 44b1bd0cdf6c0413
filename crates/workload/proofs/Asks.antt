-- The script of a workload reads as its asks.
use Rattle.std.proofs.Common.{◌≡◌, ◌∙◌, sym, ap, refl, ℕ, zero, suc, ◌+◌, ◌*◌, ◌%◌, ◌/◌, ◌<◌, ◌≤◌, Bool, true, false, not, ◌&&◌, ◌||◌, ◌==◌, List, [], ◌∷◌}
use Rattle.std.proofs.Common.{◌++◌, map, length, take, drop, codes, decimal, nat_lt, Some, None, Ok, if◌then◌else◌, arith, length-append, append_assoc}
use Rattle.std.specs.Prelude.{cond}
use Rattle.std.specs.Fmt.{digits}
use Rattle.std.specs.List.{list_all, list_any, flat_map, range_with_len, position_or_len, before_first, after_first}
use Rattle.std.proofs.Math.Bool.{or-true}
use Rattle.std.proofs.Math.Nat.{mod-lt}
use Rattle.std.proofs.lemmas.Bool.{and_parts}
use Rattle.std.proofs.lemmas.Bool.Decides.{nat_tests}
use Rattle.std.proofs.lemmas.List.{map-append}
use Rattle.std.proofs.lemmas.List.Folds.{list_all-append}
use Rattle.cqe_base.specs.Schema.{Text}
use Rattle.cqe_base.specs.Tokens.{is_blank}
use Rattle.cqe_base.specs.Lines.{text_lines, without_return}
use Rattle.cqe_base.proofs.TextLines.{no_lines}
use Rattle.line_protocol.specs.Words.{is_printable}
use Rattle.line_protocol.proofs.Digits.{byte_digits}
use Rattle.cqe_base.specs.declared.text.ScriptKind.TheVariants.{TooLong, TooMany}
use Rattle.script_lines.specs.Scripts.{script_after, then_lines, unless, line_refusal}
use Rattle.batch_engine.specs.BatchLines.{BatchItem, asked, batch_line, batch_of, with_line, with_said, spoken, worded, named_ask, asks}
use Rattle.batch_engine.specs.BatchLines.{ask_by, caller_named}
use Rattle.cqe_base.specs.Transcript.{by_session}
use Rattle.workload.specs.Draws.{state_after, drawn}
use Rattle.workload.specs.Questions.{question_text, question_of, question_at, ask_line, script_lines}
use Rattle.workload.specs.Policies.{user_name}
use Rattle.workload.specs.Scripts.{workload_ask, workload_script}
use Rattle.workload.specs.declared.question.Question.{Question}
use Rattle.workload.specs.declared.question.Question.TheVariants.{Drug, Has, Somebody, Everybody, Either, HasNot}
use Rattle.workload.proofs.Drawing.{range_to}
use Rattle.workload.proofs.Lining.{all_at, line_up, is_other}
use Rattle.workload.proofs.Policies.{has_form}

-- ---- bytes

-- the byte is printable and no blank
abbrev is_dark : ℕ → Bool
is_dark b = is_printable b && not (is_blank b)

dark_digits : list_all (λ n. list_all is_dark (decimal n)) (range_with_len 0 256) ≡ true
unfolding digits
dark_digits = refl

-- the digits of a small number are
dark : (n : ℕ) → n < 256 → list_all is_dark (decimal n) ≡ true
dark n less = all_at (λ m. list_all is_dark (decimal m)) 0 256 n n (omega arith) less dark_digits

module _ (p q : ℕ → Bool) (weaker : (b : ℕ) → p b ≡ true → q b ≡ true) where
  all_weaker : (bytes : List ℕ) → list_all p bytes ≡ true → list_all q bytes ≡ true
  all_weaker [] all = refl
  all_weaker (b ∷ bytes) all = let parts = and_parts (p b) (list_all p bytes) all in (λ i. weaker b parts.0 i && all_weaker bytes parts.1 i)

printable : (n : ℕ) → n < 256 → list_all is_printable (decimal n) ≡ true
printable n less = all_weaker is_dark is_printable (λ b is. (and_parts (is_printable b) (not (is_blank b)) is).0) (decimal n) (dark n less)

-- a printable byte is no line feed and no carriage return
no_feed : (b : ℕ) → is_printable b ≡ true → is_other b ≡ true
no_feed b is = grind (arith, nat_tests)

no_return : (b : ℕ) → is_printable b ≡ true → (b == 13) ≡ false
no_return b is = grind (arith, nat_tests)

whole : (bytes : List ℕ) → list_all is_printable bytes ≡ true → without_return bytes ≡ bytes
whole [] all = refl
whole (b ∷ []) all = ap (λ (t : Bool). if t then [] else b ∷ []) (no_return b (and_parts (is_printable b) true all).0)
whole (b ∷ c ∷ bytes) all = ap (λ l. b ∷ l) (whole (c ∷ bytes) (and_parts (is_printable b) (list_all is_printable (c ∷ bytes)) all).1)

-- ---- the first blank

module _ (p : ℕ → Bool) where
  place : (xs : List ℕ) (b : ℕ) (ys : List ℕ) → list_all (λ x. not (p x)) xs ≡ true → p b ≡ true → position_or_len p (xs ++ b ∷ ys) ≡ length xs
  place [] b ys none is = ap (λ (t : Bool). cond (not t) (1 + position_or_len p ys) 0) is
  place (x ∷ xs) b ys none is =
      let parts = and_parts (not (p x)) (list_all (λ x. not (p x)) xs) none in
      ap (λ t. cond t (1 + position_or_len p (xs ++ b ∷ ys)) 0) parts.0 ∙ more (place xs b ys parts.1 is)
    where
      more : position_or_len p (xs ++ b ∷ ys) ≡ length xs → 1 + position_or_len p (xs ++ b ∷ ys) ≡ suc (length xs)
      more at = omega (arith, at)

  some : (xs : List ℕ) (b : ℕ) (ys : List ℕ) → p b ≡ true → list_any p (xs ++ b ∷ ys) ≡ true
  some [] b ys is = ap (λ (t : Bool). t || list_any p ys) is
  some (x ∷ xs) b ys is = ap (λ (t : Bool). p x || t) (some xs b ys is) ∙ or-true (p x)

front : (xs ys : List ℕ) → take (length xs) (xs ++ ys) ≡ xs
front [] ys = refl
front (x ∷ xs) ys = ap (λ l. x ∷ l) (front xs ys)

back : (xs : List ℕ) (b : ℕ) (ys : List ℕ) → drop (length xs + 1) (xs ++ b ∷ ys) ≡ ys
back xs b ys = ap (λ n. drop n (xs ++ b ∷ ys)) (one (length xs)) ∙ behind xs
  where
    one : (n : ℕ) → n + 1 ≡ suc n
    one n = omega arith

    behind : (xs : List ℕ) → drop (suc (length xs)) (xs ++ b ∷ ys) ≡ ys
    behind [] = refl
    behind (x ∷ xs) = behind xs

-- ---- a question

-- the numbers of its constants are those of persons and diseases
abbrev IsAbout : Question → Type 0
IsAbout (Drug person) = person < 40
IsAbout (Has person disease) = (person < 40) × (disease < 12)
IsAbout (Somebody disease) = disease < 12
IsAbout (Everybody disease) = disease < 12
IsAbout (Either person other disease) = (person < 40) × (other < 40) × (disease < 12)
IsAbout (HasNot person disease) = (person < 40) × (disease < 12)

about : (form person other disease : ℕ) → person < 40 → other < 40 → disease < 12 → IsAbout (question_of form person other disease)
about form person other disease a b c = by (form == 0) (form == 1) (form == 2) (form == 3) (form == 4)
  where
    by : (t u v w x : Bool)
        → IsAbout (if t then Drug person else if u then Has person disease else if v then Somebody disease else if w then Everybody disease else if x
        then Either person other disease else HasNot person disease)
    by true u v w x = a
    by false true v w x = (a, c)
    by false false true w x = c
    by false false false true x = c
    by false false false false true = (a, b, c)
    by false false false false false = (a, c)

about_at : (seed n : ℕ) → IsAbout (question_at seed n)
about_at seed n =
    about (drawn seed n 6) (drawn seed (n + 1) 40) (drawn seed (n + 2) 40) (drawn seed (n + 3) 12)
    (mod-lt (state_after seed (n + 1 + 1) / 65536) {m = 40} (omega arith)) (mod-lt (state_after seed (n + 2 + 1) / 65536) {m = 40} (omega arith))
    (mod-lt (state_after seed (n + 3 + 1) / 65536) {m = 12} (omega arith))

-- a number, and a text behind it
with_number : (n : ℕ) (text : Text) → n < 256 → list_all is_printable text ≡ true → list_all is_printable (decimal n ++ text) ≡ true
with_number n text less all = list_all-append is_printable (decimal n) text ∙ (λ i. printable n less i && all i)

printable_question : (question : Question) → IsAbout question → list_all is_printable (question_text question) ≡ true
printable_question (Drug person) a = with_number person (codes ")") (omega (arith, a)) refl
printable_question (Has person disease) (a, c) =
    with_number person (codes ", d" ++ (decimal disease ++ codes ")")) (omega (arith, a)) (with_number disease (codes ")") (omega (arith, c)) refl)
printable_question (Somebody disease) c = with_number disease (codes ")") (omega (arith, c)) refl
printable_question (Everybody disease) c = with_number disease (codes ") -> drug(x)") (omega (arith, c)) refl
printable_question (Either person other disease) (a, b, c) =
    with_number person (codes ", d" ++ (decimal disease ++ (codes ") or has(p" ++ (decimal other ++ (codes ", d" ++ (decimal disease ++ codes ")"))))))
    (omega (arith, a))
    (with_number disease (codes ") or has(p" ++ (decimal other ++ (codes ", d" ++ (decimal disease ++ codes ")")))) (omega (arith, c))
    (with_number other (codes ", d" ++ (decimal disease ++ codes ")")) (omega (arith, b)) (with_number disease (codes ")") (omega (arith, c)) refl)))
printable_question (HasNot person disease) (a, c) =
    with_number person (codes ", d" ++ (decimal disease ++ codes ")")) (omega (arith, a)) (with_number disease (codes ")") (omega (arith, c)) refl)

longer : (n k : ℕ) (text : Text) → n < 256 → length text ≤ k → length (decimal n ++ text) ≤ 3 + k
longer n k text less short = let whole = length-append (decimal n) text in let few = byte_digits n less in omega (arith, whole, few, short)

short_question : (question : Question) → IsAbout question → length (question_text question) ≤ 100
short_question (Drug person) a = let one = longer person 1 (codes ")") (omega (arith, a)) (omega arith) in omega (arith, one)
short_question (Has person disease) (a, c) =
    let two = longer disease 1 (codes ")") (omega (arith, c)) (omega arith) in
    let one = longer person 7 (codes ", d" ++ (decimal disease ++ codes ")")) (omega (arith, a)) (omega (arith, two)) in omega (arith, one)
short_question (Somebody disease) c = let one = longer disease 1 (codes ")") (omega (arith, c)) (omega arith) in omega (arith, one)
short_question (Everybody disease) c = let one = longer disease 12 (codes ") -> drug(x)") (omega (arith, c)) (omega arith) in omega (arith, one)
short_question (Either person other disease) (a, b, c) =
    let four = longer disease 1 (codes ")") (omega (arith, c)) (omega arith) in
    let three = longer other 7 (codes ", d" ++ (decimal disease ++ codes ")")) (omega (arith, b)) (omega (arith, four)) in
    let two = longer disease 20 (codes ") or has(p" ++ (decimal other ++ (codes ", d" ++ (decimal disease ++ codes ")")))) (omega (arith, c))
    (omega (arith, three)) in
    let one = longer person 26 (codes ", d" ++ (decimal disease ++ (codes ") or has(p" ++ (decimal other ++ (codes ", d" ++ (decimal disease ++ codes ")"))))))
    (omega (arith, a)) (omega (arith, two)) in omega (arith, one)
short_question (HasNot person disease) (a, c) =
    let two = longer disease 1 (codes ")") (omega (arith, c)) (omega arith) in
    let one = longer person 7 (codes ", d" ++ (decimal disease ++ codes ")")) (omega (arith, a)) (omega (arith, two)) in omega (arith, one)

-- ---- a line

-- the line of an ask without its line feed
abbrev line_of : ℕ → Text → Text
line_of user text = codes "u" ++ (decimal user ++ (codes " 1 ask " ++ text))

module _ (user : ℕ) (text : Text) (small : user < 256) (all : list_all is_printable text ≡ true) (few : length text ≤ 100) where
  printable_line : list_all is_printable (line_of user text) ≡ true
  printable_line = with_number user (codes " 1 ask " ++ text) small all

  short_line : nat_lt 4096 (length (line_of user text)) ≡ false
  short_line = short (longer user 107 (codes " 1 ask " ++ text) small (omega (arith, few)))
    where
      short : length (decimal user ++ (codes " 1 ask " ++ text)) ≤ 110 → nat_lt 4096 (length (line_of user text)) ≡ false
      short less = grind (arith, nat_tests)

  no_blank : list_all (λ b. not (is_blank b)) (user_name user) ≡ true
  no_blank = all_weaker is_dark (λ b. not (is_blank b)) (λ b is. (and_parts (is_printable b) (not (is_blank b)) is).1) (decimal user) (dark user small)

  at_blank : position_or_len is_blank (line_of user text) ≡ length (user_name user)
  at_blank = place is_blank (user_name user) 32 (codes "1 ask " ++ text) no_blank refl

  name_first : before_first is_blank (line_of user text) ≡ user_name user
  name_first = ap (λ n. take n (line_of user text)) at_blank ∙ front (user_name user) (32 ∷ (codes "1 ask " ++ text))

  rest_behind : after_first is_blank (line_of user text) ≡ codes "1 ask " ++ text
  rest_behind = ap (λ n. drop (n + 1) (line_of user text)) at_blank ∙ back (user_name user) 32 (codes "1 ask " ++ text)

  named : named_ask (user_name user) (codes "1 ask " ++ text) ≡ Some (asks (record { name = user_name user; caller = by_session 1; text = text }))
  named =
      ap (λ (t : Bool). if t && list_any is_blank (codes "1 ask " ++ text)
      then ask_by (user_name user) (caller_named (before_first is_blank (codes "1 ask " ++ text))) (after_first is_blank (codes "1 ask " ++ text))
      else None) (has_form user small)

  -- it says the ask
  says_ask : batch_line (line_of user text) ≡ Some (asks (record { name = user_name user; caller = by_session 1; text = text }))
  unfolding batch_line
  says_ask =
      ap (λ (t : Bool). if t then spoken (line_of user text) else None) printable_line
      ∙ ap (λ (t : Bool). if t then worded (before_first is_blank (line_of user text)) (after_first is_blank (line_of user text))
      else None) (some is_blank (user_name user) 32 (codes "1 ask " ++ text) refl)
      ∙ (λ i. worded (name_first i) (rest_behind i)) ∙ named

  -- it is the first line of what it stands before
  next_line : (rest : List ℕ) → text_lines (line_of user text ++ 10 ∷ rest) ≡ record { bytes = line_of user text; ended = true } ∷ text_lines rest
  unfolding text_lines
  next_line rest = line_up [] (line_of user text) rest (all_weaker is_printable is_other no_feed (line_of user text) printable_line)

  -- it adds its ask
  one_more : (number : ℕ) (before : List BatchItem) → number ≤ 100000
      → unless (line_refusal number (record { bytes = line_of user text; ended = true })) (with_line before (without_return (line_of user text)))
      ≡ Ok (before ++ asked (record { name = user_name user; caller = by_session 1; text = text }) ∷ [])
  one_more number before few =
      (λ i. unless (if short_line i then Some TooLong else if not_many number few i then Some TooMany
      else None) (with_said before (batch_line (whole (line_of user text) printable_line i))))
      ∙ ap (with_said before) says_ask
    where
      not_many : (number : ℕ) → number ≤ 100000 → nat_lt 100000 number ≡ false
      not_many number few = grind (arith, nat_tests)

split_line : (user : ℕ) (text rest : Text) → (codes "u" ++ (decimal user ++ (codes " 1 ask " ++ (text ++ codes "\n")))) ++ rest ≡ line_of user text ++ 10 ∷ rest
split_line user text rest =
    ap (λ l. codes "u" ++ l) (append_assoc (decimal user) (codes " 1 ask " ++ (text ++ codes "\n")) rest
    ∙ ap (λ l. decimal user ++ (codes " 1 ask " ++ l)) (append_assoc text (codes "\n") rest)
    ∙ sym (append_assoc (decimal user) (codes " 1 ask " ++ text) (10 ∷ rest)))

-- ---- all lines

module _ (seed users : ℕ) (some_user : 0 < users) (few_users : users ≤ 256) where
  abbrev question : ℕ → Question
  question t = question_at seed (620 + 3 * users + 4 * t)

  abbrev lines : ℕ → ℕ → List ℕ
  lines a n = flat_map (λ t. ask_line (t % users) (question t)) (range_with_len a n)

  abbrev items : ℕ → List BatchItem
  items n = map (workload_ask seed users) (range_with_len 0 n)

  is_user : (t : ℕ) → t % users < 256
  is_user t = let less = mod-lt t {m = users} some_user in omega (arith, less, few_users)

  items_more : (a : ℕ) → items a ++ workload_ask seed users a ∷ [] ≡ items (a + 1)
  items_more a = sym (ap (map (workload_ask seed users)) (range_to a) ∙ map-append (workload_ask seed users) (range_with_len 0 a) (a ∷ []))

  lines_read : (a n : ℕ) → a + n ≤ 100000 → script_after with_line (a + 1) (items a) (text_lines (lines a n)) ≡ Ok (items (a + n))
  lines_read a zero few = ap (script_after with_line (a + 1) (items a)) no_lines ∙ ap (λ m. Ok (items m)) (none a)
    where
      none : (a : ℕ) → a ≡ a + 0
      none a = omega arith
  lines_read a (suc n) few =
      let text = question_text (question a) in
      let on_line = printable_question (question a) (about_at seed (620 + 3 * users + 4 * a)) in
      let short = short_question (question a) (about_at seed (620 + 3 * users + 4 * a)) in
      ap (λ bytes. script_after with_line (a + 1) (items a) (text_lines bytes)) (split_line (a % users) text (lines (a + 1) n))
      ∙ ap (script_after with_line (a + 1) (items a)) (next_line (a % users) text (is_user a) on_line short (lines (a + 1) n))
      ∙ ap (λ r. then_lines with_line (a + 1) r (λ next. script_after with_line (a + 1 + 1) next (text_lines (lines (a + 1) n))))
      (one_more (a % users) text (is_user a) on_line short (a + 1) (items a) (omega (arith, few)))
      ∙ ap (λ before. script_after with_line (a + 1 + 1) before (text_lines (lines (a + 1) n))) (items_more a)
      ∙ lines_read (a + 1) n (omega (arith, few)) ∙ ap (λ m. Ok (items m)) (next a n)
    where
      next : (a n : ℕ) → a + 1 + n ≡ a + suc n
      next a n = omega arith

  -- the script of a seed reads as its asks
  pub script_reads : (count : ℕ) → count ≤ 10000 → batch_of (script_lines seed (620 + 3 * users) users count) ≡ Ok (workload_script seed users count)
  unfolding batch_of script_lines
  script_reads count few = lines_read 0 count (omega (arith, few)) ∙ ap (λ n. Ok (items n)) (all count)
    where
      all : (n : ℕ) → 0 + n ≡ n
      all n = omega arith
