-- Bytes that stand for whole records, and journals made of them.
use Rattle.std.proofs.Common.{◌≡◌, ◌≢◌, ℕ, zero, suc, ◌+◌, ◌-◌, ◌<◌, ◌≤◌, ◌^◌, ◌/◌, ◌%◌, Bool, true, ◌&&◌, nat_le, nat_lt, List, [], ◌∷◌, ◌++◌, length, take}
use Rattle.std.proofs.Common.{drop, get_or, Some, None, refl, sym, ◌∙◌, ap, subst, arith, append_assoc, length-append, if◌then◌else◌}
use Rattle.std.proofs.lemmas.List.{append-nil, take_at, drop_at, get_or-append_right}
use Rattle.std.proofs.lemmas.Bool.{and_parts}
use Rattle.std.proofs.lemmas.Bool.Decides.{nat_tests}
use Rattle.std.specs.List.{list_all}
use Rattle.log_journal.specs.Records.{Recorded, is_record, written, IsJournal}
use Rattle.log_journal.specs.Walk.{length_of, opened, records, is_whole, damaged, IsWalked}
use Rattle.log_journal.specs.Bytes.{IsFront, EndsAt}

-- bytes that are passed over say nothing
pub opened_skip : (n : ℕ) (text rest : List ℕ) → length text ≡ n → opened n (text ++ rest) ≡ opened 0 rest
opened_skip zero [] rest is = refl
opened_skip zero (byte ∷ text) rest is = absurd (omega arith)
opened_skip (suc n) [] rest is = absurd (omega arith)
opened_skip (suc n) (byte ∷ text) rest is = opened_skip n text rest (omega arith)

pub damaged_skip : (kinds number n : ℕ) (text rest : List ℕ) → length text ≡ n → damaged kinds number n (text ++ rest) ≡ damaged kinds number 0 rest
damaged_skip kinds number zero [] rest is = refl
damaged_skip kinds number zero (byte ∷ text) rest is = absurd (omega arith)
damaged_skip kinds number (suc n) [] rest is = absurd (omega arith)
damaged_skip kinds number (suc n) (byte ∷ text) rest is = damaged_skip kinds number n text rest (omega arith)

pub opened_closed : (gate : ℕ) (rest : List ℕ) → gate ≢ 1 → opened 0 (gate ∷ rest) ≡ []
opened_closed gate [] shut = refl
opened_closed gate (a ∷ []) shut = refl
opened_closed gate (a ∷ b ∷ []) shut = refl
opened_closed gate (a ∷ b ∷ d ∷ rest) shut = grind (arith, nat_tests)

pub damaged_closed : (kinds number gate : ℕ) (rest : List ℕ) → gate ≢ 1 → damaged kinds number 0 (gate ∷ rest) ≡ None
damaged_closed kinds number gate [] shut = grind (arith, nat_tests)
damaged_closed kinds number gate (a ∷ []) shut = grind (arith, nat_tests)
damaged_closed kinds number gate (a ∷ b ∷ []) shut = grind (arith, nat_tests)
damaged_closed kinds number gate (a ∷ b ∷ d ∷ rest) shut = grind (arith, nat_tests)

-- ---- whole records

written_append : (all more : List Recorded) → written (all ++ more) ≡ written all ++ written more
written_append [] more = refl
written_append ((kind, text) ∷ all) more =
    ap (λ (l : List ℕ). 1 ∷ kind ∷ length text / 256 ∷ length text % 256 ∷ (text ++ l)) (written_append all more)
    ∙ ap (λ (l : List ℕ). 1 ∷ kind ∷ length text / 256 ∷ length text % 256 ∷ l) (sym (append_assoc text (written all) (written more)))

each_append : (kinds : ℕ) (all more : List Recorded) → list_all (is_record kinds) all ≡ true → list_all (is_record kinds) more ≡ true
    → list_all (is_record kinds) (all ++ more) ≡ true
each_append kinds [] more first second = second
each_append kinds (one ∷ all) more first second =
    let parts = and_parts (is_record kinds one) (list_all (is_record kinds) all) first in
    ap (λ b. b && list_all (is_record kinds) (all ++ more)) parts.0 ∙ each_append kinds all more parts.1 second

at_most_more : (kind few many : ℕ) → few ≤ many → nat_le kind few ≡ true → nat_le kind many ≡ true
at_most_more kind few many le is = grind (arith, nat_tests)

-- records of so many kinds are records where there are more kinds
more_kinds : (kinds more : ℕ) → kinds ≤ more → (all : List Recorded) → list_all (is_record kinds) all ≡ true → list_all (is_record more) all ≡ true
more_kinds kinds more le [] each = refl
more_kinds kinds more le (one ∷ all) each =
    let parts = and_parts (is_record kinds one) (list_all (is_record kinds) all) each in
    let sides = and_parts (nat_le 1 one.0 && nat_le one.0 kinds) (nat_le (length one.1) 4096) parts.0 in
    let range = and_parts (nat_le 1 one.0) (nat_le one.0 kinds) sides.0 in
    (λ i. ((range.0 i && at_most_more one.0 kinds more le range.1 i) && sides.1 i) && list_all (is_record more) all)
    ∙ more_kinds kinds more le all parts.1

-- so is what stands for them
pub front_of_more : (kinds more : ℕ) (front : List ℕ) (all : List Recorded) → kinds ≤ more → IsFront kinds front all → IsFront more front all
front_of_more kinds more front all le is = record { is = is.is; each = more_kinds kinds more le all is.each }

pub front_none : (kinds : ℕ) → IsFront kinds [] []
front_none kinds = record { is = refl; each = refl }

-- one whole record
pub front_one : (kinds kind high low : ℕ) (text : List ℕ) → length text ≡ length_of high low → low < 256 → 1 ≤ kind → kind ≤ kinds → length text ≤ 4096
    → IsFront kinds (1 ∷ kind ∷ high ∷ low ∷ text) ((kind, text) ∷ [])
front_one kinds kind high low text size low_byte low_kind high_kind short =
    let first : high ≡ length text / 256 = omega (arith, size, low_byte) in
    let second : low ≡ length text % 256 = omega (arith, size, low_byte) in
    let proper : is_record kinds (kind, text) ≡ true = grind (arith, nat_tests) in
    record {
      is = λ i. 1 ∷ kind ∷ first i ∷ second i ∷ sym (append-nil text) i;
      each = ap (λ b. b && true) proper;
    }

-- one behind the other
pub front_append : (kinds : ℕ) (first second : List ℕ) (all more : List Recorded) → IsFront kinds first all → IsFront kinds second more
    → IsFront kinds (first ++ second) (all ++ more)
front_append kinds first second all more one two = record {
  is = (λ i. one.is i ++ two.is i) ∙ sym (written_append all more);
  each = each_append kinds all more one.each two.each;
}

-- ---- the walk through them

two_bytes : (n : ℕ) → n ≡ length_of (n / 256) (n % 256)
two_bytes n = omega arith

-- a record is whole where anything follows it
record_whole : (kinds kind : ℕ) (text behind : List ℕ) → is_record kinds (kind, text) ≡ true → 0 < length behind
    → is_whole kinds kind (length text / 256) (length text % 256) (text ++ behind) ≡ true
record_whole kinds kind text behind proper more =
    let parts = and_parts (nat_le 1 kind && nat_le kind kinds) (nat_le (length text) 4096) proper in
    let short : length text ≤ 4096 = grind (arith, nat_tests) in
    let size = two_bytes (length text) in
    let long : length_of (length text / 256) (length text % 256) < length (text ++ behind) = omega (arith, size, more, length-append text behind) in
    let bound : length_of (length text / 256) (length text % 256) ≤ 4096 = omega (arith, size, short) in
    let low : length text % 256 < 256 = omega arith in
    sides (nat_le 1 kind && nat_le kind kinds) (nat_lt (length text % 256) 256) (nat_le (length_of (length text / 256) (length text % 256)) 4096)
    (nat_lt (length_of (length text / 256) (length text % 256)) (length (text ++ behind))) parts.0 (is_less _ _ low) (is_most _ _ bound) (is_less _ _ long)
  where
    is_less : (a b : ℕ) → a < b → nat_lt a b ≡ true
    is_less a b less = grind (arith, nat_tests)

    is_most : (a b : ℕ) → a ≤ b → nat_le a b ≡ true
    is_most a b most = grind (arith, nat_tests)

    sides : (a b c d : Bool) → a ≡ true → b ≡ true → c ≡ true → d ≡ true → ((a && b) && (c && d)) ≡ true
    sides a b c d p q r s = λ i. (p i && q i) && (r i && s i)

written_are : (all : List Recorded) (rest : List ℕ) → opened 0 (written all ++ rest) ≡ all ++ opened 0 rest
written_are [] rest = refl
written_are ((kind, text) ∷ all) rest =
    let size = two_bytes (length text) in
    ap (λ (l : List ℕ). (kind, take (length_of (length text / 256) (length text % 256)) l) ∷ opened (length_of (length text / 256) (length text % 256)) l)
    (append_assoc text (written all) rest)
    ∙ (λ i. (kind, take_at text (written all ++ rest) (length_of (length text / 256) (length text % 256)) size i)
    ∷ opened_skip (length_of (length text / 256) (length text % 256)) text (written all ++ rest) size i)
    ∙ ap (λ (l : List Recorded). (kind, text) ∷ l) (written_are all rest)

written_whole : (kinds : ℕ) (all : List Recorded) → list_all (is_record kinds) all ≡ true → (number gate : ℕ) (rest : List ℕ)
    → damaged kinds number 0 (written all ++ gate ∷ rest) ≡ damaged kinds (number + length all) 0 (gate ∷ rest)
written_whole kinds [] each number gate rest = ap (λ (n : ℕ). damaged kinds n 0 (gate ∷ rest)) (omega arith)
written_whole kinds ((kind, text) ∷ all) each number gate rest =
    let parts = and_parts (is_record kinds (kind, text)) (list_all (is_record kinds) all) each in
    let size = two_bytes (length text) in
    let high = length text / 256 in
    let low = length text % 256 in
    let behind : List ℕ = written all ++ gate ∷ rest in
    let more : 0 < length behind = omega (arith, length-append (written all) (gate ∷ rest)) in
    ap (λ (l : List ℕ). if is_whole kinds kind high low l then damaged kinds (number + 1) (length_of high low) l
    else Some number) (append_assoc text (written all) (gate ∷ rest))
    ∙ ap (λ b. if b then damaged kinds (number + 1) (length_of high low) (text ++ behind) else Some number) (record_whole kinds kind text behind parts.0 more)
    ∙ damaged_skip kinds (number + 1) (length_of high low) text behind size
    ∙ written_whole kinds all parts.1 (number + 1) gate rest
    ∙ ap (λ (n : ℕ). damaged kinds n 0 (gate ∷ rest)) (omega arith)

pub front_whole : (kinds : ℕ) (front : List ℕ) (all : List Recorded) → IsFront kinds front all → (number gate : ℕ) (rest : List ℕ)
    → damaged kinds number 0 (front ++ gate ∷ rest) ≡ damaged kinds (number + length all) 0 (gate ∷ rest)
front_whole kinds front all is number gate rest =
    ap (λ (l : List ℕ). damaged kinds number 0 (l ++ gate ∷ rest)) is.is ∙ written_whole kinds all is.each number gate rest

-- the walk finds what a journal says
module _ (header : List ℕ) (all : List Recorded) (bytes : List ℕ) (journal : IsJournal header all bytes) where
  walk_size : length bytes ≡ 72 + length (written all) + 1 + length journal.rest
  walk_size = ap length journal.is
      ∙ omega (arith, journal.size, length-append (header ++ written all) (journal.gate ∷ journal.rest), length-append header (written all))

  walk_behind : drop 72 bytes ≡ written all ++ journal.gate ∷ journal.rest
  walk_behind = ap (λ (l : List ℕ). drop 72 l) (journal.is ∙ append_assoc header (written all) (journal.gate ∷ journal.rest))
      ∙ drop_at header (written all ++ journal.gate ∷ journal.rest) 72 journal.size

  -- no record of so many kinds is damaged
  pub undamaged : (kinds : ℕ) → list_all (is_record kinds) all ≡ true → damaged kinds 0 0 (drop 72 bytes) ≡ None
  undamaged kinds each =
      ap (λ (l : List ℕ). damaged kinds 0 0 l) walk_behind ∙ written_whole kinds all each 0 journal.gate journal.rest
      ∙ damaged_closed kinds (0 + length all) journal.gate journal.rest journal.closed

  pub walked : IsWalked header all bytes
  walked = record {
    long = omega (arith, walk_size);
    begins = ap (λ (l : List ℕ). take 72 l) (journal.is ∙ append_assoc header (written all) (journal.gate ∷ journal.rest))
        ∙ take_at header (written all ++ journal.gate ∷ journal.rest) 72 journal.size;
    whole = undamaged 5 journal.each;
    are = ap (λ (l : List ℕ). opened 0 l) walk_behind ∙ written_are all (journal.gate ∷ journal.rest)
        ∙ ap (λ (l : List Recorded). all ++ l) (opened_closed journal.gate journal.rest journal.closed) ∙ append-nil all;
  }

-- a header, whole records, and a closed gate
module _ (header front : List ℕ) (all : List Recorded) (gate : ℕ) (rest c : List ℕ) (size : length header ≡ 72) (is_front : IsFront 5 front all)
    (shut : gate ≢ 1) (split : c ≡ header ++ front ++ gate ∷ rest) where
  long : length c ≡ 72 + length front + 1 + length rest
  long = ap length split ∙ omega (arith, size, length-append (header ++ front) (gate ∷ rest), length-append header front)

  pub journal_of : IsJournal header all c
  journal_of = record {
    size = size;
    each = is_front.each;
    gate = gate;
    rest = rest;
    closed = shut;
    is = split ∙ ap (λ (l : List ℕ). header ++ l ++ gate ∷ rest) is_front.is;
  }

  pub ends_of : (place : ℕ) → place ≡ 72 + length front → length c < 2 ^ 64 → EndsAt c place
  ends_of place is fits =
      let front_size : length (header ++ front) ≡ place = omega (arith, is, size, length-append header front) in
      let before : take place c ≡ header ++ front = ap (λ (l : List ℕ). take place l) split ∙ take_at (header ++ front) (gate ∷ rest) place front_size in
      let drops : drop 72 (take place c) ≡ front = ap (λ (l : List ℕ). drop 72 l) before ∙ drop_at header front 72 size in
      let none_left : place - place ≡ 0 = omega arith in
      let byte : get_or c place 1 ≡ gate =
      ap (λ (l : List ℕ). get_or l place 1) split ∙ get_or-append_right (header ++ front) (gate ∷ rest) place place 1 front_size (omega arith)
      ∙ ap (λ (n : ℕ). get_or (gate ∷ rest) n 1) none_left in
      record {
        behind = omega (arith, is);
        within = omega (arith, is, long);
        front = subst (λ (l : List ℕ). IsFront 5 l (records c)) (sym drops)
            (subst (λ (l : List Recorded). IsFront 5 front l) (sym (walked header all c journal_of).are) is_front);
        closed = λ one. shut (sym byte ∙ one);
        fits = fits;
      }

-- a header and a closed gate
pub empty_journal_of : (header c : List ℕ) → length header ≡ 72 → c ≡ header ++ 0 ∷ [] → IsJournal header [] c
empty_journal_of header c size is =
    journal_of header [] [] 0 [] c size (front_none 5) (omega arith) (is ∙ ap (λ (l : List ℕ). l ++ 0 ∷ []) (sym (append-nil header)))

pub empty_ends_of : (header c : List ℕ) → length header ≡ 72 → c ≡ header ++ 0 ∷ [] → EndsAt c 72
empty_ends_of header c size is =
    let long : length c ≡ 73 = ap length is ∙ omega (arith, size, length-append header (0 ∷ [])) in
    ends_of header [] [] 0 [] c size (front_none 5) (omega arith) (is ∙ ap (λ (l : List ℕ). l ++ 0 ∷ []) (sym (append-nil header))) 72 (omega arith)
    (omega (arith, long))
