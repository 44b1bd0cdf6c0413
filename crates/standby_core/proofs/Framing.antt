-- What the first bytes of a frame show.
use Rattle.std.proofs.Common.{◌≡◌, ◌⊎◌, inl, inr, ℕ, ◌+◌, ◌≤◌, ◌<◌, Bool, true, false, ◌&&◌, ◌==◌, List, [], ◌∷◌, ◌++◌, length, take, drop, get_or, min, refl}
use Rattle.std.proofs.Common.{sym, ap, subst, ◌∙◌, ⊎_elim, arith, append_assoc, length-append, length-drop, take-append-drop}
use Rattle.std.specs.Int.{w16, w64, to_be_bytes, from_be_bytes}
use Rattle.std.specs.Prelude.{IsUtf8}
use Rattle.std.proofs.lemmas.Bool.{cases_lt, eqb-true}
use Rattle.std.proofs.lemmas.List.{append_cancel_left, append-nil, drop_more, drop-drop}
use Rattle.std.proofs.lemmas.Nat.{from_be_bytes-to_be_bytes_2}
use Rattle.std.proofs.Math.ListN.{drop_of_length-le}
use Rattle.log_journal.specs.declared.header.Header.{Header}
use Rattle.standby_core.specs.Frames.{Carried, IsCarried, frame_mark, tail_bytes, frame_bytes, IsFrame, agree, IsOther}
use Rattle.standby_core.specs.Frames.{EndsWithinFrame, Shows, GoesOn, ShowsTail}
use Rattle.standby_core.specs.Frames.{carried_in}
use Rattle.standby_core.specs.declared.frame.Judged.{Judged}
use Rattle.standby_core.specs.declared.frame.Judged.TheVariants.{Frame, Short, Bad, Other}
use Rattle.standby_core.proofs.Agreeing.{agree-with, agree-longer}

-- ---- lists that agree

-- a list that agrees with a shorter one begins with it
pub agree-take : (xs ys : List ℕ) → agree xs ys ≡ true → length ys ≤ length xs → take (length ys) xs ≡ ys
agree-take xs [] same long = refl
agree-take [] (y ∷ ys) same long = absurd (omega (arith, long))
agree-take (x ∷ xs) (y ∷ ys) same long = by (x == y) refl (λ others. agree-take xs ys others (omega (arith, long))) same
  where
    by : (b : Bool) → (x == y) ≡ b → (agree xs ys ≡ true → take (length ys) xs ≡ ys) → (b && agree xs ys) ≡ true
        → take (length (y ∷ ys)) (x ∷ xs) ≡ y ∷ ys
    by true one on others = λ i. eqb-true x y one i ∷ on others i
    by false one on others = absurd cc

-- it agrees with two one behind the other where it does with each
pub agree-both : (xs ys zs : List ℕ) → agree xs (ys ++ zs) ≡ (agree xs ys && agree (drop (length ys) xs) zs)
agree-both [] [] zs = refl
agree-both (x ∷ xs) [] zs = refl
agree-both [] (y ∷ ys) zs = refl
agree-both (x ∷ xs) (y ∷ ys) zs = by (x == y) (agree-both xs ys zs)
  where
    by : (b : Bool) → agree xs (ys ++ zs) ≡ (agree xs ys && agree (drop (length ys) xs) zs)
        → (b && agree xs (ys ++ zs)) ≡ ((b && agree xs ys) && agree (drop (length ys) xs) zs)
    by true both = both
    by false both = refl

-- a list that begins with another agrees with it
pub begins_agree : (xs ys : List ℕ) → take (length ys) xs ≡ ys → agree xs ys ≡ true
begins_agree xs ys begins =
    ap (λ l. agree l ys) (sym (take-append-drop (length ys) xs) ∙ ap (λ l. l ++ drop (length ys) xs) begins) ∙ agree-with ys (drop (length ys) xs)

-- one that differs from another has a byte
pub some_differ : (xs ys : List ℕ) → agree xs ys ≡ false → 0 < length xs
some_differ [] ys differs = let clash : true ≡ false = agrees_none ys differs in absurd cc
  where
    agrees_none : (ys : List ℕ) → agree [] ys ≡ false → true ≡ false
    agrees_none [] is = is
    agrees_none (y ∷ ys) is = is
some_differ (x ∷ xs) ys differs = omega arith

-- what lies behind so many bytes, or nothing
pub drop_within : (xs : List ℕ) (n m : ℕ) → m ≡ min (length xs) n → drop m xs ≡ drop n xs
drop_within xs n m is =
    ⊎_elim
    (λ short. let all : length xs ≤ m = omega (arith, is, short) in
    drop_of_length-le xs all ∙ sym (drop_of_length-le xs (let more : length xs ≤ n = omega (arith, short) in more)))
    (λ long. let same : m ≡ n = omega (arith, is, long) in ap (λ k. drop k xs) same)
    (cases_lt (length xs) n)

-- how long a tail is
pub tail_size : (one : Carried) → length (tail_bytes one) ≡ length one.name + 11 + length one.text
tail_size one =
    let number = to_be_bytes w64 one.number in
    let kind = one.kind ∷ [] in
    let size = to_be_bytes w16 (length one.text) in
    omega (
      arith,
      length-append (one.name ++ number ++ kind ++ size) one.text,
      length-append (one.name ++ number ++ kind) size,
      length-append (one.name ++ number) kind,
      length-append one.name number,
    )

module _ (header : Header) where
  abbrev pub digests : List ℕ
  digests = header.policy ++ header.facts

  -- the first bytes, both digests, and the length of a name
  abbrev pub head_bytes : ℕ → List ℕ
  head_bytes named = frame_mark ++ header.policy ++ header.facts ++ (named ∷ [])

  head_split : (named : ℕ) (rest : List ℕ) → head_bytes named ++ rest ≡ frame_mark ++ (digests ++ (named ∷ rest))
  head_split named rest =
      append_assoc (frame_mark ++ header.policy ++ header.facts) (named ∷ []) rest
      ∙ append_assoc (frame_mark ++ header.policy) header.facts (named ∷ rest)
      ∙ append_assoc frame_mark header.policy (header.facts ++ (named ∷ rest))
      ∙ ap (λ l. frame_mark ++ l) (sym (append_assoc header.policy header.facts (named ∷ rest)))

  -- a frame is its head and its tail
  frame_split : (one : Carried) → frame_bytes header one ≡ head_bytes (length one.name) ++ tail_bytes one
  frame_split one =
      let head = head_bytes (length one.name) in
      let number = to_be_bytes w64 one.number in
      let kind = one.kind ∷ [] in
      let size = to_be_bytes w16 (length one.text) in
      ap (λ l. l ++ one.text)
      (ap (λ l. l ++ size)
      (ap (λ l. l ++ kind) (append_assoc head one.name number) ∙ append_assoc head (one.name ++ number) kind)
      ∙ append_assoc head (one.name ++ number ++ kind) size)
      ∙ append_assoc head (one.name ++ number ++ kind ++ size) one.text

  -- two frames differ in length as their tails do
  pub frames_alike : (one other : Carried)
      → length (frame_bytes header one) + length (tail_bytes other) ≡ length (frame_bytes header other) + length (tail_bytes one)
  frames_alike one other =
      omega (
        arith,
        ap length (frame_split one),
        ap length (frame_split other),
        length-append (head_bytes (length one.name)) (tail_bytes one),
        length-append (head_bytes (length other.name)) (tail_bytes other),
        length-append (frame_mark ++ header.policy ++ header.facts) (length one.name ∷ []),
        length-append (frame_mark ++ header.policy ++ header.facts) (length other.name ∷ []),
      )

  pub frame_goes : (one : Carried) (more : List ℕ)
      → frame_bytes header one ++ more ≡ frame_mark ++ (digests ++ (length one.name ∷ (tail_bytes one ++ more)))
  frame_goes one more =
      ap (λ l. l ++ more) (frame_split one) ∙ append_assoc (head_bytes (length one.name)) (tail_bytes one) more
      ∙ head_split (length one.name) (tail_bytes one ++ more)

  -- what some bytes go on to as a frame agrees with the first bytes
  frame_marked : (bytes rest more : List ℕ) (one : Carried) → bytes ++ rest ≡ frame_bytes header one ++ more → agree (bytes ++ rest) frame_mark ≡ true
  frame_marked bytes rest more one is =
      ap (λ l. agree l frame_mark) (is ∙ frame_goes one more) ∙ agree-with frame_mark (digests ++ (length one.name ∷ (tail_bytes one ++ more)))

  -- ---- the first bytes or a digest differ

  pub unmarked : (bytes : List ℕ) → agree bytes frame_mark ≡ false → Shows header bytes Bad
  unmarked bytes differs = (
    λ none. let some : 0 < length bytes = some_differ bytes frame_mark differs in omega (arith, some, ap length none),
    λ one rest more proper is. let clash : true ≡ false = sym (frame_marked bytes rest more one is) ∙ agree-longer bytes frame_mark rest differs in absurd cc,
    λ rest other.
        let clash : true ≡ false = sym (begins_agree (bytes ++ rest) frame_mark other.marked) ∙ agree-longer bytes frame_mark rest differs in absurd cc,
  )

  pub of_other : (bytes : List ℕ) → agree bytes frame_mark ≡ true → agree (drop 8 bytes) digests ≡ false → IsOther header bytes
  of_other bytes marked differs = record {
    marked = let some : 0 < length (drop 8 bytes) = some_differ (drop 8 bytes) digests differs in
        agree-take bytes frame_mark marked (omega (arith, some, length-drop 8 bytes));
    differs = differs;
  }

  -- a digest that differs shows as soon as a byte of it does
  not_other : (bytes rest : List ℕ) → agree (drop 8 (bytes ++ rest)) digests ≡ true → IsOther header (bytes ++ rest) → ⊥
  not_other bytes rest same other = let clash : true ≡ false = sym same ∙ other.differs in absurd cc

  pub not_other_now : (bytes : List ℕ) → agree (drop 8 bytes) digests ≡ true → IsOther header bytes → ⊥
  not_other_now bytes same other = let clash : true ≡ false = sym same ∙ other.differs in absurd cc

  module _ (policy_size : length header.policy ≡ 32) (facts_size : length header.facts ≡ 32) where
    digests_size : length digests ≡ 64
    digests_size = omega (arith, length-append header.policy header.facts, policy_size, facts_size)

    head_size : (named : ℕ) → length (head_bytes named) ≡ 73
    head_size named =
        omega (
          arith,
          length-append (frame_mark ++ header.policy ++ header.facts) (named ∷ []),
          length-append (frame_mark ++ header.policy) header.facts,
          length-append frame_mark header.policy,
          policy_size,
          facts_size,
        )

    pub frame_size : (one : Carried) → length (frame_bytes header one) ≡ 73 + length (tail_bytes one)
    frame_size one =
        ap length (frame_split one) ∙ length-append (head_bytes (length one.name)) (tail_bytes one)
        ∙ ap (λ n. n + length (tail_bytes one)) (head_size (length one.name))

    pub short_of_head : (bytes : List ℕ) → agree (drop 8 bytes) digests ≡ true → length bytes < 73 → Shows header bytes (Short 73)
    short_of_head bytes same short = (
      short,
      omega arith,
      λ one rest more proper is. omega (arith, frame_size one),
      not_other_now bytes same,
    )

    -- ---- the head is there

    module _ (bytes : List ℕ) (marked : agree bytes frame_mark ≡ true) (same : agree (drop 8 bytes) digests ≡ true) (long : 73 ≤ length bytes) where
      abbrev named : ℕ
      named = get_or bytes 72 0

      abbrev tail : List ℕ
      tail = drop 73 bytes

      headed : bytes ≡ head_bytes named ++ tail
      headed =
          let mark : take 8 bytes ≡ frame_mark = agree-take bytes frame_mark marked (omega (arith, long)) in
          let behind : 64 ≤ length (drop 8 bytes) = omega (arith, length-drop 8 bytes, long) in
          let many : length digests ≤ length (drop 8 bytes) = omega (arith, digests_size, behind) in
          let begins : take (length digests) (drop 8 bytes) ≡ digests = agree-take (drop 8 bytes) digests same many in
          let both : take 64 (drop 8 bytes) ≡ digests = ap (λ n. take n (drop 8 bytes)) (sym digests_size) ∙ begins in
          let rest : drop 64 (drop 8 bytes) ≡ named ∷ tail = drop-drop 64 8 bytes ∙ drop_more bytes 72 0 (omega (arith, long)) in
          sym (take-append-drop 8 bytes)
          ∙ (λ i. mark i ++ sym (take-append-drop 64 (drop 8 bytes)) i)
          ∙ (λ i. frame_mark ++ (both i ++ rest i))
          ∙ sym (head_split named tail)

      length_is : length bytes ≡ 73 + length tail
      length_is = omega (arith, length-drop 73 bytes, long)

      -- what goes on as a frame goes on as its tail
      goes_on : (one : Carried) (rest more : List ℕ) → IsCarried one → bytes ++ rest ≡ frame_bytes header one ++ more → GoesOn named tail one
      goes_on one rest more proper is =
          let whole : frame_mark ++ (digests ++ (named ∷ (tail ++ rest))) ≡ frame_mark ++ (digests ++ (length one.name ∷ (tail_bytes one ++ more))) =
          sym (head_split named (tail ++ rest)) ∙ sym (append_assoc (head_bytes named) tail rest) ∙ ap (λ l. l ++ rest) (sym headed) ∙ is
          ∙ frame_goes one more in
          let behind : named ∷ (tail ++ rest) ≡ length one.name ∷ (tail_bytes one ++ more) =
          append_cancel_left digests _ _ (append_cancel_left frame_mark _ _ whole) in
          record { proper = proper; size = cc; rest = rest; more = more; is = cc }

      -- and what goes on as a tail as a frame
      came_from : (one : Carried) (goes : GoesOn named tail one) → bytes ++ goes.rest ≡ frame_bytes header one ++ goes.more
      came_from one goes =
          ap (λ l. l ++ goes.rest) headed ∙ append_assoc (head_bytes named) tail goes.rest
          ∙ (λ i. head_bytes (sym goes.size i) ++ goes.is i)
          ∙ sym (append_assoc (head_bytes (length one.name)) (tail_bytes one) goes.more) ∙ ap (λ l. l ++ goes.more) (sym (frame_split one))

      pub tail_within : EndsWithinFrame header bytes → (one : Carried) → GoesOn named tail one → length tail ≤ length (tail_bytes one)
      tail_within within one goes =
          let most = within one goes.rest goes.more goes.proper (came_from one goes) in
          omega (arith, most, frame_size one, length_is)

      still_same : (rest : List ℕ) → agree (drop 8 (bytes ++ rest)) digests ≡ true
      still_same rest =
          ap (λ l. agree (drop 8 l) digests)
          (ap (λ l. l ++ rest) headed ∙ append_assoc (head_bytes named) tail rest ∙ head_split named (tail ++ rest))
          ∙ agree-with digests (named ∷ (tail ++ rest))

      -- what the tail shows, the bytes show
      pub tail_shows : (judged : Judged) → ShowsTail named tail judged → Shows header bytes judged
      tail_shows (Frame frame) shows = record {
        proper = shows.0;
        is = headed ∙ (λ i. head_bytes (sym shows.1 i) ++ shows.2 i) ∙ sym (frame_split (carried_in frame));
      }
      tail_shows (Short need) shows = (
        omega (arith, length_is, shows.0),
        shows.1,
        λ one rest more proper is. omega (arith, frame_size one, shows.2 one (goes_on one rest more proper is)),
        not_other_now bytes same,
      )
      tail_shows Bad shows = (
        λ none. omega (arith, long, ap length none),
        λ one rest more proper is. shows one (goes_on one rest more proper is),
        λ rest other. not_other bytes rest (still_same rest) other,
      )
      tail_shows Other shows = absurd shows

-- ---- the tail

-- a name that is too short or too long
pub badly_named : (named : ℕ) (bytes : List ℕ) → (named < 1) ⊎ (32 < named) → ShowsTail named bytes Bad
badly_named named bytes (inl short) one goes = omega (arith, short, goes.size, goes.proper.named)
badly_named named bytes (inr long) one goes = omega (arith, long, goes.size, goes.proper.name_short)

-- two lists whose first parts have one length
split_even : (xs ys zs ws : List ℕ) → xs ++ ys ≡ zs ++ ws → length xs ≡ length zs → (xs ≡ zs) × (ys ≡ ws)
split_even [] ys [] ws is same = (refl, is)
split_even [] ys (z ∷ zs) ws is same = absurd (omega (arith, same))
split_even (x ∷ xs) ys [] ws is same = absurd (omega (arith, same))
split_even (x ∷ xs) ys (z ∷ zs) ws is same =
    let one : x ≡ z = cc in
    let others : xs ++ ys ≡ zs ++ ws = cc in
    let rest = split_even xs ys zs ws others (omega (arith, same)) in
    (λ i. one i ∷ rest.0 i, rest.1)

-- the number, the kind and the length of the text
abbrev fields_bytes : Carried → List ℕ
fields_bytes one = to_be_bytes w64 one.number ++ (one.kind ∷ to_be_bytes w16 (length one.text))

tail_parts : (one : Carried) (more : List ℕ) → tail_bytes one ++ more ≡ one.name ++ (fields_bytes one ++ (one.text ++ more))
tail_parts one more =
    let number = to_be_bytes w64 one.number in
    let size = to_be_bytes w16 (length one.text) in
    append_assoc (one.name ++ number ++ (one.kind ∷ []) ++ size) one.text more
    ∙ ap (λ l. l ++ (one.text ++ more)) (append_assoc (one.name ++ number) (one.kind ∷ []) size ∙ append_assoc one.name number (one.kind ∷ size))
    ∙ append_assoc one.name (fields_bytes one) (one.text ++ more)

-- too few bytes for the fields
pub short_of_fields : (named : ℕ) (bytes : List ℕ) → named ≤ 32 → length bytes < named + 11 → ShowsTail named bytes (Short (73 + (named + 11)))
short_of_fields named bytes few short = (
  omega (arith, short),
  omega (arith, few),
  λ one goes. omega (arith, goes.size, tail_size one),
)

module _ (name fields text : List ℕ) (size : length fields ≡ 11) where
  abbrev bytes : List ℕ
  bytes = name ++ (fields ++ text)

  -- the fields of a record that these bytes go on as
  pub record HasFields (one : Carried) : Type 0 where
    pub name_is : name ≡ one.name
    pub fields_are : fields ≡ fields_bytes one

  pub fields_of : (one : Carried) → GoesOn (length name) bytes one → HasFields one
  fields_of one goes =
      let left : name ++ (fields ++ (text ++ goes.rest)) ≡ bytes ++ goes.rest =
      ap (λ l. name ++ l) (sym (append_assoc fields text goes.rest)) ∙ sym (append_assoc name (fields ++ text) goes.rest) in
      let first = split_even name (fields ++ (text ++ goes.rest)) one.name (fields_bytes one ++ (one.text ++ goes.more))
      (left ∙ goes.is ∙ tail_parts one goes.more) (sym goes.size) in
      let second = split_even fields (text ++ goes.rest) (fields_bytes one) (one.text ++ goes.more) first.1 size in
      record { name_is = first.0; fields_are = second.0 }

  kind_of : (one : Carried) → GoesOn (length name) bytes one → get_or fields 8 0 ≡ one.kind
  kind_of one goes = ap (λ l. get_or l 8 0) (fields_of one goes).fields_are

  size_of : (one : Carried) (count : ℕ) → count ≡ from_be_bytes w16 (drop 9 fields) → GoesOn (length name) bytes one → count ≡ length one.text
  size_of one count is goes =
      is ∙ ap (λ l. from_be_bytes w16 (drop 9 l)) (fields_of one goes).fields_are
      ∙ from_be_bytes-to_be_bytes_2 (length one.text) (omega (arith, goes.proper.short))

  -- a name that isn't UTF-8, a kind or a length out of its range, or a text that is too long
  pub bad_name : (IsUtf8 name → ⊥) → ShowsTail (length name) bytes Bad
  bad_name never one goes = never (subst IsUtf8 (sym (fields_of one goes).name_is) goes.proper.name_utf8)

  pub bad_kind : (get_or fields 8 0 < 1) ⊎ (5 < get_or fields 8 0) → ShowsTail (length name) bytes Bad
  bad_kind (inl low) one goes = omega (arith, low, kind_of one goes, goes.proper.kind_from)
  bad_kind (inr high) one goes = omega (arith, high, kind_of one goes, goes.proper.kind_to)

  module _ (count : ℕ) (is : count ≡ from_be_bytes w16 (drop 9 fields)) where
    pub bad_size : 4096 < count → ShowsTail (length name) bytes Bad
    bad_size large one goes = omega (arith, large, size_of one count is goes, goes.proper.short)

    pub bad_text : ((one : Carried) → GoesOn (length name) bytes one → length name + 11 + length text ≤ length (tail_bytes one)) → count < length text
        → ShowsTail (length name) bytes Bad
    bad_text within long one goes = omega (arith, long, within one goes, tail_size one, goes.size, size_of one count is goes)

    pub short_of_text : length name ≤ 32 → count ≤ 4096 → length text < count → ShowsTail (length name) bytes (Short (73 + length name + 11 + count))
    short_of_text few small short = (
      omega (arith, length-append name (fields ++ text), length-append fields text, size, short),
      omega (arith, few, small),
      λ one goes. omega (arith, tail_size one, goes.size, size_of one count is goes),
    )

  -- a whole record
  pub whole_tail : (number kind : ℕ) → to_be_bytes w64 number ≡ take 8 fields → kind ≡ get_or fields 8 0 → to_be_bytes w16 (length text) ≡ drop 9 fields
      → bytes ≡ tail_bytes (record { name = name; number = number; kind = kind; text = text })
  whole_tail number kind number_is kind_is size_is =
      let split : fields ≡ to_be_bytes w64 number ++ (kind ∷ to_be_bytes w16 (length text)) =
      sym (take-append-drop 8 fields) ∙ ap (λ l. take 8 fields ++ l) (drop_more fields 8 0 (omega (arith, size)))
      ∙ (λ i. sym number_is i ++ (sym kind_is i ∷ sym size_is i)) in
      ap (λ l. name ++ (l ++ text)) split
      ∙ sym (append_assoc name (to_be_bytes w64 number ++ (kind ∷ to_be_bytes w16 (length text))) text)
      ∙ ap (λ l. l ++ text)
      (sym (append_assoc name (to_be_bytes w64 number) (kind ∷ to_be_bytes w16 (length text)))
      ∙ sym (append_assoc (name ++ to_be_bytes w64 number) (kind ∷ []) (to_be_bytes w16 (length text))))

-- two records with names of one length, of which the tails go on to the same bytes
same_texts : (one other : Carried) (rest more : List ℕ) → IsCarried one → IsCarried other → length one.name ≡ length other.name
    → tail_bytes one ++ rest ≡ tail_bytes other ++ more → length one.text ≡ length other.text
same_texts one other rest more proper proper' named is =
    let first = tail_parts one rest in
    let second = tail_parts other more in
    let fields = (split_even one.name _ other.name _ (sym first ∙ is ∙ second) named).1 in
    let same = (split_even (fields_bytes one) (one.text ++ rest) (fields_bytes other) (other.text ++ more) fields refl).0 in
    let sizes : to_be_bytes w16 (length one.text) ≡ to_be_bytes w16 (length other.text) = ap (λ l. drop 9 l) same in
    sym (from_be_bytes-to_be_bytes_2 (length one.text) (omega (arith, proper.short))) ∙ ap (from_be_bytes w16) sizes
    ∙ from_be_bytes-to_be_bytes_2 (length other.text) (omega (arith, proper'.short))

-- ---- a whole frame is judged as one

module _ (header : Header) (room : List ℕ) (one : Carried) (frame : IsFrame header room one) where
  -- what goes on from a frame is that frame
  pub frame_within : EndsWithinFrame header room
  frame_within other rest more proper goes =
      let is : frame_bytes header one ++ rest ≡ frame_bytes header other ++ more = ap (λ l. l ++ rest) (sym frame.is) ∙ goes in
      let left = frame_goes header one rest in
      let right = frame_goes header other more in
      let behind : length one.name ∷ (tail_bytes one ++ rest) ≡ length other.name ∷ (tail_bytes other ++ more) =
      append_cancel_left (header.policy ++ header.facts) _ _ (append_cancel_left frame_mark _ _ (sym left ∙ is ∙ right)) in
      let named : length one.name ≡ length other.name = cc in
      let tails : tail_bytes one ++ rest ≡ tail_bytes other ++ more = cc in
      let sizes : length one.text ≡ length other.text = same_texts one other rest more frame.proper proper named tails in
      omega (
        arith,
        ap length frame.is,
        frames_alike header one other,
        tail_size one,
        tail_size other,
        named,
        sizes,
      )

  pub never_short : (need : ℕ) → Shows header room (Short need) → ⊥
  never_short need shows =
      let most = shows.2 one [] [] frame.proper (ap (λ l. l ++ []) frame.is) in
      omega (arith, most, shows.0, ap length frame.is)

  pub never_bad : Shows header room Bad → ⊥
  never_bad shows = shows.1 one [] [] frame.proper (ap (λ l. l ++ []) frame.is)

  pub never_other : Shows header room Other → ⊥
  never_other other =
      let same : agree (drop 8 room) (header.policy ++ header.facts) ≡ true =
      ap (λ l. agree (drop 8 l) (header.policy ++ header.facts)) (frame.is ∙ sym (append-nil (frame_bytes header one))
      ∙ frame_goes header one [])
      ∙ agree-with (header.policy ++ header.facts) (length one.name ∷ (tail_bytes one ++ [])) in
      not_other_now header room same other
