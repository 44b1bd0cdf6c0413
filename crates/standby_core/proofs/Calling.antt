-- What the dial of a mirror has exchanged, with one exchange more.
use Rattle.std.proofs.Common.{◌≡◌, ◌⊎◌, ℕ, zero, suc, ◌≤◌, max, List, [], ◌∷◌, ◌++◌, ◌∙◌, length, drop, get_or, All, Some, None, ap, subst, sym}
use Rattle.std.proofs.Common.{inl, inr, ⊎_elim, append_assoc, arith}
use Rattle.std.specs.Int.{w16, w64, to_be_bytes}
use Rattle.std.specs.List.{slice_get}
use Rattle.std.proofs.lemmas.List.{append_cancel_left}
use Rattle.std.proofs.lemmas.Option.{none-some, same_Some}
use Rattle.std.proofs.lemmas.List.Elements.{All-nil, All-cons, All-append, All-same}
use Rattle.outside.specs.Dials.{Exchange, IsNext, MayBeNext}
use Rattle.outside.specs.Disk.{HearsAtMost}
use Rattle.log_journal.specs.declared.header.Header.{Header}
use Rattle.standby_core.specs.Calls.{IsExchangeOf, TellsOf, number_answered, greatest_answer}
use Rattle.standby_core.specs.Frames.{Carried, frame_bytes, frame_mark}

-- it was given the frame of a record
pub record IsGiven (address : List ℕ) (header : Header) (one : Carried) (exchange : Exchange) : Type 0 where
  pub called : exchange.address ≡ address
  pub above : exchange.above ≡ one.number
  pub frame : exchange.frame ≡ frame_bytes header one
  pub low : 1 ≤ one.kind
  pub high : one.kind ≤ 5
  pub short : length one.text ≤ 4096

module _ (address address' : List ℕ) (header : Header) (one : Carried) (still : address' ≡ address) (all all' : List Exchange)
    (so_far : All (IsExchangeOf address header one.name) all) (exchange : Exchange) where
  told_one : IsGiven address header one exchange → IsExchangeOf address header one.name exchange
  told_one given = record {
    called = given.called;
    kind = one.kind;
    text = one.text;
    frame = given.frame ∙ (λ i. frame_bytes header (record { name = one.name; number = sym given.above i; kind = one.kind; text = one.text }));
    kind_from = given.low;
    kind_to = given.high;
    short = given.short;
  }

  here : All (IsExchangeOf address header one.name) all' → All (IsExchangeOf address' header one.name) all'
  here told = subst (λ a. All (IsExchangeOf a header one.name) all') (sym still) told

  pub calls_next : IsNext exchange all all' → IsGiven address header one exchange → All (IsExchangeOf address' header one.name) all'
  calls_next next given =
      let Told : Exchange → Type 0 = IsExchangeOf address header one.name in
      here (All-same Told all' (all ++ exchange ∷ []) next
      (All-append Told all (exchange ∷ []) so_far (All-cons Told exchange [] (told_one given) (All-nil Told))))

  pub calls_maybe : MayBeNext exchange all all' → IsGiven address header one exchange → All (IsExchangeOf address' header one.name) all'
  calls_maybe (inl same) given = here (All-same (IsExchangeOf address header one.name) all' all same so_far)
  calls_maybe (inr next) given = calls_next next given

-- ---- the greatest number that was answered

greatest_push : (all : List Exchange) (one : Exchange)
    → greatest_answer (all ++ one ∷ []) ≡ max (greatest_answer all) (number_answered one.answer)
greatest_push [] one = omega arith
greatest_push (first ∷ all) one = let rest = greatest_push all one in omega (arith, rest)

module _ (all all' : List Exchange) (exchange : Exchange) (before : ℕ) (so_far : greatest_answer all ≡ before) where
  -- a number that isn't below it is the greatest then
  pub greatest_next : (count : ℕ) → IsNext exchange all all' → exchange.answer ≡ Some count → before ≤ count → greatest_answer all' ≡ count
  greatest_next count next answer above =
      let whole = ap greatest_answer next ∙ greatest_push all exchange in
      let here = ap number_answered answer in
      omega (arith, so_far, whole, here, above)

  -- where none is answered it stays
  pub greatest_maybe : MayBeNext exchange all all' → exchange.answer ≡ None → greatest_answer all' ≡ before
  greatest_maybe (inl same) none = ap greatest_answer same ∙ so_far
  greatest_maybe (inr next) none =
      let whole = ap greatest_answer next ∙ greatest_push all exchange in
      let here = ap number_answered none in
      omega (arith, so_far, whole, here)

-- ---- what was told of

-- the last of several, or one before it
last_or : {X : Type 0} (xs : List X) (last x : X) (place : ℕ) → slice_get (xs ++ last ∷ []) place ≡ Some x → (slice_get xs place ≡ Some x) ⊎ (x ≡ last)
last_or [] last x zero at = inr (sym (same_Some last x at))
last_or [] last x (suc place) at = absurd (none-some x at)
last_or (one ∷ xs) last x zero at = inl at
last_or (one ∷ xs) last x (suc place) at = last_or xs last x place at

-- what stands behind the number in a frame
behind : (front : List ℕ) (kind : ℕ) (text : List ℕ)
    → front ++ (kind ∷ []) ++ to_be_bytes w16 (length text) ++ text ≡ front ++ (kind ∷ (to_be_bytes w16 (length text) ++ text))
behind front kind text =
    append_assoc (front ++ (kind ∷ [])) (to_be_bytes w16 (length text)) text ∙ append_assoc front (kind ∷ []) (to_be_bytes w16 (length text) ++ text)

-- a frame of one user and number is that of one record
one_record : (header : Header) (name : List ℕ) (number : ℕ) (first second : ℕ × List ℕ)
    → frame_bytes header (record { name = name; number = number; kind = first.0; text = first.1 })
    ≡ frame_bytes header (record { name = name; number = number; kind = second.0; text = second.1 }) → first ≡ second
one_record header name number first second same =
    let front : List ℕ = frame_mark ++ header.policy ++ header.facts ++ (length name ∷ []) ++ name ++ to_be_bytes w64 number in
    let left : first.0 ∷ (to_be_bytes w16 (length first.1) ++ first.1) ≡ second.0 ∷ (to_be_bytes w16 (length second.1) ++ second.1) =
    append_cancel_left front _ _ (sym (behind front first.0 first.1) ∙ same ∙ behind front second.0 second.1) in
    let kinds : first.0 ≡ second.0 = ap (λ (l : List ℕ). get_or l 0 0) left in
    let texts : first.1 ≡ second.1 = ap (λ (l : List ℕ). drop 3 l) left in
    λ i. (kinds i, texts i)

module _ (told : Type 0) (header : Header) (name : List ℕ) (all all' : List Exchange) where
  abbrev Heard : List Exchange → ℕ → ℕ × List ℕ → Type 0
  Heard exchanges number record' = told × (place : ℕ) × (one : Exchange) × (slice_get exchanges place ≡ Some one) × TellsOf header name number record' one

  -- with this exchange more, the record of its frame was told of more
  pub hears_next : (exchange : Exchange) (number kind : ℕ) (text : List ℕ) → (told → IsNext exchange all all') → exchange.above ≡ number
      → exchange.frame ≡ frame_bytes header (record { name = name; number = number; kind = kind; text = text })
      → HearsAtMost number (kind, text) (Heard all) (Heard all')
  hears_next exchange number kind text next above frame n one (t, place, it, at, tells) =
      ⊎_elim (λ before. inl (t, place, it, before, tells)) (λ is. inr (same is))
      (last_or all exchange it place (subst (λ l. slice_get l place ≡ Some it) (next t) at))
    where
      same : it ≡ exchange → (n ≡ number) × (one ≡ (kind, text))
      same is =
          let number_is : n ≡ number = sym tells.above ∙ ap (λ (e : Exchange). e.above) is ∙ above in (
            number_is,
            one_record header name number one (kind, text)
                (subst (λ k. frame_bytes header (record { name = name; number = k; kind = one.0; text = one.1 })
                ≡ frame_bytes header (record { name = name; number = number; kind = kind; text = text })) number_is
                (sym tells.frame ∙ ap (λ (e : Exchange). e.frame) is ∙ frame)),
          )

  pub hears_maybe : (exchange : Exchange) (number kind : ℕ) (text : List ℕ) → (told → MayBeNext exchange all all') → exchange.above ≡ number
      → exchange.frame ≡ frame_bytes header (record { name = name; number = number; kind = kind; text = text })
      → HearsAtMost number (kind, text) (Heard all) (Heard all')
  hears_maybe exchange number kind text maybe above frame n one (t, place, it, at, tells) = ⊎_elim
      (λ same. inl (t, place, it, subst (λ l. slice_get l place ≡ Some it) same at, tells))
      (λ next. hears_next exchange number kind text (λ told_is. next) above frame n one (t, place, it, at, tells))
      (maybe t)
