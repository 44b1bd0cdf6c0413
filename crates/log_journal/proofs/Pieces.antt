-- What the writes of an append leave of the bytes.
use Rattle.std.proofs.Common.{◌≡◌, ◌⊎◌, inl, inr, ⊎_elim, ℕ, ◌+◌, ◌<◌, ◌≤◌, List, [], ◌∷◌, ◌++◌, length, take, drop, get_or, sym, ◌∙◌, ap, subst, arith}
use Rattle.std.proofs.Common.{append_assoc, length-append, length-take, take-append-drop}
use Rattle.std.proofs.lemmas.List.{take_at, drop_at, take_more, drop_more, take-take}
use Rattle.outside.specs.Disk.{Holds, Torn, Follows, Only}
use Rattle.outside.specs.RecordLaws.{torn_none}
use Rattle.log_journal.specs.Bytes.{with_piece, IsBetween}

-- a write over bytes that are all on the disk
pub torn_only : (at n : ℕ) (bytes : List ℕ) (old new : List ℕ → Type 0) → Only bytes old → Follows (Torn at n) old new → (c : List ℕ) → new c
    → Torn at n bytes c
torn_only at n bytes old new only follows c is =
    let from = follows c is in
    subst (λ d. Torn at n d c) (only from.0 from.1) from.2

-- at its moments
pub torn_moments : (at n : ℕ) (bytes : List ℕ) (old new since : List ℕ → Type 0) → Only bytes old → Follows (Torn at n) old new
    → ((c : List ℕ) → since c → old c ⊎ new c)
    → (c : List ℕ) → since c → Torn at n bytes c
torn_moments at n bytes old new since only follows moments c is =
    ⊎_elim (λ was. subst (λ d. Torn at n bytes d) (sym (only c was)) (torn_none at n bytes)) (torn_only at n bytes old new only follows c) (moments c is)

module _ (bytes : List ℕ) (gate : ℕ) (within : gate < length bytes) (piece : List ℕ) where
  abbrev pub tail : List ℕ
  tail = drop (gate + 1 + length piece) bytes

  front_size : length (take gate bytes) ≡ gate
  front_size = omega (arith, length-take gate bytes)

  -- with the piece behind it, and the gate as it was
  pub staged : (c : List ℕ) → Holds bytes (gate + 1) piece c → c ≡ with_piece bytes gate (get_or bytes gate 1) piece
  staged c holds =
      holds ∙ ap (λ (l : List ℕ). l ++ piece ++ tail) (take_more bytes gate 1 within)
      ∙ ap (λ (l : List ℕ). l ++ tail) (append_assoc (take gate bytes) (get_or bytes gate 1 ∷ []) piece)

  -- nothing up to the gate is touched by the first write
  pub torn_piece : (c : List ℕ) → Torn (gate + 1) (length piece) bytes c → IsBetween bytes gate piece c
  torn_piece c torn = inl (sym (take-take (gate + 1) (length bytes) c (omega (arith, within))) ∙ torn.before)

  pub length-with_piece : (byte : ℕ) → gate + 1 + length piece ≤ length (with_piece bytes gate byte piece)
  length-with_piece byte = omega (arith, front_size, length-append (take gate bytes ++ byte ∷ piece) tail, length-append (take gate bytes) (byte ∷ piece))

  pub front_of : (byte : ℕ) → take gate (with_piece bytes gate byte piece) ≡ take gate bytes
  front_of byte =
      ap (λ (l : List ℕ). take gate l) (append_assoc (take gate bytes) (byte ∷ piece) tail) ∙ take_at (take gate bytes) (byte ∷ piece ++ tail) gate front_size

  pub back_of : (byte : ℕ) → drop (gate + 1) (with_piece bytes gate byte piece) ≡ piece ++ tail
  back_of byte =
      let split : with_piece bytes gate byte piece ≡ (take gate bytes ++ byte ∷ []) ++ (piece ++ tail) =
      append_assoc (take gate bytes) (byte ∷ piece) tail ∙ sym (append_assoc (take gate bytes) (byte ∷ []) (piece ++ tail)) in
      let size : length (take gate bytes ++ byte ∷ []) ≡ gate + 1 = omega (arith, front_size, length-append (take gate bytes) (byte ∷ [])) in
      ap (λ (l : List ℕ). drop (gate + 1) l) split ∙ drop_at (take gate bytes ++ byte ∷ []) (piece ++ tail) (gate + 1) size

  -- the piece stands whole behind any gate that the second write leaves
  pub torn_gate : (byte : ℕ) (c : List ℕ) → Torn gate 1 (with_piece bytes gate byte piece) c → IsBetween bytes gate piece c
  torn_gate byte c torn =
      let size = length (with_piece bytes gate byte piece) in
      let kept = take size c in
      let more = drop size c in
      let long = length-with_piece byte in
      let kept_size : length kept ≡ size = omega (arith, length-take size c, torn.no_shorter) in
      let left = get_or kept gate 0 in
      let behind : drop gate kept ≡ left ∷ (piece ++ tail) =
      drop_more kept gate 0 (omega (arith, long, kept_size)) ∙ ap (λ (l : List ℕ). left ∷ l) (torn.after ∙ back_of byte) in
      let whole : kept ≡ take gate bytes ++ left ∷ (piece ++ tail) =
      sym (take-append-drop gate kept) ∙ ap (λ (l : List ℕ). l ++ drop gate kept) (torn.before ∙ front_of byte)
      ∙ ap (λ (l : List ℕ). take gate bytes ++ l) behind in
      inr (
        left,
        tail ++ more,
        sym (take-append-drop size c) ∙ ap (λ (l : List ℕ). l ++ more) whole
            ∙ append_assoc (take gate bytes) (left ∷ (piece ++ tail)) more
            ∙ ap (λ (l : List ℕ). take gate bytes ++ left ∷ l) (append_assoc piece tail more)
            ∙ sym (append_assoc (take gate bytes) (left ∷ piece) (tail ++ more)),
      )

  pub opened_gate : (byte : ℕ) (c : List ℕ) → Holds (with_piece bytes gate byte piece) gate (1 ∷ []) c → c ≡ with_piece bytes gate 1 piece
  opened_gate byte c holds =
      holds ∙ ap (λ (l : List ℕ). l ++ 1 ∷ [] ++ drop (gate + 1) (with_piece bytes gate byte piece)) (front_of byte)
      ∙ ap (λ (l : List ℕ). take gate bytes ++ 1 ∷ [] ++ l) (back_of byte)
      ∙ append_assoc (take gate bytes) (1 ∷ []) (piece ++ tail) ∙ sym (append_assoc (take gate bytes) (1 ∷ piece) tail)

  -- the second write goes over a piece that is all on the disk
  pub torn_after : (middle : List ℕ) → Holds bytes (gate + 1) piece middle → (c : List ℕ) → Torn gate 1 middle c → IsBetween bytes gate piece c
  torn_after middle holds c torn = torn_gate (get_or bytes gate 1) c (subst (λ d. Torn gate 1 d c) (staged middle holds) torn)

  pub both_written : (middle new : List ℕ) → Holds bytes (gate + 1) piece middle → Holds middle gate (1 ∷ []) new → new ≡ with_piece bytes gate 1 piece
  both_written middle new holds opened = opened_gate (get_or bytes gate 1) new (subst (λ d. Holds d gate (1 ∷ []) new) (staged middle holds) opened)
