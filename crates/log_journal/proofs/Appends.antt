-- What an append leaves, in terms of records.
use Rattle.std.proofs.Common.{◌≡◌, ◌≢◌, ◌⊎◌, inl, inr, Result, Ok, Err, OnOk, ℕ, ◌+◌, ◌/◌, ◌%◌, ◌<◌, ◌≤◌, ◌^◌, List, [], ◌∷◌, ◌++◌, length, take, drop, get_or}
use Rattle.std.proofs.Common.{◌-◌, max, sym, ◌∙◌, ap, subst, arith, append_assoc, length-append, length-take, length-drop, take-append-drop}
use Rattle.std.proofs.lemmas.List.{take_more, take-take}
use Rattle.std.proofs.lemmas.Bool.{cases_eq}
use Rattle.log_journal.specs.Records.{Recorded, record_bytes, written, IsJournal, needed_bytes, Adds, KeepsOrAdds}
use Rattle.log_journal.specs.Walk.{records}
use Rattle.log_journal.specs.Bytes.{IsFront, EndsAt, piece_of, with_piece, IsBetween}
use Rattle.log_journal.proofs.Fronts.{front_one, front_append, walked, journal_of, ends_of}

-- a journal's header and records are those that its bytes show
carried : (header : List ℕ) (before : List Recorded) (bytes : List ℕ) → IsJournal header before bytes → (P : List ℕ → List Recorded → Type 0)
    → P (take 72 bytes) (records bytes)
    → P header before
carried header before bytes journal P p =
    let found = walked header before bytes journal in
    subst (λ h. P h before) found.begins (subst (λ b. P (take 72 bytes) b) found.are p)

module _ (bytes : List ℕ) (gate : ℕ) (ends : EndsAt bytes gate) where
  abbrev pub front : List ℕ
  front = drop 72 (take gate bytes)

  pub header_size : length (take 72 bytes) ≡ 72
  header_size = omega (arith, length-take 72 bytes, ends.within, ends.behind)

  before_gate : take gate bytes ≡ take 72 bytes ++ front
  before_gate = sym (take-append-drop 72 (take gate bytes)) ∙ ap (λ (l : List ℕ). l ++ front) (take-take 72 gate bytes ends.behind)

  front_size : gate ≡ 72 + length front
  front_size = omega (arith, ap length before_gate, length-append (take 72 bytes) front, header_size, length-take gate bytes, ends.within)

  -- what it reads is a journal
  pub reads_journal : IsJournal (take 72 bytes) (records bytes) bytes
  reads_journal = journal_of (take 72 bytes) front (records bytes) (get_or bytes gate 1) (drop (gate + 1) bytes) bytes header_size ends.front ends.closed
      (sym (take-append-drop (gate + 1) bytes) ∙ ap (λ (l : List ℕ). l ++ drop (gate + 1) bytes) (take_more bytes gate 1 ends.within)
      ∙ append_assoc (take gate bytes) (get_or bytes gate 1 ∷ []) (drop (gate + 1) bytes)
      ∙ ap (λ (l : List ℕ). l ++ get_or bytes gate 1 ∷ drop (gate + 1) bytes) before_gate)

  -- up to the gate all is as it was
  pub kept : (c : List ℕ) → take (gate + 1) c ≡ take (gate + 1) bytes → IsJournal (take 72 bytes) (records bytes) c
  kept c same = journal_of (take 72 bytes) front (records bytes) (get_or bytes gate 1) (drop (gate + 1) c) c header_size ends.front ends.closed
      (sym (take-append-drop (gate + 1) c) ∙ ap (λ (l : List ℕ). l ++ drop (gate + 1) c) (same ∙ take_more bytes gate 1 ends.within)
      ∙ append_assoc (take gate bytes) (get_or bytes gate 1 ∷ []) (drop (gate + 1) c)
      ∙ ap (λ (l : List ℕ). l ++ get_or bytes gate 1 ∷ drop (gate + 1) c) before_gate)

  module _ (kind : ℕ) (text : List ℕ) (low_kind : 1 ≤ kind) (high_kind : kind ≤ 5) (short : length text ≤ 4096) where
    abbrev pub piece : List ℕ
    piece = piece_of kind text

    new_front : IsFront 5 (front ++ 1 ∷ record_bytes kind text) (records bytes ++ (kind, text) ∷ [])
    new_front = front_append 5 front (1 ∷ record_bytes kind text) (records bytes) ((kind, text) ∷ []) ends.front
        (front_one 5 kind (length text / 256) (length text % 256) text (omega arith) (omega arith) low_kind high_kind short)

    shut_gate : (byte : ℕ) (rest c : List ℕ) → byte ≢ 1 → c ≡ take gate bytes ++ byte ∷ piece ++ rest → IsJournal (take 72 bytes) (records bytes) c
    shut_gate byte rest c shut is = journal_of (take 72 bytes) front (records bytes) byte (piece ++ rest) c header_size ends.front shut
        (is ∙ append_assoc (take gate bytes) (byte ∷ piece) rest ∙ ap (λ (l : List ℕ). l ++ byte ∷ (piece ++ rest)) before_gate)

    open_split : (rest c : List ℕ) → c ≡ take gate bytes ++ 1 ∷ piece ++ rest → c ≡ take 72 bytes ++ (front ++ 1 ∷ record_bytes kind text) ++ 0 ∷ rest
    open_split rest c is = is ∙ append_assoc (take gate bytes) (1 ∷ piece) rest ∙ ap (λ (l : List ℕ). l ++ 1 ∷ (piece ++ rest)) before_gate
        ∙ ap (λ (l : List ℕ). take 72 bytes ++ front ++ 1 ∷ kind ∷ length text / 256 ∷ length text % 256 ∷ l) (append_assoc text (0 ∷ []) rest)
        ∙ sym (append_assoc (take 72 bytes ++ front) (1 ∷ record_bytes kind text) (0 ∷ rest))
        ∙ ap (λ (l : List ℕ). l ++ 0 ∷ rest) (append_assoc (take 72 bytes) front (1 ∷ record_bytes kind text))

    open_gate : (rest c : List ℕ) → c ≡ take gate bytes ++ 1 ∷ piece ++ rest → IsJournal (take 72 bytes) (records bytes ++ (kind, text) ∷ []) c
    open_gate rest c is =
        journal_of (take 72 bytes) (front ++ 1 ∷ record_bytes kind text) (records bytes ++ (kind, text) ∷ []) 0 rest c header_size new_front (omega arith)
        (open_split rest c is)

    -- the bytes are no more than before, or than this journal needs
    no_longer : (c : List ℕ) → c ≡ with_piece bytes gate 1 piece → length c ≤ max (length bytes) (needed_bytes (records bytes ++ (kind, text) ∷ []))
    no_longer c is =
        let rest = drop (gate + 1 + length piece) bytes in
        let size : length c ≡ gate + 1 + length piece + length rest = ap length is
        ∙ omega (arith, length-append (take gate bytes ++ 1 ∷ piece) rest, length-append (take gate bytes) (1 ∷ piece), length-take gate bytes, ends.within) in
        let piece_size : length piece ≡ length text + 4 = omega (arith, length-append (record_bytes kind text) (0 ∷ [])) in
        let behind : length rest ≡ length bytes - (gate + 1 + length piece) = length-drop (gate + 1 + length piece) bytes in
        let needed : length (written (records bytes ++ (kind, text) ∷ [])) ≡ length front + length text + 4 =
        sym (ap length new_front.is) ∙ omega (arith, length-append front (1 ∷ record_bytes kind text)) in
        omega (arith, size, piece_size, behind, needed, front_size)

    -- behind the open gate the journal has the record
    pub added : (c : List ℕ) → c ≡ with_piece bytes gate 1 piece → Adds bytes (kind, text) c
    added c is header before journal =
        carried header before bytes journal
        (λ h b. IsJournal h (b ++ (kind, text) ∷ []) c × (length c ≤ max (length bytes) (needed_bytes (b ++ (kind, text) ∷ []))))
        (open_gate (drop (gate + 1 + length piece) bytes) c is, no_longer c is)

    pub ends_behind : (c : List ℕ) → c ≡ with_piece bytes gate 1 piece → length c < 2 ^ 64 → EndsAt c (gate + 4 + length text)
    ends_behind c is fits =
        let rest = drop (gate + 1 + length piece) bytes in
        ends_of (take 72 bytes) (front ++ 1 ∷ record_bytes kind text) (records bytes ++ (kind, text) ∷ []) 0 rest c header_size new_front (omega arith)
        (open_split rest c is)
        (gate + 4 + length text) (omega (arith, front_size, length-append front (1 ∷ record_bytes kind text))) fits

    -- in between there are the records before, or these and the new one
    pub between : (c : List ℕ) → IsBetween bytes gate piece c → KeepsOrAdds bytes (kind, text) c
    between c is header before journal =
        carried header before bytes journal (λ h b. IsJournal h b c ⊎ IsJournal h (b ++ (kind, text) ∷ []) c) (either is)
      where
        either : IsBetween bytes gate piece c → IsJournal (take 72 bytes) (records bytes) c ⊎ IsJournal (take 72 bytes) (records bytes ++ (kind, text) ∷ []) c
        either (inl same) = inl (kept c same)
        either (inr (byte, rest, is)) = elim (cases_eq byte 1) [
          | inl one ↦ inr (open_gate rest c (is ∙ ap (λ (b : ℕ). take gate bytes ++ b ∷ piece ++ rest) one))
          | inr shut ↦ inl (shut_gate byte rest c shut is)
        ]

-- what follows from two facts of a success is a fact of it
pub on_both : {T E P Q R : Type 0} (result : Result T E) → (P → Q → R) → OnOk result P → OnOk result Q → OnOk result R
on_both (Ok value) leads p q = leads p q
on_both (Err why) leads p q = tt
