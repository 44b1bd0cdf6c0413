-- Facts that hold in one way.
use Rattle.std.specs.Prelude.{◌≡◌, ℕ, ◌≤◌, List, [], ◌∷◌, ◌++◌, length, drop, get_or, All}
use Rattle.std.specs.Int.{w16, w64, to_be_bytes}
use Rattle.std.proofs.Props.{props}
use Rattle.std.proofs.Common.{sym, ap, ◌∙◌, append_assoc}
use Rattle.std.proofs.lemmas.List.{append_cancel_left}
use mathlib.Core.HLevel.{is_prop→PathP}
use Rattle.outside.specs.Dials.{Exchange}
use Rattle.log_journal.specs.declared.header.Header.{Header}
use Rattle.standby_core.specs.Calls.{IsExchangeOf}
use Rattle.standby_core.specs.Frames.{frame_bytes, frame_mark}

same_list : (a b : List ℕ) → IsProp (a ≡ b)
same_list a b = hlevel (props)

at_most : (a b : ℕ) → IsProp (a ≤ b)
at_most a b = hlevel (props)

-- what stands behind the number in a frame
behind : (front : List ℕ) (kind : ℕ) (text : List ℕ)
    → front ++ (kind ∷ []) ++ to_be_bytes w16 (length text) ++ text
    ≡ front ++ (kind ∷ (to_be_bytes w16 (length text) ++ text))
behind front kind text =
    append_assoc (front ++ (kind ∷ [])) (to_be_bytes w16 (length text)) text
    ∙ append_assoc front (kind ∷ []) (to_be_bytes w16 (length text) ++ text)

-- an exchange told of one record
pub IsExchangeOf-prop : (address : List ℕ) (header : Header) (name : List ℕ) (one : Exchange)
    → IsProp (IsExchangeOf address header name one)
IsExchangeOf-prop address header name one first second =
    let front : List ℕ =
    frame_mark ++ header.policy ++ header.facts ++ (length name ∷ []) ++ name
    ++ to_be_bytes w64 one.above in
    let left : first.kind ∷ (to_be_bytes w16 (length first.text) ++ first.text)
    ≡ second.kind ∷ (to_be_bytes w16 (length second.text) ++ second.text) =
    append_cancel_left front _ _
    (sym (behind front first.kind first.text) ∙ sym first.frame ∙ second.frame
    ∙ behind front second.kind second.text) in
    let kinds : first.kind ≡ second.kind = ap (λ (l : List ℕ). get_or l 0 0) left in
    let texts : first.text ≡ second.text = ap (λ (l : List ℕ). drop 3 l) left in
    λ i. record {
      called = same_list one.address address first.called second.called i;
      kind = kinds i;
      text = texts i;
      frame = is_prop→PathP (λ j. one.frame ≡ frame_bytes header
          (record { name = name; number = one.above; kind = kinds j; text = texts j }))
          (λ j. same_list one.frame (frame_bytes header
          (record { name = name; number = one.above; kind = kinds j; text = texts j })))
          first.frame second.frame i;
      kind_from = is_prop→PathP (λ j. 1 ≤ kinds j) (λ j. at_most 1 (kinds j)) first.kind_from
          second.kind_from i;
      kind_to = is_prop→PathP (λ j. kinds j ≤ 5) (λ j. at_most (kinds j) 5) first.kind_to
          second.kind_to i;
      short = is_prop→PathP (λ j. length (texts j) ≤ 4096)
          (λ j. at_most (length (texts j)) 4096) first.short second.short i;
    }

-- several did, where they are told
pub AreExchangesOf-prop : (told : Type 0) (address : List ℕ) (header : Header) (name : List ℕ)
    (all : List Exchange) → IsProp (told → All (IsExchangeOf address header name) all)
AreExchangesOf-prop told address header name all = hlevel (props, IsExchangeOf-prop)
