-- A journal shows no reason to refuse it.
use Rattle.std.proofs.Common.{◌≡◌, ◌≢◌, ◌∙◌, sym, ap, ⊎_elim, ℕ, List, take, drop, None, Some, refl, arith}
use Rattle.std.proofs.lemmas.List.{take_at, take-take}
use Rattle.log_journal.specs.Records.{Recorded}
use Rattle.log_journal.specs.Opening.{old_eight, old_header, header_bytes, IsJournalOf, RefusesOf, IsRefusedOf, IsOutside}
use Rattle.log_journal.specs.declared.header.Header.{Header}
use Rattle.log_journal.specs.declared.header.OpenError.{OpenError}
use Rattle.log_journal.specs.declared.header.OpenError.TheVariants.{NotAJournal, OtherPolicy, Damaged, DiskFault, Memory, OldVersion}
use Rattle.log_journal.proofs.Fronts.{undamaged, walked}

module _ (kinds : ℕ) (header : List ℕ) (all : List Recorded) (bytes : List ℕ) (journal : IsJournalOf kinds header all bytes) where
  same_eight : take 8 bytes ≡ take 8 header
  same_eight = sym (take-take 8 72 bytes (omega arith)) ∙ ap (λ (l : List ℕ). take 8 l) (walked header all bytes journal.0).begins

  pub unrefused : (why : OpenError) → RefusesOf kinds header bytes why → ⊥
  unrefused NotAJournal refused =
      let walk = walked header all bytes journal.0 in
      ⊎_elim (λ few. absurd (omega (arith, few, walk.long))) (λ other. other.0 same_eight) refused
  unrefused OldVersion refused = refused.1 same_eight
  unrefused OtherPolicy refused = refused.2 (walked header all bytes journal.0).begins
  unrefused (Damaged number) refused =
      let e : None ≡ Some number = sym (undamaged header all bytes journal.0 kinds journal.1) ∙ refused.2 in cc
  unrefused DiskFault refused = refused
  unrefused Memory refused = refused

  -- so it is refused for what lies outside of its bytes
  pub outside_only : (told : Type 0) (before now : ℕ) (why : OpenError) → told → IsRefusedOf kinds told header bytes before now why → IsOutside why
  outside_only told before now NotAJournal is refused = unrefused NotAJournal (refused is)
  outside_only told before now OldVersion is refused = unrefused OldVersion (refused.1 is)
  outside_only told before now OtherPolicy is refused = unrefused OtherPolicy (refused is)
  outside_only told before now (Damaged number) is refused = unrefused (Damaged number) (refused is)
  outside_only told before now DiskFault is refused = tt
  outside_only told before now Memory is refused = tt

-- nothing is old to who reads version 1
pub none_older : (told : Type 0) (header : Header) (bytes : List ℕ) (before now : ℕ) (why : OpenError)
    → IsRefusedOf 4 told (old_header (header_bytes header)) bytes before now why → why ≢ OldVersion
none_older told header bytes before now NotAJournal refused is = cc
none_older told header bytes before now OldVersion refused is = refused.0 (take_at old_eight (drop 8 (header_bytes header)) 8 refl)
none_older told header bytes before now OtherPolicy refused is = cc
none_older told header bytes before now (Damaged number) refused is = cc
none_older told header bytes before now DiskFault refused is = cc
none_older told header bytes before now Memory refused is = cc
