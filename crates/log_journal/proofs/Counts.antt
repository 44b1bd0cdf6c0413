-- How many records a journal has, and which has which number.
use Rattle.std.proofs.Common.{◌≡◌, ℕ, zero, suc, ◌+◌, ◌<◌, ◌≤◌, ◌^◌, List, [], ◌∷◌, ◌++◌, length, take, map, get_or, All, Some, refl, sym, ◌∙◌, ap, subst}
use Rattle.std.proofs.Common.{arith, length-append, length-take, length-drop}
use Rattle.std.specs.List.{slice_get}
use Rattle.log_journal.specs.Records.{Recorded, written, Adds}
use Rattle.log_journal.specs.Walk.{records, IsNumbered}
use Rattle.log_journal.specs.Bytes.{EndsAt}
use Rattle.log_journal.specs.Opening.{recorded, IsRecord}
use Rattle.log_journal.specs.declared.header.Record.{Record}
use Rattle.log_journal.proofs.Fronts.{walked}
use Rattle.log_journal.proofs.Appends.{reads_journal}

at_end : {X : Type 0} (xs : List X) (x : X) → slice_get (xs ++ x ∷ []) (length xs) ≡ Some x
at_end [] x = refl
at_end (y ∷ xs) x = at_end xs x

at_place : (items : List Record) (i : ℕ) (x : Record) → x ≡ get_or items i x → i < length items → slice_get (map recorded items) i ≡ Some (recorded x)
at_place [] i x is low = absurd (omega (arith, low))
at_place (y ∷ items) zero x is low = ap (λ r. Some (recorded r)) (sym is)
at_place (y ∷ items) (suc i) x is low = at_place items i x is (omega (arith, low))

-- a record that is read has its number
pub numbered : (bytes : List ℕ) (items : List Record) (i : ℕ) (x : Record) → records bytes ≡ map recorded items → x ≡ get_or items i x → i < length items
    → IsNumbered bytes i (recorded x)
numbered bytes items i x are is low = ap (λ l. slice_get l i) are ∙ at_place items i x is low

pub record_there : (items : List Record) (i : ℕ) (x : Record) → All (IsRecord 5) items → x ≡ get_or items i x → i < length items → IsRecord 5 x
record_there items i x each is low = subst (IsRecord 5) (sym is) (each i x low)

-- each record has a byte
written_long : (all : List Recorded) → length all ≤ length (written all)
written_long [] = omega arith
written_long ((kind, text) ∷ all) = omega (arith, written_long all, length-append text (written all))

module _ (bytes : List ℕ) (gate : ℕ) (ends : EndsAt bytes gate) where
  -- so they are fewer than a number can say, with some more
  pub few_records : length (records bytes) + 2 < 2 ^ 64
  few_records =
      omega (arith, written_long (records bytes), ap length ends.front.is, length-drop 72 (take gate bytes), length-take gate bytes, ends.within, ends.fits)

  module _ (one : Recorded) (new : List ℕ) (adds : Adds bytes one new) where
    pub grown : records new ≡ records bytes ++ one ∷ []
    grown =
        let journal = adds (take 72 bytes) (records bytes) (reads_journal bytes gate ends) in
        (walked (take 72 bytes) (records bytes ++ one ∷ []) new journal.0).are

    pub one_more_record : length (records new) ≡ length (records bytes) + 1
    one_more_record = ap length grown ∙ length-append (records bytes) (one ∷ [])

    -- the new record has the number of those before it
    pub added_numbered : (number : ℕ) → number ≡ length (records bytes) → IsNumbered new number one
    added_numbered number counted =
        ap (λ l. slice_get l number) grown ∙ ap (λ n. slice_get (records bytes ++ one ∷ []) n) counted ∙ at_end (records bytes) one
