-- The check of bytes, by that of the text that they are.
use Rattle.std.proofs.Common.{◌≡◌, inl, inr, ℕ, ◌<◌, ◌≤◌, false, List, length, refl, sym, ap, ◌∙◌}
use Rattle.std.specs.Prelude.{IsUtf8, Result, Ok, Err}
use Rattle.std.specs.Str.{is_utf8}
use Rattle.std.proofs.lemmas.Bool.{cases_Bool, lt-ltb, le-ltb}
use Rattle.std.proofs.lemmas.Str.{IsUtf8-from_is_utf8, is_utf8-from_IsUtf8}
use Rattle.cqe_base.specs.Schema.{DatabaseSchema, Text}
use Rattle.cqe_base.specs.Facts.{FactSet}
use Rattle.cqe_base.specs.History.{UserProfile, History}
use Rattle.dossier.specs.Checked.{checked}
use Rattle.dossier.specs.Promised.{counted, IsCheckOf, IsAccepted}
use Rattle.dossier.specs.declared.error.DossierError.{DossierError}
use Rattle.dossier.specs.declared.error.DossierError.TheVariants as errors
use Rattle.dossier_engine.specs.Checks.{refused_end, by_line, checked_bytes, AcceptsBytes, EndsCheck, IsSilentCheck, JudgesInput}
use Rattle.dossier_engine.specs.Said.{EndsText, IsSaid, JudgesText}
use Rattle.dossier_engine.specs.Input.{IsRead}
use Rattle.dossier_engine.specs.declared.end.CheckEnd.{CheckEnd}
use Rattle.dossier_engine.specs.declared.end.CheckEnd.TheVariants as ends
use Rattle.dossier_engine.specs.declared.end.CheckRefusal.TheVariants.{TooLong, NotUtf8, Line}

isnt_utf8 : (bytes : List ℕ) → ¬ (IsUtf8 bytes) → is_utf8 bytes ≡ false
isnt_utf8 bytes none = elim (cases_Bool (is_utf8 bytes)) [ inl is ↦ absurd (none (IsUtf8-from_is_utf8 bytes is)) | inr not ↦ not ]

-- the refusal of a line, or want of memory
counted_refusal : (shown : Result History DossierError) (why : DossierError) → Err why ≡ counted shown → shown ≡ Err why
counted_refusal (Ok entries) why is = let clash : Err why ≡ Ok (length entries) = is in absurd cc
counted_refusal (Err other) why is = let same : why ≡ other = cc in ap (λ w. Err w) (sym same)

module _ (schema : DatabaseSchema) (world : FactSet) (name : Text) (user : UserProfile) where
  -- bytes that are too many
  pub too_long : (bytes : List ℕ) → 67108864 < length bytes → checked_bytes schema world name user bytes ≡ Err TooLong
  too_long bytes many = rw (lt-ltb 67108864 (length bytes) many) refl

  -- bytes that are no text
  pub no_text : (bytes : List ℕ) → length bytes ≤ 67108864 → ¬ (IsUtf8 bytes) → checked_bytes schema world name user bytes ≡ Err NotUtf8
  no_text bytes few none = rw (le-ltb 67108864 (length bytes) few, isnt_utf8 bytes none) refl

  -- bytes that are a text
  pub as_text : (bytes : List ℕ) → length bytes ≤ 67108864 → IsUtf8 bytes
      → checked_bytes schema world name user bytes ≡ by_line (checked schema world name user bytes)
  as_text bytes few is = rw (le-ltb 67108864 (length bytes) few, is_utf8-from_IsUtf8 bytes is) refl

  accepts : (bytes : List ℕ) (count : ℕ) → length bytes ≤ 67108864 → IsUtf8 bytes → IsAccepted schema world name user bytes count
      → AcceptsBytes schema world name user bytes count
  accepts bytes count few is accepted = record { accepted = accepted; shown = as_text bytes few is ∙ ap by_line accepted.shown }

  -- the end of the check of a text is that of the check of its bytes
  pub ends_bytes : (left left' : List ℕ) → length left ≤ 67108864 → IsUtf8 left → IsRead left left' → (end : CheckEnd) (old new : List ℕ)
      → EndsText schema world name user left end old new → EndsCheck schema world name user end left left' old new
  ends_bytes left left' few is read ends.Done old new (count, accepted, whole) = (count, accepts left count few is accepted, read, whole)
  ends_bytes left left' few is read (ends.Refused (Line why)) old new (refused, same) =
      (as_text left few is ∙ ap by_line refused, read, same)
  ends_bytes left left' few is read (ends.Refused TooLong) old new ended = absurd ended
  ends_bytes left left' few is read (ends.Refused NotUtf8) old new ended = absurd ended
  ends_bytes left left' few is read ends.ReadFault old new ended = absurd ended
  ends_bytes left left' few is read ends.WriteFault old new (count, accepted, part) = (count, accepts left count few is accepted, read, part)
  ends_bytes left left' few is read ends.Memory old new ended = ended

  -- and it judges these
  pub judges_bytes : (left left' : List ℕ) → length left ≤ 67108864 → IsUtf8 left → IsRead left left' → (end : CheckEnd)
      → JudgesText schema world name user left end → JudgesInput schema world name user end left left'
  judges_bytes left left' few is read ends.Done (count, accepted) = (count, accepts left count few is accepted, read)
  judges_bytes left left' few is read (ends.Refused (Line why)) refused = (as_text left few is ∙ ap by_line refused, read)
  judges_bytes left left' few is read (ends.Refused TooLong) judged = absurd judged
  judges_bytes left left' few is read (ends.Refused NotUtf8) judged = absurd judged
  judges_bytes left left' few is read ends.ReadFault judged = tt
  judges_bytes left left' few is read ends.WriteFault (count, accepted) = (count, accepts left count few is accepted, read)
  judges_bytes left left' few is read ends.Memory judged = tt

  -- ---- a text

  -- that was accepted, and of which that was said or not
  pub accepted_so : (text : Text) (count : ℕ) → IsAccepted schema world name user text count → (end : CheckEnd) → (IsSilentCheck end → ⊥)
      → JudgesText schema world name user text end
  accepted_so text count accepted ends.Done said = (count, accepted)
  accepted_so text count accepted (ends.Refused why) said = absurd (said tt)
  accepted_so text count accepted ends.ReadFault said = tt
  accepted_so text count accepted ends.WriteFault said = (count, accepted)
  accepted_so text count accepted ends.Memory said = tt

  -- that was refused, or for which memory was wanting, whatever the output tells
  pub judged_so : (text : Text) (why : DossierError) → IsCheckOf schema world name user text (Err why)
      → JudgesText schema world name user text (refused_end why)
  judged_so text (errors.Form line) is = counted_refusal (checked schema world name user text) (errors.Form line) (is (λ e. cc))
  judged_so text (errors.Text line) is = counted_refusal (checked schema world name user text) (errors.Text line) (is (λ e. cc))
  judged_so text (errors.Verdict line) is = counted_refusal (checked schema world name user text) (errors.Verdict line) (is (λ e. cc))
  judged_so text (errors.Mark line) is = counted_refusal (checked schema world name user text) (errors.Mark line) (is (λ e. cc))
  judged_so text (errors.Admission line) is = counted_refusal (checked schema world name user text) (errors.Admission line) (is (λ e. cc))
  judged_so text (errors.Unsafe line) is = counted_refusal (checked schema world name user text) (errors.Unsafe line) (is (λ e. cc))
  judged_so text errors.Memory is = tt

  -- that was accepted
  pub said_so : (text : Text) (count : ℕ) → IsAccepted schema world name user text count → (end : CheckEnd) (old new : List ℕ) → IsSaid count end old new
      → EndsText schema world name user text end old new
  said_so text count accepted ends.Done old new said = (count, accepted, said)
  said_so text count accepted (ends.Refused why) old new said = absurd said
  said_so text count accepted ends.ReadFault old new said = absurd said
  said_so text count accepted ends.WriteFault old new said = (count, accepted, said)
  said_so text count accepted ends.Memory old new said = absurd said

  -- that was refused, or for which memory was wanting
  pub refused_so : (text : Text) (why : DossierError) → IsCheckOf schema world name user text (Err why) → (old : List ℕ)
      → EndsText schema world name user text (refused_end why) old old
  refused_so text (errors.Form line) is old = (counted_refusal (checked schema world name user text) (errors.Form line) (is (λ e. cc)), refl)
  refused_so text (errors.Text line) is old = (counted_refusal (checked schema world name user text) (errors.Text line) (is (λ e. cc)), refl)
  refused_so text (errors.Verdict line) is old = (counted_refusal (checked schema world name user text) (errors.Verdict line) (is (λ e. cc)), refl)
  refused_so text (errors.Mark line) is old = (counted_refusal (checked schema world name user text) (errors.Mark line) (is (λ e. cc)), refl)
  refused_so text (errors.Admission line) is old = (counted_refusal (checked schema world name user text) (errors.Admission line) (is (λ e. cc)), refl)
  refused_so text (errors.Unsafe line) is old = (counted_refusal (checked schema world name user text) (errors.Unsafe line) (is (λ e. cc)), refl)
  refused_so text errors.Memory is old = refl

-- no refusal is a fault
pub no_read : (why : DossierError) → refused_end why ≡ ends.ReadFault → ⊥
no_read (errors.Form line) is = cc
no_read (errors.Text line) is = cc
no_read (errors.Verdict line) is = cc
no_read (errors.Mark line) is = cc
no_read (errors.Admission line) is = cc
no_read (errors.Unsafe line) is = cc
no_read errors.Memory is = cc

pub no_write : {P : Type 0} (why : DossierError) → refused_end why ≡ ends.WriteFault → P
no_write (errors.Form line) is = absurd cc
no_write (errors.Text line) is = absurd cc
no_write (errors.Verdict line) is = absurd cc
no_write (errors.Mark line) is = absurd cc
no_write (errors.Admission line) is = absurd cc
no_write (errors.Unsafe line) is = absurd cc
no_write errors.Memory is = absurd cc
