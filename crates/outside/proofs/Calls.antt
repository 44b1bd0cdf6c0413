-- What one call more in the record of a memory disk changes.
use Rattle.std.proofs.Common.{◌≡◌, ◌⊎◌, inl, inr, ⊎_elim, Vec, Result, Ok, Err, OnOk, OnErr, ℕ, ◌+◌, ◌≤◌, Bool, true, false, List, [], ◌∷◌, ◌++◌, length, take}
use Rattle.std.proofs.Common.{drop, refl, sym, ◌∙◌, ap, subst, arith, length-append}
use Rattle.std.proofs.lemmas.Bool.Decides.{nat_tests}
use Rattle.std.specs.declared.alloc.Global.{Global}
use Rattle.std.proofs.lemmas.List.{take-append-le, take_all, append-nil}
use Rattle.outside.specs.Disk.{Holds, Torn, Follows, Only, Elapses}
use Rattle.outside.specs.Record.{overwritten, bytes_after_operation, image_after_operation, bytes_after, image_after, IsImage, IsImageSince, IsRefusal}
use Rattle.outside.specs.Record.{IsReading}
use Rattle.outside.specs.RecordLaws.{torn_none, bytes_are_image}
use Rattle.outside.specs.declared.memory_disk.Call.{Call}
use Rattle.outside.specs.declared.memory_disk.Operation.{Operation}
use Rattle.outside.specs.declared.memory_disk.Operation.TheVariants.{Length, Read, Write, Sync}

-- a call of the record
abbrev pub called : Operation → Bool → Call
called operation failed = record { operation = operation; failed = failed }

pub bytes_after-push : (bytes : List ℕ) (calls : List Call) (operation : Operation) (failed : Bool)
    → bytes_after bytes (calls ++ called operation failed ∷ []) ≡ bytes_after_operation (bytes_after bytes calls) operation failed
bytes_after-push bytes [] operation failed = refl
bytes_after-push bytes (call ∷ calls) operation failed = bytes_after-push (bytes_after_operation bytes call.operation call.failed) calls operation failed

pub image_after-push : (bytes : List ℕ) (image : List ℕ → Type 0) (calls : List Call) (operation : Operation) (failed : Bool) (c : List ℕ)
    → image_after bytes image (calls ++ called operation failed ∷ []) c
    → image_after_operation (bytes_after bytes calls) (λ d. image_after bytes image calls d) operation failed c
image_after-push bytes image [] operation failed c is = is
image_after-push bytes image (call ∷ calls) operation failed c is =
    image_after-push (bytes_after_operation bytes call.operation call.failed)
    (image_after_operation bytes image call.operation call.failed) calls operation failed c is

-- time goes on as calls are added
pub elapses : (first : List ℕ) (old new more : List Call) → new ≡ old ++ more
    → Elapses (length old) (length new) (IsImageSince first old) (IsImageSince first new)
elapses first old new more is = record {
  later = omega (arith, size);
  nothing_else = λ t c le since. by_time t c since.0 since.1 since.2 since.3 (cases_le since.0 (length old));
  keeps = λ t c le since. (since.0, since.1, omega (arith, since.2, size), subst (λ (l : List Call). IsImage first l c) (sym (front since.0 since.2)) since.3);
  adds = λ t c le since. (since.0, omega (arith, le, since.1), since.2, since.3);
}
  where
    size : length new ≡ length old + length more
    size = ap length is ∙ length-append old more

    front : (k : ℕ) → k ≤ length old → take k new ≡ take k old
    front k le = ap (λ (l : List Call). take k l) is ∙ take-append-le k old more le

    cases_le : (m n : ℕ) → (m ≤ n) ⊎ (n ≤ m)
    cases_le m n = grind arith

    by_time : (t : ℕ) (c : List ℕ) (k : ℕ) → t ≤ k → k ≤ length new → IsImage first (take k new) c → (k ≤ length old) ⊎ (length old ≤ k)
        → IsImageSince first old t c ⊎ IsImageSince first new (length old) c
    by_time t c k le within is_image (inl early) = inl (k, le, early, subst (λ (l : List Call). IsImage first l c) (front k early) is_image)
    by_time t c k le within is_image (inr late) = inr (k, late, within, is_image)

-- at the moments of one call the images are those before it or those after it
pub at_moments : (first : List ℕ) (old new : List Call) (call : Call) → new ≡ old ++ call ∷ [] → (c : List ℕ)
    → IsImageSince first new (length old) c → IsImage first old c ⊎ IsImage first new c
at_moments first old new call is c since = by_moment since.0 since.1 since.2 since.3 (cases since.0 since.1 since.2)
  where
    size : length new ≡ length old + 1
    size = ap length is ∙ length-append old (call ∷ [])

    cases : (k : ℕ) → length old ≤ k → k ≤ length new → (k ≤ length old) ⊎ (length new ≤ k)
    cases k low high = grind (arith, size)

    by_moment : (k : ℕ) → length old ≤ k → k ≤ length new → IsImage first (take k new) c → (k ≤ length old) ⊎ (length new ≤ k) → IsImage first old c
        ⊎ IsImage first new c
    by_moment k low high is_image (inl early) =
        inl (subst (λ (l : List Call). IsImage first l c) (ap (λ (l : List Call). take k l) is ∙ take-append-le k old (call ∷ []) early
        ∙ take_all k old low) is_image)
    by_moment k low high is_image (inr late) = inr (subst (λ (l : List Call). IsImage first l c) (take_all k new late) is_image)

-- what a call that changes no bytes leaves
pub record Quiet (first : List ℕ) (old new : List Call) : Type 0 where
  pub time : Elapses (length old) (length new) (IsImageSince first old) (IsImageSince first new)
  pub moments : (c : List ℕ) → IsImageSince first new (length old) c → IsImage first old c
  pub images : (c : List ℕ) → IsImage first new c → IsImage first old c
  pub same : bytes_after first new ≡ bytes_after first old

reading_keeps_bytes : (bytes : List ℕ) (operation : Operation) (failed : Bool) → IsReading operation → bytes_after_operation bytes operation failed ≡ bytes
reading_keeps_bytes bytes Length failed reading = refl
reading_keeps_bytes bytes (Read at n) failed reading = refl
reading_keeps_bytes bytes (Write at piece) failed reading = absurd reading
reading_keeps_bytes bytes Sync false reading = refl
reading_keeps_bytes bytes Sync true reading = refl

reading_keeps_images : (bytes : List ℕ) (image : List ℕ → Type 0) (operation : Operation) (failed : Bool) → IsReading operation → image bytes
    → (c : List ℕ) → image_after_operation bytes image operation failed c → image c
reading_keeps_images bytes image Length failed reading is c now = now
reading_keeps_images bytes image (Read at n) failed reading is c now = now
reading_keeps_images bytes image (Write at piece) failed reading is c now = absurd reading
reading_keeps_images bytes image Sync false reading is c now = subst image (sym now) is
reading_keeps_images bytes image Sync true reading is c now = now

pub quiet_call : (first : List ℕ) (old new : List Call) (operation : Operation) (failed : Bool) → IsReading operation
    → new ≡ old ++ called operation failed ∷ [] → Quiet first old new
quiet_call first old new operation failed reading is = record {
  time = elapses first old new (called operation failed ∷ []) is;
  moments = λ c since. ⊎_elim (λ was. was) (images c) (at_moments first old new (called operation failed) is c since);
  images = images;
  same = ap (λ (l : List Call). bytes_after first l) is ∙ bytes_after-push first old operation failed
      ∙ reading_keeps_bytes (bytes_after first old) operation failed reading;
}
  where
    images : (c : List ℕ) → IsImage first new c → IsImage first old c
    images c now =
        reading_keeps_images (bytes_after first old) (λ d. IsImage first old d) operation failed reading
        (bytes_are_image first old (bytes_after first old) refl) c
        (image_after-push first (λ d. d ≡ first) old operation failed c (subst (λ (l : List Call). IsImage first l c) is now))

pub quiet_none : (first : List ℕ) (old new : List Call) → new ≡ old → Quiet first old new
quiet_none first old new is = record {
  time = elapses first old new [] (is ∙ sym (append-nil old));
  moments = λ c since. subst (λ (l : List Call). IsImage first l c) (ap (λ (l : List Call). take since.0 l) is ∙ take_all since.0 old since.1) since.3;
  images = λ c now. subst (λ (l : List Call). IsImage first l c) is now;
  same = ap (λ (l : List Call). bytes_after first l) is;
}

pub quiet_refusal : (first : List ℕ) (old new : List Call) (operation : Operation) → IsReading operation → IsRefusal old operation new → Quiet first old new
quiet_refusal first old new operation reading (inl none) = quiet_none first old new none
quiet_refusal first old new operation reading (inr one) = quiet_call first old new operation true reading one

-- after a sync only the bytes that are read are left
pub only_synced : (first : List ℕ) (old new : List Call) → new ≡ old ++ called Sync false ∷ [] → Only (bytes_after first old) (IsImage first new)
only_synced first old new is c now = image_after-push first (λ d. d ≡ first) old Sync false c (subst (λ (l : List Call). IsImage first l c) is now)

pub only_after : {T E : Type 0} (first : List ℕ) (old new : List Call) (operation : Operation) (bytes : List ℕ) (result : Result T E) → operation ≡ Sync
    → bytes ≡ bytes_after first old
    → OnOk result (new ≡ old ++ called operation false ∷ []) → OnOk result (Only bytes (IsImage first new))
only_after first old new operation bytes (Ok value) is kept added =
    subst (λ b. Only b (IsImage first new)) (sym kept) (only_synced first old new (added ∙ ap (λ (o : Operation). old ++ called o false ∷ []) is))
only_after first old new operation bytes (Err why) is kept added = tt

-- what a write leaves
pub record Writing (first : List ℕ) (at n : ℕ) (old new : List Call) : Type 0 where
  pub time : Elapses (length old) (length new) (IsImageSince first old) (IsImageSince first new)
  pub moments : (c : List ℕ) → IsImageSince first new (length old) c → IsImage first old c ⊎ IsImage first new c
  pub images : Follows (Torn at n) (IsImage first old) (IsImage first new)

pub write_call : (first : List ℕ) (old new : List Call) (at : ℕ) (operation : Operation) (failed : Bool) (n : ℕ)
    → ((c : List ℕ) → image_after_operation (bytes_after first old) (λ d. IsImage first old d) operation failed c → (d : List ℕ) × IsImage first old d
    × Torn at n d c)
    → new ≡ old ++ called operation failed ∷ [] → Writing first at n old new
write_call first old new at operation failed n torn is = record {
  time = elapses first old new (called operation failed ∷ []) is;
  moments = λ c since. at_moments first old new (called operation failed) is c since;
  images = λ c now. torn c (image_after-push first (λ d. d ≡ first) old operation failed c (subst (λ (l : List Call). IsImage first l c) is now));
}

pub write_none : (first : List ℕ) (old new : List Call) (at n : ℕ) → new ≡ old → Writing first at n old new
write_none first old new at n is =
    let quiet = quiet_none first old new is in
    record { time = quiet.time; moments = λ c since. inl (quiet.moments c since); images = λ c now. (c, quiet.images c now, torn_none at n c) }

-- whether the call was refused or not
pub quiet_either : {T E : Type 0} (first : List ℕ) (old new : List Call) (operation : Operation) (result : Result T E) → IsReading operation
    → OnOk result (new ≡ old ++ called operation false ∷ []) → OnErr result (IsRefusal old operation new) → Quiet first old new
quiet_either first old new operation (Ok value) reading ok err = quiet_call first old new operation false reading ok
quiet_either first old new operation (Err why) reading ok err = quiet_refusal first old new operation reading err

pub write_call_of : (first : List ℕ) (old new : List Call) (at : ℕ) (piece : Vec ℕ Global) (failed : Bool) (bytes : List ℕ) → piece.items ≡ bytes
    → new ≡ old ++ called (Write at piece) failed ∷ [] → Writing first at (length bytes) old new
write_call_of first old new at piece failed bytes is added =
    subst (λ (l : List ℕ). Writing first at (length l) old new) is
    (write_call first old new at (Write at piece) failed (length piece.items) (λ c left. left) added)

pub write_refusal : (first : List ℕ) (old new : List Call) (at : ℕ) (piece : Vec ℕ Global) (bytes : List ℕ) → piece.items ≡ bytes
    → IsRefusal old (Write at piece) new → Writing first at (length bytes) old new
write_refusal first old new at piece bytes is (inl none) = write_none first old new at (length bytes) none
write_refusal first old new at piece bytes is (inr one) = write_call_of first old new at piece true bytes is one

-- a write that was refused leaves the bytes
pub refused_kept : (first : List ℕ) (old new : List Call) (at : ℕ) (piece : Vec ℕ Global) → IsRefusal old (Write at piece) new
    → bytes_after first new ≡ bytes_after first old
refused_kept first old new at piece (inl none) = ap (λ (l : List Call). bytes_after first l) none
refused_kept first old new at piece (inr one) = ap (λ (l : List Call). bytes_after first l) one ∙ bytes_after-push first old (Write at piece) true

overwritten_is : (bytes : List ℕ) (at : ℕ) (piece : List ℕ) → at ≤ length bytes
    → overwritten bytes at piece ≡ take at bytes ++ piece ++ drop (at + length piece) bytes
overwritten_is bytes at piece le = grind (arith, nat_tests)

-- a write leaves the bytes with the piece over them
pub written_kept : (first : List ℕ) (old new : List Call) (at : ℕ) (piece : Vec ℕ Global) (before bytes after : List ℕ) → piece.items ≡ bytes
    → before ≡ bytes_after first old → at ≤ length before → Holds before at bytes after → new ≡ old ++ called (Write at piece) false ∷ []
    → after ≡ bytes_after first new
written_kept first old new at piece before bytes after is kept le holds added =
    holds ∙ sym (overwritten_is before at bytes le)
    ∙ (λ i. overwritten (kept i) at (sym is i))
    ∙ sym (bytes_after-push first old (Write at piece) false)
    ∙ ap (λ (l : List Call). bytes_after first l) (sym added)

-- an image after one call more, from an image before it
picked : (bytes : List ℕ) (image : List ℕ → Type 0) (operation : Operation) (failed : Bool) (d c : List ℕ) → image d
    → image_after_operation bytes (λ e. e ≡ d) operation failed c → image_after_operation bytes image operation failed c
picked bytes image Length failed d c is now = subst image (sym now) is
picked bytes image (Read at n) failed d c is now = subst image (sym now) is
picked bytes image (Write at piece) failed d c is now = (now.0, subst image (sym now.1) is, now.2)
picked bytes image Sync false d c is now = now
picked bytes image Sync true d c is now = subst image (sym now) is

push-image_after : (bytes : List ℕ) (image : List ℕ → Type 0) (calls : List Call) (operation : Operation) (failed : Bool) (c : List ℕ)
    → image_after_operation (bytes_after bytes calls) (λ d. image_after bytes image calls d) operation failed c
    → image_after bytes image (calls ++ called operation failed ∷ []) c
push-image_after bytes image [] operation failed c is = is
push-image_after bytes image (call ∷ calls) operation failed c is =
    push-image_after (bytes_after_operation bytes call.operation call.failed)
    (image_after_operation bytes image call.operation call.failed) calls operation failed c is

-- The bytes and a picked image after some calls.
pub record Picked (first : List ℕ) (calls : List Call) (bytes image : List ℕ) : Type 0 where
  pub bytes_are : bytes ≡ bytes_after first calls
  pub is_image : IsImage first calls image

pub picked_first : (first bytes image : List ℕ) → bytes ≡ first → image ≡ first → Picked first [] bytes image
picked_first first bytes image b i = record { bytes_are = b; is_image = i }

pub picked_more : (first : List ℕ) (calls more : List Call) (call : Call) (bytes image bytes' image' : List ℕ) → more ≡ calls ++ call ∷ []
    → Picked first calls bytes image
    → bytes' ≡ bytes_after_operation bytes call.operation call.failed → image_after_operation bytes (λ d. d ≡ image) call.operation call.failed image'
    → Picked first more bytes' image'
picked_more first calls more call bytes image bytes' image' grown so_far b i = record {
  bytes_are = b ∙ ap (λ (l : List ℕ). bytes_after_operation l call.operation call.failed) so_far.bytes_are
      ∙ sym (bytes_after-push first calls call.operation call.failed)
      ∙ ap (λ (l : List Call). bytes_after first l) (sym grown);
  is_image = subst (λ (l : List Call). IsImage first l image') (sym grown)
      (push-image_after first (λ d. d ≡ first) calls call.operation call.failed image'
      (picked (bytes_after first calls) (λ d. IsImage first calls d) call.operation call.failed image image' so_far.is_image
      (subst (λ l. image_after_operation l (λ d. d ≡ image) call.operation call.failed image') so_far.bytes_are i)));
}
