-- A disk that was taken from its shelf, only read, and given back, among those of all names.
use Rattle.std.proofs.Common.{◌≡◌, ℕ, ◌≤◌, Bool, true, false, List, Option, Some, refl, sym, ap, subst, ◌∙◌, arith}
use Rattle.std.specs.Prelude.{bytes_eq}
use Rattle.std.specs.Cmp.Lexicographic.{same_text}
use Rattle.outside.specs.Shelf.{IsTaken, SameNames, SameOthers, NoneFell, bytes_on, image_on}
use Rattle.outside.specs.declared.disk.Disk.{Ghosts as DiskGhosts}
use Rattle.outside.proofs.Taken.{taken_reads, taken_images, same_moments, given_moments}
use Rattle.cqe_base.specs.Schema.{Text}
use Rattle.log_journal.specs.Opening.{IsOnlyRead}
use Rattle.standby_engine.specs.Opened.{AllStay}

-- what holds of one name, and of all others, holds of all
pub each_name : (P : Text → Type 0) (one : Text) → P one → ((name : Text) → bytes_eq name one ≡ false → P name) → (name : Text) → P name
each_name P one here others name = by (bytes_eq name one) refl
  where
    by : (t : Bool) → bytes_eq name one ≡ t → P name
    by true is = subst P (sym (same_text name one (sym is))) here
    by false is = others name is

-- what is the same beside a name, by two names for it
pub others_then : {A : Type 0} (own one two : Text) → one ≡ own → two ≡ own → (old mid new : Text → A) → SameOthers one old mid → SameOthers two mid new
    → SameOthers own old new
others_then own one two first second old mid new before behind name differs =
    behind name (ap (bytes_eq name) second ∙ differs) ∙ before name (ap (bytes_eq name) first ∙ differs)

-- where the disk of a name was in, and is in again, all are as before
pub in_again : (own one two : Text) → one ≡ own → two ≡ own → (old mid new : Text → Bool) → old own ≡ false → SameOthers one old mid → new two ≡ false
    → SameOthers two mid new → SameNames old new
in_again own one two first second old mid new was before is behind =
    each_name (λ name. new name ≡ old name) own (ap new (sym second) ∙ is ∙ sym was) (others_then own one two first second old mid new before behind)

-- no count fell
pub fell_none : (own one two : Text) → one ≡ own → two ≡ own → (old mid new : Text → ℕ) (taken now : ℕ) → taken ≡ old one → SameNames old mid → taken ≤ now
    → new two ≡ now → SameOthers two mid new → NoneFell old new
fell_none own one two first second old mid new taken now counted same on is behind =
    each_name (λ name. old name ≤ new name) own
    (let named = ap old first in
    let given = ap new second in
    omega (arith, named, given, counted, on, is))
    (λ name differs.
    let before = same name in
    let after = behind name (ap (bytes_eq name) second ∙ differs) in
    omega (arith, before, after))

module _ {D : Type 0} (Disk : DiskGhosts D) (only_now : (d : D) (c : List ℕ) → Disk.image_since d (Disk.moment d) c → Disk.image d c) where
  -- where no disk was touched, all stay
  pub stays_same : (old new : Text → Option D) → SameNames old new → AllStay Disk old new
  stays_same old new same = (
    λ name. ap (bytes_on Disk.reads) (same name),
    λ name c here. subst (λ o. image_on Disk.image o c) (same name) here,
    same_moments Disk only_now old new same,
  )

  -- and where one was taken, only read and given back
  pub stays_given : (one two : Text) → two ≡ one → (old mid new : Text → Option D) (taken now : D) → IsTaken Disk.reads Disk.image (old one) taken
      → IsOnlyRead (Disk.reads taken) (Disk.reads now) (Disk.image taken) (Disk.image now) (Disk.moment taken) (Disk.moment now) (Disk.image_since taken)
      (Disk.image_since now) (Disk.faults taken) (Disk.faults now) → new two ≡ Some now → SameOthers one old mid → SameOthers two mid new
      → AllStay Disk old new
  stays_given one two named old mid new taken now from only held first second = (
    each_name (λ name. bytes_on Disk.reads (new name) ≡ bytes_on Disk.reads (old name)) one
        (ap (bytes_on Disk.reads) there ∙ only.reads ∙ taken_reads Disk.reads Disk.image (old one) taken from)
        (λ name is. ap (bytes_on Disk.reads) (still name is)),
    each_name (λ name. (c : List ℕ) → image_on Disk.image (new name) c → image_on Disk.image (old name) c) one
        (λ c here. taken_images Disk.reads Disk.image (old one) taken c from (only.images c (subst (λ o. image_on Disk.image o c) there here)))
        (λ name is c here. subst (λ o. image_on Disk.image o c) (still name is) here),
    given_moments Disk only_now one two named old mid new taken now from only.moments held first second,
  )
    where
      there : new one ≡ Some now
      there = ap new (sym named) ∙ held

      still : (name : Text) → bytes_eq name one ≡ false → new name ≡ old name
      still name is = second name (ap (bytes_eq name) named ∙ is) ∙ first name is
