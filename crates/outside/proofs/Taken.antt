-- What a disk that was taken reads, and what a crash may leave of it, and of all that are back.
use Rattle.std.proofs.Common.{◌≡◌, ℕ, List, Bool, true, false, Option, None, Some, refl, sym, ap, subst, ◌∙◌, bytes_eq, option_map}
use Rattle.std.specs.Prelude.{IfSome}
use Rattle.std.specs.Cmp.Lexicographic.{same_text}
use Rattle.outside.specs.Shelf.{bytes_on, image_on, since_on, IsTaken, SameNames, SameOthers, NoNewSince, NoNewMoments}
use Rattle.outside.specs.declared.disk.Disk.{Ghosts as DiskGhosts}

-- it has the bytes that were held
pub taken_reads : {D : Type 0} (reads : D → List ℕ) (image : D → List ℕ → Type 0) (held : Option D) (taken : D) → IsTaken reads image held taken
    → reads taken ≡ bytes_on reads held
taken_reads reads image None taken is = is.0
taken_reads reads image (Some one) taken is = ap reads is

-- and no image that they hadn't
pub taken_images : {D : Type 0} (reads : D → List ℕ) (image : D → List ℕ → Type 0) (held : Option D) (taken : D) (c : List ℕ) → IsTaken reads image held taken
    → image taken c → image_on image held c
taken_images reads image None taken c is left = is.1 c left
taken_images reads image (Some one) taken c is left = subst (λ d. image d c) is left

-- ---- at the moments since

module _ {D : Type 0} (Disk : DiskGhosts D) where
  -- a disk had nothing new at its moments, by its own clock
  abbrev pub Rests : Option D → Option D → Type 0
  Rests old new = NoNewSince Disk.moment Disk.image_since Disk.image old new

  -- so it is where it was taken and is back, and while it was away no moment left anything new
  pub taken_rests : (old new : Option D) (taken now : D) → IsTaken Disk.reads Disk.image old taken
      → ((c : List ℕ) → Disk.image_since now (Disk.moment taken) c → Disk.image taken c) → new ≡ Some now → Rests old new
  taken_rests None new taken now from rests held = tt
  taken_rests (Some one) new taken now from rests held = λ c here.
      subst (λ d. Disk.image d c) from
      (rests c
      (subst (λ d. Disk.image_since now (Disk.moment d) c) (sym from) (subst (λ o. since_on Disk.image_since o (Disk.moment one) c) held here)))

  -- and since the moment at which the call began
  pub began_rests : (old new : Option D) → Rests old new
      → IfSome (option_map Disk.moment old) (λ begun. (c : List ℕ) → since_on Disk.image_since new begun c → image_on Disk.image old c)
  began_rests None new rests = tt
  began_rests (Some one) new rests = rests

  module _ (only_now : (d : D) (c : List ℕ) → Disk.image_since d (Disk.moment d) c → Disk.image d c) where
    -- so it is where nothing was done
    pub same_rests : (old new : Option D) → new ≡ old → Rests old new
    same_rests None new is = tt
    same_rests (Some one) new is = λ c here. only_now one c (subst (λ o. since_on Disk.image_since o (Disk.moment one) c) is here)

    -- with all disks
    pub same_moments : (old new : List ℕ → Option D) → SameNames old new → NoNewMoments Disk.moment Disk.image_since Disk.image old new
    same_moments old new same name = same_rests (old name) (new name) (same name)

    -- where one disk alone was taken and is back so, none has anything new
    pub given_moments : (one two : List ℕ) → two ≡ one → (old mid new : List ℕ → Option D) (taken now : D) → IsTaken Disk.reads Disk.image (old one) taken
        → ((c : List ℕ) → Disk.image_since now (Disk.moment taken) c → Disk.image taken c) → new two ≡ Some now → SameOthers one old mid
        → SameOthers two mid new → NoNewMoments Disk.moment Disk.image_since Disk.image old new
    given_moments one two named old mid new taken now from rests held first second name = by (bytes_eq name one) refl
      where
        by : (t : Bool) → bytes_eq name one ≡ t → Rests (old name) (new name)
        by true is =
            subst (λ n. Rests (old n) (new n)) (sym (same_text name one (sym is)))
            (taken_rests (old one) (new one) taken now from rests (ap new (sym named) ∙ held))
        by false is = same_rests (old name) (new name) (second name (ap (bytes_eq name) named ∙ is) ∙ first name is)
