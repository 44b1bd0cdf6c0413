-- A disk that was taken and given back, among those of all names.
use Rattle.std.proofs.Common.{◌≡◌, ℕ, Bool, true, false, List, Option, refl, sym, ap, subst}
use Rattle.std.specs.Prelude.{bytes_eq}
use Rattle.std.proofs.lemmas.Slice.Eq.{bytes_eq-Decides}
use Rattle.outside.specs.Shelf.{SameOthers, bytes_on, image_on, SameBytes, NoNewImages}
use Rattle.cqe_base.specs.Schema.{Text}

-- what holds of one name and stays under all others holds of all
module _ {D : Type 0} (reads : D → List ℕ) (image : D → List ℕ → Type 0) (journal : Text) (old new : Text → Option D)
    (others : SameOthers journal old new) where
  by_name : (P : Text → Type 0) → P journal → ((name : Text) → new name ≡ old name → P name) → (name : Text) → P name
  by_name P here there name = by (bytes_eq name journal) refl
    where
      by : (t : Bool) → bytes_eq name journal ≡ t → P name
      by true is = subst P (sym ((bytes_eq-Decides name journal).0 is)) here
      by false is = there name (others name is)

  pub all_bytes : bytes_on reads (new journal) ≡ bytes_on reads (old journal) → SameBytes reads old new
  all_bytes same = by_name (λ name. bytes_on reads (new name) ≡ bytes_on reads (old name)) same (λ name is. ap (bytes_on reads) is)

  pub all_images : ((c : List ℕ) → image_on image (new journal) c → image_on image (old journal) c) → NoNewImages image old new
  all_images none =
      by_name (λ name. (c : List ℕ) → image_on image (new name) c
      → image_on image (old name) c) none (λ name is c left. subst (λ d. image_on image d c) is left)
