-- What dials exchanged that are back, and their faults by their names.
use Rattle.std.proofs.Common.{◌≡◌, ◌+◌, ℕ, List, [], ◌∷◌, ◌++◌, false, if◌then◌else◌, refl, sym, ◌∙◌, ap, append_assoc, arith}
use Rattle.std.specs.Prelude.{bytes_eq}
use Rattle.std.specs.List.{sum_by}
use Rattle.std.proofs.lemmas.List.{append-nil}
use Rattle.std.proofs.lemmas.List.Sums.{sum_by-append}
use Rattle.std.proofs.lemmas.Slice.Eq.{bytes_eq-Decides}
use Rattle.outside.specs.Dials.{Exchange, faults_for, faults_under}
use Rattle.outside.specs.MemoryDials.{dial_exchanged}
use Rattle.outside.specs.MemoryLinks.{exchanged_among}
use Rattle.outside.specs.declared.memory_dial.MemoryDial.{MemoryDial}

exchanged_push : (dials : List MemoryDial) (dial : MemoryDial) → exchanged_among (dials ++ dial ∷ []) ≡ exchanged_among dials ++ dial_exchanged dial
exchanged_push [] dial = append-nil (dial_exchanged dial)
exchanged_push (first ∷ dials) dial =
    ap (λ (l : List Exchange). dial_exchanged first ++ l) (exchanged_push dials dial)
    ∙ sym (append_assoc (dial_exchanged first) (exchanged_among dials) (dial_exchanged dial))

-- with a further dial comes what it exchanged
pub exchanged_more : (dials new : List MemoryDial) (dial : MemoryDial) → new ≡ dials ++ dial ∷ []
    → exchanged_among new ≡ exchanged_among dials ++ dial_exchanged dial
exchanged_more dials new dial is = ap exchanged_among is ∙ exchanged_push dials dial

module _ {X : Type 0} (own : X → List ℕ) (faults : X → ℕ) (dials new : List X) (dial : X) (is : new ≡ dials ++ dial ∷ []) where
  pub faults_more : (name : List ℕ) → faults_under own faults new name ≡ faults_under own faults dials name + faults_for own faults name dial
  faults_more name =
      let whole = ap (λ l. faults_under own faults l name) is in
      let parts = sum_by-append (faults_for own faults name) dials (dial ∷ []) in
      let one : sum_by (faults_for own faults name) (dial ∷ []) ≡ faults_for own faults name dial = omega arith in
      omega (arith, whole, parts, one)

  -- with a further dial come its faults, under its own name
  pub own_more : faults_under own faults new (own dial) ≡ faults_under own faults dials (own dial) + faults dial
  own_more =
      let all : faults_for own faults (own dial) dial ≡ faults dial =
      ap (λ b. if b then faults dial else 0) ((bytes_eq-Decides (own dial) (own dial)).1 refl) in
      omega (arith, faults_more (own dial), all)

  -- and under no other
  pub others_same : (other : List ℕ) → bytes_eq other (own dial) ≡ false → faults_under own faults new other ≡ faults_under own faults dials other
  others_same other differs =
      let none : faults_for own faults other dial ≡ 0 = ap (λ b. if b then faults dial else 0) differs in
      omega (arith, faults_more other, none)
