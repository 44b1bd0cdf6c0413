-- Names that differ, and what a change under one name leaves under another.
use Rattle.std.proofs.Common.{◌≡◌, ◌∙◌, sym, ap, subst, refl, ℕ, zero, suc, List, [], ◌∷◌, Bool, false, Option, Some, None, slice_get, is_some, bytes_eq}
use Rattle.std.specs.Prelude.{unwrap_or}
use Rattle.std.specs.List.{list_any}
use Rattle.std.proofs.lemmas.Bool.{false_from_ne_true, false≢true, or_parts}
use Rattle.std.proofs.lemmas.Slice.Eq.{bytes_eq-Decides}
use Rattle.cqe_base.specs.Schema.{contains_text, has_duplicate}

-- in the other order too they differ
pub apart_back : (first second : List ℕ) → bytes_eq first second ≡ false → bytes_eq second first ≡ false
apart_back first second apart =
    false_from_ne_true (bytes_eq second first) (λ same.
    false≢true (sym apart ∙ (bytes_eq-Decides first second).1 (sym ((bytes_eq-Decides second first).0 same))))

-- what stands at one place is one name
pub same_some : (first second : List ℕ) → Some first ≡ Some second → first ≡ second
same_some first second is = ap (λ o. unwrap_or o first) is

no_name : (name : List ℕ) → None ≡ Some name → ⊥
no_name name is = false≢true (ap (λ (o : Option (List ℕ)). is_some o) is)

-- what holds of no element of a list doesn't hold at a place of it
pub no_element : (test : List ℕ → Bool) (names : List (List ℕ)) (k : ℕ) (name : List ℕ) → list_any test names ≡ false → slice_get names k ≡ Some name
    → test name ≡ false
no_element test [] k name none is = absurd (no_name name is)
no_element test (first ∷ names) zero name none is = subst (λ n. test n ≡ false) (same_some first name is) (or_parts (test first) (list_any test names) none).0
no_element test (first ∷ names) (suc k) name none is = no_element test names k name (or_parts (test first) (list_any test names) none).1 is

-- of names none of which stands twice two differ
pub names_apart : (names : List (List ℕ)) → has_duplicate names ≡ false → (i k : ℕ) (first second : List ℕ) → (i ≡ k → ⊥) → slice_get names i ≡ Some first
    → slice_get names k ≡ Some second → bytes_eq first second ≡ false
names_apart [] once i k first second other is is' = absurd (no_name first is)
names_apart (name ∷ names) once zero zero first second other is is' = absurd (other refl)
names_apart (name ∷ names) once zero (suc k) first second other is is' =
    no_element (bytes_eq first) names k second
    (subst (λ n. list_any (bytes_eq n) names ≡ false) (same_some name first is) (or_parts (contains_text names name) (has_duplicate names) once).0) is'
names_apart (name ∷ names) once (suc i) zero first second other is is' =
    apart_back second first
    (no_element (bytes_eq second) names i first
    (subst (λ n. list_any (bytes_eq n) names ≡ false) (same_some name second is') (or_parts (contains_text names name) (has_duplicate names) once).0)
    is)
names_apart (name ∷ names) once (suc i) (suc k) first second other is is' =
    names_apart names (or_parts (contains_text names name) (has_duplicate names) once).1 i k first second (λ same. other (ap suc same)) is is'
