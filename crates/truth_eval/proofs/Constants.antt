-- Testing the constants of a domain one after the other.
use Rattle.std.proofs.Common.{◌≡◌, ℕ, ◌+◌, ◌<◌, Bool, true, false, ◌&&◌, ◌||◌, [], ◌∷◌, ◌++◌, length, get_or, refl, sym, ap, ◌∙◌, subst, arith}
use Rattle.std.specs.List.{list_any, list_all}
use Rattle.std.proofs.lemmas.List.Folds.{list_all-append, list_any-append, list_all_at, list_any_at}
use Rattle.std.proofs.lemmas.List.FromFn.{map-range_with_len_more, length-map-range_with_len, get_or-map-range_with_len}
use Rattle.cqe_base.specs.declared.sentence.Constant.{Constant}
use Rattle.cqe_base.specs.Truth.{constant_at, first_constants}

one_more : (d i : ℕ) → first_constants d (i + 1) ≡ first_constants d i ++ constant_at d i ∷ []
one_more d i = map-range_with_len_more (constant_at d) 0 i i (omega arith)

both_true : (a b : Bool) → a ≡ true → b ≡ true → (a && (b && true)) ≡ true
both_true true true p q = refl
both_true true false p q = q
both_true false b p q = p

both_false : (a b : Bool) → a ≡ false → b ≡ false → (a || (b || false)) ≡ false
both_false false false p q = refl
both_false false true p q = q
both_false true b p q = p

-- one more constant passes
pub all_pass_next : (p : Constant → Bool) (d i : ℕ) → list_all p (first_constants d i) ≡ true → p (constant_at d i) ≡ true
    → list_all p (first_constants d (i + 1)) ≡ true
all_pass_next p d i before here =
    ap (list_all p) (one_more d i) ∙ list_all-append p (first_constants d i) _ ∙ both_true (list_all p (first_constants d i)) (p (constant_at d i)) before here

-- and one more fails
pub none_passes_next : (p : Constant → Bool) (d i : ℕ) → list_any p (first_constants d i) ≡ false → p (constant_at d i) ≡ false
    → list_any p (first_constants d (i + 1)) ≡ false
none_passes_next p d i before here =
    ap (list_any p) (one_more d i) ∙ list_any-append p (first_constants d i) _ ∙ both_false (list_any p (first_constants d i)) (p (constant_at d i)) before here

there : (d n i : ℕ) → i < n → get_or (first_constants d n) i (constant_at d i) ≡ constant_at d i
there d n i low = get_or-map-range_with_len (constant_at d) 0 n i i (constant_at d i) low (omega arith)

within : (d n i : ℕ) → i < n → i < length (first_constants d n)
within d n i low = subst (λ m. i < m) (sym (length-map-range_with_len (constant_at d) 0 n)) low

-- one constant that fails, or passes, decides
pub one_fails : (p : Constant → Bool) (d n i : ℕ) → i < n → p (constant_at d i) ≡ false → list_all p (first_constants d n) ≡ false
one_fails p d n i low here = list_all_at p (first_constants d n) i (constant_at d i) (within d n i low) (ap p (there d n i low) ∙ here)

pub one_passes : (p : Constant → Bool) (d n i : ℕ) → i < n → p (constant_at d i) ≡ true → list_any p (first_constants d n) ≡ true
one_passes p d n i low here = list_any_at p (first_constants d n) i (constant_at d i) (within d n i low) (ap p (there d n i low) ∙ here)
