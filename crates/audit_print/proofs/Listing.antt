-- One more secret of which something is said.
use Rattle.std.proofs.Common.{◌≡◌, ◌<◌, ◌≤◌, ◌+◌, ◌==◌, ℕ, zero, suc, Bool, true, false, cond, List, [], ◌∷◌, ◌++◌, map, refl, sym, ap, subst, ◌∙◌, arith}
use Rattle.std.proofs.Common.{eqb-true}
use Rattle.std.specs.Prelude.{Option, None, option_map}
use Rattle.std.specs.List.{range_with_len}
use Rattle.std.proofs.lemmas.Bool.{eq-eqb, ne_eqb, eqb-false}
use Rattle.std.proofs.lemmas.List.{map-append}
use Rattle.cqe_base.specs.declared.world.Fact.{Fact}
use Rattle.cqe_base.specs.Canonical.{canonical}
use Rattle.cqe_base.specs.Schema.{DatabaseSchema, Text}
use Rattle.cqe_base.specs.Facts.{FactSet}
use Rattle.cqe_base.specs.History.{UserProfile, secret_at}
use Rattle.audit_print.specs.Said.{IsListing, secret_said, world_said}
use Rattle.audit_print.specs.Listed.{ListsAll}
use Rattle.audit_print.proofs.Each.{range_more}

-- a listing for one more number
abbrev extend : (ℕ → Option (List Fact)) → ℕ → Option (List Fact) → ℕ → Option (List Fact)
extend old n x k = cond (k == n) x (old k)

extend_here : (old : ℕ → Option (List Fact)) (n : ℕ) (x : Option (List Fact)) → extend old n x n ≡ x
extend_here old n x = ap (λ (b : Bool). cond b x (old n)) (eq-eqb n n refl)

extend_below : (old : ℕ → Option (List Fact)) (n : ℕ) (x : Option (List Fact)) (k : ℕ) → k < n → extend old n x k ≡ old k
extend_below old n x k low = ap (λ (b : Bool). cond b x (old k)) (ne_eqb k n (λ e. omega (arith, e, low)))

same_said : (schema : DatabaseSchema) (user : UserProfile) (f g : ℕ → Option (List Fact)) (a n : ℕ) → ((k : ℕ) → a ≤ k → k < a + n → f k ≡ g k)
    → map (secret_said schema user f) (range_with_len a n) ≡ map (secret_said schema user g) (range_with_len a n)
same_said schema user f g a zero same = refl
same_said schema user f g a (suc n) same =
    let rest = same_said schema user f g (a + 1) n (λ k low high. same k (omega (arith, low)) (omega (arith, high))) in
    (λ i. (canonical schema (secret_at user a), option_map (world_said schema) (same a (omega arith) (omega arith) i)) ∷ rest i)

pub lists_none : (schema : DatabaseSchema) (user : UserProfile) (worlds : ℕ → Option FactSet) (said : List (Text × Option (List Text))) → said ≡ []
    → ListsAll schema user worlds 0 said
lists_none schema user worlds said is = record { listings = λ _. None; listed = λ k low. absurd (omega (arith, low)); whole = is }

pub lists_more : {R : Type 0} (schema : DatabaseSchema) (user : UserProfile) (worlds : ℕ → Option FactSet) (n : ℕ) (said : List (Text × Option (List Text)))
    (row_in : R → Text × Option (List Text)) (rows : List R) (row : R)
    → ListsAll schema user worlds n (map row_in rows)
    → ((listing : Option (List Fact)) × IsListing listing (worlds n)
    × (row_in row ≡ (canonical schema (secret_at user n), option_map (world_said schema) listing)))
    → said ≡ map row_in (rows ++ row ∷ []) → ListsAll schema user worlds (n + 1) said
lists_more schema user worlds n said row_in rows row all one is = record {
  listings = extend all.listings n one.0;
  listed = λ k low. elim (k == n) as (λ t. (k == n) ≡ t → IsListing (extend all.listings n one.0 k) (worlds k)) [
    | true ↦ λ e.
        let k_is : k ≡ n = eqb-true k n e in
        subst (λ m. IsListing (extend all.listings n one.0 m) (worlds m)) (sym k_is)
        (subst (λ l. IsListing l (worlds n)) (sym (extend_here all.listings n one.0)) one.1)
    | false ↦ λ e.
        let less : k < n = omega (arith, eqb-false k n e, low) in
        subst (λ l. IsListing l (worlds k)) (sym (extend_below all.listings n one.0 k less)) (all.listed k less)
  ] refl;
  whole = is ∙ map-append row_in rows (row ∷ [])
      ∙ (λ i. (all.whole
      ∙ same_said schema user all.listings (extend all.listings n one.0) 0 n (λ k _ high. sym (extend_below all.listings n one.0 k (omega (arith, high))))) i
      ++ one.2 i ∷ [])
      ∙ (λ i. map (secret_said schema user (extend all.listings n one.0)) (range_with_len 0 n) ++ (
        canonical schema (secret_at user n),
        option_map (world_said schema) (sym (extend_here all.listings n one.0) i),
      ) ∷ [])
      ∙ sym (map-append (secret_said schema user (extend all.listings n one.0)) (range_with_len 0 n) (n ∷ []))
      ∙ ap (map (secret_said schema user (extend all.listings n one.0))) (sym (range_more 0 n ∙ ap (λ m. range_with_len 0 n ++ m ∷ []) (zero_and n)));
}
  where
    zero_and : (m : ℕ) → 0 + m ≡ m
    zero_and m = omega arith
