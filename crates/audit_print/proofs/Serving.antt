-- The worlds that were found serve all secrets.
use Rattle.std.proofs.Common.{◌≡◌, ◌<◌, ◌≤◌, ◌+◌, ℕ, true, false, List, [], ◌∷◌, ◌++◌, ◌==◌, length, refl, sym, ap, subst, ◌∙◌, arith, eqb-true, length-append}
use Rattle.std.proofs.lemmas.Bool.{eqb-false}
use Rattle.std.specs.Prelude.{Option, Some, None, IfSome, IsNone, ◌↔◌, ◌*◌, slice_index_or}
use Rattle.std.proofs.lemmas.List.{get_or_append_left}
use Rattle.std.proofs.Math.Seq.{get_or-append_seam}
use Rattle.std.proofs.lemmas.List.Elements.{Contains-get_or}
use Rattle.cqe_base.specs.declared.user.Method.{Method}
use Rattle.cqe_base.specs.declared.user.Method.TheVariants.{Lying, Refusal, Combined}
use Rattle.cqe_base.specs.Schema.{DatabaseSchema}
use Rattle.cqe_base.specs.Facts.{FactSet}
use Rattle.cqe_base.specs.Formula.{falsum}
use Rattle.cqe_base.specs.Outcome.{Spent, outcome}
use Rattle.cqe_base.specs.History.{UserProfile, History, secret_at, log, user_at, added_secrets}
use Rattle.cqe_base.specs.Censor.{admission_budget, guard_by}
use Rattle.cqe_base.specs.OtherWorlds.{guard_at}
use Rattle.cqe_base.specs.Secrecies.{secrecy_at, HasPairs}
use Rattle.cqe_base.specs.Truth.{true_in}
use Rattle.cqe_base.proofs.Confidential.{negated_false}
use Rattle.two_worlds.specs.Others.{HidesSecret}
use Rattle.audit_print.specs.Others.{AreOthers, IsOther}
use Rattle.audit_print.specs.Found.{found_at, worlds_for}

-- one more element, for which the next fact holds
pub push_each : {X : Type 0} (P : ℕ → X → Type 0) (xs : List X) (x d : X) (n : ℕ) → length xs ≡ n → ((k : ℕ) → k < n → P k (slice_index_or xs k d)) → P n x
    → (k : ℕ) → k < n + 1 → P k (slice_index_or (xs ++ x ∷ []) k d)
push_each P xs x d n size each last k below = elim (k == n) as (λ t. (k == n) ≡ t → P k (slice_index_or (xs ++ x ∷ []) k d)) [
  | true ↦ λ same.
      let k_is : k ≡ n = eqb-true k n same in
      let at : slice_index_or (xs ++ x ∷ []) n d ≡ x = subst (λ m. slice_index_or (xs ++ x ∷ []) m d ≡ x) size (get_or-append_seam xs x [] d) in
      subst (λ m. P m (slice_index_or (xs ++ x ∷ []) m d)) (sym k_is) (subst (P n) (sym at) last)
  | false ↦ λ other.
      let less : k < n = omega (arith, eqb-false k n other) in
      subst (P k) (sym (get_or_append_left xs (x ∷ []) d k (omega arith))) (each k less)
] refl

-- for a liar a world that hides one secret hides each
hides_each : (schema : DatabaseSchema) (user : UserProfile) (entries : History) (other : FactSet) (secret : ℕ) → user.method ≡ Lying
    → secret < length (user_at user entries).secrets
    → HidesSecret schema user entries 0 other → HidesSecret schema user entries secret other
hides_each schema user entries other secret lies low first = record {
  of_schema = first.of_schema;
  knowledge_true = first.knowledge_true;
  secret_false = first.all_false lies (secret_at (user_at user entries) secret) (Contains-get_or (user_at user entries).secrets secret falsum low);
  all_false = first.all_false;
  admits = first.admits;
  legal = first.legal;
  same_replies = first.same_replies;
}

same_guard : (user : UserProfile) (j k : ℕ) → user.method ≡ Lying → guard_at user j ≡ guard_at user k
same_guard user j k lies =
    ap (λ (m : Method). guard_by m user.secrets (secret_at user j)) lies ∙ ap (λ (m : Method). guard_by m user.secrets (secret_at user k)) (sym lies)

other_each : (schema : DatabaseSchema) (user : UserProfile) (entries : History) (other : Option FactSet) (secret : ℕ) → user.method ≡ Lying
    → secret < length (user_at user entries).secrets
    → IsOther schema user entries 0 other → IsOther schema user entries secret other
other_each schema user entries None secret lies low first = record {
  hides = tt;
  spent = subst (λ goal. IsNone {T = FactSet} None
      ↔ (outcome schema (log user entries) (goal, true) admission_budget ≡ Spent)) (same_guard (user_at user entries) 0 secret lies) first.spent;
}
other_each schema user entries (Some other) secret lies low first = record {
  hides = hides_each schema user entries other secret lies low first.hides;
  spent = subst (λ goal. IsNone (Some other)
      ↔ (outcome schema (log user entries) (goal, true) admission_budget ≡ Spent)) (same_guard (user_at user entries) 0 secret lies) first.spent;
}

-- a secrecy is true where its negation is false
secrecy_true : (schema : DatabaseSchema) (user : UserProfile) (entries : History) (k : ℕ) (other : Option FactSet) → HasPairs (user_at user entries)
    → k < user.pairs
    → IsOther schema user entries (2 * k + 1) other → IfSome other (λ world. true_in schema world (secrecy_at (user_at user entries) k) ≡ true)
secrecy_true schema user entries k None pairs low is = tt
secrecy_true schema user entries k (Some world) pairs low is =
    negated_false schema world (secrecy_at (user_at user entries) k)
    (subst (λ q. true_in schema world q ≡ false) (pairs.negated k low) is.hides.secret_false)

-- the worlds that were found serve all secrets
pub serving : (schema : DatabaseSchema) (user : UserProfile) (entries : History) (found : List (Option FactSet)) (method : Method) → user.method ≡ method
    → 1 ≤ length (user_at user entries).secrets → HasPairs (user_at user entries)
    → ((k : ℕ) → k < worlds_for method (length (user_at user entries).secrets) → IsOther schema user entries k (slice_index_or found k None))
    → AreOthers schema user entries (found_at method found)
serving schema user entries found method is some pairs each = record {
  each = all;
  one = one method is;
  secrecy_true = λ k low.
      let enough = pairs.enough in
      secrecy_true schema user entries k (found_at method found (2 * k + 1)) pairs low (all (2 * k + 1) (omega (arith, enough, low)));
}
  where
    served : (m : Method) → user.method ≡ m → ((k : ℕ) → k < worlds_for m (length (user_at user entries).secrets)
        → IsOther schema user entries k (slice_index_or found k None))
        → (k : ℕ) → k < length (user_at user entries).secrets → IsOther schema user entries k (found_at m found k)
    served Lying lies each k low = other_each schema user entries (slice_index_or found 0 None) k lies low (each 0 (omega arith))
    served Refusal is each k low = each k low
    served Combined is each k low = each k low

    all : (k : ℕ) → k < length (user_at user entries).secrets → IsOther schema user entries k (found_at method found k)
    all = served method is each

    one : (m : Method) → user.method ≡ m → user.method ≡ Lying → (j k : ℕ) → found_at m found j ≡ found_at m found k
    one Lying is lies j k = refl
    one Refusal is lies j k = (let bad : Refusal ≡ Lying = sym is ∙ lies in absurd (cc))
    one Combined is lies j k = (let bad : Combined ≡ Lying = sym is ∙ lies in absurd (cc))

-- no more worlds than secrets
pub worlds_few : (method : Method) (n : ℕ) → worlds_for method n ≤ n
worlds_few Lying n = omega arith
worlds_few Refusal n = omega arith
worlds_few Combined n = omega arith

-- with what his history adds he has a secret
pub some_more : (user : UserProfile) (entries : History) → 1 ≤ length user.secrets → 1 ≤ length (user_at user entries).secrets
some_more user entries some = let more = length-append user.secrets (added_secrets entries) in omega (arith, some, more)
