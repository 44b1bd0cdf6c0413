-- The entries of a map as numbered facts.
use Rattle.std.proofs.Common.{◌≡◌, ℕ, Bool, true, false, cond, ◌||◌, List, [], ◌∷◌, ◌++◌, Some, None, refl, sym, ap, ◌∙◌, subst}
use Rattle.std.specs.List.{AllByRecursion}
use Rattle.std.specs.Map.{lookup}
use Rattle.indexmap.specs.IndexMap.{IndexMap, get, insert_entry}
use Rattle.indexmap.proofs.CallerLemmas.{insert_entry-new}
use Rattle.cqe_base.specs.declared.world.Fact.{Fact}
use Rattle.cqe_base.specs.ClauseForm.{same_fact, is_numbered, number_of}
use Rattle.clause_form.specs.Inside.{numbered_of, numbered_facts}

module _ (f : Fact) (test : Fact → Bool) (same : (g : Fact) → test g ≡ same_fact f g) where
  -- a fact that is found has the number that is found
  pub found_number : (entries : List (Fact × ℕ)) (n next : ℕ) → Some n ≡ lookup test entries → number_of (numbered_facts entries) f next ≡ n
  found_number [] n next e = absurd (let x : ⊥ = cc in x)
  found_number ((g, m) ∷ entries) n next e =
      by (same_fact f g) (sym (ap (λ b. cond b (Some m) (lookup test entries)) (same g)) ∙ sym e) (λ h. found_number entries n next h)
    where
      by : (b : Bool) → cond b (Some m) (lookup test entries) ≡ Some n → (Some n ≡ lookup test entries → number_of (numbered_facts entries) f next ≡ n)
          → cond b m (number_of (numbered_facts entries) f next) ≡ n
      by true h go = cc
      by false h go = go (sym h)

  pub found_numbered : (entries : List (Fact × ℕ)) (n : ℕ) → Some n ≡ lookup test entries → is_numbered (numbered_facts entries) f ≡ true
  found_numbered [] n e = absurd (let x : ⊥ = cc in x)
  found_numbered ((g, m) ∷ entries) n e =
      by (same_fact f g) (sym (ap (λ b. cond b (Some m) (lookup test entries)) (same g)) ∙ sym e) (λ h. found_numbered entries n h)
    where
      by : (b : Bool) → cond b (Some m) (lookup test entries) ≡ Some n → (Some n ≡ lookup test entries → is_numbered (numbered_facts entries) f ≡ true)
          → (b || is_numbered (numbered_facts entries) f) ≡ true
      by true h go = refl
      by false h go = go (sym h)

  -- what holds of each number holds of the number that is found
  pub found_each : (P : ℕ → Type 0) (entries : List (Fact × ℕ)) (n : ℕ) → AllByRecursion (λ e. P e.number) (numbered_facts entries)
      → Some n ≡ lookup test entries → P n
  found_each P [] n each e = absurd (let x : ⊥ = cc in x)
  found_each P ((g, m) ∷ entries) n each e = by (test g) (sym e) (λ h. found_each P entries n each.1 h)
    where
      by : (b : Bool) → cond b (Some m) (lookup test entries) ≡ Some n → (Some n ≡ lookup test entries → P n) → P n
      by true h go = let is : m ≡ n = cc in subst P is each.0
      by false h go = go (sym h)

  -- a fact that isn't found has no number yet
  pub missing_numbered : (entries : List (Fact × ℕ)) → None ≡ lookup test entries → is_numbered (numbered_facts entries) f ≡ false
  missing_numbered [] e = refl
  missing_numbered ((g, m) ∷ entries) e =
      by (same_fact f g) (sym (ap (λ b. cond b (Some m) (lookup test entries)) (same g)) ∙ sym e) (λ h. missing_numbered entries h)
    where
      by : (b : Bool) → cond b (Some m) (lookup test entries) ≡ None → (None ≡ lookup test entries → is_numbered (numbered_facts entries) f ≡ false)
          → (b || is_numbered (numbered_facts entries) f) ≡ false
      by true h go = absurd (let x : ⊥ = cc in x)
      by false h go = go (sym h)

  pub missing_number : (entries : List (Fact × ℕ)) (next : ℕ) → None ≡ lookup test entries → number_of (numbered_facts entries) f next ≡ next
  missing_number [] next e = refl
  missing_number ((g, m) ∷ entries) next e =
      by (same_fact f g) (sym (ap (λ b. cond b (Some m) (lookup test entries)) (same g)) ∙ sym e) (λ h. missing_number entries next h)
    where
      by : (b : Bool) → cond b (Some m) (lookup test entries) ≡ None → (None ≡ lookup test entries → number_of (numbered_facts entries) f next ≡ next)
          → cond b m (number_of (numbered_facts entries) f next) ≡ next
      by true h go = absurd (let x : ⊥ = cc in x)
      by false h go = go (sym h)

-- one more entry at the end
numbered_push : (entries : List (Fact × ℕ)) (f : Fact) (n : ℕ) → numbered_facts (entries ++ (f, n) ∷ []) ≡ numbered_facts entries ++ record {
  fact =
      f;
  number = n;
} ∷ []
numbered_push [] f n = refl
numbered_push (e ∷ entries) f n = ap (λ es. numbered_of e ∷ es) (numbered_push entries f n)

-- the numbered facts after a fact that was missing is inserted
pub added : {S : Type 0} (m : IndexMap Fact ℕ S) (f : Fact) (n : ℕ) (after : List (Fact × ℕ)) → get same_fact m f ≡ None
    → after ≡ insert_entry same_fact m.entries f n → numbered_facts after ≡ numbered_facts m.entries ++ record { fact = f; number = n } ∷ []
added m f n after none e = ap numbered_facts (e ∙ insert_entry-new same_fact m f n none) ∙ numbered_push m.entries f n
