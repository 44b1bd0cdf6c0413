-- One draw more.
use Rattle.std.proofs.Common.{◌≡◌, ◌∙◌, sym, ap, refl, ℕ, zero, suc, ◌+◌, ◌*◌, List, [], ◌∷◌, ◌++◌, map, arith, append_assoc}
use Rattle.std.specs.List.{flat_map, range_with_len}
use Rattle.std.proofs.lemmas.Grind.{flat_map-append}
use Rattle.std.proofs.lemmas.List.{map-append, append-nil}
use Rattle.workload.specs.Draws.{next_state, state_after, number_of}
use Rattle.workload.specs.Statements.{illness, treatment, illnesses, treatments}
use Rattle.workload.specs.declared.statement.Statement.{Statement}
use Rattle.workload.specs.declared.statement.Statement.TheVariants.{Drug, Has}

pub step : (seed n m : ℕ) → m ≡ n + 1 → state_after seed m ≡ next_state (state_after seed n)
unfolding state_after
step seed n m is = ap (state_after seed) (is ∙ one n)
  where
    one : (n : ℕ) → n + 1 ≡ suc n
    one n = omega arith

range_more : (a n : ℕ) → range_with_len a (suc n) ≡ range_with_len a n ++ (a + n) ∷ []
range_more a zero = ap (λ (k : ℕ). k ∷ []) (omega arith)
range_more a (suc n) = ap (λ (l : List ℕ). a ∷ l) (range_more (a + 1) n) ∙ ap (λ (k : ℕ). (a ∷ range_with_len (a + 1) n) ++ k ∷ []) (omega arith)

pub range_to : (n : ℕ) → range_with_len 0 (n + 1) ≡ range_with_len 0 n ++ n ∷ []
range_to n = ap (range_with_len 0) (one n) ∙ range_more 0 n ∙ ap (λ (k : ℕ). range_with_len 0 n ++ k ∷ []) (none n)
  where
    one : (n : ℕ) → n + 1 ≡ suc n
    one n = omega arith

    none : (n : ℕ) → 0 + n ≡ n
    none n = omega arith

pub illnesses_more : (seed n : ℕ) → illnesses seed (n + 1) ≡ illnesses seed n ++ illness seed n ∷ []
unfolding illnesses
illnesses_more seed n = ap (map (illness seed)) (range_to n) ∙ map-append (illness seed) (range_with_len 0 n) (n ∷ [])

pub treatments_more : (seed n : ℕ) → treatments seed (n + 1) ≡ treatments seed n ++ treatment seed n
unfolding treatments
treatments_more seed n =
    ap (flat_map (treatment seed)) (range_to n) ∙ flat_map-append (treatment seed) (range_with_len 0 n) (n ∷ [])
    ∙ ap (λ (l : List Statement). treatments seed n ++ l) (append-nil (treatment seed n))

pub no_illness : (seed : ℕ) → illnesses seed 0 ≡ []
unfolding illnesses
no_illness seed = refl

pub no_treatment : (seed : ℕ) → treatments seed 0 ≡ []
unfolding treatments
no_treatment seed = refl

-- two draws more give an illness more
pub record DrawsIllness (seed n state person disease after : ℕ) : Type 0 where
  pub now : after ≡ state_after seed (2 * (n + 1))
  pub is : Has person disease ≡ illness seed n

pub illness_drawn : (seed n state person disease after middle : ℕ) → state ≡ state_after seed (2 * n) → person ≡ number_of 40 (next_state state)
    → middle ≡ next_state state → disease ≡ number_of 12 (next_state middle) → after ≡ next_state middle
    → DrawsIllness seed n state person disease after
illness_drawn seed n state person disease after middle at is mid is' end =
    let first : middle ≡ state_after seed (2 * n + 1) = mid ∙ ap next_state at ∙ sym (step seed (2 * n) (2 * n + 1) refl) in
    let second : next_state middle ≡ state_after seed (2 * (n + 1)) = ap next_state first ∙ sym (step seed (2 * n + 1) (2 * (n + 1)) (omega arith)) in
    let again : state_after seed (2 * (n + 1)) ≡ state_after seed (2 * n + 1 + 1) =
    ap (λ (m : ℕ). state_after seed m) {x = 2 * (n + 1)} {y = 2 * n + 1 + 1} (omega arith) in
    record {
      now = end ∙ second;
      is = (λ i. Has ((is ∙ ap (number_of 40) (sym mid ∙ first)) i) ((is' ∙ ap (number_of 12) (second ∙ again)) i));
    }

-- one draw more gives a treatment more
pub record DrawsTreatment (seed n state person after : ℕ) : Type 0 where
  pub now : after ≡ state_after seed (600 + (n + 1))
  pub is : Drug person ∷ Has person 0 ∷ [] ≡ treatment seed n

pub treatment_drawn : (seed n state person after : ℕ) → state ≡ state_after seed (600 + n) → person ≡ number_of 40 (next_state state) → after ≡ next_state state
    → DrawsTreatment seed n state person after
treatment_drawn seed n state person after at is end =
    let next : next_state state ≡ state_after seed (600 + (n + 1)) = ap next_state at ∙ sym (step seed (600 + n) (600 + (n + 1)) (omega arith)) in
    let again : state_after seed (600 + (n + 1)) ≡ state_after seed (600 + n + 1) =
    ap (λ (m : ℕ). state_after seed m) {x = 600 + (n + 1)} {y = 600 + n + 1} (omega arith) in
    record {
      now = end ∙ next;
      is = ap (λ p. Drug p ∷ Has p 0 ∷ []) (is ∙ ap (number_of 40) (next ∙ again));
    }

pub treatments_added : (seed n : ℕ) (before all one two : List Statement) (drug has : Statement) → all ≡ before ++ treatments seed n → one ≡ all ++ drug ∷ []
    → two ≡ one ++ has ∷ []
    → drug ∷ has ∷ [] ≡ treatment seed n → two ≡ before ++ treatments seed (n + 1)
treatments_added seed n before all one two drug has so_far first second is =
    second ∙ ap (λ (l : List Statement). l ++ has ∷ []) (first ∙ ap (λ (l : List Statement). l ++ drug ∷ []) so_far)
    ∙ append_assoc (before ++ treatments seed n) (drug ∷ []) (has ∷ []) ∙ append_assoc before (treatments seed n) (drug ∷ has ∷ [])
    ∙ ap (λ (l : List Statement). before ++ (treatments seed n ++ l)) is ∙ ap (λ (l : List Statement). before ++ l) (sym (treatments_more seed n))
