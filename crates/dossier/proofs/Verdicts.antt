-- Findings from verdicts: the mark that they give.
use Rattle.std.proofs.Common.{◌≡◌, ◌+◌, ℕ, Bool, true, false, List, [], ◌∷◌, ◌++◌, length, Some, None, refl, sym, ap, ◌∙◌, arith}
use Rattle.std.specs.Prelude.{if◌then◌else◌}
use Rattle.std.specs.List.{list_any}
use Rattle.std.proofs.Math.Seq.{take-append_seam, drop-append_seam}
use Rattle.cqe_base.specs.declared.user.Method.{Method}
use Rattle.cqe_base.specs.declared.user.Method.TheVariants.{Lying, Refusal, Combined}
use Rattle.cqe_base.specs.Schema.{DatabaseSchema}
use Rattle.cqe_base.specs.Facts.{FactSet}
use Rattle.cqe_base.specs.Formula.{Formula}
use Rattle.cqe_base.specs.Entailment.{Signed, all_hold_in}
use Rattle.cqe_base.specs.Censor.{mark_by, knows_truth_by}
use Rattle.soundness.specs.Verdicts.{first_found, others_found, mark_found}
use Rattle.dossier.specs.Items.{implied_shown, implied_probes, is_refusal}

-- how many probes come before those against the guarded sentences
abbrev pub first_count : Method → ℕ
first_count Lying = 0
first_count Refusal = 2
first_count Combined = 0

module _ (count : ℕ) (asserted negated : List Bool) (many : length asserted ≡ count) where
  -- the verdicts with the query come first, and those with its negation behind them
  first-are : first_found count (asserted ++ negated) ≡ list_any (λ v. v) asserted
  first-are = ap (λ n. first_found n (asserted ++ negated)) (sym many) ∙ ap (list_any (λ v. v)) (take-append_seam asserted negated)

  others-are : others_found count (asserted ++ negated) ≡ list_any (λ v. v) negated
  others-are = ap (λ n. others_found n (asserted ++ negated)) (sym many) ∙ ap (list_any (λ v. v)) (drop-append_seam asserted negated)

  -- the findings of such verdicts give the mark that all of them give
  pub found-mark : (m : Method) (first : List Bool) (yes_harm no_harm truth : Bool) → length first ≡ first_count m
      → yes_harm ≡ list_any (λ v. v) asserted → no_harm ≡ list_any (λ v. v) negated
      → mark_by m false (implied_shown first) yes_harm no_harm truth ≡ mark_found m count (first ++ (asserted ++ negated)) truth
  found-mark Lying [] yes_harm no_harm truth size y n =
      λ i. mark_by Lying false None ((y ∙ sym first-are) i) ((n ∙ sym others-are) i) truth
  found-mark Lying (v ∷ first) yes_harm no_harm truth size y n = absurd (omega (arith, size))
  found-mark Refusal [] yes_harm no_harm truth size y n = absurd (omega (arith, size))
  found-mark Refusal (v ∷ []) yes_harm no_harm truth size y n = absurd (omega (arith, size))
  found-mark Refusal (holds ∷ fails ∷ []) yes_harm no_harm truth size y n =
      λ i. mark_by Refusal false (if holds then Some true else if fails then Some false else None) ((y ∙ sym first-are) i) ((n ∙ sym others-are) i) truth
  found-mark Refusal (u ∷ v ∷ w ∷ first) yes_harm no_harm truth size y n = absurd (omega (arith, size))
  found-mark Combined [] yes_harm no_harm truth size y n =
      λ i. mark_by Combined false None ((y ∙ sym first-are) i) ((n ∙ sym others-are) i) truth
  found-mark Combined (v ∷ first) yes_harm no_harm truth size y n = absurd (omega (arith, size))

-- ---- refusal alone

pub refusal-is : (m : Method) → is_refusal m ≡ true → m ≡ Refusal
refusal-is Lying is = absurd cc
refusal-is Refusal is = refl
refusal-is Combined is = absurd cc

pub none-implied : (m : Method) (told : List Signed) (query : Formula) → is_refusal m ≡ false → implied_probes m told query ≡ []
none-implied Lying told query isnt = refl
none-implied Refusal told query isnt = absurd cc
none-implied Combined told query isnt = refl

pub knows-refusal : (m : Method) (schema : DatabaseSchema) (world : FactSet) (premises : List Signed) → is_refusal m ≡ true
    → all_hold_in schema world premises ≡ knows_truth_by m schema world premises
knows-refusal Lying schema world premises is = absurd cc
knows-refusal Refusal schema world premises is = refl
knows-refusal Combined schema world premises is = absurd cc

pub knows-other : (m : Method) (schema : DatabaseSchema) (world : FactSet) (premises : List Signed) → is_refusal m ≡ false
    → true ≡ knows_truth_by m schema world premises
knows-other Lying schema world premises isnt = refl
knows-other Refusal schema world premises isnt = absurd cc
knows-other Combined schema world premises isnt = refl
