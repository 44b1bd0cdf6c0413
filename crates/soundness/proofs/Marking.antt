-- Right verdicts give the mark.
use Rattle.std.proofs.Common.{◌≡◌, Bool, true, false, List, ◌++◌, length, map, sym, ap, ◌∙◌}
use Rattle.std.specs.Prelude.{None}
use Rattle.std.specs.List.{list_any}
use Rattle.std.proofs.lemmas.List.{map-append}
use Rattle.std.proofs.Math.Seq.{take-append_seam, drop-append_seam}
use Rattle.cqe_base.specs.declared.user.Method.{Method}
use Rattle.cqe_base.specs.declared.user.Method.TheVariants.{Lying, Refusal, Combined}
use Rattle.cqe_base.specs.Schema.{DatabaseSchema}
use Rattle.cqe_base.specs.Formula.{Formula}
use Rattle.cqe_base.specs.Truth.{true_in}
use Rattle.cqe_base.specs.Entailment.{Signed, entails}
use Rattle.cqe_base.specs.History.{log, user_at}
use Rattle.cqe_base.specs.Censor.{Probe, guarded, probes_against, probes_by, with_query, with_negation, entails_some, implied, implied_by, yes_harm, no_harm}
use Rattle.cqe_base.specs.Censor.{mark_by}
use Rattle.cqe_base.proofs.Truths.{list_any-map, map-map, length-map}
use Rattle.soundness.specs.Verdicts.{first_found, others_found, mark_found, VerdictsGiveMarks}

module _ (schema : DatabaseSchema) where
  abbrev follows : Probe → Bool
  follows probe = entails schema probe.premises probe.goal

  -- the verdicts of some premises against sentences
  abbrev against : List Signed → List Formula → List Bool
  against premises goals = map (λ goal. entails schema premises (goal, true)) goals

  both-against : (ps qs : List Signed) (goals : List Formula)
      → map follows (probes_against ps goals ++ probes_against qs goals) ≡ against ps goals ++ against qs goals
  both-against ps qs goals =
      map-append follows (probes_against ps goals) (probes_against qs goals)
      ∙ (λ i. map-map follows (λ goal. record { premises = ps; goal = (goal, true) }) goals i
      ++ map-map follows (λ goal. record { premises = qs; goal = (goal, true) }) goals i)

  first-is : (ps qs : List Signed) (goals : List Formula)
      → first_found (length goals) (map follows (probes_against ps goals ++ probes_against qs goals)) ≡ entails_some schema ps goals
  first-is ps qs goals =
      ap (first_found (length goals)) (both-against ps qs goals)
      ∙ ap (λ n. first_found n (against ps goals ++ against qs goals)) (sym (length-map (λ goal. entails schema ps (goal, true)) goals))
      ∙ ap (list_any (λ verdict. verdict)) (take-append_seam (against ps goals) (against qs goals))
      ∙ list_any-map (λ verdict. verdict) (λ goal. entails schema ps (goal, true)) goals

  others-are : (ps qs : List Signed) (goals : List Formula)
      → others_found (length goals) (map follows (probes_against ps goals ++ probes_against qs goals)) ≡ entails_some schema qs goals
  others-are ps qs goals =
      ap (others_found (length goals)) (both-against ps qs goals)
      ∙ ap (λ n. others_found n (against ps goals ++ against qs goals)) (sym (length-map (λ goal. entails schema ps (goal, true)) goals))
      ∙ ap (list_any (λ verdict. verdict)) (drop-append_seam (against ps goals) (against qs goals))
      ∙ list_any-map (λ verdict. verdict) (λ goal. entails schema qs (goal, true)) goals

  mark-is : (m : Method) (goals : List Formula) (before : List Signed) (query : Formula) (truth : Bool)
      → mark_found m (length goals) (map follows (probes_by m goals before query)) truth
      ≡ mark_by m false (implied_by m schema before query) (entails_some schema (with_query before query) goals)
      (entails_some schema (with_negation before query) goals) truth
  mark-is Lying goals before query truth =
      λ i. mark_by Lying false None (first-is (with_query before query) (with_negation before query) goals i)
      (others-are (with_query before query) (with_negation before query) goals i) truth
  mark-is Refusal goals before query truth =
      λ i. mark_by Refusal false (implied_by Refusal schema before query) (first-is (with_query before query) (with_negation before query) goals i)
      (others-are (with_query before query) (with_negation before query) goals i) truth
  mark-is Combined goals before query truth =
      λ i. mark_by Combined false None (first-is (with_query before query) (with_negation before query) goals i)
      (others-are (with_query before query) (with_negation before query) goals i) truth

pub verdicts_give_marks : VerdictsGiveMarks
unfolding implied yes_harm no_harm
verdicts_give_marks schema world user entries query verdicts are =
    ap (λ vs. mark_found user.method (length (guarded (user_at user entries))) vs (true_in schema world query)) are
    ∙ mark-is schema user.method (guarded (user_at user entries)) (log user entries) query (true_in schema world query)
