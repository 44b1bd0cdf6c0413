-- What loops over the tests of an admission have found, and that no test fails exactly where the user is admitted.
use Rattle.std.proofs.Common.{◌≡◌, ℕ, ◌+◌, ◌<◌, ◌≤◌, Bool, true, false, not, cond, ◌&&◌, List, [], ◌∷◌, length, get_or, map, drop, refl, sym, ap, ◌∙◌, subst}
use Rattle.std.proofs.Common.{add-one}
use Rattle.std.specs.Prelude.{◌↔◌, Option, Some, None, position, option_map, unwrap_or, is_some}
use Rattle.std.specs.List.{position_from, list_all}
use Rattle.std.specs.Option.{option_or}
use Rattle.std.proofs.lemmas.List.{get_or-map, length-map}
use Rattle.std.proofs.lemmas.List.Folds.{list_all-map}
use Rattle.std.proofs.Math.Bool.{and-true}
use Rattle.std.proofs.Math.Seq.{drop-cons}
use Rattle.std.proofs.Math.ListN.{drop_of_length-le}
use Rattle.std.proofs.lemmas.Iterator.Adapters.{position_from-zero}
use Rattle.cqe_base.specs.declared.sentence.Sentence.{Sentence}
use Rattle.cqe_base.specs.declared.user.Method.{Method}
use Rattle.cqe_base.specs.declared.user.Method.TheVariants.{Lying, Refusal, Combined}
use Rattle.cqe_base.specs.Schema.{DatabaseSchema}
use Rattle.cqe_base.specs.Facts.{FactSet}
use Rattle.cqe_base.specs.Formula.{Formula, formula_of}
use Rattle.cqe_base.specs.Truth.{true_in}
use Rattle.cqe_base.specs.Entailment.{Signed, holds_in, all_hold_in}
use Rattle.cqe_base.specs.Outcome.{Outcome, Follows, Open, Spent, outcome, is_open}
use Rattle.cqe_base.specs.History.{UserProfile, known, disjunction_of}
use Rattle.cqe_base.specs.Censor.{guarded_by, knows_truth_by, admitted, admission_budget}
use Rattle.censors.specs.declared.admittance.Admission.{Admission}
use Rattle.censors.specs.declared.admittance.Admission.TheVariants as admission
use Rattle.censors.specs.Admitting.{objection_by, probe_objection, secrets_objection, truth_objection, objection_of, admission_of}

-- from a place on, the list goes on with the sentence at that place
drop_here : (sentences : List Sentence) (i : ℕ) (s : Sentence) → s ≡ get_or sentences i s → i < length sentences
    → drop i (map formula_of sentences) ≡ formula_of s ∷ drop (i + 1) (map formula_of sentences)
drop_here sentences i s is low =
    drop-cons (map formula_of sentences) i (formula_of s) (subst (λ n. i < n) (sym (length-map sentences formula_of)) low)
    ∙ (λ k. (get_or-map formula_of sentences i s (formula_of s) low ∙ ap formula_of (sym is)) k ∷ drop (sym (add-one i) k) (map formula_of sentences))

module _ (p : Formula → Bool) (sentences : List Sentence) (i : ℕ) where
  -- no sentence before this place passes
  abbrev pub NoneBefore : Type 0
  NoneBefore = position_from p 0 (map formula_of sentences) ≡ position_from p i (drop i (map formula_of sentences))

  -- a sentence that passes is the first
  pub position_here : (s : Sentence) → s ≡ get_or sentences i s → i < length sentences → NoneBefore → p (formula_of s) ≡ true
      → position p (map formula_of sentences) ≡ Some i
  position_here s is low before passes =
      position_from-zero p (map formula_of sentences) ∙ before ∙ ap (position_from p i) (drop_here sentences i s is low)
      ∙ ap (λ b. cond b (Some i) (position_from p (i + 1) (drop (i + 1) (map formula_of sentences)))) passes

  -- at the end there is none
  pub position_nowhere : length sentences ≤ i → NoneBefore → position p (map formula_of sentences) ≡ None
  position_nowhere end before =
      position_from-zero p (map formula_of sentences) ∙ before
      ∙ ap (position_from p i) (drop_of_length-le (map formula_of sentences) (subst (λ n. n ≤ i) (sym (length-map sentences formula_of)) end))

-- a sentence that doesn't pass is passed over
pub none_before-more : (p : Formula → Bool) (sentences : List Sentence) (i : ℕ) (s : Sentence) → s ≡ get_or sentences i s → i < length sentences
    → NoneBefore p sentences i → p (formula_of s) ≡ false → NoneBefore p sentences (i + 1)
none_before-more p sentences i s is low before fails =
    before ∙ ap (position_from p i) (drop_here sentences i s is low)
    ∙ ap (λ b. cond b (Some i) (position_from p (i + 1) (drop (i + 1) (map formula_of sentences)))) fails

module _ (schema : DatabaseSchema) (premises : List Signed) (secrets : List Sentence) (i : ℕ) where
  -- no probe before this place says anything
  abbrev pub SilentBefore : Type 0
  SilentBefore = secrets_objection schema premises 0 (map formula_of secrets) ≡ secrets_objection schema premises i (drop i (map formula_of secrets))

  -- a probe that says something is the first
  pub objection_here : (s : Sentence) → s ≡ get_or secrets i s → i < length secrets → SilentBefore → (found : Option Admission)
      → probe_objection schema premises (formula_of s) (Some i) ≡ found → is_some found ≡ true
      → secrets_objection schema premises 0 (map formula_of secrets) ≡ found
  objection_here s is low before found says some =
      before ∙ ap (secrets_objection schema premises i) (drop_here secrets i s is low)
      ∙ ap (λ o. option_or o (secrets_objection schema premises (i + 1) (drop (i + 1) (map formula_of secrets)))) says ∙ first found _ some
    where
      first : (o p : Option Admission) → is_some o ≡ true → option_or o p ≡ o
      first None p none = absurd cc
      first (Some x) p some = refl

  pub objection_nowhere : length secrets ≤ i → SilentBefore → secrets_objection schema premises 0 (map formula_of secrets) ≡ None
  objection_nowhere end before =
      before ∙ ap (secrets_objection schema premises i)
      (drop_of_length-le (map formula_of secrets) (subst (λ n. n ≤ i) (sym (length-map secrets formula_of)) end))

-- a probe that says nothing is passed over
pub silent_before-more : (schema : DatabaseSchema) (premises : List Signed) (secrets : List Sentence) (i : ℕ) (s : Sentence) → s ≡ get_or secrets i s
    → i < length secrets → SilentBefore schema premises secrets i
    → (found : Option Admission) → probe_objection schema premises (formula_of s) (Some i) ≡ found → is_some found ≡ false
    → SilentBefore schema premises secrets (i + 1)
silent_before-more schema premises secrets i s is low before found says none =
    before ∙ ap (secrets_objection schema premises i) (drop_here secrets i s is low)
    ∙ ap (λ o. option_or o (secrets_objection schema premises (i + 1) (drop (i + 1) (map formula_of secrets)))) (says ∙ nothing found none)
  where
    nothing : (o : Option Admission) → is_some o ≡ false → o ≡ None
    nothing None none = refl
    nothing (Some x) some = absurd cc

-- ---- admission

-- an objection is none exactly where a test passes, and never says that the user is admitted
abbrev pub Agrees : Option Admission → Bool → Type 0
Agrees None passes = passes ≡ true
Agrees (Some admission.Open) passes = ⊥
Agrees (Some (admission.KnowFalse k)) passes = passes ≡ false
Agrees (Some (admission.Implied number)) passes = passes ≡ false
Agrees (Some (admission.Spent number)) passes = passes ≡ false

or_agrees : (o p : Option Admission) (a b : Bool) → Agrees o a → Agrees p b → Agrees (option_or o p) (a && b)
or_agrees None p true b first second = second
or_agrees None p false b first second = absurd cc
or_agrees (Some admission.Open) p a b first second = absurd first
or_agrees (Some (admission.KnowFalse k)) p false b first second = refl
or_agrees (Some (admission.KnowFalse k)) p true b first second = absurd cc
or_agrees (Some (admission.Implied number)) p false b first second = refl
or_agrees (Some (admission.Implied number)) p true b first second = absurd cc
or_agrees (Some (admission.Spent number)) p false b first second = refl
or_agrees (Some (admission.Spent number)) p true b first second = absurd cc

probe_agrees : (o : Outcome) (number : Option ℕ) → Agrees (objection_by o number) (is_open o)
probe_agrees Follows number = refl
probe_agrees Open number = refl
probe_agrees Spent number = refl

-- whether the probes of the premises against the sentences are open
abbrev all_open : DatabaseSchema → List Signed → List Formula → Bool
all_open schema premises goals = list_all (λ goal. is_open (outcome schema premises (goal, true) admission_budget)) goals

secrets_agree : (schema : DatabaseSchema) (premises : List Signed) (k : ℕ) (secrets : List Formula)
    → Agrees (secrets_objection schema premises k secrets) (all_open schema premises secrets)
secrets_agree schema premises k [] = refl
secrets_agree schema premises k (secret ∷ secrets) =
    or_agrees (probe_objection schema premises secret (Some k)) (secrets_objection schema premises (k + 1) secrets) _ _
    (probe_agrees (outcome schema premises (secret, true) admission_budget) (Some k)) (secrets_agree schema premises (k + 1) secrets)

position_agrees : (schema : DatabaseSchema) (world : FactSet) (k : ℕ) (sentences : List Formula)
    → Agrees (option_map admission.KnowFalse (position_from (λ s. not (true_in schema world s)) k sentences)) (list_all (true_in schema world) sentences)
position_agrees schema world k [] = refl
position_agrees schema world k (s ∷ sentences) = by (true_in schema world s) (position_agrees schema world (k + 1) sentences)
  where
    by : (b : Bool) → Agrees (option_map admission.KnowFalse (position_from (λ s. not (true_in schema world s)) (k + 1) sentences))
        (list_all (true_in schema world) sentences)
        → Agrees (option_map admission.KnowFalse (cond (not b) (Some k) (position_from (λ s. not (true_in schema world s)) (k + 1) sentences)))
        (b && list_all (true_in schema world) sentences)
    by true rest = rest
    by false rest = refl

truth_agrees : (schema : DatabaseSchema) (world : FactSet) (user : UserProfile)
    → Agrees (truth_objection schema world user.know) (all_hold_in schema world (known user))
unfolding all_hold_in known
truth_agrees schema world user =
    subst (λ o. Agrees (option_map admission.KnowFalse o) (list_all (holds_in schema world) (map (λ s. (s, true)) user.know)))
    (sym (position_from-zero (λ s. not (true_in schema world s)) user.know))
    (subst (λ b. Agrees (option_map admission.KnowFalse (position_from (λ s. not (true_in schema world s)) 0 user.know)) b)
    (sym (list_all-map (holds_in schema world) (λ s. (s, true)) user.know))
    (position_agrees schema world 0 user.know))

-- a method's objection is none exactly where its tests pass
objection_agrees : (schema : DatabaseSchema) (world : FactSet) (user : UserProfile) (m : Method)
    → Agrees (objection_of m schema world user.know (known user) user.secrets) (knows_truth_by m schema world (known user)
    && all_open schema (known user) (guarded_by m user.secrets))
objection_agrees schema world user Lying =
    subst (Agrees (objection_of Lying schema world user.know (known user) user.secrets)) (sym (and-true _))
    (probe_agrees (outcome schema (known user) (disjunction_of user.secrets, true) admission_budget) None)
objection_agrees schema world user Refusal = or_agrees _ _ _ _ (truth_agrees schema world user) (secrets_agree schema (known user) 0 user.secrets)
objection_agrees schema world user Combined = secrets_agree schema (known user) 0 user.secrets

open_exactly : (o : Option Admission) (passes : Bool) → Agrees o passes → (unwrap_or o admission.Open ≡ admission.Open) ↔ (passes ≡ true)
open_exactly None passes agrees = (λ e. agrees, λ e. refl)
open_exactly (Some admission.Open) passes agrees = absurd agrees
open_exactly (Some (admission.KnowFalse k)) passes agrees = (λ e. absurd cc, λ e. absurd cc)
open_exactly (Some (admission.Implied number)) passes agrees = (λ e. absurd cc, λ e. absurd cc)
open_exactly (Some (admission.Spent number)) passes agrees = (λ e. absurd cc, λ e. absurd cc)

-- the admission is Open exactly where the user is admitted
pub admitted_exactly : (schema : DatabaseSchema) (world : FactSet) (user : UserProfile)
    → (admission_of schema world user ≡ admission.Open) ↔ (admitted schema world user ≡ true)
unfolding admitted
admitted_exactly schema world user = open_exactly _ _ (objection_agrees schema world user user.method)
