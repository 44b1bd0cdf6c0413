-- Views of one log in lanes.
use Rattle.std.proofs.Common.{◌≡◌, ◌<◌, ◌≤◌, ℕ, suc, List, [], ◌∷◌, ◌++◌, All, map, length, slice_index_or, refl, sym, ap, ◌∙◌, subst, arith}
use Rattle.std.proofs.Common.{length-append}
use Rattle.std.specs.Prelude.{Result, Ok, Err, is_ok, if◌then◌else◌}
use Rattle.std.specs.List.{AllByRecursion}
use Rattle.std.proofs.lemmas.List.Elements.{All-push, All-nil, All-weaker, All-from_recursion, recursion_from_All}
use Rattle.cqe_base.specs.Schema.{DatabaseSchema}
use Rattle.cqe_base.specs.Entailment.{Signed}
use Rattle.entailment.specs.Views.{LogView, schema_of, log_of, IsViewOf, IsViewWithin, IsLogBeginning}
use Rattle.censors.specs.Lent.{first_view, AreTogether}
use Rattle.censors.specs.declared.lent.Lane.{Lane}

module _ {X Y : Type 0} (f : X → Y) (P : Y → Type 0) where
  -- what holds of what each item shows holds of all that is shown
  pub all_shown : (xs : List X) → All (λ x. P (f x)) xs → All P (map f xs)
  all_shown xs all = All-from_recursion P (map f xs) (by xs (recursion_from_All (λ x. P (f x)) xs all))
    where
      by : (xs : List X) → AllByRecursion (λ x. P (f x)) xs → AllByRecursion P (map f xs)
      by [] h = tt
      by (x ∷ xs) h = (h.0, by xs h.1)

  -- and the other way round
  pub all_in : (xs : List X) → All P (map f xs) → All (λ x. P (f x)) xs
  all_in xs all = All-from_recursion (λ x. P (f x)) xs (by xs (recursion_from_All P (map f xs) all))
    where
      by : (xs : List X) → AllByRecursion P (map f xs) → AllByRecursion (λ x. P (f x)) xs
      by [] h = tt
      by (x ∷ xs) h = (h.0, by xs h.1)

module _ {X : Type 0} (P : X → Type 0) where
  -- one item alone
  pub one_is : (xs new : List X) (x : X) → xs ≡ [] → new ≡ xs ++ x ∷ [] → P x → All P new
  one_is xs new x none is here =
      subst (All P) (sym (is ∙ ap (λ l. l ++ x ∷ []) none)) (All-push P [] x (All-nil P) here)

  -- one more item, or none where memory is wanting
  pub pushed_all : {U E : Type 0} (xs new : List X) (x : X) (pushed : Result U E) → new ≡ (if is_ok pushed then xs ++ x ∷ [] else xs) → All P xs → P x
      → All P new
  pushed_all xs new x (Ok done) is all here = subst (All P) (sym is) (All-push P xs x all here)
  pushed_all xs new x (Err failed) is all here = subst (All P) (sym is) all

module _ {X : Type 0} where
  pub pushed_longer : {U E : Type 0} (xs new : List X) (x : X) (pushed : Result U E) → new ≡ (if is_ok pushed then xs ++ x ∷ [] else xs)
      → length xs ≤ length new
  pushed_longer xs new x (Ok done) is =
      let long : length new ≡ length (xs ++ x ∷ []) = ap length is in
      omega (arith, long, length-append xs (x ∷ []))
  pushed_longer xs new x (Err failed) is = let long : length new ≡ length xs = ap length is in omega (arith, long)

  -- with one more item there is one
  pub pushed_some : (xs new : List X) (x : X) → new ≡ xs ++ x ∷ [] → 0 < length new
  pushed_some xs new x is =
      let long : length new ≡ length (xs ++ x ∷ []) = ap length is in
      omega (arith, long, length-append xs (x ∷ []))

module _ (schema : DatabaseSchema) (log : List Signed) where
  -- the first of some views of a log is one
  pub first_is : (views : List LogView) → 0 < length views → All (IsViewOf schema log) views → IsViewOf schema log (first_view views)
  first_is [] some all = absurd (omega (arith, some))
  first_is (view ∷ views) some all = all 0 view (omega arith)

  -- so they are together
  pub together_is : (views : List LogView) → 0 < length views → All (IsViewOf schema log) views → AreTogether views
  together_is views some all =
      let first = first_is views some all in
      record {
        some = some;
        alike = subst (λ s. All (IsViewOf s (log_of (first_view views))) views) (sym first.0)
            (subst (λ l. All (IsViewOf schema l) views) (sym first.1) all);
      }

  -- where the one that stands for all is of a beginning of the log, each is
  pub all_within : (views : List LogView) (view : LogView) → first_view views ≡ view → AreTogether views → IsViewWithin schema log view
      → All (IsViewWithin schema log) views
  all_within views view is together within =
      All-weaker (IsViewOf (schema_of (first_view views)) (log_of (first_view views))) (IsViewWithin schema log)
      (λ other alike. (
        alike.0 ∙ ap schema_of is ∙ within.0,
        subst (λ l. IsLogBeginning l log) (sym (alike.1 ∙ ap log_of is)) within.1,
      )) views together.alike

-- lanes whose views are as before
pub same_views : (new old : List Lane) → length new ≡ length old
    → ((k : ℕ) (d : Lane) → k < length old → (slice_index_or new k d).view ≡ (slice_index_or old k d).view)
    → map (λ (lane : Lane). lane.view) new ≡ map (λ (lane : Lane). lane.view) old
same_views [] [] len each = refl
same_views [] (y ∷ old) len each = absurd (omega (arith, len))
same_views (x ∷ new) [] len each = absurd (omega (arith, len))
same_views (x ∷ new) (y ∷ old) len each =
    let here : x.view ≡ y.view = each 0 x (omega arith) in
    let rest = same_views new old (omega (arith, len)) (λ k d low. each (suc k) d (omega (arith, low))) in
    λ i. here i ∷ rest i
