-- Whether what a user knows and what his items tell is true in a world.
use Rattle.std.proofs.Common.{◌≡◌, ◌≤◌, ◌<◌, ◌+◌, ℕ, Bool, true, false, ◌&&◌, List, [], ◌∷◌, ◌++◌, length, drop, get_or, Some, None}
use Rattle.std.proofs.Common.{refl, sym, ap, ◌∙◌}
use Rattle.std.specs.List.{list_all}
use Rattle.std.proofs.Math.Bool.{and-true}
use Rattle.std.proofs.lemmas.List.{drop_more, drop_all}
use Rattle.std.proofs.lemmas.Option.{same_Some}
use Rattle.std.proofs.lemmas.List.Folds.{list_all-map, list_all-append}
use Rattle.cqe_base.specs.declared.user.Mark.{Mark}
use Rattle.cqe_base.specs.declared.user.Mark.TheVariants.{Yes, No, Refused, Undecided, Protected}
use Rattle.cqe_base.specs.Schema.{DatabaseSchema}
use Rattle.cqe_base.specs.Facts.{FactSet}
use Rattle.cqe_base.specs.Formula.{Formula}
use Rattle.cqe_base.specs.Truth.{true_in}
use Rattle.cqe_base.specs.Entailment.{Signed, holds_in, all_hold_in}
use Rattle.cqe_base.specs.History.{UserProfile, History, known, told, told_by, log}
use Rattle.dossier.specs.Told.{sign_told}

-- ---- a test of each of a list

module _ {X : Type 0} (p : X → Bool) (xs : List X) (i : ℕ) where
  -- those before this one pass
  abbrev pub FromHere : Type 0
  FromHere = list_all p xs ≡ list_all p (drop i xs)

  module _ (x : X) (is : x ≡ get_or xs i x) (low : i < length xs) where
    here : drop i xs ≡ x ∷ drop (i + 1) xs
    here = drop_more xs i x low ∙ ap (λ y. y ∷ drop (i + 1) xs) (sym is)

    -- this one fails
    pub fails-here : FromHere → p x ≡ false → false ≡ list_all p xs
    fails-here from fails = sym (from ∙ ap (list_all p) here ∙ ap (λ b. b && list_all p (drop (i + 1) xs)) fails)

    -- or passes too
    pub passes-here : FromHere → p x ≡ true → list_all p xs ≡ list_all p (drop (i + 1) xs)
    passes-here from passes = from ∙ ap (list_all p) here ∙ ap (λ b. b && list_all p (drop (i + 1) xs)) passes

  -- all pass
  pub passes-all : length xs ≤ i → FromHere → true ≡ list_all p xs
  passes-all past from = sym (from ∙ ap (list_all p) (drop_all i xs past))

module _ (schema : DatabaseSchema) (world : FactSet) where
  pub none-hold : all_hold_in schema world [] ≡ true
  unfolding all_hold_in
  none-hold = refl

  -- what holds of signed sentences and of others with them
  pub hold-append : (first second : List Signed)
      → all_hold_in schema world (first ++ second) ≡ (all_hold_in schema world first && all_hold_in schema world second)
  unfolding all_hold_in
  hold-append first second = list_all-append (holds_in schema world) first second

  pub hold-one : (signed : Signed) → all_hold_in schema world (signed ∷ []) ≡ holds_in schema world signed
  unfolding all_hold_in
  hold-one signed = and-true (holds_in schema world signed)

  -- ---- what is known

  pub knows-all : (user : UserProfile) → all_hold_in schema world (known user) ≡ list_all (true_in schema world) user.know
  unfolding all_hold_in known
  knows-all user = list_all-map (holds_in schema world) (λ s. (s, true)) user.know

  -- ---- what is told

  -- a mark that tells something of its query
  pub signed-told : (mark : Mark) (query : Formula) (says : Bool) → Some says ≡ sign_told mark
      → holds_in schema world (query, says) ≡ all_hold_in schema world (told_by mark query)
  signed-told Yes query says is =
      ap (λ b. holds_in schema world (query, b)) (same_Some says true is) ∙ sym (hold-one (query, true))
  signed-told No query says is =
      ap (λ b. holds_in schema world (query, b)) (same_Some says false is) ∙ sym (hold-one (query, false))
  signed-told Refused query says is = absurd cc
  signed-told Undecided query says is = absurd cc
  signed-told Protected query says is = absurd cc

  -- or nothing
  pub unsigned-told : (mark : Mark) (query : Formula) → None ≡ sign_told mark → true ≡ all_hold_in schema world (told_by mark query)
  unsigned-told Yes query is = absurd cc
  unsigned-told No query is = absurd cc
  unsigned-told Refused query is = sym none-hold
  unsigned-told Undecided query is = sym none-hold
  unsigned-told Protected query is = sym none-hold

  pub tells-all : (entries : History)
      → all_hold_in schema world (told entries) ≡ list_all (λ entry. all_hold_in schema world (told_by entry.mark entry.query)) entries
  unfolding told
  tells-all [] = none-hold
  tells-all (entry ∷ entries) =
      hold-append (told_by entry.mark entry.query) (told entries)
      ∙ ap (λ b. all_hold_in schema world (told_by entry.mark entry.query) && b) (tells-all entries)

  -- the log is both
  pub log-holds : (user : UserProfile) (entries : History)
      → all_hold_in schema world (log user entries) ≡ (all_hold_in schema world (known user) && all_hold_in schema world (told entries))
  unfolding log
  log-holds user entries = hold-append (known user) (told entries)
