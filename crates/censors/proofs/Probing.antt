-- What a loop over probes, and the probes of both answers, have found.
use Rattle.std.proofs.Common.{◌≡◌, ℕ, ◌+◌, ◌<◌, Bool, true, ◌||◌, List, [], ◌∷◌, ◌++◌, All, length, get_or, map, take, sym, ap, ◌∙◌, subst}
use Rattle.std.specs.List.{list_any, list_all}
use Rattle.std.proofs.lemmas.Bool.{or_parts}
use Rattle.std.proofs.lemmas.List.{get_or-map, length-map, take_more}
use Rattle.std.proofs.lemmas.List.Elements.{All-get_or}
use Rattle.std.proofs.lemmas.List.Folds.{list_any_more, list_all-map}
use Rattle.std.proofs.lemmas.List.Sums.{AllPass-from_list_all}
use Rattle.cqe_base.specs.Schema.{DatabaseSchema}
use Rattle.cqe_base.specs.Formula.{Formula}
use Rattle.cqe_base.specs.Entailment.{Signed, entails}
use Rattle.censors.specs.declared.examination.Answer.{Answer}
use Rattle.censors.specs.Asked.{is_spent_at, IsAnswer, IsAnswerOfAll, together}

module _ {X : Type 0} (f : X → Formula) where
  -- each of the sentences passes a test that all pass
  pub each_passes : (p : Formula → Bool) (sentences : List X) (i : ℕ) (s : X) → s ≡ get_or sentences i s → i < length sentences
      → list_all p (map f sentences) ≡ true → p (f s) ≡ true
  each_passes p sentences i s is low all =
      ap (λ t. p (f t)) is ∙ AllPass-from_list_all (λ t. p (f t)) sentences (sym (list_all-map p f sentences) ∙ all) i s low

  -- the sentences up to this one are those before it, and it
  pub taken_more : (sentences : List X) (i : ℕ) (s : X) → s ≡ get_or sentences i s → i < length sentences
      → take (i + 1) (map f sentences) ≡ take i (map f sentences) ++ f s ∷ []
  taken_more sentences i s is low =
      take_more (map f sentences) i (f s) (subst (λ n. i < n) (sym (length-map sentences f)) low)
      ∙ ap (λ g. take i (map f sentences) ++ g ∷ []) (get_or-map f sentences i s (f s) low ∙ ap f (sym is))

  -- some of the sentences up to this one passes where it does or some before it
  any_more : (p : Formula → Bool) (sentences : List X) (i : ℕ) (s : X) → s ≡ get_or sentences i s → i < length sentences
      → list_any p (take (i + 1) (map f sentences)) ≡ (list_any p (take i (map f sentences)) || p (f s))
  any_more p sentences i s is low =
      list_any_more p (map f sentences) i (f s) (subst (λ n. i < n) (sym (length-map sentences f)) low)
      ∙ ap (λ g. list_any p (take i (map f sentences)) || p g) (get_or-map f sentences i s (f s) low ∙ ap f (sym is))

  -- the answer of the probes up to this one is that of those before it together with its own
  pub answer_more : (schema : DatabaseSchema) (budget : ℕ) (premises : List Signed) (sentences : List X) (i : ℕ) (s : X) → s ≡ get_or sentences i s
      → i < length sentences
      → (all one : Answer) → IsAnswerOfAll schema budget premises (take i (map f sentences)) all
      → IsAnswer schema budget premises (f s, true) one
      → IsAnswerOfAll schema budget premises (take (i + 1) (map f sentences)) (together all one)
  answer_more schema budget premises sentences i s is low all one before now = record {
    spent = (λ k. before.spent k || now.spent k) ∙ sym (any_more (λ g. is_spent_at schema budget premises (g, true)) sentences i s is low);
    entailed = λ none.
        let both = or_parts all.spent one.spent none in
        (λ k. before.entailed both.0 k || now.entailed both.1 k) ∙ sym (any_more (λ g. entails schema premises (g, true)) sentences i s is low);
  }

-- what holds of each item holds of this one
pub each_is : {X : Type 0} (P : X → Type 0) (xs : List X) (i : ℕ) (x : X) → x ≡ get_or xs i x → i < length xs → All P xs → P x
each_is P xs i x is low all = subst P (sym is) (All-get_or P xs i x low all)
