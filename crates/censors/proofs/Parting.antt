-- The parts of a query's probes: where each begins, and which goals it has.
use Rattle.std.proofs.Common.{◌≡◌, ◌≤◌, ◌+◌, ◌*◌, ℕ, zero, suc, Bool, true, List, [], ◌∷◌, ◌++◌, All, map, take, drop, refl, sym, ap, ◌∙◌, subst, arith}
use Rattle.std.proofs.Common.{add-one}
use Rattle.std.specs.List.{list_all, between}
use Rattle.std.proofs.lemmas.List.{take-map, drop-map}
use Rattle.std.proofs.lemmas.List.Elements.{All-take, All-drop}
use Rattle.std.proofs.lemmas.List.Folds.{list_all-map}
use Rattle.std.proofs.lemmas.List.Sums.{AllPass-from_list_all, list_all-from_AllPass}
use Rattle.std.proofs.lemmas.Slice.{between_is}
use Rattle.cqe_base.specs.Formula.{Formula}
use Rattle.entailment.specs.Views.{LogView, schema_of, log_of}
use Rattle.censors.specs.declared.parts.Cut.{Cut}
use Rattle.censors.specs.declared.examination.Answer.{Answer}
use Rattle.censors.specs.Asked.{IsAnswerOfAll}
use Rattle.censors.specs.Parts.{start_of, IsCut}

-- ---- places

-- the last part ends where all do
pub cut-ends : (cut : Cut) (parts : ℕ) → 1 ≤ parts → (parts ≤ 1 → cut.first ≡ cut.whole) → (parts ≤ 2 → cut.second ≡ cut.whole)
    → (parts ≤ 3 → cut.third ≡ cut.whole) → start_of cut parts ≡ cut.whole
cut-ends cut zero some one two three = absurd (omega (arith, some))
cut-ends cut (suc zero) some one two three = one (omega arith)
cut-ends cut (suc (suc zero)) some one two three = two (omega arith)
cut-ends cut (suc (suc (suc zero))) some one two three = three (omega arith)
cut-ends cut (suc (suc (suc (suc more)))) some one two three = refl

-- the fifth part and all behind it begin at the end
pub start-far : (cut : Cut) (part : ℕ) → (part ≡ 0 → ⊥) → (part ≡ 1 → ⊥) → (part ≡ 2 → ⊥) → (part ≡ 3 → ⊥) → cut.whole ≡ start_of cut part
start-far cut zero a b c d = absurd (a refl)
start-far cut (suc zero) a b c d = absurd (b refl)
start-far cut (suc (suc zero)) a b c d = absurd (c refl)
start-far cut (suc (suc (suc zero))) a b c d = absurd (d refl)
start-far cut (suc (suc (suc (suc more)))) a b c d = refl

-- the fourth part and all behind it end at the end
pub end-far : (cut : Cut) (part : ℕ) → (part ≡ 0 → ⊥) → (part ≡ 1 → ⊥) → (part ≡ 2 → ⊥) → cut.whole ≡ start_of cut (part + 1)
end-far cut part a b c = by part a b c ∙ ap (start_of cut) (sym (add-one part))
  where
    by : (part : ℕ) → (part ≡ 0 → ⊥) → (part ≡ 1 → ⊥) → (part ≡ 2 → ⊥) → cut.whole ≡ start_of cut (suc part)
    by zero a b c = absurd (a refl)
    by (suc zero) a b c = absurd (b refl)
    by (suc (suc zero)) a b c = absurd (c refl)
    by (suc (suc (suc more))) a b c = refl

module _ (count : ℕ) (cut : Cut) (is : IsCut count cut) where
  -- a part ends where it begins, or behind that
  pub start-rises : (part : ℕ) → start_of cut part ≤ start_of cut (part + 1)
  start-rises part = subst (λ n. start_of cut part ≤ start_of cut n) (sym (add-one part)) (by part)
    where
      by : (part : ℕ) → start_of cut part ≤ start_of cut (suc part)
      by zero = omega arith
      by (suc zero) = is.second
      by (suc (suc zero)) = is.third
      by (suc (suc (suc zero))) = is.last
      by (suc (suc (suc (suc more)))) = omega arith

  -- no part ends behind all
  pub start-within : (part : ℕ) → start_of cut part ≤ 2 * count
  start-within part = subst (λ n. start_of cut part ≤ n) is.whole (by part)
    where
      by : (part : ℕ) → start_of cut part ≤ cut.whole
      by zero = omega arith
      by (suc zero) = omega (arith, is.second, is.third, is.last)
      by (suc (suc zero)) = omega (arith, is.third, is.last)
      by (suc (suc (suc zero))) = is.last
      by (suc (suc (suc (suc more)))) = omega arith

-- ---- the goals of a part

module _ {X Y : Type 0} (f : X → Y) (from to : ℕ) (xs some : List X) (is : some ≡ between from to xs) where
  -- what holds of all goals holds of some
  pub part_all : (P : X → Type 0) → All P xs → All P some
  part_all P all = subst (All P) (sym (is ∙ between_is xs from to)) (All-drop P from (take to xs) (All-take P to xs all))

  pub part_passes : (p : Y → Bool) → list_all p (map f xs) ≡ true → list_all p (map f some) ≡ true
  part_passes p all =
      list_all-map p f some
      ∙ list_all-from_AllPass (λ x. p (f x)) some
      (part_all (λ x. p (f x) ≡ true) (AllPass-from_list_all (λ x. p (f x)) xs (sym (list_all-map p f xs) ∙ all)))

  -- they are some of what is shown
  pub part_shown : map f some ≡ between from to (map f xs)
  part_shown =
      ap (map f) (is ∙ between_is xs from to)
      ∙ sym (drop-map f from (take to xs))
      ∙ ap (drop from) (sym (take-map f to xs))
      ∙ sym (between_is (map f xs) from to)

-- an answer after the log of a view that stayed, against the goals between places that are known
pub answer_at : (view after : LogView) → after ≡ view → (budget : ℕ) (query : Formula) (sign : Bool) (from from' to to' : ℕ) → from' ≡ from → to' ≡ to
    → (goals : List Formula) (answer : Answer)
    → IsAnswerOfAll (schema_of after) budget (log_of after ++ (query, sign) ∷ []) (between from' to' goals) answer
    → IsAnswerOfAll (schema_of view) budget (log_of view ++ (query, sign) ∷ []) (between from to goals) answer
answer_at view after same budget query sign from from' to to' from-is to-is goals answer is =
    subst (λ (w : LogView). IsAnswerOfAll (schema_of w) budget (log_of w ++ (query, sign) ∷ []) (between from to goals) answer) same
    (subst (λ n. IsAnswerOfAll (schema_of after) budget (log_of after ++ (query, sign) ∷ []) (between from n goals) answer) to-is
    (subst (λ n. IsAnswerOfAll (schema_of after) budget (log_of after ++ (query, sign) ∷ []) (between n to' goals) answer) from-is is))
