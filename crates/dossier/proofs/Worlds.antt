-- The world of listed facts, fact by fact.
use Rattle.std.proofs.Common.{◌≡◌, ℕ, ◌+◌, ◌<◌, Bool, true, false, ◌||◌, List, [], ◌∷◌, ◌++◌, length, take, get_or, refl, sym, ap, ◌∙◌}
use Rattle.std.proofs.lemmas.List.{take_more}
use Rattle.std.specs.List.{list_any}
use Rattle.std.specs.Ordering.{eq_by_cmp}
use Rattle.std.specs.FinSet as set
use Rattle.cqe_base.specs.declared.world.Fact.{Fact}
use Rattle.cqe_base.specs.Facts.{FactSet, fact_cmp}
use Rattle.cqe_base.proofs.Worlds.{fact_cmp_total, fact_cmp-IsAntisymmetric}

-- what is in a list with one more at its end
any-pushed : (p : Fact → Bool) (facts : List Fact) (fact : Fact) → list_any p (facts ++ fact ∷ []) ≡ (p fact || list_any p facts)
any-pushed p [] fact = refl
any-pushed p (f ∷ facts) fact = ap (λ rest. p f || rest) (any-pushed p facts fact) ∙ swap (p f) (p fact) (list_any p facts)
  where
    swap : (a b c : Bool) → (a || (b || c)) ≡ (b || (a || c))
    swap true true c = refl
    swap true false c = refl
    swap false b c = refl

-- the world of a list with one more fact at its end
pub world-more : (facts : List Fact) (fact : Fact) → set.from_list {R = fact_cmp} (facts ++ fact ∷ []) ≡ set.insert (set.from_list facts) fact
world-more facts fact =
    set.same_set fact_cmp_total fact_cmp-IsAntisymmetric _ _ (λ q.
    set.contains-from_list fact_cmp_total (facts ++ fact ∷ []) q ∙ any-pushed (eq_by_cmp fact_cmp q) facts fact
    ∙ ap (λ b. eq_by_cmp fact_cmp q fact || b) (sym (set.contains-from_list fact_cmp_total facts q))
    ∙ sym (set.contains-insert fact_cmp_total (set.from_list facts) fact q))

-- the world of the facts before this place, with the fact at it
pub world-grown : (facts : List Fact) (i : ℕ) (d : Fact) (world grown : FactSet) → i < length facts → world ≡ set.from_list (take i facts)
    → grown ≡ set.insert world (get_or facts i d) → grown ≡ set.from_list (take (i + 1) facts)
world-grown facts i d world grown low before added =
    added ∙ ap (λ w. set.insert w (get_or facts i d)) before ∙ sym (world-more (take i facts) (get_or facts i d))
    ∙ ap set.from_list (sym (take_more facts i d low))
