-- Answers in the order of their numbers: there is one such list.
use Rattle.std.proofs.Common.{◌≡◌, ◌⊎◌, inl, inr, ℕ, suc, ◌+◌, ◌-◌, ◌<◌, ◌≤◌, List, [], ◌∷◌, length, get_or, map, refl, sym, ap, subst, ◌∙◌, arith}
use Rattle.std.specs.Prelude.{sum_by}
use Rattle.std.specs.List.{AllByRecursion}
use Rattle.std.specs.List.Sorted.{IsPermutation, IsNonDecreasingBy}
use Rattle.std.proofs.lemmas.List.Elements.{All-from_recursion, recursion_from_All}
use Rattle.std.proofs.lemmas.List.Sorted.{All-permutation, sum_by-IsPermutation}
use Rattle.std.proofs.lemmas.List.Sums.{sum_by-cons}
use Rattle.batch_engine.specs.Ordered.{AreNumbered}
use Rattle.batch_engine.specs.declared.answer.Answer.{Answer}

-- ---- numbers that rise

abbrev Rises : List ℕ → Type 0
Rises [] = Unit {0}
Rises (n ∷ ns) = AllByRecursion (λ m. n ≤ m) ns × Rises ns

lower_or_same : (a b : ℕ) → (a ≡ b) ⊎ ((a < b) ⊎ (b < a))
lower_or_same a b = grind arith

-- what lies above a number counts nothing up to it
none_up_to : (a : ℕ) (ns : List ℕ) → AllByRecursion (λ m. a < m) ns → sum_by (λ m. (a + 1) - m) ns ≡ 0
none_up_to a [] above = refl
none_up_to a (n ∷ ns) above =
    let step = sum_by-cons (λ m. (a + 1) - m) n ns in
    let rest = none_up_to a ns above.1 in
    omega (arith, step, rest, above.0)

above_on : (a b : ℕ) (ns : List ℕ) → a < b → AllByRecursion (λ m. b ≤ m) ns → AllByRecursion (λ m. a < m) ns
above_on a b [] low each = tt
above_on a b (n ∷ ns) low each = (omega (arith, low, each.0), above_on a b ns low each.1)

-- a list whose least number is this one, and one whose least is higher, don't count the same
differ : (a b : ℕ) (ms ns : List ℕ) → a < b → AllByRecursion (λ m. b ≤ m) ns → ((f : ℕ → ℕ) → sum_by f (a ∷ ms) ≡ sum_by f (b ∷ ns)) → ⊥
differ a b ms ns low each same =
    let f : ℕ → ℕ = λ m. (a + 1) - m in
    let one = sum_by-cons f a ms in
    let two = sum_by-cons f b ns in
    let none = none_up_to a ns (above_on a b ns low each) in
    let both = same f in
    omega (arith, one, two, none, both, low)

-- two lists that rise and count the same are one
rising_same : (ms ns : List ℕ) → Rises ms → Rises ns → ((f : ℕ → ℕ) → sum_by f ms ≡ sum_by f ns) → ms ≡ ns
rising_same [] [] up up' same = refl
rising_same [] (b ∷ ns) up up' same = let one = sum_by-cons (λ m. 1) b ns in let both = same (λ m. 1) in absurd (omega (arith, one, both))
rising_same (a ∷ ms) [] up up' same = let one = sum_by-cons (λ m. 1) a ms in let both = same (λ m. 1) in absurd (omega (arith, one, both))
rising_same (a ∷ ms) (b ∷ ns) up up' same = by (lower_or_same a b) (rising_same ms ns up.1 up'.1)
  where
    by : (a ≡ b) ⊎ ((a < b) ⊎ (b < a)) → (((f : ℕ → ℕ) → sum_by f ms ≡ sum_by f ns) → ms ≡ ns) → a ∷ ms ≡ b ∷ ns
    by (inl is) rest = λ i. is i ∷ rest (λ f.
        let one = sum_by-cons f a ms in
        let two = sum_by-cons f b ns in
        let both = same f in
        let heads = ap f is in
        omega (arith, one, two, both, heads)) i
    by (inr (inl low)) rest = absurd (differ a b ms ns low up'.0 same)
    by (inr (inr high)) rest = absurd (differ b a ns ms high up.0 (λ f. sym (same f)))

-- ---- answers

sum_of : (f : ℕ → ℕ) (answers : List Answer) → sum_by f (map (λ (a : Answer). a.number) answers) ≡ sum_by (λ (a : Answer). f a.number) answers
sum_of f [] = refl
sum_of f (answer ∷ answers) =
    sum_by-cons f answer.number (map (λ (a : Answer). a.number) answers) ∙ ap (λ n. f answer.number + n) (sum_of f answers)
    ∙ sym (sum_by-cons (λ (a : Answer). f a.number) answer answers)

each_above : (n : ℕ) (answers : List Answer) → ((j : ℕ) (d : Answer) → j < length answers → n ≤ (get_or answers j d).number)
    → AllByRecursion (λ m. n ≤ m) (map (λ (a : Answer). a.number) answers)
each_above n [] above = tt
each_above n (answer ∷ answers) above =
    (above 0 answer (omega arith), each_above n answers (λ j d low. above (suc j) d (omega (arith, low))))

-- what a sort leaves rises
pub rises : (answers : List Answer) → IsNonDecreasingBy (λ (a : Answer). a.number) answers → Rises (map (λ (a : Answer). a.number) answers)
rises [] up = tt
rises (answer ∷ answers) up = (
  each_above answer.number answers (λ j d low. up 0 (suc j) d (omega arith) (omega (arith, low))),
  rises answers (λ i j d le low. up (suc i) (suc j) d (omega (arith, le)) (omega (arith, low))),
)

weaker : (n : ℕ) (answers : List Answer) → AllByRecursion (λ (a : Answer). n < a.number) answers
    → AllByRecursion (λ m. n ≤ m) (map (λ (a : Answer). a.number) answers)
weaker n [] above = tt
weaker n (answer ∷ answers) above = (let low = above.0 in omega (arith, low), weaker n answers above.1)

numbered_rises : (answers : List Answer) → AreNumbered answers → Rises (map (λ (a : Answer). a.number) answers)
numbered_rises [] are = tt
numbered_rises (answer ∷ answers) are = (
  weaker answer.number answers (recursion_from_All (λ (a : Answer). answer.number < a.number) answers are.0),
  numbered_rises answers are.1,
)

abbrev IsIn : List Answer → Answer → Type 0
IsIn [] one = ⊥
IsIn (answer ∷ answers) one = (one ≡ answer) ⊎ IsIn answers one

wider : (answer : Answer) (answers others : List Answer) → AllByRecursion (IsIn answers) others → AllByRecursion (IsIn (answer ∷ answers)) others
wider answer answers [] all = tt
wider answer answers (other ∷ others) all = (inr all.0, wider answer answers others all.1)

all_in : (answers : List Answer) → AllByRecursion (IsIn answers) answers
all_in [] = tt
all_in (answer ∷ answers) = (inl refl, wider answer answers answers (all_in answers))

in_above : (n : ℕ) (answers : List Answer) (one : Answer) → AllByRecursion (λ (a : Answer). n < a.number) answers → IsIn answers one → n < one.number
in_above n [] one above is = absurd is
in_above n (answer ∷ answers) one above (inl same) = subst (λ (a : Answer). n < a.number) (sym same) above.0
in_above n (answer ∷ answers) one above (inr is) = in_above n answers one above.1 is

-- answers with the numbers of others that lie above this one lie there too
numbers_above : (n : ℕ) (answers others : List Answer) → AllByRecursion (λ (a : Answer). n < a.number) answers
    → map (λ (a : Answer). a.number) others ≡ map (λ (a : Answer). a.number) answers → AllByRecursion (λ (a : Answer). n < a.number) others
numbers_above n [] [] above same = tt
numbers_above n [] (other ∷ others) above same = absurd cc
numbers_above n (answer ∷ answers) [] above same = tt
numbers_above n (answer ∷ answers) (other ∷ others) above same =
    let head : other.number ≡ answer.number = cc in
    let tail : map (λ (a : Answer). a.number) others ≡ map (λ (a : Answer). a.number) answers = cc in
    (subst (λ m. n < m) (sym head) above.0, numbers_above n answers others above.1 tail)

-- of answers above the first one, none is that
without_first : (first : Answer) (answers others : List Answer) → AllByRecursion (λ (a : Answer). first.number < a.number) others
    → AllByRecursion (IsIn (first ∷ answers)) others → AllByRecursion (IsIn answers) others
without_first first answers [] above all = tt
without_first first answers (other ∷ others) above all = (by all.0, without_first first answers others above.1 all.1)
  where
    by : (other ≡ first) ⊎ IsIn answers other → IsIn answers other
    by (inr is) = is
    by (inl same) = let e = ap (λ (a : Answer). a.number) same in absurd (omega (arith, e, above.0))

same_each : (answers others : List Answer) → AreNumbered answers → map (λ (a : Answer). a.number) others ≡ map (λ (a : Answer). a.number) answers
    → AllByRecursion (IsIn answers) others → others ≡ answers
same_each [] [] are same all = refl
same_each [] (other ∷ others) are same all = absurd all.0
same_each (answer ∷ answers) [] are same all = absurd cc
same_each (answer ∷ answers) (other ∷ others) are same all = λ i. by all.0 i ∷ same_each answers others are.1 tail
    (without_first answer answers others (numbers_above answer.number answers others above tail) all.1) i
  where
    above : AllByRecursion (λ (a : Answer). answer.number < a.number) answers
    above = recursion_from_All (λ (a : Answer). answer.number < a.number) answers are.0

    head : other.number ≡ answer.number
    head = cc

    tail : map (λ (a : Answer). a.number) others ≡ map (λ (a : Answer). a.number) answers
    tail = cc

    by : (other ≡ answer) ⊎ IsIn answers other → other ≡ answer
    by (inl is) = is
    by (inr is) = let low = in_above answer.number answers other above is in absurd (omega (arith, low, head))

-- answers that are some numbered ones in any order are these, once their numbers don't fall
pub in_order : (answers others : List Answer) → AreNumbered answers → IsPermutation answers others
    → IsNonDecreasingBy (λ (a : Answer). a.number) others → others ≡ answers
in_order answers others are moved up =
    same_each answers others are
    (sym (rising_same (map (λ (a : Answer). a.number) answers) (map (λ (a : Answer). a.number) others) (numbered_rises answers are) (rises others up)
    (λ f. sum_of f answers ∙ sym (sum_by-IsPermutation (λ (a : Answer). f a.number) answers others moved) ∙ sym (sum_of f others))))
    (recursion_from_All (IsIn answers) others
    (All-permutation (IsIn answers) answers others moved (All-from_recursion (IsIn answers) answers (all_in answers))))
