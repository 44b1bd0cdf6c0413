-- Some choice of constants passes exactly where that of some number does.
use Rattle.std.proofs.Common.{◌≡◌, ℕ, zero, suc, ◌+◌, ◌*◌, ◌/◌, ◌%◌, ◌≤◌, Bool, true, false, ◌||◌, List, [], ◌∷◌, ◌++◌, map, refl, sym, ap, ◌∙◌}
use Rattle.std.proofs.Common.{arith, append_assoc, append-nil}
use Rattle.std.specs.List.{list_any, range_with_len}
use Rattle.std.specs.FinSet as set
use Rattle.std.proofs.lemmas.List.Folds.{list_any-append}
use Rattle.std.proofs.lemmas.Nat.{div-mul-add, mod-mul-add}
use Rattle.cqe_base.specs.declared.world.Fact.{Fact}
use Rattle.cqe_base.specs.declared.sentence.Constant.{Constant}
use Rattle.cqe_base.specs.Schema.{DatabaseSchema, domain_size}
use Rattle.cqe_base.specs.Formula.{Formula}
use Rattle.cqe_base.specs.Truth.{true_at, true_in, constant_at, constants_of}
use Rattle.open_queries.specs.Instances.{ExistsIsSomeInstance, exists_over, combinations, digits, chosen, constants_of_instance, instances}
use Rattle.open_queries.proofs.Filled.{says_of}

-- ---- numbers by rows

or_false : (b : Bool) → (b || false) ≡ b
or_false true = refl
or_false false = refl

any_map : {X Y : Type 0} (p : Y → Bool) (f : X → Y) (xs : List X) → list_any p (map f xs) ≡ list_any (λ x. p (f x)) xs
any_map p f [] = refl
any_map p f (x ∷ xs) = ap (λ b. p (f x) || b) (any_map p f xs)

two_ranges : (a m n : ℕ) → range_with_len a (m + n) ≡ range_with_len a m ++ range_with_len (a + m) n
two_ranges a zero n =
    let count : 0 + n ≡ n = omega arith in
    let start : a ≡ a + 0 = omega arith in
    ap (range_with_len a) count ∙ ap (λ k. range_with_len k n) start
two_ranges a (suc m) n =
    let count : suc m + n ≡ suc (m + n) = omega arith in
    let start : (a + 1) + m ≡ a + suc m = omega arith in
    ap (range_with_len a) count ∙ ap (λ rest. a ∷ rest) (two_ranges (a + 1) m n)
    ∙ ap (λ k. a ∷ (range_with_len (a + 1) m ++ range_with_len k n)) start

module _ (f : ℕ → ℕ → Bool) (k : ℕ) where
  abbrev By : ℕ → Bool
  By n = f (n / k) (n % k)

  -- the numbers of one row, from a column on
  one_row : (row column count : ℕ) → column + count ≤ k
      → list_any By (range_with_len (row * k + column) count) ≡ list_any (f row) (range_with_len column count)
  one_row row column zero within = refl
  one_row row column (suc count) within =
      let here : By (row * k + column) ≡ f row column =
      (λ i. f (div-mul-add row k column (omega arith) i) (mod-mul-add row k column (omega arith) i)) in
      let next : (row * k + column) + 1 ≡ row * k + (column + 1) = omega arith in
      (λ i. here i || list_any By (range_with_len (next i) count)) ∙ ap (λ b. f row column || b) (one_row row (column + 1) count (omega arith))

  -- all numbers, row by row
  all_rows : (row count : ℕ)
      → list_any By (range_with_len (row * k) (count * k)) ≡ list_any (λ r. list_any (f r) (range_with_len 0 k)) (range_with_len row count)
  all_rows row zero =
      let none : 0 * k ≡ 0 = omega arith in
      ap (λ n. list_any By (range_with_len (row * k) n)) none
  all_rows row (suc count) =
      let more : suc count * k ≡ k + count * k = omega arith in
      let start : row * k ≡ row * k + 0 = omega arith in
      let next : row * k + k ≡ (row + 1) * k = omega arith in
      ap (λ n. list_any By (range_with_len (row * k) n)) more ∙ ap (list_any By) (two_ranges (row * k) k (count * k))
      ∙ list_any-append By (range_with_len (row * k) k) (range_with_len (row * k + k) (count * k))
      ∙ (λ i. list_any By (range_with_len (start i) k) || list_any By (range_with_len (next i) (count * k)))
      ∙ (λ i. one_row row 0 k (omega arith) i || all_rows (row + 1) count i)

-- ---- choices

module _ (schema : DatabaseSchema) where
  -- whether some choice of a constant of each domain passes
  abbrev some_choice : List ℕ → (List Constant → Bool) → Bool
  some_choice [] passes = passes []
  some_choice (d ∷ domains) passes = list_any (λ c. some_choice domains (λ constants. passes (c ∷ constants))) (constants_of schema d)

  choice_of_number : (domains : List ℕ) (passes : List Constant → Bool)
      → some_choice domains passes ≡ list_any (λ n. passes (chosen domains (digits schema domains n))) (range_with_len 0 (combinations schema domains))
  choice_of_number [] passes = sym (or_false (passes []))
  choice_of_number (d ∷ domains) passes =
      let size = domain_size schema d in
      let ways = combinations schema domains in
      let none : 0 ≡ 0 * ways = omega arith in
      any_map (λ c. some_choice domains (λ constants. passes (c ∷ constants))) (constant_at d) (range_with_len 0 size)
      ∙ (λ i. list_any (λ r. choice_of_number domains (λ constants. passes (constant_at d r ∷ constants)) i) (range_with_len 0 size))
      ∙ sym (all_rows (λ r m. passes (constant_at d r ∷ chosen domains (digits schema domains m))) ways 0 size)
      ∙ (λ i. list_any (λ n. passes (constant_at d (n / ways) ∷ chosen domains (digits schema domains (n % ways)))) (range_with_len (sym none i) (size * ways)))

  exists_is_choice : (facts : Fact → Bool) (places : List Constant) (domains : List ℕ) (a : Formula)
      → true_at schema facts places (exists_over domains a) ≡ some_choice domains (λ constants. true_at schema facts (places ++ constants) a)
  exists_is_choice facts places [] a = ap (λ all. true_at schema facts all a) (sym (append-nil places))
  exists_is_choice facts places (d ∷ domains) a =
      (λ i. list_any (λ c. exists_is_choice facts (places ++ c ∷ []) domains a i) (constants_of schema d))
      ∙ (λ i. list_any (λ c. some_choice domains (λ constants. true_at schema facts (append_assoc places (c ∷ []) constants i) a)) (constants_of schema d))

pub exists_is_some_instance : ExistsIsSomeInstance
unfolding true_in
exists_is_some_instance schema query world =
    exists_is_choice schema (set.contains world) [] query.domains query.body
    ∙ choice_of_number schema query.domains (λ constants. true_at schema (set.contains world) constants query.body)
    ∙ (λ i. list_any (λ n. sym (says_of schema (constants_of_instance schema query n) query.body world) i) (range_with_len 0 (instances schema query)))
