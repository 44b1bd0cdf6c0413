-- A facts file reads as its world.
use Rattle.std.proofs.Common.{◌≡◌, ◌∙◌, sym, ap, subst, refl, ℕ, ◌+◌, ◌<◌, ◌≤◌, Bool, true, false, cond, not, ◌&&◌, nat_le, nat_lt, List, [], ◌∷◌, ◌++◌, length}
use Rattle.std.proofs.Common.{map, codes, decimal, Some, None, Ok, Err, if◌then◌else◌, IsUtf8, arith, length-append}
use Rattle.std.specs.Fmt.{digits}
use Rattle.std.specs.List.{list_all, flat_map, range_with_len, AllByRecursion}
use Rattle.std.proofs.lemmas.List.FromFn.{length-range_with_len, length-map-range_with_len}
use Rattle.std.specs.FinSet as set
use Rattle.std.proofs.lemmas.Str.{is_utf8-from_IsUtf8}
use Rattle.std.proofs.lemmas.Bool.Decides.{nat_tests}
use Rattle.cqe_base.specs.declared.world.Fact.{Fact}
use Rattle.cqe_base.specs.Facts.{FactSet, fact_cmp}
use Rattle.cqe_base.specs.FactText.{stated_fact}
use Rattle.cqe_base.specs.Lines.{TextLine, text_lines, is_too_long}
use Rattle.cqe_base.proofs.TextLines.{no_lines}
use Rattle.cqe_base.proofs.Worlds.{fact_cmp_total}
use Rattle.sentence_text.specs.Laws.{CanonicalFormsRead}
use Rattle.policy_files.specs.Facts.{says_nothing, with_fact, with_line, with_lines, facts_of, ◌>>=◌}
use Rattle.policy_files.specs.declared.error.FactsError.TheVariants.{Limit, NotUtf8}
use Rattle.workload.specs.Statements.{statement_text, facts_text, illness, illnesses, treatment, treatments, statements}
use Rattle.workload.specs.Stated.{workload_schema, meant_fact, with_facts, workload_world}
use Rattle.workload.specs.declared.statement.Statement.{Statement}
use Rattle.workload.specs.declared.statement.Statement.TheVariants.{Drug, Has}
use Rattle.workload.proofs.Stating.{IsWithin, states}
use Rattle.workload.proofs.Lining.{all_at, first_line, no_return, within}

two_digits : list_all (λ n. nat_le (length (decimal n)) 2) (range_with_len 0 40) ≡ true
unfolding digits
two_digits = refl

short_in : (n : ℕ) → n < 40 → length (decimal n) ≤ 2
short_in n less = of_test (length (decimal n)) (all_at (λ m. nat_le (length (decimal m)) 2) 0 40 n n (omega arith) less two_digits)
  where
    of_test : (k : ℕ) → nat_le k 2 ≡ true → k ≤ 2
    of_test k is = grind (arith, nat_tests)

is_short : (k : ℕ) → k ≤ 100 → nat_lt 4096 k ≡ false
is_short k le = grind (arith, nat_tests)

short : (statement : Statement) → IsWithin statement → nat_lt 4096 (length (statement_text statement)) ≡ false
short (Drug j) less = is_short (length (statement_text (Drug j))) (omega (arith, length-append (decimal j) (codes ")"), short_in j less))
short (Has j k) within =
    is_short (length (statement_text (Has j k)))
    (omega (
      arith,
      length-append (decimal j) (codes ", d" ++ (decimal k ++ codes ")")),
      length-append (decimal k) (codes ")"),
      short_in j within.0,
      short_in k (omega (arith, within.1)),
    ))

speaks : (statement : Statement) → says_nothing (statement_text statement) ≡ false
speaks (Drug j) = refl
speaks (Has j k) = refl

abbrev line_of : Statement → TextLine
line_of statement = record { bytes = statement_text statement; ended = true }

line_read : CanonicalFormsRead → (n : ℕ) (world : FactSet) (statement : Statement) → IsWithin statement
    → with_line workload_schema n world (line_of statement) ≡ with_fact n world (Some (meant_fact statement))
line_read law n world statement within =
    ap (λ t. if says_nothing t then Ok world
    else with_fact n world (if is_too_long (line_of statement) then None else stated_fact workload_schema t)) (no_return statement)
    ∙ (λ i. if speaks statement i then Ok world else with_fact n world (if short statement within i then None else states law statement within i))

room : (size : ℕ) (b : Bool) → size < 100000 → (nat_le 100000 size && b) ≡ false
room size b less = ap (λ (t : Bool). t && b) (not_full size less)
  where
    not_full : (size : ℕ) → size < 100000 → nat_le 100000 size ≡ false
    not_full size less = grind (arith, nat_tests)

added : (n : ℕ) (world : FactSet) (fact : Fact) → set.len world < 100000 → with_fact n world (Some fact) ≡ Ok (set.insert world fact)
added n world fact less = ap (λ (t : Bool). if t then Err (Limit n) else Ok (set.insert world fact)) (room (set.len world) (not (set.contains world fact)) less)

one_more : (world : FactSet) (fact : Fact) → set.len (set.insert world fact) ≤ set.len world + 1
one_more world fact = subst (λ k. k ≤ set.len world + 1) (sym (set.len-insert fact_cmp_total world fact)) (by_test (set.contains world fact) (set.len world))
  where
    by_test : (t : Bool) (k : ℕ) → cond t k (k + 1) ≤ k + 1
    by_test true k = omega arith
    by_test false k = omega arith

lines_read : CanonicalFormsRead → (all : List Statement) → AllByRecursion IsWithin all → (n : ℕ) (world : FactSet) → set.len world + length all ≤ 100000
    → with_lines workload_schema n world (text_lines (facts_text all)) ≡ Ok (with_facts world (map meant_fact all))
lines_read law [] within n world few = ap (with_lines workload_schema n world) no_lines
lines_read law (statement ∷ all) within n world few =
    ap (with_lines workload_schema n world) (first_line statement all within.0)
    ∙ ap (λ r. r >>= λ next. with_lines workload_schema (n + 1) next (text_lines (facts_text all))) (line_read law n world statement within.0
    ∙ added n world (meant_fact statement) (omega (arith, few)))
    ∙ lines_read law all within.1 (n + 1) (set.insert world (meant_fact statement)) (omega (arith, few, one_more world (meant_fact statement)))

how_many_treated : (seed : ℕ) (xs : List ℕ) → length (flat_map (treatment seed) xs) ≡ length xs + length xs
how_many_treated seed [] = refl
how_many_treated seed (x ∷ xs) = omega (arith, how_many_treated seed xs)

how_many : (seed : ℕ) → length (statements seed) ≤ 340
unfolding illnesses treatments
how_many seed =
    omega (
      arith,
      length-append (illnesses seed 300) (treatments seed 20),
      length-map-range_with_len (illness seed) 0 300,
      how_many_treated seed (range_with_len 0 20),
      length-range_with_len 0 20,
    )

-- the facts file of a seed reads as the world of the seed
pub file_reads : CanonicalFormsRead → (seed : ℕ) (bytes : List ℕ) → bytes ≡ facts_text (statements seed) → IsUtf8 bytes
    → facts_of workload_schema bytes ≡ Ok (workload_world seed)
unfolding facts_of
file_reads law seed bytes is good =
    ap (λ (t : Bool). if t then with_lines workload_schema 1 set.empty (text_lines bytes) else Err NotUtf8) (is_utf8-from_IsUtf8 bytes good)
    ∙ ap (λ (b : List ℕ). with_lines workload_schema 1 set.empty (text_lines b)) is
    ∙ lines_read law (statements seed) (within seed) 1 set.empty (omega (arith, how_many seed, set.len-empty fact_cmp))
