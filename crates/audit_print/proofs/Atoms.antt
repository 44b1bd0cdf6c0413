-- The atom of a fact of the schema is a sentence, and the facts of a world are listed once.
use Rattle.std.proofs.Common.{◌≡◌, ◌≤◌, ℕ, true, ◌||◌, List, [], ◌∷◌, ◌++◌, length, refl, sym, ap, ◌∙◌, arith, append_assoc}
use Rattle.std.specs.Prelude.{Some, None, nat_lt, nat_le, nat_eq, unwrap_or}
use Rattle.std.proofs.Math.Bool.{or-true}
use Rattle.std.proofs.lemmas.Bool.{and_parts, eq-eqb, leb-true}
use Rattle.cqe_base.specs.declared.world.Fact.{Fact}
use Rattle.cqe_base.specs.Schema.{DatabaseSchema, columns_of, domain_size}
use Rattle.cqe_base.specs.Facts.{FactSet, IsWorldOf, fact_cmp, fits_columns, has_columns, is_fact_of}
use Rattle.cqe_base.specs.Formula.{fit_relation, have_domains, is_sentence_of}
use Rattle.std.specs.FinSet as set
use Rattle.std.specs.List.{list_all, list_any}
use Rattle.std.specs.Ordering.{eq_by_cmp, is_eq}
use Rattle.std.specs.Cmp.{IsTotalOrder, nat_cmp_total, on_total, then_total, tied_itself}
use Rattle.std.specs.Cmp.Lexicographic.{nat_list_cmp_total}
use Rattle.audit_print.specs.Said.{atom_of, constants_in}

fact_cmp_total : IsTotalOrder fact_cmp
fact_cmp_total = then_total (on_total (λ f. f.relation) nat_cmp_total) (on_total (λ f. f.columns) nat_list_cmp_total)

pub few_constants : (domains columns : List ℕ) → length (constants_in domains columns) ≤ length columns
few_constants [] columns = omega arith
few_constants (d ∷ domains) [] = omega arith
few_constants (d ∷ domains) (c ∷ columns) = let rest = few_constants domains columns in omega (arith, rest)

constants_fit : (schema : DatabaseSchema) (domains columns : List ℕ) → fits_columns schema domains columns ≡ true
    → have_domains schema [] (constants_in domains columns) domains ≡ true
constants_fit schema [] columns fits = refl
constants_fit schema (d ∷ domains) [] fits = absurd (cc)
constants_fit schema (d ∷ domains) (c ∷ columns) fits =
    let parts = and_parts (nat_lt c (domain_size schema d)) (fits_columns schema domains columns) fits in
    let same : nat_eq d d ≡ true = eq-eqb d d refl in
    rw (parts.0, same) (constants_fit schema domains columns parts.1)

pub atom_is_sentence : (schema : DatabaseSchema) (fact : Fact) → is_fact_of schema fact ≡ true → is_sentence_of schema (atom_of schema fact) ≡ true
atom_is_sentence schema fact is =
    elim (columns_of schema fact.relation) as (λ o. has_columns schema fact.columns o ≡ true
    → fit_relation schema [] (constants_in (unwrap_or o []) fact.columns) o ≡ true) [
      | None ↦ λ none. absurd (cc)
      | Some domains ↦ λ fits. constants_fit schema domains fact.columns (and_parts _ (fits_columns schema domains fact.columns) fits).1
    ] is

pub six_columns : (schema : DatabaseSchema) (fact : Fact) → is_fact_of schema fact ≡ true → length fact.columns ≤ 6
six_columns schema fact is =
    elim (columns_of schema fact.relation) as (λ o. has_columns schema fact.columns o ≡ true → length fact.columns ≤ 6) [
      | None ↦ λ none. absurd (cc)
      | Some domains ↦ λ fits.
          leb-true (length fact.columns) 6
          (and_parts (nat_le (length fact.columns) 6) (nat_le 6 (length fact.columns)) (and_parts _ (fits_columns schema domains fact.columns) fits).0).0
    ] is

-- each listed fact of a world is a fact of the schema
first_listed : (schema : DatabaseSchema) (world : FactSet) (facts : List Fact) → IsWorldOf schema world → set.from_list facts ≡ world
    → (before : List Fact) (fact : Fact) (after : List Fact) → facts ≡ before ++ fact ∷ after → is_fact_of schema fact ≡ true
first_listed schema world facts of_schema is before fact after at =
    of_schema fact (ap (λ w. set.contains w fact) (sym is) ∙ set.contains-from_list fact_cmp_total facts fact ∙ ap (list_any (eq_by_cmp fact_cmp fact)) at
    ∙ any_at before)
  where
    any_at : (before : List Fact) → list_any (eq_by_cmp fact_cmp fact) (before ++ fact ∷ after) ≡ true
    any_at [] = ap (λ b. b || list_any (eq_by_cmp fact_cmp fact) after) (ap is_eq (tied_itself fact_cmp_total fact))
    any_at (other ∷ before) = ap (λ b. eq_by_cmp fact_cmp fact other || b) (any_at before) ∙ or-true (eq_by_cmp fact_cmp fact other)

listed_good : (schema : DatabaseSchema) (world : FactSet) (facts : List Fact) → IsWorldOf schema world → set.from_list facts ≡ world
    → (before after : List Fact) → facts ≡ before ++ after → list_all (is_fact_of schema) after ≡ true
listed_good schema world facts of_schema is before [] at = refl
listed_good schema world facts of_schema is before (fact ∷ after) at =
    let first = first_listed schema world facts of_schema is before fact after at in
    rw first (listed_good schema world facts of_schema is (before ++ fact ∷ []) after (at ∙ sym (append_assoc before (fact ∷ []) after)))

pub all_listed : (schema : DatabaseSchema) (world : FactSet) (facts : List Fact) → IsWorldOf schema world → set.from_list facts ≡ world
    → list_all (is_fact_of schema) facts ≡ true
all_listed schema world facts of_schema is = listed_good schema world facts of_schema is [] facts refl
