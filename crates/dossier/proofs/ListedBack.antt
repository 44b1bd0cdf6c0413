-- What lists facts is how an audit lists them.
use Rattle.std.proofs.Common.{◌≡◌, ◌≤◌, ◌<◌, ◌+◌, ℕ, zero, suc, Bool, true, false, ◌&&◌, List, [], ◌∷◌, length, get_or, Option, Some, None, refl, sym}
use Rattle.std.proofs.Common.{subst, arith}
use Rattle.std.specs.Prelude.{if◌then◌else◌, nat_le, codes, bytes_eq}
use Rattle.std.specs.declared.cmp.Ordering.{Ordering}
use Rattle.std.specs.declared.cmp.Ordering.TheVariants.{Less, Equal, Greater}
use Rattle.std.specs.Ordering.{is_lt}
use Rattle.std.specs.List.{list_all}
use Rattle.std.specs.List.Sorted.{IsStrictlySortedBy}
use Rattle.std.specs.Cmp.Lexicographic.{same_text}
use Rattle.std.proofs.lemmas.Bool.{and_parts, leb-true}
use Rattle.std.proofs.lemmas.Map.Keys.{sorted_from_all_adjacent}
use Rattle.cqe_base.specs.declared.world.Fact.{Fact}
use Rattle.cqe_base.specs.Schema.{DatabaseSchema, Text}
use Rattle.cqe_base.specs.Facts.{fact_cmp, is_fact_of}
use Rattle.cqe_base.proofs.Worlds.{fact_cmp_total}
use Rattle.audit_text.specs.Text.{world_text}
use Rattle.audit_print.specs.Said.{world_said}
use Rattle.dossier.specs.Fields.{ended_parts}
use Rattle.dossier.specs.Words.{facts_in, ascends, is_listing, if_listed, facts_listed}

is-less : (o : Ordering) → is_lt o ≡ true → o ≡ Less
is-less Less is = refl
is-less Equal is = absurd cc
is-less Greater is = absurd cc

-- each fact is before the next
adjacent : (facts : List Fact) (d : Fact) → ascends facts ≡ true → (k : ℕ) → k + 1 < length facts → fact_cmp (get_or facts k d) (get_or facts (k + 1) d) ≡ Less
adjacent [] d is k within = absurd (omega (arith, within))
adjacent (f ∷ []) d is k within = absurd (omega (arith, within))
adjacent (f ∷ g ∷ facts) d is zero within = is-less (fact_cmp f g) (and_parts (is_lt (fact_cmp f g)) (ascends (g ∷ facts)) is).0
adjacent (f ∷ g ∷ facts) d is (suc k) within =
    let rest : fact_cmp (get_or (g ∷ facts) k d) (get_or (g ∷ facts) (k + 1) d) ≡ Less =
    adjacent (g ∷ facts) d (and_parts (is_lt (fact_cmp f g)) (ascends (g ∷ facts)) is).1 k (omega (arith, within)) in
    let next : suc k + 1 ≡ suc (k + 1) = omega arith in
    subst (λ n. fact_cmp (get_or (g ∷ facts) k d) (get_or (f ∷ g ∷ facts) n d) ≡ Less) (sym next) rest

-- facts that ascend are sorted, and each is there once
sorted-by : (facts : List Fact) → ascends facts ≡ true → IsStrictlySortedBy fact_cmp facts
unfolding IsStrictlySortedBy
sorted-by [] is = tt
sorted-by (f ∷ facts) is = sorted_from_all_adjacent fact_cmp_total (f ∷ facts) f (adjacent (f ∷ facts) f is)

module _ (schema : DatabaseSchema) where
  -- what is known of facts that a text lists
  pub record IsListedBy (text : Text) (facts : List Fact) : Type 0 where
    pub text_is : text ≡ world_text (Some (world_said schema facts))
    pub of_schema : list_all (is_fact_of schema) facts ≡ true
    pub few : length facts ≤ 100000
    pub sorted : IsStrictlySortedBy fact_cmp facts

  by-listing : (text : Text) (facts : List Fact) → is_listing schema text facts ≡ true → IsListedBy text facts
  by-listing text facts is =
      let all = list_all (is_fact_of schema) facts in
      let small = nat_le (length facts) 100000 in
      let same = bytes_eq text (world_text (Some (world_said schema facts))) in
      let parts = and_parts (all && (small && ascends facts)) same is in
      let first = and_parts all (small && ascends facts) parts.0 in
      let rest = and_parts small (ascends facts) first.1 in
      record {
        text_is = same_text text (world_text (Some (world_said schema facts))) (sym parts.1);
        of_schema = first.0;
        few = leb-true (length facts) 100000 rest.0;
        sorted = sorted-by facts rest.1;
      }

  by-found : (text : Text) (facts : List Fact) (found : Option (List Fact)) → if_listed schema text found ≡ Some facts → IsListedBy text facts
  by-found text facts None e = absurd cc
  by-found text facts (Some found) e = by (is_listing schema text found) refl e
    where
      by : (b : Bool) → is_listing schema text found ≡ b → (if b then Some found else None) ≡ Some facts → IsListedBy text facts
      by true is e = let same : found ≡ facts = cc in subst (IsListedBy text) same (by-listing text found is)
      by false is e = absurd cc

  none-listed : (text : Text) → text ≡ codes "-" → IsListedBy text []
  unfolding IsStrictlySortedBy
  none-listed text is = record { text_is = is; of_schema = refl; few = omega arith; sorted = tt }

  -- a text that lists facts
  pub listed-by : (text : Text) (facts : List Fact) → facts_listed schema text ≡ Some facts → IsListedBy text facts
  listed-by text facts e = by (bytes_eq text (codes "-")) refl e
    where
      by : (b : Bool) → bytes_eq text (codes "-") ≡ b
          → (if b then Some [] else if_listed schema text (facts_in schema (ended_parts 41 text))) ≡ Some facts → IsListedBy text facts
      by true is e =
          let none : [] ≡ facts = cc in
          subst (IsListedBy text) none (none-listed text (same_text text (codes "-") (sym is)))
      by false is e = by-found text facts (facts_in schema (ended_parts 41 text)) e
