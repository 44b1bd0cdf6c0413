-- The facts that an audit lists are read back from its text.
use Rattle.std.proofs.Common.{◌≡◌, ◌≤◌, ◌==◌, true, false, ◌&&◌, List, [], ◌∷◌, ◌++◌, map, length, Some, None, refl, sym, ap, ◌∙◌, arith, append_assoc}
use Rattle.std.proofs.Common.{length-append}
use Rattle.std.specs.Prelude.{if◌then◌else◌, nat_le, codes, bytes_eq}
use Rattle.std.specs.List.{list_all, list_any}
use Rattle.std.specs.List.Sorted.{IsStrictlySortedBy}
use Rattle.std.specs.Ordering.{is_lt}
use Rattle.std.proofs.lemmas.Bool.Decides.{nat_tests}
use Rattle.cqe_base.specs.declared.world.Fact.{Fact}
use Rattle.cqe_base.specs.Schema.{DatabaseSchema, Text, is_valid_schema}
use Rattle.cqe_base.specs.Facts.{fact_cmp, is_fact_of}
use Rattle.cqe_base.specs.FactText.{stated_fact}
use Rattle.cqe_base.proofs.Lists.{text_is}
use Rattle.cqe_base.proofs.Truths.{and_first, and_second}
use Rattle.audit_text.specs.Text.{world_text, more_facts}
use Rattle.audit_print.specs.Said.{world_said, fact_text}
use Rattle.dossier.specs.Fields.{ended_parts}
use Rattle.dossier.specs.Words.{with_first, short_fact, facts_in, ascends, is_listing, facts_listed}
use Rattle.dossier.proofs.Ended.{ended-at, kind-lacks, none-both}
use Rattle.dossier.proofs.FactTexts.{is_inside, front, front-inside, front-short, isnt-none, states, states-behind}
use Rattle.dossier.proofs.Listings.{listed-so}

-- facts that ascend strictly
ascend : (facts : List Fact) → IsStrictlySortedBy fact_cmp facts → ascends facts ≡ true
unfolding IsStrictlySortedBy
ascend [] sorted = refl
ascend (f ∷ []) sorted = refl
ascend (f ∷ g ∷ facts) sorted = λ i. is_lt (sorted.0.0 i) && ascend (g ∷ facts) sorted.1 i

module _ (schema : DatabaseSchema) (valid : is_valid_schema schema ≡ true) where
  abbrev AreFacts : List Fact → Type 0
  AreFacts facts = list_all (is_fact_of schema) facts ≡ true

  head_is : (fact : Fact) (facts : List Fact) → AreFacts (fact ∷ facts) → is_fact_of schema fact ≡ true
  head_is fact facts are = and_first _ _ are

  rest_are : (fact : Fact) (facts : List Fact) → AreFacts (fact ∷ facts) → AreFacts facts
  rest_are fact facts are = and_second _ _ are

  -- a fact whose text was cut at its closing parenthesis
  cut : (fact : Fact) → is_fact_of schema fact ≡ true → (rest : Text) → ended_parts 41 (fact_text schema fact ++ rest) ≡ front schema fact ∷ ended_parts 41 rest
  cut fact is rest =
      ap (ended_parts 41) (append_assoc (front schema fact) (41 ∷ []) rest)
      ∙ ended-at 41 (front schema fact) rest (kind-lacks is_inside 41 refl (front schema fact) (front-inside schema valid fact is))

  cut-behind : (fact : Fact) → is_fact_of schema fact ≡ true → (rest : Text)
      → ended_parts 41 (codes " " ++ fact_text schema fact ++ rest) ≡ (32 ∷ front schema fact) ∷ ended_parts 41 rest
  cut-behind fact is rest =
      ap (λ text. ended_parts 41 (32 ∷ text)) (append_assoc (front schema fact) (41 ∷ []) rest)
      ∙ ended-at 41 (32 ∷ front schema fact) rest (kind-lacks is_inside 41 refl (32 ∷ front schema fact) (front-inside schema valid fact is))

  parts-behind : (facts : List Fact) → AreFacts facts → ended_parts 41 (more_facts (world_said schema facts)) ≡ map (λ fact. 32 ∷ front schema fact) facts
  parts-behind [] are = refl
  parts-behind (fact ∷ facts) are =
      cut-behind fact (head_is fact facts are) (more_facts (world_said schema facts))
      ∙ ap (λ parts. (32 ∷ front schema fact) ∷ parts) (parts-behind facts (rest_are fact facts are))

  -- each part states its fact
  test-few : (text : Text) → length text ≤ 4096 → nat_le (length text) 4096 ≡ true
  test-few text few = grind (arith, nat_tests)

  read-first : (fact : Fact) → is_fact_of schema fact ≡ true → short_fact schema (front schema fact ++ codes ")") ≡ Some fact
  read-first fact is =
      let few = front-short schema valid fact is in
      ap (λ b. if b then stated_fact schema (front schema fact ++ codes ")") else None)
      (test-few (front schema fact ++ codes ")") (omega (arith, few, length-append (front schema fact) (codes ")"))))
      ∙ states schema valid fact is

  read-behind : (fact : Fact) → is_fact_of schema fact ≡ true → short_fact schema ((32 ∷ front schema fact) ++ codes ")") ≡ Some fact
  read-behind fact is =
      let few = front-short schema valid fact is in
      ap (λ b. if b then stated_fact schema ((32 ∷ front schema fact) ++ codes ")") else None)
      (test-few ((32 ∷ front schema fact) ++ codes ")") (omega (arith, few, length-append (front schema fact) (codes ")"))))
      ∙ states-behind schema valid fact is

  read-all : (facts : List Fact) → AreFacts facts → facts_in schema (map (λ fact. 32 ∷ front schema fact) facts) ≡ Some facts
  read-all [] are = refl
  read-all (fact ∷ facts) are =
      λ i. with_first (read-behind fact (head_is fact facts are) i) (read-all facts (rest_are fact facts are) i)

  -- all of them
  parts-read : (fact : Fact) (facts : List Fact) → AreFacts (fact ∷ facts)
      → facts_in schema (ended_parts 41 (world_text (Some (world_said schema (fact ∷ facts))))) ≡ Some (fact ∷ facts)
  parts-read fact facts are =
      ap (facts_in schema) (cut fact (head_is fact facts are) (more_facts (world_said schema facts))
      ∙ ap (λ parts. front schema fact ∷ parts) (parts-behind facts (rest_are fact facts are)))
      ∙ (λ i. with_first (read-first fact (head_is fact facts are) i) (read-all facts (rest_are fact facts are) i))

  isnt-dash : (fact : Fact) (facts : List Fact) → AreFacts (fact ∷ facts) → bytes_eq (world_text (Some (world_said schema (fact ∷ facts)))) (codes "-") ≡ false
  isnt-dash fact facts are =
      ap (λ text. bytes_eq text (codes "-")) (append_assoc (front schema fact) (41 ∷ []) (more_facts (world_said schema facts)))
      ∙ isnt-none schema valid fact (head_is fact facts are) (41 ∷ more_facts (world_said schema facts))

  listing-is : (facts : List Fact) → AreFacts facts → length facts ≤ 100000 → IsStrictlySortedBy fact_cmp facts
      → is_listing schema (world_text (Some (world_said schema facts))) facts ≡ true
  listing-is facts are few sorted =
      λ i. (are i && (few-test i && ascend facts sorted i)) && text_is (world_text (Some (world_said schema facts))) i
    where
      few-test : nat_le (length facts) 100000 ≡ true
      few-test = grind (arith, nat_tests)

  -- the list that a text writes
  pub listed-back : (facts : List Fact) → AreFacts facts → length facts ≤ 100000 → IsStrictlySortedBy fact_cmp facts
      → facts_listed schema (world_text (Some (world_said schema facts))) ≡ Some facts
  listed-back [] are few sorted = refl
  listed-back (fact ∷ facts) are few sorted =
      sym (listed-so schema (world_text (Some (world_said schema (fact ∷ facts)))) (isnt-dash fact facts are) (fact ∷ facts) (sym (parts-read fact facts are))
      (listing-is (fact ∷ facts) are few sorted))

  -- no line feed stands in it
  fact-lacks : (fact : Fact) → is_fact_of schema fact ≡ true → list_any (λ b. b == 10) (fact_text schema fact) ≡ false
  fact-lacks fact is =
      none-both (λ b. b == 10) (front schema fact) (41 ∷ []) (kind-lacks is_inside 10 refl (front schema fact) (front-inside schema valid fact is)) refl

  more-lack : (facts : List Fact) → AreFacts facts → list_any (λ b. b == 10) (more_facts (world_said schema facts)) ≡ false
  more-lack [] are = refl
  more-lack (fact ∷ facts) are =
      none-both (λ b. b == 10) (codes " " ++ fact_text schema fact) (more_facts (world_said schema facts)) (fact-lacks fact (head_is fact facts are))
      (more-lack facts (rest_are fact facts are))

  pub world-lacks : (facts : List Fact) → AreFacts facts → list_any (λ b. b == 10) (world_text (Some (world_said schema facts))) ≡ false
  world-lacks [] are = refl
  world-lacks (fact ∷ facts) are =
      none-both (λ b. b == 10) (fact_text schema fact) (more_facts (world_said schema facts)) (fact-lacks fact (head_is fact facts are))
      (more-lack facts (rest_are fact facts are))

  -- and something does
  pub world-some : (facts : List Fact) → AreFacts facts → 1 ≤ length (world_text (Some (world_said schema facts)))
  world-some [] are = omega arith
  world-some (fact ∷ facts) are =
      omega (arith, length-append (fact_text schema fact) (more_facts (world_said schema facts)), length-append (front schema fact) (41 ∷ []))
