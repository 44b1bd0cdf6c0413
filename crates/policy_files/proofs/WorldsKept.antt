-- The world of a facts file is one of the schema, with at most 100,000 facts.
use Rattle.std.proofs.Common.{◌≡◌, ℕ, ◌+◌, ◌≤◌, ◌<◌, Bool, true, false, not, ◌&&◌, List, [], ◌∷◌, map, Result, Ok, Err, Option, Some, None, refl, sym, ◌∙◌}
use Rattle.std.proofs.Common.{arith, subst, inl, inr}
use Rattle.std.specs.Prelude.{nat_le, if◌then◌else◌, IsUtf8}
use Rattle.std.specs.FinSet as set
use Rattle.std.specs.Ordering.{eq_by_cmp}
use Rattle.std.specs.List.{list_all}
use Rattle.std.specs.Str.{is_utf8}
use Rattle.std.proofs.lemmas.Bool.{cases_Bool, and_parts}
use Rattle.std.proofs.lemmas.Bool.Decides.{nat_tests}
use Rattle.std.proofs.lemmas.Str.{is_utf8-from_IsUtf8}
use Rattle.cqe_base.specs.declared.world.Fact.{Fact}
use Rattle.cqe_base.specs.declared.text.Symbol.TheVariants.{Open}
use Rattle.cqe_base.specs.Schema.{DatabaseSchema, Text, is_valid_schema}
use Rattle.cqe_base.specs.Facts.{FactSet, fact_cmp, fact_of, is_fact_of}
use Rattle.cqe_base.specs.Truth.{value_of}
use Rattle.cqe_base.specs.Formula.{Formula, atom, is_sentence_of}
use Rattle.cqe_base.specs.FactText.{fact_in, fact_read, stated_fact}
use Rattle.cqe_base.specs.Lines.{TextLine, text_lines, content, is_too_long}
use Rattle.cqe_base.specs.MachineLaws.{GroundedFactsAreOfSchema}
use Rattle.cqe_base.specs.Reading.{Refusal, ReadingsAreSentences, reading, is_next}
use Rattle.cqe_base.specs.Tokens.{tokens}
use Rattle.cqe_base.proofs.Worlds.{fact_cmp_total, tied_is}
use Rattle.sentence_text.specs.Laws.{SentencesAreAscii}
use Rattle.policy_files.specs.declared.error.FactsError.{FactsError}
use Rattle.policy_files.specs.declared.error.FactsError.TheVariants.{Limit, NotUtf8}
use Rattle.policy_files.specs.Facts.{says_nothing, fact_of_line, with_fact, with_line, with_lines, facts_of, ◌>>=◌}
use Rattle.policy_files.specs.Laws.{IsSmallWorldOf, FactsAreWorlds}
use Rattle.policy_files.proofs.Trees.{isnt_utf8}

-- ---- a fact that a text states is one of the schema

module _ (grounded : GroundedFactsAreOfSchema) (reads : ReadingsAreSentences) (schema : DatabaseSchema) (valid : is_valid_schema schema ≡ true) where
  in_schema : (s : Formula) (fact : Fact) → is_sentence_of schema s ≡ true → fact_in s ≡ Some fact → is_fact_of schema fact ≡ true
  in_schema (atom r terms) fact of_schema e =
      let made : Fact = fact_of r (map (λ t. (value_of [] t).index) terms) in
      let all : list_all (is_fact_of schema) (made ∷ []) ≡ true = grounded schema (atom r terms) valid of_schema in
      let here = and_parts (is_fact_of schema made) true all in
      let same : made ≡ fact = cc in
      subst (λ f. is_fact_of schema f ≡ true) same here.0
  in_schema _ fact of_schema e = absurd (cc)

  read_in_schema : (read : Result Formula Refusal) (fact : Fact) → ((s : Formula) → read ≡ Ok s → is_sentence_of schema s ≡ true) → fact_read read ≡ Some fact
      → is_fact_of schema fact ≡ true
  read_in_schema (Err why) fact of_schema e = absurd (cc)
  read_in_schema (Ok s) fact of_schema e = in_schema s fact (of_schema s refl) e

  stated_in_schema : (text : Text) (fact : Fact) → stated_fact schema text ≡ Some fact → is_fact_of schema fact ≡ true
  unfolding stated_fact
  stated_in_schema text fact e =
      at (is_next Open (tokens text)) e
    where
      at : (b : Bool) → (if b then None else fact_read (reading schema text)) ≡ Some fact → is_fact_of schema fact ≡ true
      at true e = absurd (cc)
      at false e = read_in_schema (reading schema text) fact (λ s is. reads schema text s is) e

  line_in_schema : (line : TextLine) (fact : Fact) → fact_of_line schema line ≡ Some fact → is_fact_of schema fact ≡ true
  line_in_schema line fact e = at (is_too_long line) e
    where
      at : (b : Bool) → (if b then None else stated_fact schema (content line)) ≡ Some fact → is_fact_of schema fact ≡ true
      at true e = absurd (cc)
      at false e = stated_in_schema (content line) fact e

  -- ---- one more fact, and one more line

  joins : (world : FactSet) (fact : Fact) → IsSmallWorldOf schema world → is_fact_of schema fact ≡ true
      → (nat_le 100000 (set.len world) && not (set.contains world fact)) ≡ false → IsSmallWorldOf schema (set.insert world fact)
  joins world fact small of_schema room = record {
    of_schema = λ q has.
        elim (cases_Bool (eq_by_cmp fact_cmp q fact)) [
          | inl same ↦ rw (tied_is q fact same) of_schema
          | inr other ↦
              let before : set.contains world q ≡ true = rw other at (sym (set.contains-insert fact_cmp_total world fact q) ∙ has) in
              small.of_schema q before
        ];
    few =
        let size = set.len-insert fact_cmp_total world fact in
        let before : set.len world ≤ 100000 = small.few in
        elim (cases_Bool (set.contains world fact)) [
          | inl old ↦ let size' : set.len (set.insert world fact) ≡ set.len world = rw old at size in omega arith
          | inr new ↦
              let size' : set.len (set.insert world fact) ≡ set.len world + 1 = rw new at size in
              let full : (nat_le 100000 (set.len world) && true) ≡ false = rw new at room in
              let below : set.len world < 100000 = grind (arith, nat_tests) in
              omega arith
        ];
  }

  fact_ok : (number : ℕ) (world : FactSet) (found : Option Fact) (next : FactSet) → IsSmallWorldOf schema world
      → ((fact : Fact) → found ≡ Some fact → is_fact_of schema fact ≡ true) → with_fact number world found ≡ Ok next → IsSmallWorldOf schema next
  fact_ok number world None next small of_schema e = absurd (cc)
  fact_ok number world (Some fact) next small of_schema e =
      at (nat_le 100000 (set.len world) && not (set.contains world fact)) refl e
    where
      at : (full : Bool) → (nat_le 100000 (set.len world) && not (set.contains world fact)) ≡ full
          → (if full then Err (Limit number) else Ok (set.insert world fact)) ≡ Ok next → IsSmallWorldOf schema next
      at true is e = absurd (cc)
      at false is e = let same : set.insert world fact ≡ next = cc in subst (IsSmallWorldOf schema) same (joins world fact small (of_schema fact refl) is)

  line_ok : (number : ℕ) (world : FactSet) (line : TextLine) (next : FactSet) → IsSmallWorldOf schema world → with_line schema number world line ≡ Ok next
      → IsSmallWorldOf schema next
  line_ok number world line next small e = at (says_nothing (content line)) e
    where
      at : (silent : Bool) → (if silent then Ok world else with_fact number world (fact_of_line schema line)) ≡ Ok next → IsSmallWorldOf schema next
      at true e = let same : world ≡ next = cc in subst (IsSmallWorldOf schema) same small
      at false e = fact_ok number world (fact_of_line schema line) next small (line_in_schema line) e

  lines_ok : (number : ℕ) (world : FactSet) (lines : List TextLine) (all : FactSet) → IsSmallWorldOf schema world
      → with_lines schema number world lines ≡ Ok all → IsSmallWorldOf schema all
  lines_ok number world [] all small e = let same : world ≡ all = cc in subst (IsSmallWorldOf schema) same small
  lines_ok number world (line ∷ lines) all small e =
      at (with_line schema number world line) refl e (λ next here rest. lines_ok (number + 1) next lines all (line_ok number world line next small here) rest)
    where
      at : (step : Result FactSet FactsError) → with_line schema number world line ≡ step
          → (step >>= λ next. with_lines schema (number + 1) next lines) ≡ Ok all
          → ((next : FactSet) → with_line schema number world line ≡ Ok next → with_lines schema (number + 1) next lines ≡ Ok all → IsSmallWorldOf schema all)
          → IsSmallWorldOf schema all
      at (Err why) is e more = absurd (cc)
      at (Ok next) is e more = more next is e

  empty_ok : IsSmallWorldOf schema set.empty
  empty_ok = record {
    of_schema = λ fact has. absurd (let none = set.contains-empty fact_cmp fact in cc);
    few = let none = set.len-empty fact_cmp in omega arith;
  }

  file_ok : (bytes : List ℕ) (all : FactSet) → facts_of schema bytes ≡ Ok all → IsSmallWorldOf schema all
  unfolding facts_of
  file_ok bytes all e = at (is_utf8 bytes) e
    where
      at : (good : Bool) → (if good then with_lines schema 1 set.empty (text_lines bytes) else Err NotUtf8) ≡ Ok all → IsSmallWorldOf schema all
      at true e = lines_ok 1 set.empty (text_lines bytes) all empty_ok e
      at false e = absurd (cc)

pub facts_are_worlds : GroundedFactsAreOfSchema → ReadingsAreSentences → FactsAreWorlds
facts_are_worlds grounded reads schema bytes world valid e = file_ok grounded reads schema valid bytes world e

-- ---- bytes that aren't UTF-8

not_stated : SentencesAreAscii → (schema : DatabaseSchema) (text : Text) → ¬ (IsUtf8 text) → stated_fact schema text ≡ None
unfolding stated_fact
not_stated ascii schema text none = at (is_next Open (tokens text))
  where
    no_read : (read : Result Formula Refusal) → ((s : Formula) → read ≡ Ok s → IsUtf8 text) → fact_read read ≡ None
    no_read (Err why) utf8 = refl
    no_read (Ok s) utf8 = absurd (none (utf8 s refl))

    at : (b : Bool) → (if b then None else fact_read (reading schema text)) ≡ None
    at true = refl
    at false = no_read (reading schema text) (λ s is. (ascii schema text s is).1)

pub no_fact : SentencesAreAscii → (schema : DatabaseSchema) (line : TextLine) → ¬ (IsUtf8 (content line)) → fact_of_line schema line ≡ None
no_fact ascii schema line none = at (is_too_long line)
  where
    at : (b : Bool) → (if b then None else stated_fact schema (content line)) ≡ None
    at true = refl
    at false = not_stated ascii schema (content line) none

pub file_of_utf8 : (schema : DatabaseSchema) (bytes : List ℕ) → IsUtf8 bytes → facts_of schema bytes ≡ with_lines schema 1 set.empty (text_lines bytes)
unfolding facts_of
file_of_utf8 schema bytes good = rw (is_utf8-from_IsUtf8 bytes good) refl

pub file_of_others : (schema : DatabaseSchema) (bytes : List ℕ) → ¬ (IsUtf8 bytes) → facts_of schema bytes ≡ Err NotUtf8
unfolding facts_of
file_of_others schema bytes none = rw (isnt_utf8 bytes none) refl
