-- Lists of facts as an audit lists them.
use Rattle.std.proofs.Common.{◌≡◌, Bool, true, false, ◌&&◌, List, [], length, Some, None, refl, sym, ap, ◌∙◌, arith}
use Rattle.std.specs.Prelude.{if◌then◌else◌, nat_le, nat_lt, bytes_eq, codes}
use Rattle.std.specs.List.{list_all}
use Rattle.std.proofs.lemmas.Bool.Decides.{nat_tests}
use Rattle.cqe_base.specs.declared.world.Fact.{Fact}
use Rattle.cqe_base.specs.Schema.{DatabaseSchema, Text}
use Rattle.cqe_base.specs.Facts.{is_fact_of}
use Rattle.cqe_base.specs.FactText.{stated_fact}
use Rattle.audit_text.specs.Text.{world_text}
use Rattle.audit_print.specs.Said.{world_said}
use Rattle.dossier.specs.Fields.{ended_parts}
use Rattle.dossier.specs.Words.{short_fact, facts_in, ascends, is_listing, if_listed, facts_listed}

module _ (schema : DatabaseSchema) (text : Text) (facts : List Fact) (of_schema : list_all (is_fact_of schema) facts ≡ true) where
  by-parts : (few ascend : Bool) → nat_le (length facts) 100000 ≡ few → ascends facts ≡ ascend
      → is_listing schema text facts ≡ ((true && (few && ascend)) && bytes_eq text (world_text (Some (world_said schema facts))))
  by-parts few ascend few_is ascend_is = λ i. (of_schema i && (few_is i && ascend_is i)) && bytes_eq text (world_text (Some (world_said schema facts)))

  -- they are more than a world has
  pub too-many : nat_lt 100000 (length facts) ≡ true → false ≡ is_listing schema text facts
  too-many many =
      let few : nat_le (length facts) 100000 ≡ false = grind (arith, nat_tests) in
      sym (by-parts false (ascends facts) few refl)

  module _ (small : nat_lt 100000 (length facts) ≡ false) where
    few_are : nat_le (length facts) 100000 ≡ true
    few_are = grind (arith, nat_tests)

    -- or aren't in order
    pub not-ascending : ascends facts ≡ false → false ≡ is_listing schema text facts
    not-ascending isnt = sym (by-parts true false few_are isnt)

    -- else the text decides
    pub by-text : ascends facts ≡ true → bytes_eq text (world_text (Some (world_said schema facts))) ≡ is_listing schema text facts
    by-text is = sym (by-parts true true few_are is)

module _ (schema : DatabaseSchema) (text : Text) where
  -- a text that says that there is none
  pub listed-none : bytes_eq text (codes "-") ≡ true → Some [] ≡ facts_listed schema text
  listed-none is = sym (ap (λ b. if b then Some [] else if_listed schema text (facts_in schema (ended_parts 41 text))) is)

  module _ (isnt : bytes_eq text (codes "-") ≡ false) where
    by-facts : facts_listed schema text ≡ if_listed schema text (facts_in schema (ended_parts 41 text))
    by-facts = ap (λ b. if b then Some [] else if_listed schema text (facts_in schema (ended_parts 41 text))) isnt

    -- a text of something else
    pub listed-not : None ≡ facts_in schema (ended_parts 41 text) → None ≡ facts_listed schema text
    listed-not none = sym (by-facts ∙ ap (if_listed schema text) (sym none))

    module _ (facts : List Fact) (read : Some facts ≡ facts_in schema (ended_parts 41 text)) where
      pub listed-so : is_listing schema text facts ≡ true → Some facts ≡ facts_listed schema text
      listed-so is = sym (by-facts ∙ ap (if_listed schema text) (sym read) ∙ ap (λ b. if b then Some facts else None) is)

      pub listed-otherwise : is_listing schema text facts ≡ false → None ≡ facts_listed schema text
      listed-otherwise other = sym (by-facts ∙ ap (if_listed schema text) (sym read) ∙ ap (λ b. if b then Some facts else None) other)

-- the fact of a text that isn't too long
pub fact-long : (schema : DatabaseSchema) (text : Text) → nat_lt 4096 (length text) ≡ true → None ≡ short_fact schema text
fact-long schema text long =
    let test : nat_le (length text) 4096 ≡ false = grind (arith, nat_tests) in
    sym (ap (λ b. if b then stated_fact schema text else None) test)

pub fact-short : (schema : DatabaseSchema) (text : Text) → nat_lt 4096 (length text) ≡ false → stated_fact schema text ≡ short_fact schema text
fact-short schema text short =
    let test : nat_le (length text) 4096 ≡ true = grind (arith, nat_tests) in
    sym (ap (λ b. if b then stated_fact schema text else None) test)
