-- The text of a fact of the schema: it ends with its only `)`, and states the fact, also with a blank before it.
use Rattle.std.proofs.Common.{◌≡◌, ℕ, zero, suc, ◌+◌, ◌*◌, ◌<◌, ◌≤◌, ◌==◌, Bool, true, false, ◌&&◌, ◌||◌, List, [], ◌∷◌, ◌++◌, map, length, take, replicate}
use Rattle.std.proofs.Common.{Option, Some, None, Ok, refl, sym, ap, ◌∙◌, arith, append_assoc, length-append, one-add}
use Rattle.std.specs.Prelude.{if◌then◌else◌, nat_le, nat_lt, nat_eq, ◌-◌, unwrap_or, codes, bytes_eq}
use Rattle.std.specs.List.{list_all, prefix_len}
use Rattle.std.specs.Char.{is_ascii_alphabetic}
use Rattle.std.proofs.lemmas.Bool.{leb-true}
use Rattle.std.proofs.lemmas.Bool.Decides.{nat_tests}
use Rattle.std.proofs.Math.Seq.{take-append_seam}
use Rattle.cqe_base.specs.declared.sentence.Constant.{Constant}
use Rattle.cqe_base.specs.declared.sentence.Term.{Term}
use Rattle.cqe_base.specs.declared.sentence.Term.TheVariants as terms
use Rattle.cqe_base.specs.declared.world.Fact.{Fact}
use Rattle.cqe_base.specs.declared.text.Symbol.TheVariants as symbols
use Rattle.cqe_base.specs.Schema.{DatabaseSchema, Text, columns_of, is_name_byte, is_identifier, is_schema_name, is_valid_schema, domain_size}
use Rattle.cqe_base.specs.Facts.{is_fact_of, has_columns, fits_columns, padded}
use Rattle.cqe_base.specs.Truth.{value_of}
use Rattle.cqe_base.specs.Tokens.{Token, tokens, token_length, symbol_of, same_symbol}
use Rattle.cqe_base.specs.Reading.{reading, is_next, is_symbol}
use Rattle.cqe_base.specs.FactText.{stated_fact, fact_read}
use Rattle.cqe_base.specs.Canonical.{relation_name, constant_name, terms_text, more_terms}
use Rattle.cqe_base.proofs.Truths.{and_first, and_second, list_all-append, true_is_not_false}
use Rattle.cqe_base.proofs.GrammarIsRead.{reading-sound}
use Rattle.sentence_text.proofs.GrammarIsRead.{sentences_read}
use Rattle.sentence_text.proofs.ProperNames.{valid-names}
use Rattle.sentence_text.proofs.RoundTrip.{canonical_forms_read}
use Rattle.sentence_text.proofs.TokenLaws.{tokens-next}
use Rattle.sentence_text.proofs.WellFormed.{AreOfDomains, sentence-of_schema}
use Rattle.audit_print.specs.Said.{constants_in, atom_of, fact_text}
use Rattle.audit_print.proofs.Atoms.{atom_is_sentence, six_columns, few_constants}
use Rattle.dossier.proofs.SchemaNames.{relation-proper, constant-proper}
use Rattle.dossier.proofs.Shifted.{later, tokens-behind, read-behind}

-- a byte that stands in the text of a fact before its `)`
abbrev pub is_inside : ℕ → Bool
is_inside b = is_name_byte b || (b == 40 || (b == 44 || b == 32))

name-inside : (name : Text) → list_all is_name_byte name ≡ true → list_all is_inside name ≡ true
name-inside [] all = refl
name-inside (b ∷ name) all =
    let first : is_name_byte b ≡ true = and_first (is_name_byte b) (list_all is_name_byte name) all in
    let rest = name-inside name (and_second (is_name_byte b) (list_all is_name_byte name) all) in
    λ i. (first i || (b == 40 || (b == 44 || b == 32))) && rest i

letter-name : (b : ℕ) → is_ascii_alphabetic b ≡ true → is_name_byte b ≡ true
letter-name b is = grind (arith, nat_tests)

pub name-bytes : (name : Text) → is_identifier name ≡ true → list_all is_name_byte name ≡ true
name-bytes [] is = absurd (true_is_not_false (sym is))
name-bytes (b ∷ name) is = λ i. letter-name b (and_first _ _ is) i && and_second (is_ascii_alphabetic b) (list_all is_name_byte name) is i

identifier : (name : Text) → is_schema_name name ≡ true → is_identifier name ≡ true
identifier name is = and_first _ _ (and_first _ _ (and_first _ _ is))

short : (name : Text) → is_schema_name name ≡ true → length name ≤ 32
short name is = leb-true (length name) 32 (and_second (is_identifier name) (nat_le (length name) 32) (and_first _ _ (and_first _ _ is)))

schema_name-inside : (name : Text) → is_schema_name name ≡ true → list_all is_inside name ≡ true
schema_name-inside name is = name-inside name (name-bytes name (identifier name is))

-- the constants of some columns
abbrev AreConstants : DatabaseSchema → List Term → Type 0
AreConstants schema [] = Unit {0}
AreConstants schema (terms.Constant c ∷ others) = (is_schema_name (constant_name schema c) ≡ true) × AreConstants schema others
AreConstants schema (terms.Place i ∷ others) = ⊥

-- the constants of a fact, and the name of its relation
abbrev constants_of : DatabaseSchema → Fact → List Term
constants_of schema fact = constants_in (unwrap_or (columns_of schema fact.relation) []) fact.columns

abbrev name_of : DatabaseSchema → Fact → Text
name_of schema fact = relation_name schema fact.relation

-- the text of a fact before its closing parenthesis
abbrev pub front : DatabaseSchema → Fact → Text
front schema fact = name_of schema fact ++ codes "(" ++ terms_text schema (constants_of schema fact)

-- that parenthesis ends it
pub text-is : (schema : DatabaseSchema) (fact : Fact) → fact_text schema fact ≡ front schema fact ++ 41 ∷ []
text-is schema fact = refl

module _ (schema : DatabaseSchema) where
  -- their texts
  more-inside : (others : List Term) → AreConstants schema others → list_all is_inside (more_terms schema others) ≡ true
  more-inside [] are = refl
  more-inside (terms.Constant c ∷ others) are =
      list_all-append is_inside (codes ", " ++ constant_name schema c) (more_terms schema others)
      ∙ (λ i. schema_name-inside (constant_name schema c) are.0 i && more-inside others are.1 i)
  more-inside (terms.Place i ∷ others) are = absurd are

  terms-inside : (columns : List Term) → AreConstants schema columns → list_all is_inside (terms_text schema columns) ≡ true
  terms-inside [] are = refl
  terms-inside (terms.Constant c ∷ others) are =
      list_all-append is_inside (constant_name schema c) (more_terms schema others)
      ∙ (λ i. schema_name-inside (constant_name schema c) are.0 i && more-inside others are.1 i)
  terms-inside (terms.Place i ∷ others) are = absurd are

  more-short : (others : List Term) → AreConstants schema others → length (more_terms schema others) ≤ 34 * length others
  more-short [] are = omega arith
  more-short (terms.Constant c ∷ others) are =
      let rest = more-short others are.1 in
      let here = short (constant_name schema c) are.0 in
      omega (
        arith,
        rest,
        here,
        length-append (codes ", " ++ constant_name schema c) (more_terms schema others),
        length-append (codes ", ") (constant_name schema c),
      )
  more-short (terms.Place i ∷ others) are = absurd are

  terms-short : (columns : List Term) → AreConstants schema columns → length (terms_text schema columns) ≤ 34 * length columns
  terms-short [] are = omega arith
  terms-short (terms.Constant c ∷ others) are =
      let rest = more-short others are.1 in
      let here = short (constant_name schema c) are.0 in
      omega (arith, rest, here, length-append (constant_name schema c) (more_terms schema others))
  terms-short (terms.Place i ∷ others) are = absurd are

  module _ (valid : is_valid_schema schema ≡ true) where
    constants-are : (domains columns : List ℕ) → AreOfDomains schema [] (constants_in domains columns) domains
        → AreConstants schema (constants_in domains columns)
    constants-are [] columns are = tt
    constants-are (d ∷ domains) [] are = tt
    constants-are (d ∷ domains) (c ∷ columns) are =
        (constant-proper schema valid (record { domain = d; index = c }) are.0.0, constants-are domains columns are.1)

    module _ (fact : Fact) (is : is_fact_of schema fact ≡ true) where
      known-relation : fact.relation < length schema.relations
      known-relation = (sentence-of_schema schema (atom_of schema fact) (atom_is_sentence schema fact is)).0

      name-proper : is_schema_name (name_of schema fact) ≡ true
      name-proper = relation-proper schema valid fact.relation known-relation

      are-constants : AreConstants schema (constants_of schema fact)
      are-constants =
          constants-are (unwrap_or (columns_of schema fact.relation) []) fact.columns
          (sentence-of_schema schema (atom_of schema fact) (atom_is_sentence schema fact is)).1

      pub front-inside : list_all is_inside (front schema fact) ≡ true
      front-inside =
          list_all-append is_inside (name_of schema fact ++ codes "(") (terms_text schema (constants_of schema fact))
          ∙ (λ i. (list_all-append is_inside (name_of schema fact) (codes "(") ∙ (λ j. schema_name-inside (name_of schema fact) name-proper j && true)) i
          && terms-inside (constants_of schema fact) are-constants i)

      pub front-short : length (front schema fact) + 2 ≤ 4096
      front-short =
          let few = few_constants (unwrap_or (columns_of schema fact.relation) []) fact.columns in
          let six = six_columns schema fact is in
          let named = short (name_of schema fact) name-proper in
          let rest = terms-short (constants_of schema fact) are-constants in
          omega (
            arith,
            few,
            six,
            named,
            rest,
            length-append (name_of schema fact ++ codes "(") (terms_text schema (constants_of schema fact)),
            length-append (name_of schema fact) (codes "("),
          )

      -- it begins with a letter
      starts : (name rest : Text) → is_identifier name ≡ true → bytes_eq (name ++ rest) (codes "-") ≡ false
      starts [] rest letters = absurd (true_is_not_false (sym letters))
      starts (b ∷ name) rest letters =
          let letter = and_first (is_ascii_alphabetic b) (list_all is_name_byte name) letters in
          let other : nat_eq b 45 ≡ false = grind (arith, nat_tests) in
          ap (λ t. t && bytes_eq (name ++ rest) []) other

      pub isnt-none : (rest : Text) → bytes_eq (front schema fact ++ rest) (codes "-") ≡ false
      isnt-none rest =
          ap (λ text. bytes_eq text (codes "-")) (append_assoc (name_of schema fact ++ codes "(") (terms_text schema (constants_of schema fact)) rest
          ∙ append_assoc (name_of schema fact) (codes "(") (terms_text schema (constants_of schema fact) ++ rest))
          ∙ starts (name_of schema fact) (codes "(" ++ (terms_text schema (constants_of schema fact) ++ rest)) (identifier (name_of schema fact) name-proper)

      -- ---- what it states

      -- the columns of the constants, and behind them zeros
      columns-back : (n : ℕ) (domains columns : List ℕ) → fits_columns schema domains columns ≡ true
          → length (map (λ t. (value_of [] t).index) (constants_in domains columns)) + n ≡ length columns
          → map (λ t. (value_of [] t).index) (constants_in domains columns) ++ replicate n 0 ≡ columns
      columns-back zero [] [] fits sizes = refl
      columns-back (suc n) [] [] fits sizes = absurd (omega (arith, sizes))
      columns-back zero [] (c ∷ columns) fits sizes = absurd (omega (arith, sizes))
      columns-back (suc n) [] (c ∷ columns) fits sizes =
          let least : c ≤ 0 = leb-true c 0 (and_first (nat_le c 0) (fits_columns schema [] columns) fits) in
          let none : 0 ≡ c = omega (arith, least) in
          λ i. none i ∷ columns-back n [] columns (and_second (nat_le c 0) (fits_columns schema [] columns) fits) (omega (arith, sizes)) i
      columns-back n (d ∷ domains) [] fits sizes = absurd (true_is_not_false (sym fits))
      columns-back n (d ∷ domains) (c ∷ columns) fits sizes =
          ap (λ cs. c ∷ cs)
          (columns-back n domains columns (and_second (nat_lt c (domain_size schema d)) (fits_columns schema domains columns) fits) (omega (arith, sizes)))

      few-back : (domains columns : List ℕ) → length (map (λ t. (value_of [] t).index) (constants_in domains columns)) ≤ length columns
      few-back [] columns = omega arith
      few-back (d ∷ domains) [] = omega arith
      few-back (d ∷ domains) (c ∷ columns) = let rest = few-back domains columns in omega (arith, rest)

      padded-back : padded (map (λ t. (value_of [] t).index) (constants_of schema fact)) ≡ fact.columns
      padded-back = by (columns_of schema fact.relation) is
        where
          by : (o : Option (List ℕ)) → has_columns schema fact.columns o ≡ true
              → padded (map (λ t. (value_of [] t).index) (constants_in (unwrap_or o []) fact.columns)) ≡ fact.columns
          by None has = absurd (true_is_not_false (sym has))
          by (Some domains) has =
              let six = and_first (nat_le (length fact.columns) 6 && nat_le 6 (length fact.columns)) (fits_columns schema domains fact.columns) has in
              let most : length fact.columns ≤ 6 = leb-true (length fact.columns) 6 (and_first _ (nat_le 6 (length fact.columns)) six) in
              let least : 6 ≤ length fact.columns = leb-true 6 (length fact.columns) (and_second (nat_le (length fact.columns) 6) _ six) in
              let few = few-back domains fact.columns in
              columns-back (6 - length (map (λ t. (value_of [] t).index) (constants_in domains fact.columns))) domains fact.columns
              (and_second _ (fits_columns schema domains fact.columns) has) (omega (arith, most, least, few))

      fact-back : fact_read (Ok (atom_of schema fact)) ≡ Some fact
      fact-back = ap (λ columns. Some (record { relation = fact.relation; columns = columns })) padded-back

      -- it reads as the atom
      reads : reading schema (fact_text schema fact) ≡ Ok (atom_of schema fact)
      reads = canonical_forms_read schema (atom_of schema fact) valid (atom_is_sentence schema fact is) (omega arith)

      -- its first token is the name
      all-prefix : (name rest : Text) → list_all is_name_byte name ≡ true → prefix_len is_name_byte (name ++ 40 ∷ rest) ≡ length name
      all-prefix [] rest all = refl
      all-prefix (b ∷ name) rest all =
          let further = all-prefix name rest (and_second _ _ all) in
          rw (and_first (is_name_byte b) (list_all is_name_byte name) all, further) (one-add (length name))

      name-long : (name rest : Text) → is_identifier name ≡ true → token_length (name ++ 40 ∷ rest) ≡ length name
      unfolding token_length
      name-long [] rest letters = absurd (true_is_not_false (sym letters))
      name-long (b ∷ name) rest letters =
          let further = all-prefix name rest (and_second (is_ascii_alphabetic b) (list_all is_name_byte name) letters) in
          rw (and_first (is_ascii_alphabetic b) (list_all is_name_byte name) letters, further) (one-add (length name))

      some-name : (name : Text) → is_identifier name ≡ true → 0 < length name
      some-name [] letters = absurd (true_is_not_false (sym letters))
      some-name (b ∷ name) letters = omega arith

      -- behind the name
      abbrev behind_name : Text
      behind_name = terms_text schema (constants_of schema fact) ++ 41 ∷ []

      text-parts : fact_text schema fact ≡ name_of schema fact ++ 40 ∷ behind_name
      text-parts =
          append_assoc (name_of schema fact ++ codes "(") (terms_text schema (constants_of schema fact)) (41 ∷ [])
          ∙ append_assoc (name_of schema fact) (codes "(") behind_name

      first-symbol : (name rest : Text) → is_identifier name ≡ true → symbol_of name ≡ symbols.Name → is_next symbols.Open (tokens (name ++ 40 ∷ rest)) ≡ false
      first-symbol name rest letters is_name =
          let long = name-long name rest letters in
          let some : 0 < token_length (name ++ 40 ∷ rest) = omega (arith, long, some-name name letters) in
          ap (is_next symbols.Open) (tokens-next 0 (name ++ 40 ∷ rest) some)
          ∙ ap (λ n. is_symbol symbols.Open (record { text = take n (name ++ 40 ∷ rest); start = 0 })) long
          ∙ ap (λ word. is_symbol symbols.Open (record { text = word; start = 0 })) (take-append_seam name (40 ∷ rest))
          ∙ ap (λ s. same_symbol symbols.Open s) is_name

      no-open : is_next symbols.Open (tokens (fact_text schema fact)) ≡ false
      no-open =
          ap (λ text. is_next symbols.Open (tokens text)) text-parts
          ∙ first-symbol (name_of schema fact) behind_name (identifier (name_of schema fact) name-proper)
          ((valid-names schema valid).relations fact.relation known-relation).0.no_keyword

      later-next : (ts : List Token) → is_next symbols.Open (map later ts) ≡ is_next symbols.Open ts
      later-next [] = refl
      later-next (t ∷ ts) = refl

      states-by : (text : Text) → is_next symbols.Open (tokens text) ≡ false → reading schema text ≡ Ok (atom_of schema fact)
          → stated_fact schema text ≡ Some fact
      unfolding stated_fact
      states-by text none read =
          (λ i. if none i then None else fact_read (read i)) ∙ fact-back

      pub states : stated_fact schema (fact_text schema fact) ≡ Some fact
      states = states-by (fact_text schema fact) no-open reads

      pub states-behind : stated_fact schema (32 ∷ fact_text schema fact) ≡ Some fact
      states-behind =
          states-by (32 ∷ fact_text schema fact)
          (ap (is_next symbols.Open) (tokens-behind schema (fact_text schema fact)) ∙ later-next (tokens (fact_text schema fact)) ∙ no-open)
          (read-behind schema sentences_read reading-sound (fact_text schema fact) (atom_of schema fact) reads)
