-- A sentence reads alike with a blank before it: each of its tokens stands one place further on.
use Rattle.std.proofs.Common.{◌≡◌, ℕ, zero, suc, ◌+◌, ◌-◌, Bool, true, false, List, [], ◌∷◌, map, length, take, refl, sym, ap, subst, ◌∙◌, add-one}
use Rattle.std.specs.Prelude.{◌==◌, ◌&&◌, not, Ok, if◌then◌else◌}
use Rattle.cqe_base.specs.declared.text.Symbol.{Symbol}
use Rattle.cqe_base.specs.declared.sentence.Term.{Term}
use Rattle.cqe_base.specs.Formula.{Formula}
use Rattle.cqe_base.specs.Schema.{DatabaseSchema, Text}
use Rattle.cqe_base.specs.Tokens.{Token, tokens, tokens_from, end_from, end_of_tokens, token_length, is_blank}
use Rattle.cqe_base.specs.Reading.{Scope, reading, greatest_enclosing_constructs}
use Rattle.cqe_base.specs.Grammar.{Part, whole, IsTerm, Columns, no_column, last_column, next_column, MayEndQuantified, IsQuantifier, Begins}
use Rattle.cqe_base.specs.Grammar.{is_true, is_false, is_atom, is_equal, is_differs, is_not, in_parentheses, is_forall, is_exists, one_and, more_and, one_or}
use Rattle.cqe_base.specs.Grammar.{more_or, no_arrow, one_arrow, no_double_arrow, one_double_arrow, ReadingsAreDerived}
use Rattle.sentence_text.specs.Laws.{SentencesRead}
use Rattle.sentence_text.proofs.TokenLaws.{blank-tokens, blank-end}

-- a token one place further on
abbrev pub later : Token → Token
later t = record { text = t.text; start = t.start + 1 }

tokens-later : (place inside : ℕ) (text : Text) → tokens_from (place + 1) inside text ≡ map later (tokens_from place inside text)
unfolding tokens_from
tokens-later place zero [] = refl
tokens-later place (suc inside) [] = refl
tokens-later place (suc inside) (b ∷ text) = tokens-later (place + 1) inside text
tokens-later place zero (b ∷ text) =
    by (is_blank b) (token_length (b ∷ text) == 0) (tokens_from (place + 1) (token_length (b ∷ text) - 1) text)
    (tokens_from (place + 1 + 1) (token_length (b ∷ text) - 1) text) (tokens-later (place + 1) (token_length (b ∷ text) - 1) text)
  where
    by : (blank none : Bool) (others moved : List Token) → moved ≡ map later others
        → (if blank then moved else if none then [] else record { text = take (token_length (b ∷ text)) (b ∷ text); start = place + 1 } ∷ moved)
        ≡ map later (if blank then others else if none then [] else record { text = take (token_length (b ∷ text)) (b ∷ text); start = place } ∷ others)
    by true none others moved is = is
    by false true others moved is = refl
    by false false others moved is = ap (λ ts. record { text = take (token_length (b ∷ text)) (b ∷ text); start = place + 1 } ∷ ts) is

end-later : (place inside : ℕ) (text : Text) → end_from (place + 1) inside text ≡ end_from place inside text + 1
unfolding end_from
end-later place zero [] = refl
end-later place (suc inside) [] = refl
end-later place (suc inside) (b ∷ text) = end-later (place + 1) inside text
end-later place zero (b ∷ text) =
    by (not (is_blank b) && (token_length (b ∷ text) == 0)) (end_from (place + 1) (token_length (b ∷ text) - 1) text)
    (end_from (place + 1 + 1) (token_length (b ∷ text) - 1) text) (end-later (place + 1) (token_length (b ∷ text) - 1) text)
  where
    by : (here : Bool) (end moved : ℕ) → moved ≡ end + 1 → (if here then place + 1 else moved) ≡ (if here then place else end) + 1
    by true end moved is = refl
    by false end moved is = is

module _ (schema : DatabaseSchema) where
  later-term : {scope : Scope} {t : Token} {a : Term} {domain : ℕ} → IsTerm schema scope t a domain → IsTerm schema scope (later t) a domain
  later-term is = record { is_name = is.is_name; stands_for = is.stands_for }

  later-columns : {scope : Scope} {ds : List ℕ} {ts rest : List Token} {terms : List Term} → Columns schema scope ds ts terms rest
      → Columns schema scope ds (map later ts) terms (map later rest)
  later-columns (no_column close) = no_column close
  later-columns (last_column term close) = last_column (later-term term) close
  later-columns (next_column term comma others) = next_column (later-term term) comma (later-columns others)

  later-quantifier : {scope : Scope} {s : Symbol} {q x c d p : Token} {domain : ℕ} → IsQuantifier schema scope s q x c d p domain
      → IsQuantifier schema scope s (later q) (later x) (later c) (later d) (later p) domain
  later-quantifier is = record {
    opens = is.opens;
    variable = is.variable;
    colon = is.colon;
    is_name = is.is_name;
    stands_for = is.stands_for;
    dot = is.dot;
    not_too_deep = is.not_too_deep;
  }

  later-end : (ts : List Token) → MayEndQuantified ts → MayEndQuantified (map later ts)
  later-end [] may = tt
  later-end (t ∷ ts) may = may

  later-begins : {part : Part} {room : ℕ} {scope : Scope} {ts rest : List Token} {a : Formula} → Begins schema part room scope ts a rest
      → Begins schema part room scope (map later ts) a (map later rest)
  later-begins (is_true is) = is_true is
  later-begins (is_false is) = is_false is
  later-begins (is_atom is opens relation columns) = is_atom is opens relation (later-columns columns)
  later-begins (is_equal a is b) = is_equal (later-term a) is (later-term b)
  later-begins (is_differs a is b) = is_differs (later-term a) is (later-term b)
  later-begins (is_not is a) = is_not is (later-begins a)
  later-begins (in_parentheses opens a closes) = in_parentheses opens (later-begins a) closes
  later-begins (is_forall {rest = rest} is a may) = is_forall (later-quantifier is) (later-begins a) (later-end rest may)
  later-begins (is_exists {rest = rest} is a may) = is_exists (later-quantifier is) (later-begins a) (later-end rest may)
  later-begins (one_and a) = one_and (later-begins a)
  later-begins (more_and a is b) = more_and (later-begins a) is (later-begins b)
  later-begins (one_or a) = one_or (later-begins a)
  later-begins (more_or a is b) = more_or (later-begins a) is (later-begins b)
  later-begins (no_arrow a) = no_arrow (later-begins a)
  later-begins (one_arrow a is b) = one_arrow (later-begins a) is (later-begins b)
  later-begins (no_double_arrow a) = no_double_arrow (later-begins a)
  later-begins (one_double_arrow a is b) = one_double_arrow (later-begins a) is (later-begins b)

  -- the tokens behind a blank
  pub tokens-behind : (text : Text) → tokens (32 ∷ text) ≡ map later (tokens text)
  tokens-behind text = blank-tokens 0 32 text refl ∙ tokens-later 0 0 text

  -- a sentence with a blank before it
  pub read-behind : SentencesRead → ReadingsAreDerived → (text : Text) (sentence : Formula) → reading schema text ≡ Ok sentence
      → reading schema (32 ∷ text) ≡ Ok sentence
  read-behind read derived text sentence is =
      let before = derived schema text sentence is in
      let end : end_of_tokens (32 ∷ text) ≡ length (32 ∷ text) =
      blank-end 0 32 text refl ∙ end-later 0 0 text ∙ ap (λ n. n + 1) before.no_bad_character ∙ add-one (length text) in
      read schema (32 ∷ text) sentence (record {
        no_bad_character = end;
        derives = subst (λ ts. Begins schema whole greatest_enclosing_constructs [] ts sentence []) (sym (tokens-behind text)) (later-begins before.derives);
      })
