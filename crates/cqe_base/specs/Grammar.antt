-- The grammar of sentences, as a relation between tokens and formulas.
use Rattle.std.specs.Prelude.{◌≡◌, ◌<◌, ℕ, suc, List, [], ◌∷◌, length, Some, Ok}
use Rattle.cqe_base.specs.declared.sentence.Term.{Term}
use Rattle.cqe_base.specs.declared.text.Symbol.{Symbol}
use Rattle.cqe_base.specs.declared.text.Symbol.TheVariants as symbols
use Rattle.cqe_base.specs.Formula.{Formula, verum, falsum, atom, equality, inequality, negation}
use Rattle.cqe_base.specs.Formula.{conjunction, disjunction, implication, biconditional, universal}
use Rattle.cqe_base.specs.Formula.{existential}
use Rattle.cqe_base.specs.Schema.{DatabaseSchema, Text, domain_named, relation_named}
use Rattle.cqe_base.specs.Tokens.{Token, tokens, end_of_tokens, symbol_of}
use Rattle.cqe_base.specs.Reading.{Scope, column_domains, term_named, reading}
use Rattle.cqe_base.specs.Reading.{greatest_nested_quantifiers, greatest_enclosing_constructs}

-- the parts of a sentence, from the tightest to the loosest
pub data Part : Type 0 where
  unary both either conditional whole : Part

-- a token is this symbol
abbrev pub IsSymbol : Symbol → Token → Type 0
IsSymbol s t = symbol_of t.text ≡ s

-- the token is a name that stands for this term, of this domain
pub record IsTerm (schema : DatabaseSchema) (scope : Scope) (t : Token) (a : Term) (domain : ℕ) :
    Type 0 where
  pub is_name : IsSymbol symbols.Name t
  pub stands_for : term_named schema scope t.text ≡ Some (record { term = a; domain = domain })

-- The tokens begin with the terms of these columns and a `)`, and `rest` follows.
pub data Columns (schema : DatabaseSchema) (scope : Scope) : List ℕ → List Token → List Term
    → List Token → Type 0 where
  no_column : {close : Token} {rest : List Token} → IsSymbol symbols.Close close
      → Columns schema scope [] (close ∷ rest) [] rest
  last_column : {d : ℕ} {t close : Token} {a : Term} {rest : List Token} → IsTerm schema scope t a d
      → IsSymbol symbols.Close close
      → Columns schema scope (d ∷ []) (t ∷ close ∷ rest) (a ∷ []) rest
  next_column : {d e : ℕ} {ds : List ℕ} {t comma : Token} {a : Term} {ts rest : List Token}
      {others : List Term} → IsTerm schema scope t a d → IsSymbol symbols.Comma comma
      → Columns schema scope (e ∷ ds) ts others rest
      → Columns schema scope (d ∷ e ∷ ds) (t ∷ comma ∷ ts) (a ∷ others) rest

-- A quantified sentence ends only before a `)` or where the tokens end.
abbrev pub MayEndQuantified : List Token → Type 0
MayEndQuantified [] = Unit {0}
MayEndQuantified (t ∷ ts) = IsSymbol symbols.Close t

-- `forall x: d .` or `exists x: d .`, by its five tokens, where fewer than eight quantifiers
-- enclose it
pub record IsQuantifier (schema : DatabaseSchema) (scope : Scope) (s : Symbol) (q x c d p : Token)
    (domain : ℕ) : Type 0 where
  pub opens : IsSymbol s q
  pub variable : IsSymbol symbols.Name x
  pub colon : IsSymbol symbols.Colon c
  pub is_name : IsSymbol symbols.Name d
  pub stands_for : domain_named schema d.text ≡ Some domain
  pub dot : IsSymbol symbols.Dot p
  pub not_too_deep : length scope < greatest_nested_quantifiers

-- Within these quantifiers the tokens begin with such a part, which means the formula, and `rest`
-- follows.
-- The number says how many constructs may still be opened.
pub data Begins (schema : DatabaseSchema) : Part → ℕ → Scope → List Token → Formula → List Token
    → Type 0 where
  is_true : {room : ℕ} {scope : Scope} {t : Token} {rest : List Token} → IsSymbol symbols.True t
      → Begins schema unary room scope (t ∷ rest) verum rest
  is_false : {room : ℕ} {scope : Scope} {t : Token} {rest : List Token} → IsSymbol symbols.False t
      → Begins schema unary room scope (t ∷ rest) falsum rest
  is_atom : {room : ℕ} {scope : Scope} {t open_ : Token} {ts rest : List Token} {relation : ℕ}
      {terms : List Term} → IsSymbol symbols.Name t → IsSymbol symbols.Open open_
      → relation_named schema t.text ≡ Some relation
      → Columns schema scope (column_domains schema relation) ts terms rest
      → Begins schema unary room scope (t ∷ open_ ∷ ts) (atom relation terms) rest
  is_equal : {room : ℕ} {scope : Scope} {t sign u : Token} {rest : List Token} {a b : Term}
      {domain : ℕ} → IsTerm schema scope t a domain → IsSymbol symbols.Equal sign
      → IsTerm schema scope u b domain
      → Begins schema unary room scope (t ∷ sign ∷ u ∷ rest) (equality a b) rest
  is_differs : {room : ℕ} {scope : Scope} {t sign u : Token} {rest : List Token} {a b : Term}
      {domain : ℕ} → IsTerm schema scope t a domain → IsSymbol symbols.Differs sign
      → IsTerm schema scope u b domain
      → Begins schema unary room scope (t ∷ sign ∷ u ∷ rest) (inequality a b) rest
  is_not : {room : ℕ} {scope : Scope} {t : Token} {ts rest : List Token} {a : Formula}
      → IsSymbol symbols.Not t → Begins schema unary room scope ts a rest
      → Begins schema unary (suc room) scope (t ∷ ts) (negation a) rest
  in_parentheses :
      {room : ℕ} {scope : Scope} {open_ close : Token} {ts rest : List Token} {a : Formula}
      → IsSymbol symbols.Open open_ → Begins schema whole room scope ts a (close ∷ rest)
      → IsSymbol symbols.Close close
      → Begins schema unary (suc room) scope (open_ ∷ ts) a rest
  is_forall : {room : ℕ} {scope : Scope} {q x colon d dot : Token} {ts rest : List Token}
      {domain : ℕ} {a : Formula} → IsQuantifier schema scope symbols.Forall q x colon d dot domain
      → Begins schema whole room (record { variable = x.text; domain = domain } ∷ scope) ts a rest
      → MayEndQuantified rest
      → Begins schema unary (suc room) scope (q ∷ x ∷ colon ∷ d ∷ dot ∷ ts)
      (universal domain a) rest
  is_exists : {room : ℕ} {scope : Scope} {q x colon d dot : Token} {ts rest : List Token}
      {domain : ℕ} {a : Formula} → IsQuantifier schema scope symbols.Exists q x colon d dot domain
      → Begins schema whole room (record { variable = x.text; domain = domain } ∷ scope) ts a rest
      → MayEndQuantified rest
      → Begins schema unary (suc room) scope (q ∷ x ∷ colon ∷ d ∷ dot ∷ ts)
      (existential domain a) rest
  -- `and` and `or` group to the left
  one_and : {room : ℕ} {scope : Scope} {ts rest : List Token} {a : Formula}
      → Begins schema unary room scope ts a rest → Begins schema both room scope ts a rest
  more_and : {room : ℕ} {scope : Scope} {t : Token} {ts us rest : List Token} {a b : Formula}
      → Begins schema both room scope ts a (t ∷ us) → IsSymbol symbols.And t
      → Begins schema unary room scope us b rest
      → Begins schema both room scope ts (conjunction a b) rest
  one_or : {room : ℕ} {scope : Scope} {ts rest : List Token} {a : Formula}
      → Begins schema both room scope ts a rest → Begins schema either room scope ts a rest
  more_or : {room : ℕ} {scope : Scope} {t : Token} {ts us rest : List Token} {a b : Formula}
      → Begins schema either room scope ts a (t ∷ us) → IsSymbol symbols.Or t
      → Begins schema both room scope us b rest
      → Begins schema either room scope ts (disjunction a b) rest
  -- `->` groups to the right, and what stands to its right is one construct further in
  no_arrow : {room : ℕ} {scope : Scope} {ts rest : List Token} {a : Formula}
      → Begins schema either room scope ts a rest → Begins schema conditional room scope ts a rest
  one_arrow : {room : ℕ} {scope : Scope} {t : Token} {ts us rest : List Token} {a b : Formula}
      → Begins schema either (suc room) scope ts a (t ∷ us) → IsSymbol symbols.Arrow t
      → Begins schema conditional room scope us b rest
      → Begins schema conditional (suc room) scope ts (implication a b) rest
  -- `<->` doesn't chain
  no_double_arrow : {room : ℕ} {scope : Scope} {ts rest : List Token} {a : Formula}
      → Begins schema conditional room scope ts a rest → Begins schema whole room scope ts a rest
  one_double_arrow :
      {room : ℕ} {scope : Scope} {t : Token} {ts us rest : List Token} {a b : Formula}
      → Begins schema conditional room scope ts a (t ∷ us) → IsSymbol symbols.DoubleArrow t
      → Begins schema conditional room scope us b rest
      → Begins schema whole room scope ts (biconditional a b) rest

-- the tokens are a sentence, which means the formula
abbrev pub Derives : DatabaseSchema → List Token → Formula → Type 0
Derives schema ts a = Begins schema whole greatest_enclosing_constructs [] ts a []

-- the text is a sentence, which means the formula
pub record IsSentence (schema : DatabaseSchema) (text : Text) (a : Formula) : Type 0 where
  -- no byte begins no token
  pub no_bad_character : end_of_tokens text ≡ length text
  pub derives : Derives schema (tokens text) a

-- a text that reads is a sentence of the grammar
abbrev pub ReadingsAreDerived : Type 0
ReadingsAreDerived =
    (schema : DatabaseSchema) (text : Text) (sentence : Formula) → reading schema text ≡ Ok sentence
    → IsSentence schema text sentence
