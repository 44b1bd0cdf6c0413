-- What is read is in the grammar, and what is in the grammar is read.
use Rattle.std.proofs.Common.{◌≡◌, ℕ, suc, ◌<◌, Bool, true, false, List, [], ◌∷◌, length, Option, Some, Ok, refl, ◌∙◌, arith}
use Rattle.std.specs.Prelude.{◌==◌, nat_lt}
use Rattle.std.proofs.lemmas.Bool.Decides.{nat_tests}
use Rattle.cqe_base.specs.declared.sentence.Term.{Term}
use Rattle.cqe_base.specs.declared.text.Symbol.{Symbol}
use Rattle.cqe_base.specs.declared.text.Symbol.TheVariants as symbols
use Rattle.cqe_base.specs.Reading.{column_domains, Refusal}
use Rattle.cqe_base.specs.Formula.{Formula, atom, equality, inequality, conjunction, disjunction, implication, biconditional, universal, existential}
use Rattle.cqe_base.specs.Schema.{DatabaseSchema, domain_named, relation_named}
use Rattle.cqe_base.specs.Tokens.{Token, same_symbol}
use Rattle.cqe_base.specs.Reading
use Rattle.cqe_base.specs.Reading.{Reader, Scope, Level, is_symbol, is_next, chain}
use Rattle.cqe_base.specs.Grammar.{Part, unary, both, either, conditional, whole, IsSymbol, IsTerm}
use Rattle.cqe_base.specs.Grammar.{Columns, no_column, last_column, next_column, MayEndQuantified}
use Rattle.cqe_base.specs.Grammar.{IsQuantifier, Begins, is_true, is_false, is_atom, is_equal, is_differs, is_not, in_parentheses, is_forall, is_exists}
use Rattle.cqe_base.specs.Grammar.{one_and, more_and, one_or, more_or, no_arrow, one_arrow, no_double_arrow, one_double_arrow}
use Rattle.sentence_text.proofs.Operands.{ChainGoesOn, chain-done, chain-more, both-begins, either-begins}

-- a symbol is itself
same_symbol-self : (s : Symbol) → same_symbol s s ≡ true
same_symbol-self s = grind (arith, nat_tests)

is_symbol-yes : (s : Symbol) (t : Token) → IsSymbol s t → is_symbol s t ≡ true
is_symbol-yes s t h = rw h (same_symbol-self s)

below_eight : (n : ℕ) → n < 8 → nat_lt n 8 ≡ true
below_eight n h = grind (arith, nat_tests)

module _ (schema : DatabaseSchema) (end : Refusal) where
  -- each part takes a token
  pub columns-shorter : {scope : Scope} {ds : List ℕ} {ts rest : List Token} {terms : List Term} → Columns schema scope ds ts terms rest
      → length rest < length ts
  columns-shorter (no_column c) = omega arith
  columns-shorter (last_column t c) = omega arith
  columns-shorter (next_column t c others) = omega (arith, columns-shorter others)

  pub begins-shorter : {part : Part} {room : ℕ} {scope : Scope} {ts rest : List Token} {a : Formula} → Begins schema part room scope ts a rest
      → length rest < length ts
  begins-shorter (is_true t) = omega arith
  begins-shorter (is_false t) = omega arith
  begins-shorter (is_atom t o r c) = omega (arith, columns-shorter c)
  begins-shorter (is_equal t s u) = omega arith
  begins-shorter (is_differs t s u) = omega arith
  begins-shorter (is_not t a) = omega (arith, begins-shorter a)
  begins-shorter (in_parentheses o a c) = omega (arith, begins-shorter a)
  begins-shorter (is_forall q a e) = omega (arith, begins-shorter a)
  begins-shorter (is_exists q a e) = omega (arith, begins-shorter a)
  begins-shorter (one_and a) = begins-shorter a
  begins-shorter (more_and a t b) = omega (arith, begins-shorter a, begins-shorter b)
  begins-shorter (one_or a) = begins-shorter a
  begins-shorter (more_or a t b) = omega (arith, begins-shorter a, begins-shorter b)
  begins-shorter (no_arrow a) = begins-shorter a
  begins-shorter (one_arrow a t b) = omega (arith, begins-shorter a, begins-shorter b)
  begins-shorter (no_double_arrow a) = begins-shorter a
  begins-shorter (one_double_arrow a t b) = omega (arith, begins-shorter a, begins-shorter b)

  name-read : {scope : Scope} {t : Token} {a : Term} {d : ℕ} (rest : List Token) → IsTerm schema scope t a d
      → Reading.term_of schema end scope d (t ∷ rest) ≡ Ok (a, rest)
  unfolding Reading.term_of Reading.name
  name-read {scope} {t} {a} {d} rest h = let same : (d == d) ≡ true = grind (arith, nat_tests) in rw (h.is_name, h.stands_for, same) refl

  columns-read : {scope : Scope} {ds : List ℕ} {ts rest : List Token} {terms : List Term} → Columns schema scope ds ts terms rest → 0 < length ds
      → Reading.columns schema end scope ds ts ≡ Ok (terms, rest)
  unfolding Reading.columns Reading.after_column
  columns-read (no_column c) some = absurd (omega arith)
  columns-read (last_column {close = close} {rest = rest} t c) some = rw (name-read (close ∷ rest) t, c) refl
  columns-read (next_column {comma = comma} {ts = ts} t c others) some = rw (name-read (comma ∷ ts) t, c, columns-read others (omega arith)) refl

  arguments-read : {scope : Scope} {ds : List ℕ} {ts rest : List Token} {terms : List Term} → Columns schema scope ds ts terms rest
      → Reading.arguments schema end scope ds ts ≡ Ok (terms, rest)
  unfolding Reading.arguments Reading.no_columns Reading.some_columns
  arguments-read (no_column c) = rw c refl
  arguments-read (last_column t c) = rw t.is_name (columns-read (last_column t c) (omega arith))
  arguments-read (next_column t c others) = rw t.is_name (columns-read (next_column t c others) (omega arith))

  module _ (scope : Scope) (t : Token) where
    atom-read : (open_ : Token) {ts rest : List Token} {relation : ℕ} {terms : List Term} → relation_named schema t.text ≡ Some relation
        → Columns schema scope (column_domains schema relation) ts terms rest
        → Reading.relation_atom schema end scope t (open_ ∷ ts) ≡ Ok (atom relation terms, rest)
    unfolding Reading.relation_atom
    atom-read open_ r c = rw (r, arguments-read c) refl

    comparison-read : (sign u : Token) {a b : Term} {domain : ℕ} (rest : List Token) (compare : Term → Term → Formula) → IsTerm schema scope t a domain
        → IsTerm schema scope u b domain
        → Reading.comparison_sign schema end (sign ∷ u ∷ rest) ≡ Ok (compare, u ∷ rest)
        → Reading.comparison schema end scope t (sign ∷ u ∷ rest) ≡ Ok (compare a b, rest)
    unfolding Reading.comparison
    comparison-read sign u rest compare t u' s = rw (t.stands_for, s, name-read rest u') refl

    named-relation : (open_ : Token) (ts : List Token) → IsSymbol symbols.Open open_
        → Reading.named schema end scope t (open_ ∷ ts) ≡ Reading.relation_atom schema end scope t (open_ ∷ ts)
    unfolding Reading.named
    named-relation open_ ts h = rw (h, Reading.named) refl

    named-term : (sign : Token) (ts : List Token) (s : Symbol) → IsSymbol s sign → same_symbol symbols.Open s ≡ false
        → Reading.named schema end scope t (sign ∷ ts) ≡ Reading.comparison schema end scope t (sign ∷ ts)
    unfolding Reading.named
    named-term sign ts s h other = rw (h, other, Reading.named) refl

  equals-sign : (sign : Token) (ts : List Token) → IsSymbol symbols.Equal sign → Reading.comparison_sign schema end (sign ∷ ts) ≡ Ok (equality, ts)
  unfolding Reading.comparison_sign
  equals-sign sign ts h = rw h refl

  differs-sign : (sign : Token) (ts : List Token) → IsSymbol symbols.Differs sign → Reading.comparison_sign schema end (sign ∷ ts) ≡ Ok (inequality, ts)
  unfolding Reading.comparison_sign
  differs-sign sign ts h = rw h refl

  abbrev pub unary_reader : ℕ → Scope → Reader Formula
  unary_reader room scope = Reading.unary schema end (Reading.inside schema end room) scope

  -- no connective follows that a part would take
  pub record EndsPart (rest : List Token) : Type 0 where
    pub no_and : is_next symbols.And rest ≡ false
    pub no_or : is_next symbols.Or rest ≡ false
    pub no_arrow_next : is_next symbols.Arrow rest ≡ false

  next-is : (s other : Symbol) (t : Token) (ts : List Token) (b : Bool) → IsSymbol other t → same_symbol s other ≡ b → is_next s (t ∷ ts) ≡ b
  next-is s other t ts b h e = rw h e

  -- a token that isn't such a connective ends a part
  ends-at : (other : Symbol) (t : Token) (ts : List Token) → IsSymbol other t → same_symbol symbols.And other ≡ false → same_symbol symbols.Or other ≡ false
      → same_symbol symbols.Arrow other ≡ false → EndsPart (t ∷ ts)
  ends-at other t ts h a o r =
      record {
        no_and = next-is symbols.And other t ts false h a;
        no_or = next-is symbols.Or other t ts false h o;
        no_arrow_next =
            next-is symbols.Arrow other t ts false h r;
      }

  ends-quantified : (rest : List Token) → MayEndQuantified rest → EndsPart rest × (is_next symbols.DoubleArrow rest ≡ false)
  ends-quantified [] h = (record { no_and = refl; no_or = refl; no_arrow_next = refl }, refl)
  ends-quantified (t ∷ ts) h = (ends-at symbols.Close t ts h refl refl refl, next-is symbols.DoubleArrow symbols.Close t ts false h refl)

  ends_quantified-read : (rest : List Token) → MayEndQuantified rest → Reading.ends_quantified schema end rest ≡ Ok rest
  unfolding Reading.ends_quantified
  ends_quantified-read [] h = refl
  ends_quantified-read (t ∷ ts) h = rw h refl

  pass-read : (s : Symbol) (t : Token) (ts : List Token) → IsSymbol s t → Reading.pass schema end s (t ∷ ts) ≡ Ok ts
  unfolding Reading.pass
  pass-read s t ts h = rw (next-is s s t ts true h (same_symbol-self s)) refl

  name_token-read : (t : Token) (ts : List Token) → IsSymbol symbols.Name t → Reading.name schema end (t ∷ ts) ≡ Ok (t, ts)
  unfolding Reading.name
  name_token-read t ts h = rw h refl

  domain-read : (t : Token) (ts : List Token) (d : ℕ) → IsSymbol symbols.Name t → domain_named schema t.text ≡ Some d
      → Reading.domain schema end (t ∷ ts) ≡ Ok (d, ts)
  unfolding Reading.domain
  domain-read t ts d h e = rw (name_token-read t ts h, e) refl

  quantified-read : (quantifier : ℕ → Formula → Formula) (room : ℕ) (scope : Scope) (s : Symbol) (q x c d p : Token) (domain : ℕ) (ts rest : List Token)
      (a : Formula) → IsQuantifier schema scope s q x c d p domain
      → Reading.sentence schema end (Reading.level_with schema end (Reading.inside schema end room)) (record {
        variable =
            x.text;
        domain = domain;
      } ∷ scope) ts ≡ Ok (a, rest) → MayEndQuantified rest
      → Reading.quantified schema end quantifier (Reading.inside schema end (suc room)) scope q (x ∷ c ∷ d ∷ p ∷ ts) ≡ Ok (quantifier domain a, rest)
  unfolding Reading.quantified Reading.inside
  quantified-read quantifier room scope s q x c d p domain ts rest a h body ends =
      let few : nat_lt (length scope) 8 ≡ true = below_eight (length scope) h.not_too_deep in
      rw (
        few,
        name_token-read x (c ∷ d ∷ p ∷ ts) h.variable,
        pass-read symbols.Colon c (d ∷ p ∷ ts) h.colon,
        domain-read d (p ∷ ts) domain h.is_name h.stands_for,
        pass-read symbols.Dot p ts h.dot,
        body,
        ends_quantified-read rest ends,
      ) refl

  implying-none : (inner : Option Level) (scope : Scope) (a : Formula) (rest : List Token) → is_next symbols.Arrow rest ≡ false
      → Reading.implying schema end inner scope a rest ≡ Ok (a, rest)
  unfolding Reading.implying
  implying-none inner scope a [] h = refl
  implying-none inner scope a (t ∷ ts) h = rw (h, Reading.implying) refl

  implying-arrow : (inner : Level) (scope : Scope) (a b : Formula) (t : Token) (us rest : List Token) → IsSymbol symbols.Arrow t
      → inner.conditional scope us ≡ Ok (b, rest) → Reading.implying schema end (Some inner) scope a (t ∷ us) ≡ Ok (implication a b, rest)
  unfolding Reading.implying
  implying-arrow inner scope a b t us rest h right = rw (h, Reading.implying, right) refl

  sentence-none : (level : Level) (scope : Scope) (a : Formula) (ts rest : List Token) → level.conditional scope ts ≡ Ok (a, rest)
      → is_next symbols.DoubleArrow rest ≡ false → Reading.sentence schema end level scope ts ≡ Ok (a, rest)
  unfolding Reading.sentence Reading.equivalent_to
  sentence-none level scope a ts rest left h = rw (left, Reading.equivalent_to, h) refl

  sentence-double : (level : Level) (scope : Scope) (a b : Formula) (t : Token) (ts us rest : List Token) → level.conditional scope ts ≡ Ok (a, t ∷ us)
      → IsSymbol symbols.DoubleArrow t → level.conditional scope us ≡ Ok (b, rest)
      → Reading.sentence schema end level scope ts ≡ Ok (biconditional a b, rest)
  unfolding Reading.sentence Reading.equivalent_to
  sentence-double level scope a b t ts us rest left h right = rw (left, h, Reading.equivalent_to, right) refl

  abbrev pub Complete : Part → ℕ → Scope → List Token → Formula → List Token → Type 0
  Complete unary room scope ts a rest = unary_reader room scope ts ≡ Ok (a, rest)
  Complete both room scope ts a rest = ChainGoesOn symbols.And conjunction (unary_reader room scope) a rest (Reading.both (unary_reader room scope) ts)
  Complete either room scope ts a rest = is_next symbols.And rest ≡ false
      → ChainGoesOn symbols.Or disjunction (Reading.both (unary_reader room scope)) a rest (Reading.either (unary_reader room scope) ts)
  Complete conditional room scope ts a rest = EndsPart rest → Reading.conditional schema end (Reading.inside schema end room) scope ts ≡ Ok (a, rest)
  Complete whole room scope ts a rest = EndsPart rest → is_next symbols.DoubleArrow rest ≡ false
      → Reading.sentence schema end (Reading.level_with schema end (Reading.inside schema end room)) scope ts ≡ Ok (a, rest)

  pub complete : {part : Part} {room : ℕ} {scope : Scope} {ts rest : List Token} {a : Formula} → Begins schema part room scope ts a rest
      → Complete part room scope ts a rest
  unfolding Reading.unary Reading.unary_by Reading.inside Reading.conditional
  complete (is_true t) = rw t refl
  complete (is_false t) = rw t refl
  complete (is_atom {scope = scope} {t = t} {open_ = open_} {ts = ts} h o r c) = rw h (named-relation scope t open_ ts o ∙ atom-read scope t open_ r c)
  complete (is_equal {scope = scope} {t = t} {sign = sign} {u = u} {rest = rest} h s b) =
      rw h.is_name (named-term scope t sign (u ∷ rest) symbols.Equal s refl ∙ comparison-read scope t sign u rest equality h b (equals-sign sign (u ∷ rest) s))
  complete (is_differs {scope = scope} {t = t} {sign = sign} {u = u} {rest = rest} h s b) =
      rw h.is_name (named-term scope t sign (u ∷ rest) symbols.Differs s refl
      ∙ comparison-read scope t sign u rest inequality h b (differs-sign sign (u ∷ rest) s))
  complete (is_not t a) = rw (t, complete a) refl
  complete (in_parentheses {open_ = open_} {close = close} {rest = rest} o a c) =
      rw (
        o,
        complete a (ends-at symbols.Close close rest c refl refl refl) (next-is symbols.DoubleArrow symbols.Close close rest false c refl),
        pass-read symbols.Close close rest c,
      ) refl
  complete (is_forall {rest =
      rest} q a e) = rw q.opens (quantified-read universal _ _ symbols.Forall _ _ _ _ _ _ _ rest _ q (let f = ends-quantified rest e in complete a f.0 f.1) e)
  complete (is_exists {rest =
      rest} q a e) = rw q.opens (quantified-read existential _ _ symbols.Exists _ _ _ _ _ _ _ rest _ q (let f = ends-quantified rest e in complete a f.0 f.1) e)
  complete (one_and a) = both-begins _ _ _ _ (complete a)
  complete (more_and {t = t} {us = us} a h b) =
      chain-more symbols.And conjunction _ _ _ _ (next-is symbols.And symbols.And t us true h refl) _ _ (complete b) (omega (arith, begins-shorter b))
      (complete a)
  complete (one_or a) = λ no_and. either-begins _ _ _ _ (chain-done symbols.And conjunction _ _ _ _ no_and (complete a))
  complete (more_or {t = t} {us = us} a h b) = λ no_and.
      chain-more symbols.Or disjunction _ _ _ _ (next-is symbols.Or symbols.Or t us true h refl) _ _
      (chain-done symbols.And conjunction _ _ _ _ no_and (complete b)) (omega (arith, begins-shorter b))
      (complete a (next-is symbols.And symbols.Or t us false h refl))
  complete (no_arrow {room = room} {scope = scope} {ts = ts} {rest = rest} {a = a} left) = λ e.
      rw (chain-done symbols.Or disjunction (Reading.both (unary_reader room scope)) a rest (Reading.either (unary_reader room scope) ts) e.no_or
      (complete left e.no_and)) (implying-none (Reading.inside schema end room) scope a rest e.no_arrow_next)
  complete (one_arrow {room = room} {scope = scope} {t = t} {ts = ts} {us = us} {rest = rest} {a = a} {b = b} left h right) = λ e.
      rw (chain-done symbols.Or disjunction (Reading.both (unary_reader (suc room) scope)) a (t ∷ us) (Reading.either (unary_reader (suc room) scope) ts)
      (next-is symbols.Or symbols.Arrow t us false h refl) (complete left (next-is symbols.And symbols.Arrow t us false h refl)))
      (implying-arrow (Reading.level_with schema end (Reading.inside schema end room)) scope a b t us rest h (complete right e))
  complete (no_double_arrow left) = λ e no_double. sentence-none _ _ _ _ _ (complete left e) no_double
  complete (one_double_arrow {t = t} {us = us} left h right) =
      λ e no_double. sentence-double _ _ _ _ t _ us _ (complete left (ends-at symbols.DoubleArrow t us h refl refl refl)) h (complete right e)
