-- A canonical form is read back as the sentence that was printed.
use Rattle.std.proofs.Common.{◌≡◌, ℕ, zero, suc, ◌+◌, ◌<◌, ◌≤◌, inl, inr, true, false, List, [], ◌∷◌, ◌++◌, length, take, drop, Option, Some, None, refl, sym}
use Rattle.std.proofs.Common.{ap, subst, ◌∙◌, arith, append_assoc, length-drop, one-add}
use Rattle.std.specs.Prelude.{◌==◌, bytes_eq, codes}
use Rattle.std.specs.List.{prefix_len, list_all}
use Rattle.std.specs.Char.{is_ascii_alphabetic}
use Rattle.std.proofs.lemmas.Bool.Decides.{nat_tests}
use Rattle.std.proofs.lemmas.List.{append-nil}
use Rattle.std.proofs.Math.Seq.{take-append_seam, drop-append_seam}
use Rattle.std.proofs.lemmas.Bool.{and_parts}
use Rattle.cqe_base.specs.declared.sentence.Constant.{Constant}
use Rattle.cqe_base.specs.declared.sentence.Term.{Term}
use Rattle.cqe_base.specs.declared.sentence.Term.TheVariants as terms
use Rattle.cqe_base.specs.declared.text.Symbol.{Symbol}
use Rattle.cqe_base.specs.declared.text.Symbol.TheVariants as symbols
use Rattle.cqe_base.specs.Formula.{Formula, verum, falsum, atom, equality, inequality, negation, conjunction, disjunction, implication, biconditional}
use Rattle.cqe_base.specs.Formula.{universal, existential}
use Rattle.cqe_base.specs.Schema.{DatabaseSchema, constant_named, is_name_byte, is_identifier}
use Rattle.cqe_base.specs.Tokens.{Token, tokens_from, end_from, token_length, mark_length, symbol_of}
use Rattle.cqe_base.specs.Reading.{Scope, TypedTerm, column_domains, variable_named, term_named, or_constant}
use Rattle.cqe_base.specs.Grammar.{unary, whole, IsSymbol, IsTerm, Columns, no_column, last_column, next_column, MayEndQuantified, IsQuantifier, Begins}
use Rattle.cqe_base.specs.Grammar.{is_true, is_false, is_atom, is_equal, is_differs, is_not, in_parentheses, is_forall, is_exists, one_and, more_and, one_or}
use Rattle.cqe_base.specs.Grammar.{more_or, no_arrow, one_arrow, no_double_arrow, one_double_arrow, IsSentence}
use Rattle.cqe_base.specs.Canonical.{variable_name, domain_name, relation_name, constant_name, enclosing_constructs, term_text, terms_text, canonical_within}
use Rattle.cqe_base.specs.Canonical.{canonical}
use Rattle.cqe_base.proofs.Lists.{text_is}
use Rattle.sentence_text.proofs.ProperNames.{IsSchemaName, HasProperNames, valid-names, variable_name-digit}
use Rattle.sentence_text.proofs.WellFormed.{IsVariableOf, IsOfDomain, AreOfDomains, IsOfSchema, sentence-of_schema}
use Rattle.sentence_text.specs.Laws.{CanonicalFormsRead}
use Rattle.sentence_text.proofs.GrammarIsRead.{sentences_read}
use Rattle.sentence_text.proofs.TokenLaws.{tokens-next, end-next, token_length-ascii, blank-tokens, blank-end}

-- The text from a place on has these tokens, and the text after them.
record Lexes (p : ℕ) (x : List ℕ) (ts : List Token) (p' : ℕ) (x' : List ℕ) : Type 0 where
  tokens_are : tokens_from p 0 x ≡ ts ++ tokens_from p' 0 x'
  end_is : end_from p 0 x ≡ end_from p' 0 x'
  total : p' + length x' ≡ p + length x

then-lexes : {p p' p'' : ℕ} {x x' x'' : List ℕ} {ts us : List Token} → Lexes p x ts p' x' → Lexes p' x' us p'' x'' → Lexes p x (ts ++ us) p'' x''
then-lexes {p'' = p''} {x'' = x''} {ts = ts} {us = us} a b = record {
  tokens_are = a.tokens_are ∙ (ap (λ (rest : List Token). ts ++ rest) b.tokens_are ∙ sym (append_assoc ts us (tokens_from p'' 0 x'')));
  end_is = a.end_is ∙ b.end_is;
  total = b.total ∙ a.total;
}

blank-lexes : (p : ℕ) (x : List ℕ) → Lexes p (32 ∷ x) [] (p + 1) x
blank-lexes p x = record { tokens_are = blank-tokens p 32 x refl; end_is = blank-end p 32 x refl; total = omega arith }

-- the token at the front, by its length
token-lexes : (p n : ℕ) (x w x' : List ℕ) → token_length x ≡ n → 0 < n → take n x ≡ w → drop n x ≡ x' → Lexes p x (record {
  text =
      w;
  start = p;
} ∷ []) (p + n) x'
token-lexes p n x w x' long some front back =
    let has : 0 < token_length x = omega (arith, long) in
    record {
      tokens_are = tokens-next p x has ∙ rw (long, front, back) refl;
      end_is = end-next p x has ∙ rw (long, back) refl;
      total = omega (arith, ap length back, length-drop n x, long, (token_length-ascii x).0);
    }

-- no letter, digit or `_` follows
abbrev EndsName : List ℕ → Type 0
EndsName x = prefix_len is_name_byte x ≡ 0

all-prefix : (w x : List ℕ) → list_all is_name_byte w ≡ true → EndsName x → prefix_len is_name_byte (w ++ x) ≡ length w
all-prefix [] x h ends = ends
all-prefix (b ∷ w) x h ends = let s = and_parts (is_name_byte b) (list_all is_name_byte w) h in rw (s.0, all-prefix w x s.1 ends) (one-add (length w))

word_length : (b : ℕ) (w x : List ℕ) → is_ascii_alphabetic b ≡ true → prefix_len is_name_byte (w ++ x) ≡ length w → token_length (b ∷ (w ++ x)) ≡ length (b ∷ w)
unfolding token_length
word_length b w x letter behind = rw (letter, behind) (one-add (length w))

word-lexes : (p : ℕ) (w x : List ℕ) → is_identifier w ≡ true → EndsName x → Lexes p (w ++ x) (record { text = w; start = p } ∷ []) (p + length w) x
word-lexes p [] x h ends = absurd (cc)
word-lexes p (b ∷ w) x h ends =
    let s = and_parts (is_ascii_alphabetic b) (list_all is_name_byte w) h in
    token-lexes p (length (b ∷ w)) (b ∷ (w ++ x)) (b ∷ w) x (word_length b w x s.0 (all-prefix w x s.1 ends)) (omega arith) (take-append_seam (b ∷ w) x)
    (drop-append_seam (b ∷ w) x)

-- each mark, whatever follows
open-lexes : (p : ℕ) (x : List ℕ) → Lexes p (40 ∷ x) (record { text = codes "("; start = p } ∷ []) (p + 1) x
unfolding token_length mark_length
open-lexes p x = token-lexes p 1 (40 ∷ x) (codes "(") x refl (omega arith) refl refl

close-lexes : (p : ℕ) (x : List ℕ) → Lexes p (41 ∷ x) (record { text = codes ")"; start = p } ∷ []) (p + 1) x
unfolding token_length mark_length
close-lexes p x = token-lexes p 1 (41 ∷ x) (codes ")") x refl (omega arith) refl refl

comma-lexes : (p : ℕ) (x : List ℕ) → Lexes p (44 ∷ x) (record { text = codes ","; start = p } ∷ []) (p + 1) x
unfolding token_length mark_length
comma-lexes p x = token-lexes p 1 (44 ∷ x) (codes ",") x refl (omega arith) refl refl

colon-lexes : (p : ℕ) (x : List ℕ) → Lexes p (58 ∷ x) (record { text = codes ":"; start = p } ∷ []) (p + 1) x
unfolding token_length mark_length
colon-lexes p x = token-lexes p 1 (58 ∷ x) (codes ":") x refl (omega arith) refl refl

dot-lexes : (p : ℕ) (x : List ℕ) → Lexes p (46 ∷ x) (record { text = codes "."; start = p } ∷ []) (p + 1) x
unfolding token_length mark_length
dot-lexes p x = token-lexes p 1 (46 ∷ x) (codes ".") x refl (omega arith) refl refl

equal-lexes : (p : ℕ) (x : List ℕ) → Lexes p (61 ∷ x) (record { text = codes "="; start = p } ∷ []) (p + 1) x
unfolding token_length mark_length
equal-lexes p x = token-lexes p 1 (61 ∷ x) (codes "=") x refl (omega arith) refl refl

differs-lexes : (p : ℕ) (x : List ℕ) → Lexes p (33 ∷ 61 ∷ x) (record { text = codes "!="; start = p } ∷ []) (p + 2) x
unfolding token_length mark_length
differs-lexes p x = token-lexes p 2 (33 ∷ 61 ∷ x) (codes "!=") x refl (omega arith) refl refl

arrow-lexes : (p : ℕ) (x : List ℕ) → Lexes p (45 ∷ 62 ∷ x) (record { text = codes "->"; start = p } ∷ []) (p + 2) x
unfolding token_length mark_length
arrow-lexes p x = token-lexes p 2 (45 ∷ 62 ∷ x) (codes "->") x refl (omega arith) refl refl

double_arrow-lexes : (p : ℕ) (x : List ℕ) → Lexes p (60 ∷ 45 ∷ 62 ∷ x) (record { text = codes "<->"; start = p } ∷ []) (p + 3) x
unfolding token_length mark_length
double_arrow-lexes p x = token-lexes p 3 (60 ∷ 45 ∷ 62 ∷ x) (codes "<->") x refl (omega arith) refl refl

-- what the marks and keywords are
open-symbol : (p : ℕ) → IsSymbol symbols.Open (record { text = codes "("; start = p })
unfolding symbol_of
open-symbol p = refl

close-symbol : (p : ℕ) → IsSymbol symbols.Close (record { text = codes ")"; start = p })
unfolding symbol_of
close-symbol p = refl

comma-symbol : (p : ℕ) → IsSymbol symbols.Comma (record { text = codes ","; start = p })
unfolding symbol_of
comma-symbol p = refl

colon-symbol : (p : ℕ) → IsSymbol symbols.Colon (record { text = codes ":"; start = p })
unfolding symbol_of
colon-symbol p = refl

dot-symbol : (p : ℕ) → IsSymbol symbols.Dot (record { text = codes "."; start = p })
unfolding symbol_of
dot-symbol p = refl

equal-symbol : (p : ℕ) → IsSymbol symbols.Equal (record { text = codes "="; start = p })
unfolding symbol_of
equal-symbol p = refl

differs-symbol : (p : ℕ) → IsSymbol symbols.Differs (record { text = codes "!="; start = p })
unfolding symbol_of
differs-symbol p = refl

arrow-symbol : (p : ℕ) → IsSymbol symbols.Arrow (record { text = codes "->"; start = p })
unfolding symbol_of
arrow-symbol p = refl

double_arrow-symbol : (p : ℕ) → IsSymbol symbols.DoubleArrow (record { text = codes "<->"; start = p })
unfolding symbol_of
double_arrow-symbol p = refl

and-symbol : (p : ℕ) → IsSymbol symbols.And (record { text = codes "and"; start = p })
unfolding symbol_of
and-symbol p = refl

or-symbol : (p : ℕ) → IsSymbol symbols.Or (record { text = codes "or"; start = p })
unfolding symbol_of
or-symbol p = refl

not-symbol : (p : ℕ) → IsSymbol symbols.Not (record { text = codes "not"; start = p })
unfolding symbol_of
not-symbol p = refl

true-symbol : (p : ℕ) → IsSymbol symbols.True (record { text = codes "true"; start = p })
unfolding symbol_of
true-symbol p = refl

false-symbol : (p : ℕ) → IsSymbol symbols.False (record { text = codes "false"; start = p })
unfolding symbol_of
false-symbol p = refl

forall-symbol : (p : ℕ) → IsSymbol symbols.Forall (record { text = codes "forall"; start = p })
unfolding symbol_of
forall-symbol p = refl

exists-symbol : (p : ℕ) → IsSymbol symbols.Exists (record { text = codes "exists"; start = p })
unfolding symbol_of
exists-symbol p = refl

digit-letters : (n : ℕ) → n < 58 → 48 ≤ n → is_identifier (118 ∷ n ∷ []) ≡ true
digit-letters n lt le = grind (arith, nat_tests)

digit-symbol : (n : ℕ) → symbol_of (118 ∷ n ∷ []) ≡ symbols.Name
unfolding symbol_of
digit-symbol n = refl

variable_name-letters : (i : ℕ) → i < 8 → is_identifier (variable_name i) ≡ true
variable_name-letters i lt =
    subst (λ w. is_identifier w ≡ true) (sym (variable_name-digit i (omega arith))) (digit-letters (49 + i) (omega arith) (omega arith))

variable_name-symbol : (i : ℕ) → i < 8 → symbol_of (variable_name i) ≡ symbols.Name
variable_name-symbol i lt = subst (λ w. symbol_of w ≡ symbols.Name) (sym (variable_name-digit i (omega arith))) (digit-symbol (49 + i))

digit-other : (m n : ℕ) → (m ≡ n → ⊥) → bytes_eq (118 ∷ m ∷ []) (118 ∷ n ∷ []) ≡ false
digit-other m n other = let t : (m == n) ≡ false = grind (arith, nat_tests) in rw t refl

variable_name-other : (i j : ℕ) → i < 8 → j < 8 → (i ≡ j → ⊥) → bytes_eq (variable_name i) (variable_name j) ≡ false
variable_name-other i j lt lt' other =
    subst (λ w. bytes_eq w (variable_name j) ≡ false) (sym (variable_name-digit i (omega arith)))
    (subst (λ w. bytes_eq (118 ∷ (49 + i) ∷ []) w ≡ false) (sym (variable_name-digit j (omega arith)))
    (digit-other (49 + i) (49 + j) (λ e. other (omega arith))))

-- the scope that a canonical form makes, by the domains of its quantifiers
canonical_scope : List ℕ → Scope
canonical_scope [] = []
canonical_scope (d ∷ outer) = record { variable = variable_name (length outer); domain = d } ∷ canonical_scope outer

canonical_scope-length : (scope : List ℕ) → length (canonical_scope scope) ≡ length scope
unfolding canonical_scope
canonical_scope-length [] = refl
canonical_scope-length (d ∷ outer) = ap suc (canonical_scope-length outer)

variable-below : (scope : List ℕ) (i d : ℕ) → IsVariableOf scope i d → i < length scope
variable-below [] i d h = absurd h
variable-below (e ∷ outer) i d (inl h) = omega (arith, h.0)
variable-below (e ∷ outer) i d (inr h) = omega (arith, variable-below outer i d h)

variable-found : (scope : List ℕ) (i d : ℕ) → length scope ≤ 8 → IsVariableOf scope i d
    → variable_named (canonical_scope scope) (variable_name i) ≡ Some (record { term = terms.Place i; domain = d })
unfolding canonical_scope variable_named
variable-found [] i d few h = absurd h
variable-found (e ∷ outer) i d few (inl h) =
    let same : bytes_eq (variable_name (length outer)) (variable_name i) ≡ true =
    subst (λ k. bytes_eq (variable_name k) (variable_name i) ≡ true) h.0 (text_is (variable_name i)) in
    rw (same, canonical_scope-length outer, h.1, ← h.0) refl
variable-found (e ∷ outer) i d few (inr h) =
    let below = variable-below outer i d h in
    let other : bytes_eq (variable_name (length outer)) (variable_name i) ≡ false =
    variable_name-other (length outer) i (omega arith) (omega arith) (λ e. omega arith) in
    rw other (variable-found outer i d (omega arith) h)

constant-not_variable : (scope : List ℕ) (name : List ℕ) → length scope ≤ 8 → IsSchemaName name → variable_named (canonical_scope scope) name ≡ None
unfolding canonical_scope variable_named
constant-not_variable [] name few h = refl
constant-not_variable (e ∷ outer) name few h = rw (h.no_variable (length outer) (omega arith)) (constant-not_variable outer name (omega arith) h)

module _ (schema : DatabaseSchema) (names : HasProperNames schema) where
  -- the text of a term is a name that stands for it
  record IsTermText (scope : List ℕ) (w : List ℕ) (a : Term) (d : ℕ) : Type 0 where
    letters : is_identifier w ≡ true
    symbol : symbol_of w ≡ symbols.Name
    stands_for : term_named schema (canonical_scope scope) w ≡ Some (record { term = a; domain = d })

  term-text : (scope : List ℕ) (a : Term) (d : ℕ) → length scope ≤ 8 → IsOfDomain schema scope a d → IsTermText scope (term_text schema a) a d
  term-text scope (terms.Constant c) d few h =
      let n = names.constants c h.0 in
      record {
        letters = n.0.letters;
        symbol = n.0.no_keyword;
        stands_for = (let k =
            ap (λ (o : Option TypedTerm). or_constant o (constant_named schema (constant_name schema c)))
            (constant-not_variable scope (constant_name schema c) few n.0) in
            k ∙ (ap (λ (o : Option Constant). or_constant None o) n.1 ∙ ap (λ (d : ℕ). Some (record { term = terms.Constant c; domain = d })) h.1));
      }
  term-text scope (terms.Place i) d few h =
      let below = variable-below scope i d h in
      record {
        letters = variable_name-letters i (omega arith);
        symbol = variable_name-symbol i (omega arith);
        stands_for = ap (λ (o : Option TypedTerm). or_constant o (constant_named schema (variable_name i))) (variable-found scope i d few h);
      }

  term-IsTerm : (scope : List ℕ) (a : Term) (d p : ℕ) → length scope ≤ 8 → IsOfDomain schema scope a d → IsTerm schema (canonical_scope scope) (record {
    text =
        term_text schema a;
    start = p;
  }) a d
  term-IsTerm scope a d p few h = let t = term-text scope a d few h in record { is_name = t.symbol; stands_for = t.stands_for }

  term-lexes : (scope : List ℕ) (a : Term) (d p : ℕ) (x : List ℕ) → length scope ≤ 8 → IsOfDomain schema scope a d → EndsName x
      → Lexes p (term_text schema a ++ x) (record { text = term_text schema a; start = p } ∷ []) (p + length (term_text schema a)) x
  term-lexes scope a d p x few h ends = word-lexes p (term_text schema a) x (term-text scope a d few h).letters ends

  record ColumnsPrinted (scope : List ℕ) (ds : List ℕ) (columns : List Term) (p : ℕ) (x : List ℕ) (p' : ℕ) (x' : List ℕ) : Type 0 where
    begins : Columns schema (canonical_scope scope) ds (tokens_from p 0 x) columns (tokens_from p' 0 x')
    end_is : end_from p 0 x ≡ end_from p' 0 x'
    total : p' + length x' ≡ p + length x

  columns-printed : (scope : List ℕ) (few : length scope ≤ 8) (others : List Term) (a : Term) (d : ℕ) (ds : List ℕ)
      → AreOfDomains schema scope (a ∷ others) (d ∷ ds) → (p : ℕ) (rest : List ℕ)
      → (p' : ℕ) × ColumnsPrinted scope (d ∷ ds) (a ∷ others) p (terms_text schema (a ∷ others) ++ (41 ∷ rest)) p' rest
  columns-printed scope few [] a d [] h p rest =
      let x : term_text schema a ++ (41 ∷ rest) ≡ terms_text schema (a ∷ []) ++ (41 ∷ rest) = rw append-nil refl in
      let l = then-lexes (term-lexes scope a d p (41 ∷ rest) few h.0 refl) (close-lexes (p + length (term_text schema a)) rest) in
      let printed : ColumnsPrinted scope (d ∷ []) (a ∷ []) p (term_text schema a ++ (41 ∷ rest)) (p + length (term_text schema a) + 1) rest = record {
        begins = subst (λ ts. Columns schema (canonical_scope scope) (d ∷ []) ts (a ∷ []) (tokens_from (p + length (term_text schema a) + 1) 0 rest))
            (sym l.tokens_are) (last_column (term-IsTerm scope a d p few h.0) (close-symbol (p + length (term_text schema a))));
        end_is = l.end_is;
        total = l.total;
      } in
      (p + length (term_text schema a) + 1, subst (λ x. ColumnsPrinted scope (d ∷ []) (a ∷ []) p x (p + length (term_text schema a) + 1) rest) x printed)
  columns-printed scope few [] a d (e ∷ ds) h p rest = absurd h.1
  columns-printed scope few (b ∷ others) a d [] h p rest = absurd h.1
  columns-printed scope few (b ∷ others) a d (e ∷ ds) h p rest =
      let y : List ℕ = terms_text schema (b ∷ others) ++ (41 ∷ rest) in
      let x : term_text schema a ++ (44 ∷ 32 ∷ y) ≡ terms_text schema (a ∷ b ∷ others) ++ (41 ∷ rest) = simp append_assoc in
      let q : ℕ = p + length (term_text schema a) in
      let l = then-lexes (term-lexes scope a d p (44 ∷ 32 ∷ y) few h.0 refl) (then-lexes (comma-lexes q (32 ∷ y)) (blank-lexes (q + 1) y)) in
      let others_printed = columns-printed scope few others b e ds h.1 (q + 1 + 1) rest in
      let o = others_printed.1 in
      let printed : ColumnsPrinted scope (d ∷ e ∷ ds) (a ∷ b ∷ others) p (term_text schema a ++ (44 ∷ 32 ∷ y)) others_printed.0 rest = record {
        begins = subst (λ ts. Columns schema (canonical_scope scope) (d ∷ e ∷ ds) ts (a ∷ b ∷ others) (tokens_from others_printed.0 0 rest)) (sym l.tokens_are)
            (next_column (term-IsTerm scope a d p few h.0) (comma-symbol q) o.begins);
        end_is = l.end_is ∙ o.end_is;
        total = o.total ∙ l.total;
      } in
      (others_printed.0, subst (λ x. ColumnsPrinted scope (d ∷ e ∷ ds) (a ∷ b ∷ others) p x others_printed.0 rest) x printed)

  columns-all : (scope : List ℕ) (few : length scope ≤ 8) (columns : List Term) (ds : List ℕ) → AreOfDomains schema scope columns ds → (p : ℕ) (rest : List ℕ)
      → (p' : ℕ) × ColumnsPrinted scope ds columns p (terms_text schema columns ++ (41 ∷ rest)) p' rest
  columns-all scope few [] [] h p rest =
      let l = close-lexes p rest in (
        p + 1,
        record {
          begins = subst (λ ts. Columns schema (canonical_scope scope) [] ts [] (tokens_from (p + 1) 0 rest)) (sym l.tokens_are) (no_column (close-symbol p));
          end_is = l.end_is;
          total = l.total;
        },
      )
  columns-all scope few [] (d ∷ ds) h p rest = absurd h
  columns-all scope few (a ∷ others) [] h p rest = absurd h
  columns-all scope few (a ∷ others) (d ∷ ds) h p rest = columns-printed scope few others a d ds h p rest

  -- The text from a place on begins with the formula, and this text is left.
  record Printed (room : ℕ) (scope : List ℕ) (a : Formula) (p : ℕ) (x : List ℕ) (p' : ℕ) (x' : List ℕ) : Type 0 where
    begins : Begins schema unary room (canonical_scope scope) (tokens_from p 0 x) a (tokens_from p' 0 x')
    end_is : end_from p 0 x ≡ end_from p' 0 x'
    total : p' + length x' ≡ p + length x

  abbrev PrintsAs : ℕ → List ℕ → Formula → ℕ → List ℕ → List ℕ → Type 0
  PrintsAs room scope a p x rest = (p' : ℕ) × Printed room scope a p x p' rest

  -- tokens and then what they begin
  from-lexes : (room : ℕ) (scope : List ℕ) (a : Formula) (p p' : ℕ) (x x' : List ℕ) (ts : List Token) → Lexes p x ts p' x'
      → Begins schema unary room (canonical_scope scope) (ts ++ tokens_from p' 0 x') a (tokens_from p' 0 x')
      → PrintsAs room scope a p x x'
  from-lexes room scope a p p' x x' ts l begins = (
    p',
    record {
      begins = subst (λ us. Begins schema unary room (canonical_scope scope) us a (tokens_from p' 0 x')) (sym l.tokens_are) begins;
      end_is = l.end_is;
      total = l.total;
    },
  )

  same-text : (room : ℕ) (scope : List ℕ) (a : Formula) (p : ℕ) (x y rest : List ℕ) → x ≡ y → PrintsAs room scope a p x rest → PrintsAs room scope a p y rest
  same-text room scope a p x y rest e h = subst (λ x. PrintsAs room scope a p x rest) e h

  atom-printed : (room : ℕ) (scope : List ℕ) (few : length scope ≤ 8) (r : ℕ) (columns : List Term) (p : ℕ) (rest : List ℕ) → r < length schema.relations
      → AreOfDomains schema scope columns (column_domains schema r)
      → PrintsAs room scope (atom r columns) p (relation_name schema r ++ (40 ∷ (terms_text schema columns ++ (41 ∷ rest)))) rest
  atom-printed room scope few r columns p rest lt h =
      let n = names.relations r lt in
      let y : List ℕ = terms_text schema columns ++ (41 ∷ rest) in
      let q : ℕ = p + length (relation_name schema r) in
      let l = then-lexes (word-lexes p (relation_name schema r) (40 ∷ y) n.0.letters refl) (open-lexes q y) in
      let c = columns-all scope few columns (column_domains schema r) h (q + 1) rest in (
        c.0,
        record {
          begins = subst (λ us. Begins schema unary room (canonical_scope scope) us (atom r columns) (tokens_from c.0 0 rest)) (sym l.tokens_are)
              (is_atom n.0.no_keyword (open-symbol q) n.1 c.1.begins);
          end_is = l.end_is ∙ c.1.end_is;
          total = c.1.total ∙ l.total;
        },
      )

  equal-printed : (room : ℕ) (scope : List ℕ) (few : length scope ≤ 8) (a b : Term) (d p : ℕ) (rest : List ℕ) → IsOfDomain schema scope a d
      → IsOfDomain schema scope b d → EndsName rest
      → PrintsAs room scope (equality a b) p (term_text schema a ++ (32 ∷ 61 ∷ 32 ∷ (term_text schema b ++ rest))) rest
  equal-printed room scope few a b d p rest ha hb ends =
      let q : ℕ = p + length (term_text schema a) in
      let y : List ℕ = term_text schema b ++ rest in
      let l = then-lexes (term-lexes scope a d p (32 ∷ 61 ∷ 32 ∷ y) few ha refl)
      (then-lexes (blank-lexes q (61 ∷ 32 ∷ y))
      (then-lexes (equal-lexes (q + 1) (32 ∷ y)) (then-lexes (blank-lexes (q + 1 + 1) y) (term-lexes scope b d (q + 1 + 1 + 1) rest few hb ends)))) in
      from-lexes room scope (equality a b) p _ _ rest _ l
      (is_equal (term-IsTerm scope a d p few ha) (equal-symbol (q + 1)) (term-IsTerm scope b d (q + 1 + 1 + 1) few hb))

  differs-printed : (room : ℕ) (scope : List ℕ) (few : length scope ≤ 8) (a b : Term) (d p : ℕ) (rest : List ℕ) → IsOfDomain schema scope a d
      → IsOfDomain schema scope b d → EndsName rest
      → PrintsAs room scope (inequality a b) p (term_text schema a ++ (32 ∷ 33 ∷ 61 ∷ 32 ∷ (term_text schema b ++ rest))) rest
  differs-printed room scope few a b d p rest ha hb ends =
      let q : ℕ = p + length (term_text schema a) in
      let y : List ℕ = term_text schema b ++ rest in
      let l = then-lexes (term-lexes scope a d p (32 ∷ 33 ∷ 61 ∷ 32 ∷ y) few ha refl)
      (then-lexes (blank-lexes q (33 ∷ 61 ∷ 32 ∷ y))
      (then-lexes (differs-lexes (q + 1) (32 ∷ y)) (then-lexes (blank-lexes (q + 1 + 2) y) (term-lexes scope b d (q + 1 + 2 + 1) rest few hb ends)))) in
      from-lexes room scope (inequality a b) p _ _ rest _ l
      (is_differs (term-IsTerm scope a d p few ha) (differs-symbol (q + 1)) (term-IsTerm scope b d (q + 1 + 2 + 1) few hb))

  -- A connective between blanks, in parentheses
  module _ (scope : List ℕ) (room left_room right_room : ℕ) (a b : Formula) (left right connective : List ℕ) (join : Formula → Formula → Formula) (s : Symbol)
      (lexes : (q : ℕ) (y : List ℕ) → Lexes q (connective ++ (32 ∷ y)) (record { text = connective; start = q } ∷ []) (q + length connective) (32 ∷ y))
      (symbol : (q : ℕ) → IsSymbol s (record { text = connective; start = q }))
      (build : (ts us rest : List Token) (t : Token) → Begins schema unary left_room (canonical_scope scope) ts a (t ∷ us) → IsSymbol s t
      → Begins schema unary right_room (canonical_scope scope) us b rest → Begins schema whole room (canonical_scope scope) ts (join a b) rest)
      (print_left : (p : ℕ) (rest : List ℕ) → EndsName rest → PrintsAs left_room scope a p (left ++ rest) rest)
      (print_right : (p : ℕ) (rest : List ℕ) → EndsName rest → PrintsAs right_room scope b p (right ++ rest) rest) where
    binary-printed : (p : ℕ) (rest : List ℕ) → PrintsAs (suc room) scope (join a b) p (40 ∷ (left ++ (32 ∷ (connective ++ (32 ∷ (right ++ (41 ∷ rest))))))) rest
    binary-printed p rest =
        let z : List ℕ = right ++ (41 ∷ rest) in
        let y : List ℕ = 32 ∷ (connective ++ (32 ∷ z)) in
        let l = open-lexes p (left ++ y) in
        let pl = print_left (p + 1) y refl in
        let m = then-lexes (blank-lexes pl.0 (connective ++ (32 ∷ z))) (then-lexes (lexes (pl.0 + 1) z) (blank-lexes (pl.0 + 1 + length connective) z)) in
        let pr = print_right (pl.0 + 1 + length connective + 1) (41 ∷ rest) refl in
        let c = close-lexes pr.0 rest in
        let first = subst (λ us. Begins schema unary left_room (canonical_scope scope) (tokens_from (p + 1) 0 (left ++ y)) a us) m.tokens_are pl.1.begins in
        let second = subst (λ us.
        Begins schema unary right_room (canonical_scope scope) (tokens_from (pl.0 + 1 + length connective + 1) 0 z) b us) c.tokens_are pr.1.begins in (
          pr.0 + 1,
          record {
            begins = subst (λ us. Begins schema unary (suc room) (canonical_scope scope) us (join a b) (tokens_from (pr.0 + 1) 0 rest)) (sym l.tokens_are)
                (in_parentheses (open-symbol p) (build _ _ _ _ first (symbol (pl.0 + 1)) second) (close-symbol pr.0));
            end_is = l.end_is ∙ (pl.1.end_is ∙ (m.end_is ∙ (pr.1.end_is ∙ c.end_is)));
            total = c.total ∙ (pr.1.total ∙ (m.total ∙ (pl.1.total ∙ l.total)));
          },
        )

  -- A quantifier and what it binds, in parentheses
  module _ (scope : List ℕ) (fewer : length scope < 8) (d : ℕ) (known : d < length schema.domains) (room : ℕ) (a : Formula) (body word : List ℕ)
      (quantifier : ℕ → Formula → Formula) (s : Symbol) (is_word : is_identifier word ≡ true)
      (symbol : (q : ℕ) → IsSymbol s (record { text = word; start = q }))
      (build : (q x c n p : Token) (ts rest : List Token) → IsQuantifier schema (canonical_scope scope) s q x c n p d
      → Begins schema whole room (record { variable = x.text; domain = d } ∷ canonical_scope scope) ts a rest → MayEndQuantified rest
      → Begins schema unary (suc room) (canonical_scope scope) (q ∷ x ∷ c ∷ n ∷ p ∷ ts) (quantifier d a) rest)
      (print_body : (p : ℕ) (rest : List ℕ) → EndsName rest → PrintsAs room (d ∷ scope) a p (body ++ rest) rest) where
    quantified-printed : (p : ℕ) (rest : List ℕ)
        → PrintsAs (suc (suc room)) scope (quantifier d a) p
        (40 ∷ (word ++ (32 ∷ (variable_name (length scope) ++ (58 ∷ 32 ∷ (domain_name schema d ++ (32 ∷ 46 ∷ 32 ∷ (body ++ (41 ∷ rest))))))))) rest
    unfolding canonical_scope
    quantified-printed p rest =
        let n = names.domains d known in
        let name : List ℕ = domain_name schema d in
        let x : List ℕ = variable_name (length scope) in
        let y1 : List ℕ = body ++ (41 ∷ rest) in
        let y2 : List ℕ = name ++ (32 ∷ 46 ∷ 32 ∷ y1) in
        let y3 : List ℕ = x ++ (58 ∷ 32 ∷ y2) in
        let p1 : ℕ = p + 1 + length word in
        let p2 : ℕ = p1 + 1 + length x in
        let p3 : ℕ = p2 + 1 + 1 in
        let p4 : ℕ = p3 + length name in
        let l = then-lexes (open-lexes p (word ++ (32 ∷ y3)))
        (then-lexes (word-lexes (p + 1) word (32 ∷ y3) is_word refl)
        (then-lexes (blank-lexes p1 y3) (then-lexes (word-lexes (p1 + 1) x (58 ∷ 32 ∷ y2) (variable_name-letters (length scope) fewer) refl)
        (then-lexes (colon-lexes p2 (32 ∷ y2)) (then-lexes (blank-lexes (p2 + 1) y2) (then-lexes (word-lexes p3 name (32 ∷ 46 ∷ 32 ∷ y1) n.0.letters refl)
        (then-lexes (blank-lexes p4 (46 ∷ 32 ∷ y1)) (then-lexes (dot-lexes (p4 + 1) (32 ∷ y1)) (blank-lexes (p4 + 1 + 1) y1))))))))) in
        let b = print_body (p4 + 1 + 1 + 1) (41 ∷ rest) refl in
        let c = close-lexes b.0 rest in
        let inside = subst (λ us. Begins schema unary room (canonical_scope (d ∷ scope)) (tokens_from (p4 + 1 + 1 + 1) 0 y1) a us) c.tokens_are b.1.begins in
        let opens : IsQuantifier schema (canonical_scope scope) s (record { text = word; start = p + 1 }) (record { text = x; start = p1 + 1 })
        (record { text = codes ":"; start = p2 }) (record { text = name; start = p3 }) (record { text = codes "."; start = p4 + 1 }) d = record {
          opens = symbol (p + 1);
          variable = variable_name-symbol (length scope) fewer;
          colon = colon-symbol p2;
          is_name = n.0.no_keyword;
          stands_for = n.1;
          dot = dot-symbol (p4 + 1);
          not_too_deep = omega (arith, canonical_scope-length scope);
        } in
        let whole_part = build _ _ _ _ _ _ _ opens (no_double_arrow (no_arrow (one_or (one_and inside)))) (close-symbol b.0) in (
          b.0 + 1,
          record {
            begins = subst (λ us. Begins schema unary (suc (suc room)) (canonical_scope scope) us (quantifier d a) (tokens_from (b.0 + 1) 0 rest))
                (sym l.tokens_are)
                (in_parentheses (open-symbol p) (no_double_arrow (no_arrow (one_or (one_and whole_part)))) (close-symbol b.0));
            end_is = l.end_is ∙ (b.1.end_is ∙ c.end_is);
            total = c.total ∙ (b.1.total ∙ l.total);
          },
        )

  deeper : (a : Formula) (scope : List ℕ) (d room p : ℕ) (rest : List ℕ)
      → PrintsAs room (d ∷ scope) a p (canonical_within schema (length (d ∷ scope)) a ++ rest) rest
      → PrintsAs room (d ∷ scope) a p (canonical_within schema (length scope + 1) a ++ rest) rest
  deeper a scope d room p rest h =
      let e : length (d ∷ scope) ≡ length scope + 1 = omega arith in subst (λ n. PrintsAs room (d ∷ scope) a p (canonical_within schema n a ++ rest) rest) e h

  prints : (a : Formula) (scope : List ℕ) (few : length scope ≤ 8) (room : ℕ) → IsOfSchema schema scope a → enclosing_constructs a ≤ room
      → (p : ℕ) (rest : List ℕ) → EndsName rest
      → PrintsAs room scope a p (canonical_within schema (length scope) a ++ rest) rest
  prints verum scope few room h fits p rest ends =
      from-lexes room scope verum p _ _ rest _ (word-lexes p (codes "true") rest refl ends) (is_true (true-symbol p))
  prints falsum scope few room h fits p rest ends =
      from-lexes room scope falsum p _ _ rest _ (word-lexes p (codes "false") rest refl ends) (is_false (false-symbol p))
  prints (atom r columns) scope few room h fits p rest ends =
      same-text room scope (atom r columns) p _ _ rest (simp append_assoc) (atom-printed room scope few r columns p rest h.0 h.1)
  prints (equality a b) scope few room h fits p rest ends =
      same-text room scope (equality a b) p _ _ rest (simp append_assoc) (equal-printed room scope few a b h.0 p rest h.1 h.2 ends)
  prints (inequality a b) scope few room h fits p rest ends =
      same-text room scope (inequality a b) p _ _ rest (simp append_assoc) (differs-printed room scope few a b h.0 p rest h.1 h.2 ends)
  prints (negation a) scope few zero h fits p rest ends = absurd (omega arith)
  prints (negation a) scope few (suc room) h fits p rest ends =
      let y : List ℕ = canonical_within schema (length scope) a ++ rest in
      let l = then-lexes (word-lexes p (codes "not") (32 ∷ y) refl refl) (blank-lexes (p + 3) y) in
      let inner = prints a scope few room h (omega arith) (p + 3 + 1) rest ends in (
        inner.0,
        record {
          begins = subst (λ us. Begins schema unary (suc room) (canonical_scope scope) us (negation a) (tokens_from inner.0 0 rest)) (sym l.tokens_are)
              (is_not (not-symbol p) inner.1.begins);
          end_is = l.end_is ∙ inner.1.end_is;
          total = inner.1.total ∙ l.total;
        },
      )
  prints (conjunction a b) scope few zero h fits p rest ends = absurd (omega arith)
  prints (conjunction a b) scope few (suc room) h fits p rest ends = same-text (suc room) scope (conjunction a b) p _ _ rest (simp append_assoc)
      (binary-printed scope room room room a b (canonical_within schema (length scope) a) (canonical_within schema (length scope) b)
      (codes "and") conjunction symbols.And (λ q y. word-lexes q (codes "and") (32 ∷ y) refl refl) and-symbol
      (λ ts us rest t x e y. no_double_arrow (no_arrow (one_or (more_and (one_and x) e y)))) (prints a scope few room h.0 (omega arith))
      (prints b scope few room h.1 (omega arith)) p rest)
  prints (disjunction a b) scope few zero h fits p rest ends = absurd (omega arith)
  prints (disjunction a b) scope few (suc room) h fits p rest ends = same-text (suc room) scope (disjunction a b) p _ _ rest (simp append_assoc)
      (binary-printed scope room room room a b (canonical_within schema (length scope) a) (canonical_within schema (length scope) b)
      (codes "or") disjunction symbols.Or (λ q y. word-lexes q (codes "or") (32 ∷ y) refl refl) or-symbol
      (λ ts us rest t x e y. no_double_arrow (no_arrow (more_or (one_or (one_and x)) e (one_and y)))) (prints a scope few room h.0 (omega arith))
      (prints b scope few room h.1 (omega arith)) p rest)
  prints (implication a b) scope few zero h fits p rest ends = absurd (omega arith)
  prints (implication a b) scope few (suc zero) h fits p rest ends = absurd (omega arith)
  prints (implication a b) scope few (suc (suc room)) h fits p rest ends = same-text (suc (suc room)) scope (implication a b) p _ _ rest (simp append_assoc)
      (binary-printed scope (suc room) (suc room) room a b (canonical_within schema (length scope) a) (canonical_within schema (length scope) b)
      (codes "->") implication symbols.Arrow (λ q y. arrow-lexes q (32 ∷ y)) arrow-symbol
      (λ ts us rest t x e y. no_double_arrow (one_arrow (one_or (one_and x)) e (no_arrow (one_or (one_and y)))))
      (prints a scope few (suc room) h.0 (omega arith)) (prints b scope few room h.1 (omega arith)) p rest)
  prints (biconditional a b) scope few zero h fits p rest ends = absurd (omega arith)
  prints (biconditional a b) scope few (suc room) h fits p rest ends = same-text (suc room) scope (biconditional a b) p _ _ rest (simp append_assoc)
      (binary-printed scope room room room a b (canonical_within schema (length scope) a) (canonical_within schema (length scope) b)
      (codes "<->") biconditional symbols.DoubleArrow (λ q y. double_arrow-lexes q (32 ∷ y)) double_arrow-symbol
      (λ ts us rest t x e y. one_double_arrow (no_arrow (one_or (one_and x))) e (no_arrow (one_or (one_and y)))) (prints a scope few room h.0 (omega arith))
      (prints b scope few room h.1 (omega arith)) p rest)
  prints (universal d a) scope few zero h fits p rest ends = absurd (omega arith)
  prints (universal d a) scope few (suc zero) h fits p rest ends = absurd (omega arith)
  prints (universal d a) scope few (suc (suc room)) h fits p rest ends = same-text (suc (suc room)) scope (universal d a) p _ _ rest (simp append_assoc)
      (quantified-printed scope h.1 d h.0 room a (canonical_within schema (length scope + 1) a) (codes "forall") universal symbols.Forall refl forall-symbol
      (λ q x c n p ts rest. is_forall) (λ p rest ends.
      deeper a scope d room p rest (prints a (d ∷ scope) (omega (arith, h.1)) room h.2 (omega arith) p rest ends)) p rest)
  prints (existential d a) scope few zero h fits p rest ends = absurd (omega arith)
  prints (existential d a) scope few (suc zero) h fits p rest ends = absurd (omega arith)
  prints (existential d a) scope few (suc (suc room)) h fits p rest ends = same-text (suc (suc room)) scope (existential d a) p _ _ rest (simp append_assoc)
      (quantified-printed scope h.1 d h.0 room a (canonical_within schema (length scope + 1) a) (codes "exists") existential symbols.Exists refl exists-symbol
      (λ q x c n p ts rest. is_exists) (λ p rest ends.
      deeper a scope d room p rest (prints a (d ∷ scope) (omega (arith, h.1)) room h.2 (omega arith) p rest ends)) p rest)

-- a canonical form is a sentence that means the formula
canonical-IsSentence : (schema : DatabaseSchema) (a : Formula) → HasProperNames schema → IsOfSchema schema [] a → enclosing_constructs a ≤ 64
    → IsSentence schema (canonical schema a) a
unfolding canonical_scope tokens_from end_from
canonical-IsSentence schema a names h fits =
    let printed = prints schema names a [] (omega arith) 64 h fits 0 [] refl in
    let whole_text : canonical schema a ++ [] ≡ canonical schema a = append-nil (canonical schema a) in
    subst (λ text. IsSentence schema text a) whole_text (record {
      no_bad_character = printed.1.end_is ∙ (let total = printed.1.total in omega arith);
      derives = no_double_arrow (no_arrow (one_or (one_and printed.1.begins)));
    })

-- a canonical form is read back
pub canonical_forms_read : CanonicalFormsRead
canonical_forms_read schema a valid is fits =
    sentences_read schema (canonical schema a) a (canonical-IsSentence schema a (valid-names schema valid) (sentence-of_schema schema a is) fits)
