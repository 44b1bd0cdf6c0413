-- What is read is in the grammar.
use Rattle.std.proofs.Common.{◌≡◌, ℕ, zero, suc, ◌<◌, Bool, true, false, cond, List, [], ◌∷◌, length, get_or, Option, Some, None, Result, Ok, Err, refl, sym}
use Rattle.std.proofs.Common.{ap, subst, ◌∙◌, arith}
use Rattle.std.specs.Prelude.{◌==◌, nat_lt, if◌then◌else◌}
use Rattle.std.proofs.lemmas.Bool.Decides.{nat_tests}
use Rattle.cqe_base.specs.declared.sentence.Term.{Term}
use Rattle.cqe_base.specs.declared.text.Symbol.{Symbol}
use Rattle.cqe_base.specs.declared.text.Symbol.TheVariants as symbols
use Rattle.cqe_base.specs.Reading.{Refusal}
use Rattle.cqe_base.specs.Formula.{Formula, verum, falsum, atom, equality, inequality, negation, conjunction, disjunction, implication, biconditional}
use Rattle.cqe_base.specs.Formula.{universal, existential}
use Rattle.cqe_base.specs.Schema.{DatabaseSchema, domain_named, relation_named}
use Rattle.cqe_base.specs.Tokens.{Token, symbol_of, symbol_number}
use Rattle.cqe_base.specs.Reading
use Rattle.cqe_base.specs.Reading.{◌>>=◌, Reader, Scope, Binder, TypedTerm, Level, column_domains, term_named, looked_up, is_symbol, is_next, chain}
use Rattle.cqe_base.specs.Grammar.{unary, both, either, conditional, whole, IsSymbol, IsTerm, Columns, no_column, last_column, next_column, MayEndQuantified}
use Rattle.cqe_base.specs.Grammar.{IsQuantifier, Begins, is_true, is_false, is_atom, is_equal, is_differs, is_not, in_parentheses, is_forall, is_exists}
use Rattle.cqe_base.specs.Grammar.{one_and, more_and, one_or, more_or, no_arrow, one_arrow, no_double_arrow, one_double_arrow}

-- a step that was passed
pub bind_ok : {A B : Type 0} (r : Result A Refusal) (f : A → Result B Refusal) (y : B) → (r >>= f) ≡ Ok y → (x : A) × (r ≡ Ok x) × (f x ≡ Ok y)
bind_ok (Ok x) f y h = (x, refl, h)
bind_ok (Err e) f y h = absurd (cc)

if_ok : {A : Type 0} (b : Bool) (x y : A) (e : Refusal) → cond b (Ok x) (Err e) ≡ Ok y → (b ≡ true) × (x ≡ y)
if_ok true x y e h = (refl, cc)
if_ok false x y e h = absurd (cc)

unless_ok : {A : Type 0} (b : Bool) (r : Result A Refusal) (y : A) (e : Refusal) → cond b (Err e) r ≡ Ok y → (b ≡ false) × (r ≡ Ok y)
unless_ok true r y e h = absurd (cc)
unless_ok false r y e h = (refl, h)

no-ok : {A : Type 0} (b : Bool) (e f : Refusal) (y : A) → cond b (Err e) (Err f) ≡ Ok y → ⊥
no-ok true e f y h = cc
no-ok false e f y h = cc

typed-same : (x : TypedTerm) (a : Term) (d : ℕ) → x.term ≡ a → x.domain ≡ d → x ≡ record { term = a; domain = d }
typed-same x a d term domain =
    let make : Term → ℕ → TypedTerm = λ a d. record { term = a; domain = d } in
    ap (λ (y : Term). make y x.domain) term ∙ ap (make a) domain

pub looked_up_ok : {A : Type 0} (t : Token) (o : Option A) (x : A) → looked_up t o ≡ Ok x → o ≡ Some x
looked_up_ok t (Some y) x h = cc
looked_up_ok t None x h = absurd (cc)

-- what is read is what is said to be read
pub moved : {A : Type 0} (P : A → List Token → Type 0) (x y : A × List Token) → ◌≡◌ {A = Result (A × List Token) Refusal} (Ok x) (Ok y) → P x.0 x.1 → P y.0 y.1
moved P x y h p = let e : x ≡ y = cc in subst (λ z. P z.0 z.1) e p

all_symbols : List Symbol
all_symbols = symbols.Name ∷ symbols.Not ∷ symbols.And ∷ symbols.Or ∷ symbols.True ∷ symbols.False ∷ symbols.Forall ∷ symbols.Exists ∷ symbols.Open
    ∷ symbols.Close ∷ symbols.Comma ∷ symbols.Colon ∷ symbols.Dot ∷ symbols.Equal ∷ symbols.Differs ∷ symbols.Arrow ∷ symbols.DoubleArrow ∷ []

numbered : (s : Symbol) → get_or all_symbols (symbol_number s) symbols.Name ≡ s
unfolding all_symbols
numbered symbols.Name = refl
numbered symbols.Not = refl
numbered symbols.And = refl
numbered symbols.Or = refl
numbered symbols.True = refl
numbered symbols.False = refl
numbered symbols.Forall = refl
numbered symbols.Exists = refl
numbered symbols.Open = refl
numbered symbols.Close = refl
numbered symbols.Comma = refl
numbered symbols.Colon = refl
numbered symbols.Dot = refl
numbered symbols.Equal = refl
numbered symbols.Differs = refl
numbered symbols.Arrow = refl
numbered symbols.DoubleArrow = refl

pub is_symbol-IsSymbol : (s : Symbol) (t : Token) → is_symbol s t ≡ true → IsSymbol s t
is_symbol-IsSymbol s t h =
    let same : symbol_number s ≡ symbol_number (symbol_of t.text) = grind (arith, nat_tests) in
    sym (numbered (symbol_of t.text)) ∙ (ap (λ n. get_or all_symbols n symbols.Name) (sym same) ∙ numbered s)

module _ (schema : DatabaseSchema) (end : Refusal) where
  pub name-sound : (ts rest : List Token) (t : Token) → Reading.name schema end ts ≡ Ok (t, rest) → (ts ≡ t ∷ rest) × IsSymbol symbols.Name t
  unfolding Reading.name
  name-sound [] rest t h = absurd (cc)
  name-sound (u ∷ ts) rest t h =
      let p = if_ok (is_symbol symbols.Name u) (u, ts) (t, rest) _ h in (
        ap (λ (x : Token × List Token). x.0 ∷ x.1) p.1,
        subst (IsSymbol symbols.Name) (ap (λ (x : Token × List Token). x.0) p.1) (is_symbol-IsSymbol symbols.Name u p.0),
      )

  pub pass-sound : (s : Symbol) (ts rest : List Token) → Reading.pass schema end s ts ≡ Ok rest → (t : Token) × (ts ≡ t ∷ rest) × IsSymbol s t
  unfolding Reading.pass
  pass-sound s [] rest h = absurd (cc)
  pass-sound s (t ∷ ts) rest h = let p = if_ok (is_symbol s t) ts rest _ h in (t, ap (λ (us : List Token). t ∷ us) p.1, is_symbol-IsSymbol s t p.0)

  pub term-sound : (scope : Scope) (d : ℕ) (ts rest : List Token) (a : Term) → Reading.term_of schema end scope d ts ≡ Ok (a, rest) → (t : Token)
      × (ts ≡ t ∷ rest) × IsTerm schema scope t a d
  unfolding Reading.term_of
  term-sound scope d ts rest a h =
      let s = bind_ok (Reading.name schema end ts) _ (a, rest) h in
      let k = bind_ok (looked_up s.0.0 (term_named schema scope s.0.0.text)) _ (a, rest) s.2 in
      let g = if_ok (k.0.domain == d) (k.0.term, s.0.1) (a, rest) _ k.2 in
      let n = name-sound ts s.0.1 s.0.0 s.1 in
      let domain : k.0.domain ≡ d = grind (arith, nat_tests) in (
        s.0.0,
        n.0 ∙ ap (λ (x : Term × List Token). s.0.0 ∷ x.1) g.1,
        record {
          is_name = n.1;
          stands_for =
              looked_up_ok s.0.0 (term_named schema scope s.0.0.text) k.0 k.1 ∙ ap Some (typed-same k.0 a d (ap (λ (x : Term × List Token). x.0) g.1) domain);
        },
      )

  pub domain-sound : (ts rest : List Token) (d : ℕ) → Reading.domain schema end ts ≡ Ok (d, rest) → (t : Token) × (ts ≡ t ∷ rest) × IsSymbol symbols.Name t
      × (domain_named schema t.text ≡ Some d)
  unfolding Reading.domain
  domain-sound ts rest d h =
      let s = bind_ok (Reading.name schema end ts) _ (d, rest) h in
      let k = bind_ok (looked_up s.0.0 (domain_named schema s.0.0.text)) _ (d, rest) s.2 in
      let n = name-sound ts s.0.1 s.0.0 s.1 in
      let e : (k.0, s.0.1) ≡ (d, rest) = cc in (
        s.0.0,
        n.0 ∙ ap (λ (x : ℕ × List Token). s.0.0 ∷ x.1) e,
        n.1,
        looked_up_ok s.0.0 (domain_named schema s.0.0.text) k.0 k.1 ∙ ap (λ (x : ℕ × List Token). Some x.0) e,
      )

  pub after_column-sound : (last : Bool) (ts rest : List Token) → Reading.after_column schema end last ts ≡ Ok rest → (t : Token) × (ts ≡ t ∷ rest)
      × IsSymbol (if last then symbols.Close else symbols.Comma) t
  unfolding Reading.after_column
  after_column-sound last [] rest h = absurd (cc)
  after_column-sound last (t ∷ ts) rest h = at (is_symbol (if last then symbols.Close else symbols.Comma) t) refl h
    where
      at : (b : Bool) → is_symbol (if last then symbols.Close else symbols.Comma) t ≡ b
          → cond b (Ok ts)
          (cond (is_symbol (if last then symbols.Comma else symbols.Close) t) (Err (Reading.wrong_columns t.start)) (Err (Reading.unexpected t.start)))
          ≡ Ok rest
          → (u : Token) × (t ∷ ts ≡ u ∷ rest) × IsSymbol (if last then symbols.Close else symbols.Comma) u
      at true e k = (t, cc, is_symbol-IsSymbol (if last then symbols.Close else symbols.Comma) t e)
      at false e k = absurd (no-ok (is_symbol (if last then symbols.Comma else symbols.Close) t) _ _ rest k)

  columns-sound : (scope : Scope) (ds : List ℕ) (ts rest : List Token) (terms : List Term) → 0 < length ds
      → Reading.columns schema end scope ds ts ≡ Ok (terms, rest) → Columns schema scope ds ts terms rest
  unfolding Reading.columns
  columns-sound scope [] ts rest terms some h = absurd (omega arith)
  columns-sound scope (d ∷ []) ts rest terms some h =
      let s = bind_ok (Reading.term_of schema end scope d ts) _ (terms, rest) h in
      let n = bind_ok (Reading.after_column schema end true s.0.1) _ (terms, rest) s.2 in
      let t = term-sound scope d ts s.0.1 s.0.0 s.1 in
      let c = after_column-sound true s.0.1 n.0 n.1 in
      moved (λ terms rest. Columns schema scope (d ∷ []) ts terms rest) (s.0.0 ∷ [], n.0) (terms, rest) n.2
      (subst (λ us. Columns schema scope (d ∷ []) us (s.0.0 ∷ []) n.0) (sym (t.1 ∙ ap (λ (us : List Token). t.0 ∷ us) c.1)) (last_column t.2 c.2))
  columns-sound scope (d ∷ e ∷ ds) ts rest terms some h =
      let s = bind_ok (Reading.term_of schema end scope d ts) _ (terms, rest) h in
      let n = bind_ok (Reading.after_column schema end false s.0.1) _ (terms, rest) s.2 in
      let o = bind_ok (Reading.columns schema end scope (e ∷ ds) n.0) _ (terms, rest) n.2 in
      let t = term-sound scope d ts s.0.1 s.0.0 s.1 in
      let c = after_column-sound false s.0.1 n.0 n.1 in
      moved (λ terms rest. Columns schema scope (d ∷ e ∷ ds) ts terms rest) (s.0.0 ∷ o.0.0, o.0.1) (terms, rest) o.2
      (subst (λ us. Columns schema scope (d ∷ e ∷ ds) us (s.0.0 ∷ o.0.0) o.0.1) (sym (t.1 ∙ ap (λ (us : List Token). t.0 ∷ us) c.1))
      (next_column t.2 c.2 (columns-sound scope (e ∷ ds) n.0 o.0.1 o.0.0 (omega arith) o.1)))

  arguments-sound : (scope : Scope) (ds : List ℕ) (ts rest : List Token) (terms : List Term) → Reading.arguments schema end scope ds ts ≡ Ok (terms, rest)
      → Columns schema scope ds ts terms rest
  unfolding Reading.arguments Reading.no_columns Reading.some_columns
  arguments-sound scope [] [] rest terms h = absurd (cc)
  arguments-sound scope [] (t ∷ ts) rest terms h = at (is_symbol symbols.Close t) refl h
    where
      at : (b : Bool) → is_symbol symbols.Close t ≡ b
          → cond {A = Result (List Term × List Token) Refusal} b (Ok ([], ts))
          (cond (is_symbol symbols.Name t) (Err (Reading.wrong_columns t.start)) (Err (Reading.unexpected t.start))) ≡ Ok (terms, rest)
          → Columns schema scope [] (t ∷ ts) terms rest
      at true e k =
          moved (λ terms rest. Columns schema scope [] (t ∷ ts) terms rest) ([], ts) (terms, rest) k (no_column (is_symbol-IsSymbol symbols.Close t e))
      at false e k = absurd (no-ok (is_symbol symbols.Name t) _ _ (terms, rest) k)
  arguments-sound scope (d ∷ ds) [] rest terms h = absurd (cc)
  arguments-sound scope (d ∷ ds) (t ∷ ts) rest terms h =
      let p = unless_ok (is_symbol symbols.Close t) (Reading.columns schema end scope (d ∷ ds) (t ∷ ts)) (terms, rest) _ h in
      columns-sound scope (d ∷ ds) (t ∷ ts) rest terms (omega arith) p.1

  sign-sound : (scope : Scope) (t : Token) (room : ℕ) (ts after rest : List Token) (compare : Term → Term → Formula) (a b : Term) (d : ℕ) (u : Token)
      → IsTerm schema scope t a d → IsTerm schema scope u b d → after ≡ u ∷ rest
      → Reading.comparison_sign schema end ts ≡ Ok (compare, after) → Begins schema unary room scope (t ∷ ts) (compare a b) rest
  unfolding Reading.comparison_sign
  sign-sound scope t room [] after rest compare a b d u first second behind h = absurd (cc)
  sign-sound scope t room (sign ∷ ts) after rest compare a b d u first second behind h = at (is_symbol symbols.Equal sign) refl h
    where
      at_differs : (e : Bool) → is_symbol symbols.Differs sign ≡ e
          → cond {A = Result ((Term → Term → Formula) × List Token) Refusal} e (Ok (inequality, ts)) (Err (Reading.unexpected sign.start)) ≡ Ok (compare, after)
          → Begins schema unary room scope (t ∷ sign ∷ ts) (compare a b) rest
      at_differs true e k =
          moved (λ compare after. after ≡ u ∷ rest → Begins schema unary room scope (t ∷ sign ∷ ts) (compare a b) rest) (inequality, ts) (compare, after) k
          (λ behind. subst (λ us. Begins schema unary room scope (t ∷ sign ∷ us) (inequality a b) rest) (sym behind)
          (is_differs first (is_symbol-IsSymbol symbols.Differs sign e) second)) behind
      at_differs false e k = absurd (cc)

      at : (e : Bool) → is_symbol symbols.Equal sign ≡ e
          → cond {A = Result ((Term → Term → Formula) × List Token) Refusal} e (Ok (equality, ts))
          (cond (is_symbol symbols.Differs sign) (Ok (inequality, ts)) (Err (Reading.unexpected sign.start))) ≡ Ok (compare, after)
          → Begins schema unary room scope (t ∷ sign ∷ ts) (compare a b) rest
      at true e k =
          moved (λ compare after. after ≡ u ∷ rest → Begins schema unary room scope (t ∷ sign ∷ ts) (compare a b) rest) (equality, ts) (compare, after) k
          (λ behind. subst (λ us. Begins schema unary room scope (t ∷ sign ∷ us) (equality a b) rest) (sym behind)
          (is_equal first (is_symbol-IsSymbol symbols.Equal sign e) second)) behind
      at false e k = at_differs (is_symbol symbols.Differs sign) refl k

  comparison-sound : (scope : Scope) (t : Token) (room : ℕ) (ts rest : List Token) (a : Formula) → IsSymbol symbols.Name t
      → Reading.comparison schema end scope t ts ≡ Ok (a, rest) → Begins schema unary room scope (t ∷ ts) a rest
  unfolding Reading.comparison
  comparison-sound scope t room ts rest a name h =
      let k = bind_ok (looked_up t (term_named schema scope t.text)) _ (a, rest) h in
      let s = bind_ok (Reading.comparison_sign schema end ts) _ (a, rest) k.2 in
      let u = bind_ok (Reading.term_of schema end scope k.0.domain s.0.1) _ (a, rest) s.2 in
      let b = term-sound scope k.0.domain s.0.1 u.0.1 u.0.0 u.1 in
      let first : IsTerm schema scope t k.0.term k.0.domain = record { is_name = name; stands_for = looked_up_ok t (term_named schema scope t.text) k.0 k.1 } in
      moved (λ a rest. Begins schema unary room scope (t ∷ ts) a rest) (s.0.0 k.0.term u.0.0, u.0.1) (a, rest) u.2
      (sign-sound scope t room ts s.0.1 u.0.1 s.0.0 k.0.term u.0.0 k.0.domain b.0 first b.2 b.1 s.1)

  atom-sound : (scope : Scope) (t : Token) (room : ℕ) (open_ : Token) (ts rest : List Token) (a : Formula) → IsSymbol symbols.Name t
      → IsSymbol symbols.Open open_ → Reading.relation_atom schema end scope t (open_ ∷ ts) ≡ Ok (a, rest)
      → Begins schema unary room scope (t ∷ open_ ∷ ts) a rest
  unfolding Reading.relation_atom
  atom-sound scope t room open_ ts rest a name opens h =
      let k = bind_ok (looked_up t (relation_named schema t.text)) _ (a, rest) h in
      let c = bind_ok (Reading.arguments schema end scope (column_domains schema k.0) ts) _ (a, rest) k.2 in
      moved (λ a rest. Begins schema unary room scope (t ∷ open_ ∷ ts) a rest) (atom k.0 c.0.0, c.0.1) (a, rest) c.2
      (is_atom name opens (looked_up_ok t (relation_named schema t.text) k.0 k.1) (arguments-sound scope (column_domains schema k.0) ts c.0.1 c.0.0 c.1))

  named-sound : (scope : Scope) (t : Token) (room : ℕ) (ts rest : List Token) (a : Formula) → IsSymbol symbols.Name t
      → Reading.named schema end scope t ts ≡ Ok (a, rest) → Begins schema unary room scope (t ∷ ts) a rest
  unfolding Reading.named
  named-sound scope t room [] rest a name h = comparison-sound scope t room [] rest a name h
  named-sound scope t room (u ∷ ts) rest a name h = at (is_symbol symbols.Open u) refl
    where
      at : (b : Bool) → is_symbol symbols.Open u ≡ b → Begins schema unary room scope (t ∷ u ∷ ts) a rest
      at true e = atom-sound scope t room u ts rest a name (is_symbol-IsSymbol symbols.Open u e) (rw (e, Reading.named) at h)
      at false e = comparison-sound scope t room (u ∷ ts) rest a name (rw (e, Reading.named) at h)

  abbrev pub unary_reader : ℕ → Scope → Reader Formula
  unary_reader room scope = Reading.unary schema end (Reading.inside schema end room) scope

  abbrev pub implied_reader : ℕ → Scope → Reader Formula
  implied_reader room scope = Reading.conditional schema end (Reading.inside schema end room) scope

  -- what is read where so many constructs may still be opened is in the grammar
  pub record SoundAt (room : ℕ) : Type 0 where
    pub unary_sound : (scope : Scope) (ts rest : List Token) (a : Formula) → unary_reader room scope ts ≡ Ok (a, rest)
        → Begins schema unary room scope ts a rest
    pub implied_sound : (scope : Scope) (ts rest : List Token) (a : Formula) → implied_reader room scope ts ≡ Ok (a, rest)
        → Begins schema conditional room scope ts a rest

  abbrev SoundInside : ℕ → Type 0
  SoundInside zero = Unit {0}
  SoundInside (suc room) = SoundAt room

  -- a chain of operands of one part
  module _ (s : Symbol) (join : Formula → Formula → Formula) (operand : Reader Formula) (P : Formula → List Token → Type 0)
      (step : (a : Formula) (t : Token) (us : List Token) (b : Formula) (rest : List Token) → P a (t ∷ us) → IsSymbol s t → operand us ≡ Ok (b, rest)
      → P (join a b) rest) where
    chain-sound : (n : ℕ) (a : Formula) (after : List Token) (b : Formula) (rest : List Token) → P a after → chain s join operand n a after ≡ Ok (b, rest)
        → P b rest
    unfolding chain
    chain-sound zero a after b rest p h = moved P (a, after) (b, rest) h p
    chain-sound (suc n) a [] b rest p h = moved P (a, []) (b, rest) h p
    chain-sound (suc n) a (t ∷ us) b rest p h = at (is_symbol s t) refl (λ c after q k. chain-sound n c after b rest q k)
      where
        at : (e : Bool) → is_symbol s t ≡ e → ((c : Formula) (after : List Token) → P c after → chain s join operand n c after ≡ Ok (b, rest) → P b rest)
            → P b rest
        at true e others =
            let k = bind_ok (operand us) _ (b, rest) (rw (e, chain) at h) in
            others (join a k.0.0) k.0.1 (step a t us k.0.0 k.0.1 p (is_symbol-IsSymbol s t e) k.1) k.2
        at false e others = moved P (a, t ∷ us) (b, rest) (rw (e, chain) at h) p

  module _ (room : ℕ) (scope : Scope) (unary_is_sound : (ts rest : List Token) (a : Formula) → unary_reader room scope ts ≡ Ok (a, rest)
      → Begins schema unary room scope ts a rest) where
    pub both-sound : (ts rest : List Token) (a : Formula) → Reading.both (unary_reader room scope) ts ≡ Ok (a, rest) → Begins schema both room scope ts a rest
    unfolding Reading.both
    both-sound ts rest a h =
        let k = bind_ok (unary_reader room scope ts) _ (a, rest) h in
        chain-sound symbols.And conjunction (unary_reader room scope) (λ a rest. Begins schema both room scope ts a rest) (λ a t us b rest p e read.
        more_and p e (unary_is_sound us rest b read)) (length k.0.1) k.0.0 k.0.1 a rest (one_and (unary_is_sound ts k.0.1 k.0.0 k.1)) k.2

    pub either-sound : (ts rest : List Token) (a : Formula) → Reading.either (unary_reader room scope) ts ≡ Ok (a, rest)
        → Begins schema either room scope ts a rest
    unfolding Reading.either
    either-sound ts rest a h =
        let k = bind_ok (Reading.both (unary_reader room scope) ts) _ (a, rest) h in
        chain-sound symbols.Or disjunction (Reading.both (unary_reader room scope)) (λ a rest. Begins schema either room scope ts a rest)
        (λ a t us b rest p e read. more_or p e (both-sound us rest b read)) (length k.0.1) k.0.0 k.0.1 a rest (one_or (both-sound ts k.0.1 k.0.0 k.1)) k.2

  implying-sound : (room : ℕ) → SoundInside room → (scope : Scope) (ts after rest : List Token) (a b : Formula) → Begins schema either room scope ts a after
      → Reading.implying schema end (Reading.inside schema end room) scope a after ≡ Ok (b, rest) → Begins schema conditional room scope ts b rest
  unfolding Reading.implying Reading.inside
  implying-sound room below scope ts [] rest a b left h = moved (λ a rest. Begins schema conditional room scope ts a rest) (a, []) (b, rest) h (no_arrow left)
  implying-sound zero below scope ts (t ∷ us) rest a b left h = at (is_symbol symbols.Arrow t) refl
    where
      at : (e : Bool) → is_symbol symbols.Arrow t ≡ e → Begins schema conditional zero scope ts b rest
      at true e = let k = rw (e, Reading.implying) at h in absurd (cc)
      at false e = moved (λ a rest. Begins schema conditional zero scope ts a rest) (a, t ∷ us) (b, rest) (rw (e, Reading.implying) at h) (no_arrow left)
  implying-sound (suc room) below scope ts (t ∷ us) rest a b left h = at (is_symbol symbols.Arrow t) refl
    where
      at : (e : Bool) → is_symbol symbols.Arrow t ≡ e → Begins schema conditional (suc room) scope ts b rest
      at true e =
          let k = bind_ok (implied_reader room scope us) _ (b, rest) (rw (e, Reading.implying) at h) in
          moved (λ a rest. Begins schema conditional (suc room) scope ts a rest) (implication a k.0.0, k.0.1) (b, rest) k.2
          (one_arrow left (is_symbol-IsSymbol symbols.Arrow t e) (below.implied_sound scope us k.0.1 k.0.0 k.1))
      at false e = moved (λ a rest. Begins schema conditional (suc room) scope ts a rest) (a, t ∷ us) (b, rest) (rw (e, Reading.implying) at h) (no_arrow left)

  equivalent-sound : (room : ℕ) → SoundAt room → (scope : Scope) (ts after rest : List Token) (a b : Formula) → Begins schema conditional room scope ts a after
      → Reading.equivalent_to schema end (Reading.level_with schema end (Reading.inside schema end room)) scope a after ≡ Ok (b, rest)
      → Begins schema whole room scope ts b rest
  unfolding Reading.equivalent_to
  equivalent-sound room here scope ts [] rest a b left h = moved (λ a rest. Begins schema whole room scope ts a rest) (a, []) (b, rest) h (no_double_arrow left)
  equivalent-sound room here scope ts (t ∷ us) rest a b left h = at (is_symbol symbols.DoubleArrow t) refl
    where
      at : (e : Bool) → is_symbol symbols.DoubleArrow t ≡ e → Begins schema whole room scope ts b rest
      at true e =
          let k = bind_ok (implied_reader room scope us) _ (b, rest) (rw (e, Reading.equivalent_to) at h) in
          moved (λ a rest. Begins schema whole room scope ts a rest) (biconditional a k.0.0, k.0.1) (b, rest) k.2
          (one_double_arrow left (is_symbol-IsSymbol symbols.DoubleArrow t e) (here.implied_sound scope us k.0.1 k.0.0 k.1))
      at false e = moved (λ a rest. Begins schema whole room scope ts a rest) (a, t ∷ us) (b, rest) (rw (e, Reading.equivalent_to) at h) (no_double_arrow left)

  pub whole-sound : (room : ℕ) → SoundAt room → (scope : Scope) (ts rest : List Token) (a : Formula)
      → Reading.sentence schema end (Reading.level_with schema end (Reading.inside schema end room)) scope ts ≡ Ok (a, rest)
      → Begins schema whole room scope ts a rest
  unfolding Reading.sentence
  whole-sound room here scope ts rest a h =
      let k = bind_ok (implied_reader room scope ts) _ (a, rest) h in
      equivalent-sound room here scope ts k.0.1 rest k.0.0 a (here.implied_sound scope ts k.0.1 k.0.0 k.1) k.2

  ends_quantified-sound : (ts rest : List Token) → Reading.ends_quantified schema end ts ≡ Ok rest → (ts ≡ rest) × MayEndQuantified ts
  unfolding Reading.ends_quantified
  ends_quantified-sound [] rest h = (cc, tt)
  ends_quantified-sound (t ∷ ts) rest h = let p = if_ok (is_symbol symbols.Close t) (t ∷ ts) rest _ h in (p.1, is_symbol-IsSymbol symbols.Close t p.0)

  -- what stands behind the token that opens a quantified sentence
  record QuantifiedParts (room : ℕ) (scope : Scope) (s : Symbol) (q : Token) (quantifier : ℕ → Formula → Formula) (ts rest : List Token) (a : Formula) :
      Type 0 where
    x : Token
    c : Token
    d : Token
    p : Token
    us : List Token
    domain : ℕ
    body : Formula
    tokens : ts ≡ x ∷ c ∷ d ∷ p ∷ us
    formula : a ≡ quantifier domain body
    opens : IsQuantifier schema scope s q x c d p domain
    begins : Begins schema whole room (record { variable = x.text; domain = domain } ∷ scope) us body rest
    ends : MayEndQuantified rest

  -- where the quantifier may be opened
  quantified-inside : (room : ℕ) (here : SoundAt room) (scope : Scope) (s : Symbol) (q : Token) (quantifier : ℕ → Formula → Formula) (ts rest : List Token)
      (a : Formula) → IsSymbol s q → length scope < 8
      → (Reading.name schema end ts >>= λ x. Reading.pass schema end symbols.Colon x.1 >>= λ behind_colon. Reading.domain schema end behind_colon >>= λ d.
      Reading.pass schema end symbols.Dot d.1 >>= λ body.
      Reading.sentence schema end (Reading.level_with schema end (Reading.inside schema end room))
      (record { variable = x.0.text; domain = d.0 } ∷ scope) body >>= λ a. Reading.ends_quantified schema end a.1 >>= λ rest.
      (let read : Result (Formula × List Token) Refusal = Ok (quantifier d.0 a.0, rest) in read)) ≡ Ok (a, rest)
      → QuantifiedParts room scope s q quantifier ts rest a
  quantified-inside room here scope s q quantifier ts rest a opens few h =
      let x = bind_ok (Reading.name schema end ts) _ (a, rest) h in
      let c = bind_ok (Reading.pass schema end symbols.Colon x.0.1) _ (a, rest) x.2 in
      let d = bind_ok (Reading.domain schema end c.0) _ (a, rest) c.2 in
      let p = bind_ok (Reading.pass schema end symbols.Dot d.0.1) _ (a, rest) d.2 in
      let b = bind_ok (Reading.sentence schema end (Reading.level_with schema end (Reading.inside schema end room))
      (record { variable = x.0.0.text; domain = d.0.0 } ∷ scope) p.0) _ (a, rest) p.2 in
      let e = bind_ok (Reading.ends_quantified schema end b.0.1) _ (a, rest) b.2 in
      let x' = name-sound ts x.0.1 x.0.0 x.1 in
      let c' = pass-sound symbols.Colon x.0.1 c.0 c.1 in
      let d' = domain-sound c.0 d.0.1 d.0.0 d.1 in
      let p' = pass-sound symbols.Dot d.0.1 p.0 p.1 in
      let e' = ends_quantified-sound b.0.1 e.0 e.1 in
      let result : (quantifier d.0.0 b.0.0, e.0) ≡ (a, rest) = cc in
      let left : b.0.1 ≡ rest = e'.0 ∙ ap (λ (y : Formula × List Token). y.1) result in
      record {
        x = x.0.0;
        c = c'.0;
        d = d'.0;
        p = p'.0;
        us = p.0;
        domain = d.0.0;
        body = b.0.0;
        tokens = x'.0 ∙ ap (λ (ts : List Token). x.0.0 ∷ ts) (c'.1 ∙ ap (λ (ts : List Token). c'.0 ∷ ts) (d'.1 ∙ ap (λ (ts : List Token). d'.0 ∷ ts) p'.1));
        formula = sym (ap (λ (y : Formula × List Token). y.0) result);
        opens = record { opens = opens; variable = x'.1; colon = c'.2; is_name = d'.2; stands_for = d'.3; dot = p'.2; not_too_deep = few };
        begins = subst (λ rest. Begins schema whole room (record { variable = x.0.0.text; domain = d.0.0 } ∷ scope) p.0 b.0.0 rest) left
            (whole-sound room here (record { variable = x.0.0.text; domain = d.0.0 } ∷ scope) p.0 b.0.1 b.0.0 b.1);
        ends = subst MayEndQuantified left e'.1;
      }

  quantified-sound : (room : ℕ) (here : SoundAt room) (scope : Scope) (s : Symbol) (q : Token) (quantifier : ℕ → Formula → Formula) (ts rest : List Token)
      (a : Formula) → IsSymbol s q
      → Reading.quantified schema end quantifier (Reading.inside schema end (suc room)) scope q ts ≡ Ok (a, rest)
      → QuantifiedParts room scope s q quantifier ts rest a
  unfolding Reading.quantified Reading.inside
  quantified-sound room here scope s q quantifier ts rest a opens h = at (nat_lt (length scope) 8) refl
    where
      at : (b : Bool) → nat_lt (length scope) 8 ≡ b → QuantifiedParts room scope s q quantifier ts rest a
      at true e = let few : length scope < 8 = grind (arith, nat_tests) in quantified-inside room here scope s q quantifier ts rest a opens few (rw e at h)
      at false e = let k = rw e at h in absurd (cc)

  no_room : (quantifier : ℕ → Formula → Formula) (scope : Scope) (q : Token) (ts : List Token) (y : Formula × List Token)
      → Reading.quantified schema end quantifier None scope q ts ≡ Ok y → ⊥
  unfolding Reading.quantified
  no_room quantifier scope q ts y h = at (nat_lt (length scope) 8) refl
    where
      at : (b : Bool) → nat_lt (length scope) 8 ≡ b → ⊥
      at true e = let k = rw e at h in cc
      at false e = let k = rw e at h in cc

  unary_by-sound : (room : ℕ) → SoundInside room → (s : Symbol) (scope : Scope) (t : Token) (ts rest : List Token) (a : Formula) → IsSymbol s t
      → Reading.unary_by schema end s (Reading.inside schema end room) scope t ts ≡ Ok (a, rest) → Begins schema unary room scope (t ∷ ts) a rest
  unfolding Reading.unary_by Reading.inside
  unary_by-sound zero below symbols.Not scope t ts rest a e h = absurd (cc)
  unary_by-sound (suc room) below symbols.Not scope t ts rest a e h =
      let k = bind_ok (unary_reader room scope ts) _ (a, rest) h in
      moved (λ a rest. Begins schema unary (suc room) scope (t ∷ ts) a rest) (negation k.0.0, k.0.1) (a, rest) k.2
      (is_not e (below.unary_sound scope ts k.0.1 k.0.0 k.1))
  unary_by-sound zero below symbols.Open scope t ts rest a e h = absurd (cc)
  unary_by-sound (suc room) below symbols.Open scope t ts rest a e h =
      let k = bind_ok (Reading.sentence schema end (Reading.level_with schema end (Reading.inside schema end room)) scope ts) _ (a, rest) h in
      let p = bind_ok (Reading.pass schema end symbols.Close k.0.1) _ (a, rest) k.2 in
      let c = pass-sound symbols.Close k.0.1 p.0 p.1 in
      let inner = subst (λ rest. Begins schema whole room scope ts k.0.0 rest) c.1 (whole-sound room below scope ts k.0.1 k.0.0 k.1) in
      moved (λ a rest. Begins schema unary (suc room) scope (t ∷ ts) a rest) (k.0.0, p.0) (a, rest) p.2 (in_parentheses e inner c.2)
  unary_by-sound zero below symbols.Forall scope t ts rest a e h = absurd (no_room universal scope t ts (a, rest) h)
  unary_by-sound (suc room) below symbols.Forall scope t ts rest a e h =
      let q = quantified-sound room below scope symbols.Forall t universal ts rest a e h in
      subst (λ ts. Begins schema unary (suc room) scope (t ∷ ts) a rest) (sym q.tokens)
      (subst (λ a. Begins schema unary (suc room) scope (t ∷ q.x ∷ q.c ∷ q.d ∷ q.p ∷ q.us) a rest) (sym q.formula) (is_forall q.opens q.begins q.ends))
  unary_by-sound zero below symbols.Exists scope t ts rest a e h = absurd (no_room existential scope t ts (a, rest) h)
  unary_by-sound (suc room) below symbols.Exists scope t ts rest a e h =
      let q = quantified-sound room below scope symbols.Exists t existential ts rest a e h in
      subst (λ ts. Begins schema unary (suc room) scope (t ∷ ts) a rest) (sym q.tokens)
      (subst (λ a. Begins schema unary (suc room) scope (t ∷ q.x ∷ q.c ∷ q.d ∷ q.p ∷ q.us) a rest) (sym q.formula) (is_exists q.opens q.begins q.ends))
  unary_by-sound room below symbols.True scope t ts rest a e h =
      moved (λ a rest. Begins schema unary room scope (t ∷ ts) a rest) (verum, ts) (a, rest) h (is_true e)
  unary_by-sound room below symbols.False scope t ts rest a e h =
      moved (λ a rest. Begins schema unary room scope (t ∷ ts) a rest) (falsum, ts) (a, rest) h (is_false e)
  unary_by-sound room below symbols.Name scope t ts rest a e h = named-sound scope t room ts rest a e h
  unary_by-sound room below symbols.And scope t ts rest a e h = absurd (cc)
  unary_by-sound room below symbols.Or scope t ts rest a e h = absurd (cc)
  unary_by-sound room below symbols.Close scope t ts rest a e h = absurd (cc)
  unary_by-sound room below symbols.Comma scope t ts rest a e h = absurd (cc)
  unary_by-sound room below symbols.Colon scope t ts rest a e h = absurd (cc)
  unary_by-sound room below symbols.Dot scope t ts rest a e h = absurd (cc)
  unary_by-sound room below symbols.Equal scope t ts rest a e h = absurd (cc)
  unary_by-sound room below symbols.Differs scope t ts rest a e h = absurd (cc)
  unary_by-sound room below symbols.Arrow scope t ts rest a e h = absurd (cc)
  unary_by-sound room below symbols.DoubleArrow scope t ts rest a e h = absurd (cc)

  pub unary-sound : (room : ℕ) → SoundInside room → (scope : Scope) (ts rest : List Token) (a : Formula) → unary_reader room scope ts ≡ Ok (a, rest)
      → Begins schema unary room scope ts a rest
  unfolding Reading.unary
  unary-sound room below scope [] rest a h = absurd (cc)
  unary-sound room below scope (t ∷ ts) rest a h = unary_by-sound room below (symbol_of t.text) scope t ts rest a refl h

  pub conditional-sound : (room : ℕ) → SoundInside room → (scope : Scope) (ts rest : List Token) (a : Formula) → implied_reader room scope ts ≡ Ok (a, rest)
      → Begins schema conditional room scope ts a rest
  unfolding Reading.conditional
  conditional-sound room below scope ts rest a h =
      let k = bind_ok (Reading.either (unary_reader room scope) ts) _ (a, rest) h in
      implying-sound room below scope ts k.0.1 rest k.0.0 a (either-sound room scope (unary-sound room below scope) ts k.0.1 k.0.0 k.1) k.2

  pub sound : (room : ℕ) → SoundAt room
  sound zero = record { unary_sound = unary-sound zero tt; implied_sound = conditional-sound zero tt }
  sound (suc room) = let here = sound room in record { unary_sound = unary-sound (suc room) here; implied_sound = conditional-sound (suc room) here }
