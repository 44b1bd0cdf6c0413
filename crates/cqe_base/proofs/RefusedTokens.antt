-- A token that may not stand where it is, and the end of the text there, are refused by the table.
use Rattle.std.proofs.Common.{◌≡◌, ℕ, Bool, true, false, cond, List, [], ◌∷◌, Option, Some, None, Result, Ok, Err, refl, sym, ap, subst, arith}
use Rattle.std.specs.Prelude.{◌==◌}
use Rattle.std.proofs.lemmas.Bool.Decides.{nat_tests}
use Rattle.cqe_base.specs.declared.text.Symbol.{Symbol}
use Rattle.cqe_base.specs.declared.text.Symbol.TheVariants as symbols
use Rattle.cqe_base.specs.Formula.{Formula}
use Rattle.cqe_base.specs.Schema.{DatabaseSchema, domain_named}
use Rattle.cqe_base.specs.Tokens.{Token, symbol_of, same_symbol}
use Rattle.cqe_base.specs.Reading
use Rattle.cqe_base.specs.Reading.{◌>>=◌, Refusal, Scope, term_named, looked_up, is_symbol, is_next, unexpected, unknown_name, wrong_domain, wrong_columns}
use Rattle.cqe_base.specs.Refusals.{Wanted, variable, colon, domain, dot, term, no_term, behind_column, sign, behind_operand, may_stand, MustGoOn, Refuses}
use Rattle.cqe_base.specs.Refusals.{at_end, not_allowed, no_such_term, no_domain, other_domain, comma_behind_last, close_before_last}
use Rattle.cqe_base.proofs.GrammarSound.{is_symbol-IsSymbol, name-sound}

-- ---- which step refuses

pub by_step : {A B : Type 0} (P : Type 0) (r : Result A Refusal) (f : A → Result B Refusal) (e : Refusal) → (r ≡ Err e → P)
    → ((x : A) → r ≡ Ok x → f x ≡ Err e → P) → (r >>= f) ≡ Err e → P
by_step P (Ok x) f e first later h = later x refl h
by_step P (Err d) f e first later h = let same : d ≡ e = cc in first (ap Err same)

pub by_name : {A B : Type 0} (P : Type 0) (t : Token) (o : Option A) (f : A → Result B Refusal) (e : Refusal) → (o ≡ None → unknown_name t.start ≡ e → P)
    → ((x : A) → o ≡ Some x → f x ≡ Err e → P) → (looked_up t o >>= f) ≡ Err e → P
by_name P t (Some x) f e missing found h = found x refl h
by_name P t None f e missing found h = missing refl (cc)

pub by_test : {A : Type 0} (P : Type 0) (b : Bool) (x y : Result A Refusal) (e : Refusal) → (b ≡ true → x ≡ Err e → P) → (b ≡ false → y ≡ Err e → P)
    → cond b x y ≡ Err e → P
by_test P true x y e passed failed h = passed refl h
by_test P false x y e passed failed h = failed refl h

pub never_ok : {A P : Type 0} (x : A) (e : Refusal) → ◌≡◌ {A = Result A Refusal} (Ok x) (Err e) → P
never_ok x e h = absurd (cc)

-- ---- which symbols are Unexpected

pub variable-forbids : (s : Symbol) → same_symbol symbols.Name s ≡ false → may_stand variable s ≡ false
variable-forbids symbols.Name h = absurd (cc)
variable-forbids _ h = refl

domain-forbids : (s : Symbol) → same_symbol symbols.Name s ≡ false → may_stand domain s ≡ false
domain-forbids symbols.Name h = absurd (cc)
domain-forbids _ h = refl

pub colon-forbids : (s : Symbol) → same_symbol symbols.Colon s ≡ false → may_stand colon s ≡ false
colon-forbids symbols.Colon h = absurd (cc)
colon-forbids _ h = refl

pub dot-forbids : (s : Symbol) → same_symbol symbols.Dot s ≡ false → may_stand dot s ≡ false
dot-forbids symbols.Dot h = absurd (cc)
dot-forbids _ h = refl

term-forbids : (scope : Scope) (d : ℕ) (first : Bool) (s : Symbol) → same_symbol symbols.Name s ≡ false → (first ≡ true → same_symbol symbols.Close s ≡ false)
    → may_stand (term scope d first) s ≡ false
term-forbids scope d first symbols.Name h apart = absurd (cc)
term-forbids scope d true symbols.Close h apart = let k = apart refl in absurd (cc)
term-forbids scope d false symbols.Close h apart = refl
term-forbids scope d first _ h apart = refl

pub no_term-forbids : (s : Symbol) → same_symbol symbols.Close s ≡ false → same_symbol symbols.Name s ≡ false → may_stand no_term s ≡ false
no_term-forbids symbols.Close h k = absurd (cc)
no_term-forbids symbols.Name h k = absurd (cc)
no_term-forbids _ h k = refl

column-forbids : (last : Bool) (s : Symbol) → same_symbol symbols.Comma s ≡ false → same_symbol symbols.Close s ≡ false
    → may_stand (behind_column last) s ≡ false
column-forbids last symbols.Comma h k = absurd (cc)
column-forbids last symbols.Close h k = absurd (cc)
column-forbids last _ h k = refl

sign-forbids : (s : Symbol) → same_symbol symbols.Equal s ≡ false → same_symbol symbols.Differs s ≡ false → same_symbol symbols.Open s ≡ false
    → may_stand sign s ≡ false
sign-forbids symbols.Equal h k l = absurd (cc)
sign-forbids symbols.Differs h k l = absurd (cc)
sign-forbids symbols.Open h k l = absurd (cc)
sign-forbids _ h k l = refl

pub operand-forbids : (room : ℕ) (double open_ : Bool) (s : Symbol) → same_symbol symbols.And s ≡ false → same_symbol symbols.Or s ≡ false
    → same_symbol symbols.Arrow s ≡ false → (double ≡ true → same_symbol symbols.DoubleArrow s ≡ false)
    → (open_ ≡ true → same_symbol symbols.Close s ≡ false) → may_stand (behind_operand room double open_) s ≡ false
operand-forbids room double open_ symbols.And a o r d c = absurd (cc)
operand-forbids room double open_ symbols.Or a o r d c = absurd (cc)
operand-forbids room double open_ symbols.Arrow a o r d c = absurd (cc)
operand-forbids room true open_ symbols.DoubleArrow a o r d c = let k = d refl in absurd (cc)
operand-forbids room false open_ symbols.DoubleArrow a o r d c = refl
operand-forbids room double true symbols.Close a o r d c = let k = c refl in absurd (cc)
operand-forbids room double false symbols.Close a o r d c = refl
operand-forbids room double open_ _ a o r d c = refl

module _ (schema : DatabaseSchema) (end : Refusal) where
  pub ends : (w : Wanted) (e : Refusal) → MustGoOn w → ◌≡◌ {A = Refusal} end e → Refuses schema end w [] e
  ends w e must same = subst (λ e. Refuses schema end w [] e) same (at_end must)

  pub forbidden : (w : Wanted) (t : Token) (ts : List Token) (e : Refusal) → may_stand w (symbol_of t.text) ≡ false → unexpected t.start ≡ e
      → Refuses schema end w (t ∷ ts) e
  forbidden w t ts e forbids same = subst (λ e. Refuses schema end w (t ∷ ts) e) same (not_allowed forbids)

  pub pass-refused : (w : Wanted) (s : Symbol) → ((other : Symbol) → same_symbol s other ≡ false → may_stand w other ≡ false) → MustGoOn w
      → (ts : List Token) (e : Refusal) → Reading.pass schema end s ts ≡ Err e → Refuses schema end w ts e
  unfolding Reading.pass
  pass-refused w s forbids must [] e h = ends w e must (cc)
  pass-refused w s forbids must (t ∷ ts) e h =
      by_test (Refuses schema end w (t ∷ ts) e) (is_symbol s t) (Ok ts) (Err (unexpected t.start)) e (λ k h. never_ok ts e h)
      (λ k h. forbidden w t ts e (forbids (symbol_of t.text) k) (cc)) h

  pub name-refused : (w : Wanted) → ((other : Symbol) → same_symbol symbols.Name other ≡ false → may_stand w other ≡ false) → MustGoOn w
      → (ts : List Token) (e : Refusal) → Reading.name schema end ts ≡ Err e → Refuses schema end w ts e
  unfolding Reading.name
  name-refused w forbids must [] e h = ends w e must (cc)
  name-refused w forbids must (t ∷ ts) e h =
      by_test (Refuses schema end w (t ∷ ts) e) (is_symbol symbols.Name t) (Ok (t, ts)) (Err (unexpected t.start)) e (λ k h. never_ok (t, ts) e h)
      (λ k h. forbidden w t ts e (forbids (symbol_of t.text) k) (cc)) h

  pub domain-refused : (ts : List Token) (e : Refusal) → Reading.domain schema end ts ≡ Err e → Refuses schema end domain ts e
  unfolding Reading.domain
  domain-refused ts e h =
      by_step (Refuses schema end domain ts e) (Reading.name schema end ts) _ e (name-refused domain domain-forbids tt ts e)
      (λ x read h. by_name (Refuses schema end domain ts e) x.0 (domain_named schema x.0.text) _ e
      (λ none same.
      let n = name-sound schema end ts x.1 x.0 read in
      subst (λ ts. Refuses schema end domain ts e) (sym n.0) (subst (λ e. Refuses schema end domain (x.0 ∷ x.1) e) same (no_domain n.1 none)))
      (λ d found h. never_ok (d, x.1) e h) h) h

  term_name-refused : (scope : Scope) (d : ℕ) (first : Bool) (ts : List Token) (e : Refusal) → (first ≡ true → is_next symbols.Close ts ≡ false)
      → Reading.name schema end ts ≡ Err e → Refuses schema end (term scope d first) ts e
  unfolding Reading.name
  term_name-refused scope d first [] e apart h = ends (term scope d first) e tt (cc)
  term_name-refused scope d first (t ∷ ts) e apart h =
      by_test (Refuses schema end (term scope d first) (t ∷ ts) e) (is_symbol symbols.Name t) (Ok (t, ts)) (Err (unexpected t.start)) e
      (λ k h. never_ok (t, ts) e h)
      (λ k h. forbidden (term scope d first) t ts e (term-forbids scope d first (symbol_of t.text) k apart) (cc)) h

  pub term-refused : (scope : Scope) (d : ℕ) (first : Bool) (ts : List Token) (e : Refusal) → (first ≡ true → is_next symbols.Close ts ≡ false)
      → Reading.term_of schema end scope d ts ≡ Err e → Refuses schema end (term scope d first) ts e
  unfolding Reading.term_of
  term-refused scope d first ts e apart h =
      by_step (Refuses schema end (term scope d first) ts e) (Reading.name schema end ts) _ e (term_name-refused scope d first ts e apart)
      (λ x read h.
      let n = name-sound schema end ts x.1 x.0 read in
      by_name (Refuses schema end (term scope d first) ts e) x.0 (term_named schema scope x.0.text) _ e
      (λ none same. subst (λ ts. Refuses schema end (term scope d first) ts e) (sym n.0)
      (subst (λ e. Refuses schema end (term scope d first) (x.0 ∷ x.1) e) same (no_such_term n.1 none)))
      (λ a found h. by_test (Refuses schema end (term scope d first) ts e) (a.domain == d) (Ok (a.term, x.1)) (Err (wrong_domain x.0.start)) e
      (λ k h. never_ok (a.term, x.1) e h)
      (λ k h.
      let differ : a.domain ≡ d → ⊥ = λ same. grind (arith, nat_tests) in
      let is : wrong_domain x.0.start ≡ e = cc in
      subst (λ ts. Refuses schema end (term scope d first) ts e) (sym n.0)
      (subst (λ e. Refuses schema end (term scope d first) (x.0 ∷ x.1) e) is (other_domain n.1 found differ))) h) h) h

  pub after_column-refused : (last : Bool) (ts : List Token) (e : Refusal) → Reading.after_column schema end last ts ≡ Err e
      → Refuses schema end (behind_column last) ts e
  unfolding Reading.after_column
  after_column-refused last [] e h = ends (behind_column last) e tt (cc)
  after_column-refused true (t ∷ ts) e h =
      by_test (Refuses schema end (behind_column true) (t ∷ ts) e) (is_symbol symbols.Close t) (Ok ts) _ e (λ k h. never_ok ts e h)
      (λ k h. by_test (Refuses schema end (behind_column true) (t ∷ ts) e) (is_symbol symbols.Comma t) (Err (wrong_columns t.start))
      (Err (unexpected t.start)) e
      (λ l h. let same : wrong_columns t.start ≡ e = cc in
      subst (λ e. Refuses schema end (behind_column true) (t ∷ ts) e) same (comma_behind_last (is_symbol-IsSymbol symbols.Comma t l)))
      (λ l h. forbidden (behind_column true) t ts e (column-forbids true (symbol_of t.text) l k) (cc)) h) h
  after_column-refused false (t ∷ ts) e h =
      by_test (Refuses schema end (behind_column false) (t ∷ ts) e) (is_symbol symbols.Comma t) (Ok ts) _ e (λ k h. never_ok ts e h)
      (λ k h. by_test (Refuses schema end (behind_column false) (t ∷ ts) e) (is_symbol symbols.Close t) (Err (wrong_columns t.start))
      (Err (unexpected t.start)) e
      (λ l h. let same : wrong_columns t.start ≡ e = cc in
      subst (λ e. Refuses schema end (behind_column false) (t ∷ ts) e) same (close_before_last (is_symbol-IsSymbol symbols.Close t l)))
      (λ l h. forbidden (behind_column false) t ts e (column-forbids false (symbol_of t.text) k l) (cc)) h) h

  pub sign-refused : (ts : List Token) (e : Refusal) → is_next symbols.Open ts ≡ false → Reading.comparison_sign schema end ts ≡ Err e
      → Refuses schema end sign ts e
  unfolding Reading.comparison_sign
  sign-refused [] e closed h = ends sign e tt (cc)
  sign-refused (t ∷ ts) e closed h =
      by_test (Refuses schema end sign (t ∷ ts) e) (is_symbol symbols.Equal t) (Ok (Formula.equality, ts)) _ e (λ k h. never_ok (Formula.equality, ts) e h)
      (λ k h. by_test (Refuses schema end sign (t ∷ ts) e) (is_symbol symbols.Differs t) (Ok (Formula.inequality, ts)) (Err (unexpected t.start)) e
      (λ l h. never_ok (Formula.inequality, ts) e h)
      (λ l h. forbidden sign t ts e (sign-forbids (symbol_of t.text) k l closed) (cc)) h) h
