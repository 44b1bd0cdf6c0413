-- An atom, a comparison, and a column of an atom that don't read are refused by the table.
use Rattle.std.proofs.Common.{◌≡◌, ℕ, ◌⊎◌, inl, inr, Bool, true, false, cond, List, [], ◌∷◌, ◌++◌, Result, Ok, Err, refl, ap, subst, ◌∙◌}
use Rattle.cqe_base.specs.declared.sentence.Term.{Term}
use Rattle.cqe_base.specs.declared.text.Symbol.TheVariants as symbols
use Rattle.cqe_base.specs.Formula.{Formula}
use Rattle.cqe_base.specs.Schema.{DatabaseSchema, relation_named}
use Rattle.cqe_base.specs.Tokens.{Token, symbol_of}
use Rattle.cqe_base.specs.Reading
use Rattle.cqe_base.specs.Reading.{Refusal, Scope, column_domains, term_named, is_symbol, is_next, unexpected, wrong_columns}
use Rattle.cqe_base.specs.Grammar.{Part, unary, IsSymbol, IsTerm}
use Rattle.cqe_base.specs.Refusals.{Wanted, operand, term, no_term, behind_column, sign, Refuses, no_relation, no_left_side, close_before_first}
use Rattle.cqe_base.specs.Refusals.{term_without_column, InColumns, without_columns, before_term, behind_term, in_next, BreaksOff, at_start, in_atom}
use Rattle.cqe_base.specs.Refusals.{behind_left_side, before_right_side}
use Rattle.cqe_base.proofs.GrammarSound.{is_symbol-IsSymbol, term-sound, after_column-sound}
use Rattle.cqe_base.proofs.RefusedTokens.{by_step, by_name, by_test, never_ok, no_term-forbids, ends, forbidden, term-refused, after_column-refused}
use Rattle.cqe_base.proofs.RefusedTokens.{sign-refused}

module _ (schema : DatabaseSchema) (end : Refusal) where
  record StoppedColumns (scope : Scope) (first : Bool) (ds : List ℕ) (ts : List Token) (e : Refusal) : Type 0 where
    front : List Token
    back : List Token
    wanted : Wanted
    split : ts ≡ front ++ back
    breaks_off : InColumns schema scope first ds front wanted
    refuses : Refuses schema end wanted back e

  columns-stopped : (scope : Scope) (first : Bool) (ds : List ℕ) (ts : List Token) (e : Refusal) → (first ≡ true → is_next symbols.Close ts ≡ false)
      → Reading.columns schema end scope ds ts ≡ Err e → StoppedColumns scope first ds ts e
  unfolding Reading.columns
  columns-stopped scope first [] ts e apart h = never_ok ([], ts) e h
  columns-stopped scope first (d ∷ []) ts e apart h =
      by_step (StoppedColumns scope first (d ∷ []) ts e) (Reading.term_of schema end scope d ts) _ e
      (λ h. record {
        front = [];
        back = ts;
        wanted = term scope d first;
        split = refl;
        breaks_off = before_term;
        refuses =
            term-refused schema end scope d first ts e apart h;
      })
      (λ x read h. let t = term-sound schema end scope d ts x.1 x.0 read in
      by_step (StoppedColumns scope first (d ∷ []) ts e) (Reading.after_column schema end true x.1) _ e
      (λ h. record {
        front = t.0 ∷ [];
        back = x.1;
        wanted = behind_column true;
        split = t.1;
        breaks_off = behind_term t.2;
        refuses =
            after_column-refused schema end true x.1 e h;
      })
      (λ next read h. never_ok (x.0 ∷ [], next) e h) h) h
  columns-stopped scope first (d ∷ n ∷ ds) ts e apart h =
      by_step (StoppedColumns scope first (d ∷ n ∷ ds) ts e) (Reading.term_of schema end scope d ts) _ e
      (λ h. record {
        front = [];
        back = ts;
        wanted = term scope d first;
        split = refl;
        breaks_off = before_term;
        refuses =
            term-refused schema end scope d first ts e apart h;
      })
      (λ x read h. let t = term-sound schema end scope d ts x.1 x.0 read in
      by_step (StoppedColumns scope first (d ∷ n ∷ ds) ts e) (Reading.after_column schema end false x.1) _ e
      (λ h. record {
        front = t.0 ∷ [];
        back = x.1;
        wanted = behind_column false;
        split = t.1;
        breaks_off = behind_term t.2;
        refuses =
            after_column-refused schema end false x.1 e h;
      })
      (λ next read h. let c = after_column-sound schema end false x.1 next read in
      by_step (StoppedColumns scope first (d ∷ n ∷ ds) ts e) (Reading.columns schema end scope (n ∷ ds) next) _ e
      (λ h. let s = columns-stopped scope false (n ∷ ds) next e (λ k. absurd (cc)) h in
      record {
        front = t.0 ∷ c.0 ∷ s.front;
        back = s.back;
        wanted = s.wanted;
        split =
            t.1 ∙ ap (λ (us : List Token). t.0 ∷ us) (c.1 ∙ ap (λ (us : List Token). c.0 ∷ us) s.split);
        breaks_off = in_next t.2 c.2 s.breaks_off;
        refuses =
            s.refuses;
      })
      (λ y read h. never_ok (x.0 ∷ y.0, y.1) e h) h) h) h

  arguments-stopped : (scope : Scope) (ds : List ℕ) (ts : List Token) (e : Refusal) → Reading.arguments schema end scope ds ts ≡ Err e
      → StoppedColumns scope true ds ts e
  unfolding Reading.arguments Reading.no_columns Reading.some_columns
  arguments-stopped scope [] [] e h =
      record { front = []; back = []; wanted = no_term; split = refl; breaks_off = without_columns; refuses = ends schema end no_term e tt (cc) }
  arguments-stopped scope [] (t ∷ ts) e h =
      by_test (StoppedColumns scope true [] (t ∷ ts) e) (is_symbol symbols.Close t) (Ok ([], ts)) _ e (λ k h. never_ok ([], ts) e h)
      (λ k h. record {
        front = [];
        back = t ∷ ts;
        wanted = no_term;
        split = refl;
        breaks_off = without_columns;
        refuses =
            by_test (Refuses schema end no_term (t ∷ ts) e) (is_symbol symbols.Name t) (Err (wrong_columns t.start)) (Err (unexpected t.start)) e
            (λ l h. let same : wrong_columns t.start ≡ e = cc in
            subst (λ e. Refuses schema end no_term (t ∷ ts) e) same (term_without_column (is_symbol-IsSymbol symbols.Name t l)))
            (λ l h. forbidden schema end no_term t ts e (no_term-forbids (symbol_of t.text) k l) (cc)) h;
      }) h
  arguments-stopped scope (d ∷ ds) [] e h =
      record {
        front = [];
        back = [];
        wanted = term scope d true;
        split = refl;
        breaks_off = before_term;
        refuses = ends schema end (term scope d true) e tt (cc);
      }
  arguments-stopped scope (d ∷ ds) (t ∷ ts) e h =
      by_test (StoppedColumns scope true (d ∷ ds) (t ∷ ts) e) (is_symbol symbols.Close t) (Err (wrong_columns t.start)) _ e
      (λ k h. let same : wrong_columns t.start ≡ e = cc in
      record {
        front = [];
        back = t ∷ ts;
        wanted = term scope d true;
        split = refl;
        breaks_off = before_term;
        refuses =
            subst (λ e. Refuses schema end (term scope d true) (t ∷ ts) e) same (close_before_first (is_symbol-IsSymbol symbols.Close t k));
      })
      (λ k h. columns-stopped scope true (d ∷ ds) (t ∷ ts) e (λ first. k) h) h

  -- ---- operands

  pub record Stopped (double open_ : Bool) (part : Part) (room : ℕ) (scope : Scope) (ts : List Token) (e : Refusal) : Type 0 where
    pub front : List Token
    pub back : List Token
    pub wanted : Wanted
    pub split : ts ≡ front ++ back
    pub breaks_off : BreaksOff schema double open_ part room scope front wanted
    pub refuses : Refuses schema end wanted back e

  -- at the first token
  pub at_first : (double open_ : Bool) (room : ℕ) (scope : Scope) (ts : List Token) (e : Refusal) → Refuses schema end (operand room scope) ts e
      → Stopped double open_ unary room scope ts e
  at_first double open_ room scope ts e refuses =
      record { front = []; back = ts; wanted = operand room scope; split = refl; breaks_off = at_start; refuses = refuses }

  sign-ok : (ts after : List Token) (compare : Term → Term → Formula) → Reading.comparison_sign schema end ts ≡ Ok (compare, after) → (s : Token)
      × (ts ≡ s ∷ after) × (IsSymbol symbols.Equal s ⊎ IsSymbol symbols.Differs s)
  unfolding Reading.comparison_sign
  sign-ok [] after compare h = absurd (cc)
  sign-ok (t ∷ ts) after compare h = at (is_symbol symbols.Equal t) refl h
    where
      differs : (b : Bool) → is_symbol symbols.Differs t ≡ b
          → cond {A = Result ((Term → Term → Formula) × List Token) Refusal} b (Ok (Formula.inequality, ts)) (Err (unexpected t.start)) ≡ Ok (compare, after)
          → (s : Token) × (t ∷ ts ≡ s ∷ after) × (IsSymbol symbols.Equal s ⊎ IsSymbol symbols.Differs s)
      differs true e k = let same : ◌≡◌ {A = (Term → Term → Formula) × List Token} (Formula.inequality, ts) (compare, after) = cc in
          (t, ap (λ (x : (Term → Term → Formula) × List Token). t ∷ x.1) same, inr (is_symbol-IsSymbol symbols.Differs t e))
      differs false e k = absurd (cc)

      at : (b : Bool) → is_symbol symbols.Equal t ≡ b
          → cond {A = Result ((Term → Term → Formula) × List Token) Refusal} b (Ok (Formula.equality, ts))
          (cond (is_symbol symbols.Differs t) (Ok (Formula.inequality, ts)) (Err (unexpected t.start))) ≡ Ok (compare, after)
          → (s : Token) × (t ∷ ts ≡ s ∷ after) × (IsSymbol symbols.Equal s ⊎ IsSymbol symbols.Differs s)
      at true e k = let same : ◌≡◌ {A = (Term → Term → Formula) × List Token} (Formula.equality, ts) (compare, after) = cc in
          (t, ap (λ (x : (Term → Term → Formula) × List Token). t ∷ x.1) same, inl (is_symbol-IsSymbol symbols.Equal t e))
      at false e k = differs (is_symbol symbols.Differs t) refl k

  module _ (double open_ : Bool) (room : ℕ) (scope : Scope) (t : Token) where
    comparison-stopped : (ts : List Token) (e : Refusal) → IsSymbol symbols.Name t → is_next symbols.Open ts ≡ false
        → Reading.comparison schema end scope t ts ≡ Err e → Stopped double open_ unary room scope (t ∷ ts) e
    unfolding Reading.comparison
    comparison-stopped ts e name closed h =
        by_name (Stopped double open_ unary room scope (t ∷ ts) e) t (term_named schema scope t.text) _ e
        (λ none same. at_first double open_ room scope (t ∷ ts) e
        (subst (λ e. Refuses schema end (operand room scope) (t ∷ ts) e) same (no_left_side name closed none)))
        (λ a found h. let left : IsTerm schema scope t a.term a.domain = record { is_name = name; stands_for = found } in
        by_step (Stopped double open_ unary room scope (t ∷ ts) e) (Reading.comparison_sign schema end ts) _ e
        (λ h. record {
          front = t ∷ [];
          back = ts;
          wanted = sign;
          split = refl;
          breaks_off = behind_left_side left;
          refuses = sign-refused schema end ts e closed h;
        })
        (λ c read h. let s = sign-ok ts c.1 c.0 read in
        by_step (Stopped double open_ unary room scope (t ∷ ts) e) (Reading.term_of schema end scope a.domain c.1) _ e
        (λ h. record {
          front = t ∷ s.0 ∷ [];
          back = c.1;
          wanted = term scope a.domain false;
          split = ap (λ (us : List Token). t ∷ us) s.1;
          breaks_off =
              before_right_side left s.2;
          refuses = term-refused schema end scope a.domain false c.1 e (λ k. absurd (cc)) h;
        })
        (λ b read h. never_ok (c.0 a.term b.0, b.1) e h) h) h) h

    atom-stopped : (o : Token) (ts : List Token) (e : Refusal) → IsSymbol symbols.Name t → is_symbol symbols.Open o ≡ true
        → Reading.relation_atom schema end scope t (o ∷ ts) ≡ Err e → Stopped double open_ unary room scope (t ∷ o ∷ ts) e
    unfolding Reading.relation_atom
    atom-stopped o ts e name opens h =
        by_name (Stopped double open_ unary room scope (t ∷ o ∷ ts) e) t (relation_named schema t.text) _ e
        (λ none same. at_first double open_ room scope (t ∷ o ∷ ts) e
        (subst (λ e. Refuses schema end (operand room scope) (t ∷ o ∷ ts) e) same (no_relation name opens none)))
        (λ r found h. by_step (Stopped double open_ unary room scope (t ∷ o ∷ ts) e) (Reading.arguments schema end scope (column_domains schema r) ts) _ e
        (λ h. let s = arguments-stopped scope (column_domains schema r) ts e h in
        record {
          front = t ∷ o ∷ s.front;
          back = s.back;
          wanted = s.wanted;
          split = ap (λ (us : List Token). t ∷ o ∷ us) s.split;
          breaks_off =
              in_atom name (is_symbol-IsSymbol symbols.Open o opens) found s.breaks_off;
          refuses = s.refuses;
        })
        (λ y read h. never_ok (Formula.atom r y.0, y.1) e h) h) h

    pub named-stopped : (ts : List Token) (e : Refusal) → IsSymbol symbols.Name t → Reading.named schema end scope t ts ≡ Err e
        → Stopped double open_ unary room scope (t ∷ ts) e
    unfolding Reading.named
    named-stopped [] e name h = comparison-stopped [] e name refl h
    named-stopped (u ∷ ts) e name h = at (is_symbol symbols.Open u) refl
      where
        at : (b : Bool) → is_symbol symbols.Open u ≡ b → Stopped double open_ unary room scope (t ∷ u ∷ ts) e
        at true k = atom-stopped u ts e name k (rw (k, Reading.named) at h)
        at false k = comparison-stopped (u ∷ ts) e name k (rw (k, Reading.named) at h)
