-- A text that doesn't read is refused by the table.
use Rattle.std.proofs.Common.{◌≡◌, ℕ, zero, suc, inl, inr, Bool, true, false, List, [], ◌∷◌, length, Result, Ok, Err, refl, sym, ap, subst, arith}
use Rattle.std.specs.Prelude.{◌==◌}
use Rattle.std.proofs.lemmas.Bool.Decides.{nat_tests}
use Rattle.cqe_base.specs.declared.text.Symbol.{Symbol}
use Rattle.cqe_base.specs.declared.text.Symbol.TheVariants as symbols
use Rattle.cqe_base.specs.Formula.{Formula, universal, existential, negation}
use Rattle.cqe_base.specs.Schema.{DatabaseSchema}
use Rattle.cqe_base.specs.Tokens.{Token, tokens, end_of_tokens, symbol_of}
use Rattle.cqe_base.specs.Reading
use Rattle.cqe_base.specs.Reading.{◌>>=◌, Refusal, Scope, is_symbol, reading, refusal_at_end, unexpected}
use Rattle.cqe_base.specs.Grammar.{unary, whole, IsSymbol}
use Rattle.cqe_base.specs.Refusals.{operand, behind_operand, may_stand, Refuses, at_byte, in_not, in_parentheses, RefusalsAreOfTheTable}
use Rattle.cqe_base.proofs.GrammarSound.{unary_reader}
use Rattle.cqe_base.proofs.RefusedTokens.{by_step, by_test, never_ok, ends, forbidden}
use Rattle.cqe_base.proofs.RefusedAtoms.{Stopped, at_first, named-stopped}
use Rattle.cqe_base.proofs.SentenceEnds.{EndedSentence, sentence_reader, sentence-ended, behind-refused}
use Rattle.cqe_base.proofs.RefusedConnectives.{StopsAt, StopsInside, sentence-stopped, conditional-stopped}
use Rattle.cqe_base.proofs.RefusedQuantifiers.{no_room-stopped, quantified-stopped}

module _ (schema : DatabaseSchema) (end : Refusal) where
  abbrev behind_parentheses : Formula × List Token → Result (Formula × List Token) Refusal
  behind_parentheses y = Reading.pass schema end symbols.Close y.1 >>= λ rest. Ok (y.0, rest)

  -- ---- operands, by the token that they begin with

  in_not-stopped : (room : ℕ) (double open_ : Bool) (scope : Scope) (t : Token) (ts : List Token) (e : Refusal) → IsSymbol symbols.Not t
      → Stopped schema end double open_ unary room scope ts e → Stopped schema end double open_ unary (suc room) scope (t ∷ ts) e
  in_not-stopped room double open_ scope t ts e is s =
      record {
        front = t ∷ s.front;
        back = s.back;
        wanted = s.wanted;
        split = ap (λ (us : List Token). t ∷ us) s.split;
        breaks_off =
            in_not is s.breaks_off;
        refuses = s.refuses;
      }

  close-refused : (room : ℕ) (scope : Scope) (ts rest : List Token) (e : Refusal) (s : EndedSentence schema end room scope ts rest)
      → Reading.pass schema end symbols.Close rest ≡ Err e → Refuses schema end (behind_operand s.inner s.more true) rest e
  unfolding Reading.pass
  close-refused room scope ts [] e s h = ends schema end (behind_operand s.inner s.more true) e refl (cc)
  close-refused room scope ts (t ∷ us) e s h =
      by_test (Refuses schema end (behind_operand s.inner s.more true) (t ∷ us) e) (is_symbol symbols.Close t) (Ok us) (Err (unexpected t.start)) e
      (λ k h. never_ok us e h) (λ k h. behind-refused schema end room scope ts us t true e s (λ open_. k) (cc)) h

  in_parentheses-stopped : (room : ℕ) → StopsAt schema end room → (double open_ : Bool) (scope : Scope) (t : Token) (ts : List Token) (e : Refusal)
      → IsSymbol symbols.Open t
      → (sentence_reader schema end room scope ts >>= behind_parentheses) ≡ Err e → Stopped schema end double open_ unary (suc room) scope (t ∷ ts) e
  in_parentheses-stopped room here double open_ scope t ts e is h =
      by_step (Stopped schema end double open_ unary (suc room) scope (t ∷ ts) e) (sentence_reader schema end room scope ts) _ e
      (λ h. let s = sentence-stopped schema end room here true true scope ts e h in
      record {
        front = t ∷ s.front;
        back = s.back;
        wanted = s.wanted;
        split = ap (λ (us : List Token). t ∷ us) s.split;
        breaks_off =
            in_parentheses is s.breaks_off;
        refuses = s.refuses;
      })
      (λ x read h. let s = sentence-ended schema end room scope ts x.1 x.0 read in
      by_step (Stopped schema end double open_ unary (suc room) scope (t ∷ ts) e) (Reading.pass schema end symbols.Close x.1) _ e
      (λ h. record {
        front = t ∷ s.front;
        back = x.1;
        wanted = behind_operand s.inner s.more true;
        split =
            ap (λ (us : List Token). t ∷ us) s.split;
        breaks_off = in_parentheses is (s.breaks_off true true);
        refuses = close-refused room scope ts x.1 e s h;
      })
      (λ rest read h. never_ok (x.0, rest) e h) h) h

  unary_by-stopped : (room : ℕ) → StopsInside schema end room → (double open_ : Bool) (scope : Scope) (s : Symbol) (t : Token) (ts : List Token) (e : Refusal)
      → IsSymbol s t → Reading.unary_by schema end s (Reading.inside schema end room) scope t ts ≡ Err e
      → Stopped schema end double open_ unary room scope (t ∷ ts) e
  unfolding Reading.unary_by Reading.inside
  unary_by-stopped zero below double open_ scope symbols.Not t ts e is h = no_room-stopped schema end double open_ scope t ts e (inl is) (cc)
  unary_by-stopped (suc room) below double open_ scope symbols.Not t ts e is h =
      by_step (Stopped schema end double open_ unary (suc room) scope (t ∷ ts) e) (unary_reader schema end room scope ts) _ e
      (λ h. in_not-stopped room double open_ scope t ts e is (below.unary_stops double open_ scope ts e h)) (λ x read h. never_ok (negation x.0, x.1) e h) h
  unary_by-stopped room below double open_ scope symbols.Forall t ts e is h =
      quantified-stopped schema end room below double open_ scope symbols.Forall t (inl is) is universal ts e h
  unary_by-stopped room below double open_ scope symbols.Exists t ts e is h =
      quantified-stopped schema end room below double open_ scope symbols.Exists t (inr is) is existential ts e h
  unary_by-stopped room below double open_ scope symbols.True t ts e is h = never_ok (Formula.verum, ts) e h
  unary_by-stopped room below double open_ scope symbols.False t ts e is h = never_ok (Formula.falsum, ts) e h
  unary_by-stopped zero below double open_ scope symbols.Open t ts e is h = no_room-stopped schema end double open_ scope t ts e (inr (inl is)) (cc)
  unary_by-stopped (suc room) below double open_ scope symbols.Open t ts e is h = in_parentheses-stopped room below double open_ scope t ts e is h
  unary_by-stopped room below double open_ scope symbols.Name t ts e is h = named-stopped schema end double open_ room scope t ts e is h
  unary_by-stopped room below double open_ scope s t ts e is h =
      at_first schema end double open_ room scope (t ∷ ts) e
      (forbidden schema end (operand room scope) t ts e (subst (λ s. may_stand (operand room scope) s ≡ false) (sym is) refl) (cc))

  unary-stopped : (room : ℕ) → StopsInside schema end room → (double open_ : Bool) (scope : Scope) (ts : List Token) (e : Refusal)
      → unary_reader schema end room scope ts ≡ Err e → Stopped schema end double open_ unary room scope ts e
  unfolding Reading.unary
  unary-stopped room below double open_ scope [] e h = at_first schema end double open_ room scope [] e (ends schema end (operand room scope) e tt (cc))
  unary-stopped room below double open_ scope (t ∷ ts) e h = unary_by-stopped room below double open_ scope (symbol_of t.text) t ts e refl h

  stops-inside : (room : ℕ) → StopsInside schema end room
  stops-inside zero = tt
  stops-inside (suc room) =
      let below = stops-inside room in
      record {
        unary_stops = unary-stopped room below;
        implied_stops =
            λ double open_ scope. conditional-stopped schema end room below double open_ scope (unary-stopped room below double open_ scope);
      }

  -- ---- the whole text

  at_end-refused : (scope : Scope) (ts rest : List Token) (e : Refusal) (s : EndedSentence schema end 64 scope ts rest) → Reading.at_end schema end rest ≡ Err e
      → Refuses schema end (behind_operand s.inner s.more false) rest e
  unfolding Reading.at_end
  at_end-refused scope ts [] e s h = by_test (Refuses schema end (behind_operand s.inner s.more false) [] e) (end.kind == 1) (Err end) (Ok []) e
      (λ k h. let bad : end.kind ≡ 1 = grind (arith, nat_tests) in let same : end ≡ e = cc in
      subst (λ e. Refuses schema end (behind_operand s.inner s.more false) [] e) same (at_byte bad))
      (λ k h. never_ok [] e h) h
  at_end-refused scope ts (t ∷ us) e s h = behind-refused schema end 64 scope ts us t false e s (λ open_. absurd (cc)) (cc)

  tokens-stopped : (ts : List Token) (e : Refusal) → Reading.sentence_of schema end ts ≡ Err e → Stopped schema end true false whole 64 [] ts e
  unfolding Reading.sentence_of
  tokens-stopped ts e h =
      by_step (Stopped schema end true false whole 64 [] ts e) (sentence_reader schema end 64 [] ts) _ e
      (sentence-stopped schema end 64 (stops-inside 65) true false [] ts e)
      (λ x read h. let s = sentence-ended schema end 64 [] ts x.1 x.0 read in
      by_step (Stopped schema end true false whole 64 [] ts e) (Reading.at_end schema end x.1) _ e
      (λ h. record {
        front = s.front;
        back = x.1;
        wanted = behind_operand s.inner s.more false;
        split = s.split;
        breaks_off = s.breaks_off true false;
        refuses =
            at_end-refused [] ts x.1 e s h;
      })
      (λ none read h. never_ok x.0 e h) h) h

-- a text that doesn't read is refused by the table
pub refusals_are_of_the_table : RefusalsAreOfTheTable
unfolding reading
refusals_are_of_the_table schema text e h =
    let s = tokens-stopped schema (refusal_at_end (end_of_tokens text) (length text)) (tokens text) e h in
    record { front = s.front; back = s.back; wanted = s.wanted; split = s.split; breaks_off = s.breaks_off; refuses = s.refuses }
