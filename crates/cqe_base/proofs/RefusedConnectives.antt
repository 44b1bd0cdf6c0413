-- Operands with a connective that don't read are refused by the table where each operand is.
use Rattle.std.proofs.Common.{◌≡◌, ℕ, zero, suc, ◌⊎◌, inl, inr, Bool, true, false, List, [], ◌∷◌, length, Err, refl, subst}
use Rattle.cqe_base.specs.declared.text.Symbol.TheVariants as symbols
use Rattle.cqe_base.specs.Formula.{Formula, conjunction, disjunction, implication, biconditional}
use Rattle.cqe_base.specs.Schema.{DatabaseSchema}
use Rattle.cqe_base.specs.Tokens.{Token, symbol_of}
use Rattle.cqe_base.specs.Reading
use Rattle.cqe_base.specs.Reading.{Refusal, Scope, is_symbol, too_deep}
use Rattle.cqe_base.specs.Grammar.{unary, both, either, conditional, whole, IsSymbol, MayEndQuantified, Begins, one_and, more_and, one_or, more_or}
use Rattle.cqe_base.specs.Refusals.{behind_operand, Refuses, no_room_behind, in_first_and, behind_and, in_first_or, behind_or, before_arrow, behind_arrow}
use Rattle.cqe_base.specs.Refusals.{behind_last, before_double_arrow, behind_double_arrow}
use Rattle.cqe_base.proofs.GrammarSound.{is_symbol-IsSymbol, unary_reader, implied_reader, sound}
use Rattle.cqe_base.proofs.Cuts.{begins-before}
use Rattle.cqe_base.proofs.RefusedTokens.{by_step, never_ok}
use Rattle.cqe_base.proofs.RefusedAtoms.{Stopped}
use Rattle.cqe_base.proofs.ReadChains.{chain-stopped, unary-begins, both-begins, either-begins}
use Rattle.cqe_base.proofs.PartEdges.{Closed, Behind, edge}
use Rattle.cqe_base.proofs.SentenceEnds.{sentence_reader}

module _ (schema : DatabaseSchema) (end : Refusal) where
  pub record StopsAt (room : ℕ) : Type 0 where
    pub unary_stops : (double open_ : Bool) (scope : Scope) (ts : List Token) (e : Refusal) → unary_reader schema end room scope ts ≡ Err e
        → Stopped schema end double open_ unary room scope ts e
    pub implied_stops : (double open_ : Bool) (scope : Scope) (ts : List Token) (e : Refusal) → implied_reader schema end room scope ts ≡ Err e
        → Stopped schema end double open_ conditional room scope ts e

  abbrev pub StopsInside : ℕ → Type 0
  StopsInside zero = Unit {0}
  StopsInside (suc room) = StopsAt room

  module _ (double open_ : Bool) (room : ℕ) (scope : Scope) (unary_stops : (ts : List Token) (e : Refusal) → unary_reader schema end room scope ts ≡ Err e
      → Stopped schema end double open_ unary room scope ts e) where
    both-stopped : (ts : List Token) (e : Refusal) → Reading.both (unary_reader schema end room scope) ts ≡ Err e
        → Stopped schema end double open_ both room scope ts e
    unfolding Reading.both
    both-stopped ts e h =
        by_step (Stopped schema end double open_ both room scope ts e) (unary_reader schema end room scope ts) _ e
        (λ h. let s = unary_stops ts e h in
        record { front = s.front; back = s.back; wanted = s.wanted; split = s.split; breaks_off = in_first_and s.breaks_off; refuses = s.refuses })
        (λ x read h. chain-stopped symbols.And conjunction (unary_reader schema end room scope) (λ a rest. Begins schema both room scope ts a rest)
        (λ a t us b rest p is read. more_and p is (unary-begins schema end room scope us rest b read))
        (Stopped schema end double open_ both room scope ts e) e
        (λ a t us p is h. let s = unary_stops us e h in let left = begins-before schema s.front s.back p s.split in
        record { front = left.0; back = s.back; wanted = s.wanted; split = left.1; breaks_off = behind_and left.2 is s.breaks_off; refuses = s.refuses })
        (length x.1) x.0 x.1 (one_and (unary-begins schema end room scope ts x.1 x.0 read)) h) h

    either-stopped : (ts : List Token) (e : Refusal) → Reading.either (unary_reader schema end room scope) ts ≡ Err e
        → Stopped schema end double open_ either room scope ts e
    unfolding Reading.either
    either-stopped ts e h =
        by_step (Stopped schema end double open_ either room scope ts e) (Reading.both (unary_reader schema end room scope) ts) _ e
        (λ h. let s = both-stopped ts e h in
        record { front = s.front; back = s.back; wanted = s.wanted; split = s.split; breaks_off = in_first_or s.breaks_off; refuses = s.refuses })
        (λ x read h. chain-stopped symbols.Or disjunction (Reading.both (unary_reader schema end room scope))
        (λ a rest. Begins schema either room scope ts a rest) (λ a t us b rest p is read. more_or p is (both-begins schema end room scope us rest b read))
        (Stopped schema end double open_ either room scope ts e) e
        (λ a t us p is h. let s = both-stopped us e h in let left = begins-before schema s.front s.back p s.split in
        record { front = left.0; back = s.back; wanted = s.wanted; split = left.1; breaks_off = behind_or left.2 is s.breaks_off; refuses = s.refuses })
        (length x.1) x.0 x.1 (one_or (both-begins schema end room scope ts x.1 x.0 read)) h) h

  implying-stopped : (room : ℕ) → StopsInside room → (double open_ : Bool) (scope : Scope) (ts after : List Token) (a : Formula) (e : Refusal)
      → Begins schema either room scope ts a after
      → Reading.implying schema end (Reading.inside schema end room) scope a after ≡ Err e → Stopped schema end double open_ conditional room scope ts e
  unfolding Reading.implying Reading.inside
  implying-stopped room below double open_ scope ts [] a e begins h = never_ok (a, []) e h
  implying-stopped zero below double open_ scope ts (t ∷ us) a e begins h = at (is_symbol symbols.Arrow t) refl
    where
      behind : too_deep t.start ≡ e → IsSymbol symbols.Arrow t → Closed schema either zero scope ts a (t ∷ us)
          ⊎ (MayEndQuantified (t ∷ us) × Behind schema either zero scope ts (t ∷ us)) → Stopped schema end double open_ conditional zero scope ts e
      behind same is (inl f) =
          record {
            front = f.front;
            back = t ∷ us;
            wanted = behind_operand 0 double open_;
            split = f.split;
            breaks_off = behind_last f.closed;
            refuses =
                subst (λ e. Refuses schema end (behind_operand 0 double open_) (t ∷ us) e) same (no_room_behind is);
          }
      behind same is (inr b) = let close : symbol_of t.text ≡ symbols.Close = b.0 in absurd (cc)

      at : (b : Bool) → is_symbol symbols.Arrow t ≡ b → Stopped schema end double open_ conditional zero scope ts e
      at true is =
          let refused = rw (is, Reading.implying) at h in
          behind (cc) (is_symbol-IsSymbol symbols.Arrow t is) (edge schema begins)
      at false is = never_ok (a, t ∷ us) e (rw (is, Reading.implying) at h)
  implying-stopped (suc room) below double open_ scope ts (t ∷ us) a e begins h = at (is_symbol symbols.Arrow t) refl
    where
      at : (b : Bool) → is_symbol symbols.Arrow t ≡ b → Stopped schema end double open_ conditional (suc room) scope ts e
      at true is =
          by_step (Stopped schema end double open_ conditional (suc room) scope ts e) (implied_reader schema end room scope us) _ e
          (λ h. let s = below.implied_stops double open_ scope us e h in let left = begins-before schema s.front s.back begins s.split in
          record {
            front = left.0;
            back = s.back;
            wanted = s.wanted;
            split = left.1;
            breaks_off =
                behind_arrow left.2 (is_symbol-IsSymbol symbols.Arrow t is) s.breaks_off;
            refuses = s.refuses;
          })
          (λ x read h. never_ok (implication a x.0, x.1) e h) (rw (is, Reading.implying) at h)
      at false is = never_ok (a, t ∷ us) e (rw (is, Reading.implying) at h)

  equivalent-stopped : (room : ℕ) → StopsAt room → (double open_ : Bool) (scope : Scope) (ts after : List Token) (a : Formula) (e : Refusal)
      → Begins schema conditional room scope ts a after
      → Reading.equivalent_to schema end (Reading.level_with schema end (Reading.inside schema end room)) scope a after ≡ Err e
      → Stopped schema end double open_ whole room scope ts e
  unfolding Reading.equivalent_to
  equivalent-stopped room here double open_ scope ts [] a e begins h = never_ok (a, []) e h
  equivalent-stopped room here double open_ scope ts (t ∷ us) a e begins h = at (is_symbol symbols.DoubleArrow t) refl
    where
      at : (b : Bool) → is_symbol symbols.DoubleArrow t ≡ b → Stopped schema end double open_ whole room scope ts e
      at true is =
          by_step (Stopped schema end double open_ whole room scope ts e) (implied_reader schema end room scope us) _ e
          (λ h. let s = here.implied_stops false open_ scope us e h in let left = begins-before schema s.front s.back begins s.split in
          record {
            front = left.0;
            back = s.back;
            wanted = s.wanted;
            split = left.1;
            breaks_off =
                behind_double_arrow left.2 (is_symbol-IsSymbol symbols.DoubleArrow t is) s.breaks_off;
            refuses = s.refuses;
          })
          (λ x read h. never_ok (biconditional a x.0, x.1) e h) (rw (is, Reading.equivalent_to) at h)
      at false is = never_ok (a, t ∷ us) e (rw (is, Reading.equivalent_to) at h)

  pub sentence-stopped : (room : ℕ) → StopsAt room → (double open_ : Bool) (scope : Scope) (ts : List Token) (e : Refusal)
      → sentence_reader schema end room scope ts ≡ Err e → Stopped schema end double open_ whole room scope ts e
  unfolding Reading.sentence
  sentence-stopped room here double open_ scope ts e h =
      by_step (Stopped schema end double open_ whole room scope ts e) (implied_reader schema end room scope ts) _ e
      (λ h. let s = here.implied_stops true open_ scope ts e h in
      record { front = s.front; back = s.back; wanted = s.wanted; split = s.split; breaks_off = before_double_arrow s.breaks_off; refuses = s.refuses })
      (λ x read h. equivalent-stopped room here double open_ scope ts x.1 x.0 e ((sound schema end room).implied_sound scope ts x.1 x.0 read) h) h

  pub conditional-stopped : (room : ℕ) → StopsInside room → (double open_ : Bool) (scope : Scope)
      → ((ts : List Token) (e : Refusal) → unary_reader schema end room scope ts ≡ Err e → Stopped schema end double open_ unary room scope ts e)
      → (ts : List Token) (e : Refusal) → implied_reader schema end room scope ts ≡ Err e → Stopped schema end double open_ conditional room scope ts e
  unfolding Reading.conditional
  conditional-stopped room below double open_ scope unary_stops ts e h =
      by_step (Stopped schema end double open_ conditional room scope ts e) (Reading.either (unary_reader schema end room scope) ts) _ e
      (λ h. let s = either-stopped double open_ room scope unary_stops ts e h in
      record { front = s.front; back = s.back; wanted = s.wanted; split = s.split; breaks_off = before_arrow s.breaks_off; refuses = s.refuses })
      (λ x read h. implying-stopped room below double open_ scope ts x.1 x.0 e (either-begins schema end room scope ts x.1 x.0 read) h) h
