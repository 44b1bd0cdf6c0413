-- Behind a sentence that was read, a token that doesn't close it is refused by the table.
use Rattle.std.proofs.Common.{◌≡◌, ℕ, zero, suc, ◌⊎◌, inl, inr, Bool, true, false, List, [], ◌∷◌, ◌++◌, Ok, refl}
use Rattle.cqe_base.specs.declared.text.Symbol.TheVariants as symbols
use Rattle.cqe_base.specs.Formula.{Formula, implication, biconditional}
use Rattle.cqe_base.specs.Schema.{DatabaseSchema}
use Rattle.cqe_base.specs.Tokens.{Token, symbol_of}
use Rattle.cqe_base.specs.Reading
use Rattle.cqe_base.specs.Reading.{Refusal, Reader, Scope, is_symbol, is_next, unexpected}
use Rattle.cqe_base.specs.Grammar.{either, conditional, whole, MayEndQuantified, Begins}
use Rattle.cqe_base.specs.Refusals.{behind_operand, Refuses, BreaksOff, before_double_arrow, behind_double_arrow}
use Rattle.cqe_base.proofs.GrammarSound.{bind_ok, moved, is_symbol-IsSymbol, unary_reader, implied_reader, sound}
use Rattle.cqe_base.proofs.Cuts.{begins-before}
use Rattle.cqe_base.proofs.RefusedTokens.{operand-forbids, forbidden}
use Rattle.cqe_base.proofs.ReadChains.{either-begins, either-ends}
use Rattle.cqe_base.proofs.PartEdges.{Closed, Behind, side-edge, arrow-edge, edge}

-- where an operand was read, no `and`, `or` or `->` follows
pub record EndsSide (rest : List Token) : Type 0 where
  pub no_and : is_next symbols.And rest ≡ false
  pub no_or : is_next symbols.Or rest ≡ false
  pub no_arrow : is_next symbols.Arrow rest ≡ false

module _ (schema : DatabaseSchema) (end : Refusal) where
  -- a side was read, and this is left
  record EndedSide (room : ℕ) (scope : Scope) (ts rest : List Token) : Type 0 where
    behind : Behind schema conditional room scope ts rest
    ends_side : EndsSide rest
    no_double_arrow : behind.more false ≡ true → is_next symbols.DoubleArrow rest ≡ false

  abbrev EndsInside : ℕ → Type 0
  EndsInside zero = Unit {0}
  EndsInside (suc room) =
      (scope : Scope) (ts rest : List Token) (a : Formula) → implied_reader schema end room scope ts ≡ Ok (a, rest) → EndedSide room scope ts rest

  no_arrow-behind : (rest : List Token) → MayEndQuantified rest → is_next symbols.DoubleArrow rest ≡ false
  no_arrow-behind [] may = refl
  no_arrow-behind (t ∷ ts) may = rw may refl

  alone-ended : (room : ℕ) (scope : Scope) (ts rest : List Token) (a : Formula) → Begins schema either room scope ts a rest → (is_next symbols.And rest ≡ false)
      × (is_next symbols.Or rest ≡ false) → is_next symbols.Arrow rest ≡ false → EndedSide room scope ts rest
  alone-ended room scope ts rest a begins ends none = at (edge schema begins)
    where
      at : Closed schema either room scope ts a rest ⊎ (MayEndQuantified rest × Behind schema either room scope ts rest) → EndedSide room scope ts rest
      at (inl f) = record {
        behind = side-edge schema {a = a} (inl f);
        ends_side = record { no_and = ends.0; no_or = ends.1; no_arrow = none };
        no_double_arrow =
            λ more. absurd (cc);
      }
      at (inr b) = record {
        behind = side-edge schema {a = a} (inr b);
        ends_side = record { no_and = ends.0; no_or = ends.1; no_arrow = none };
        no_double_arrow =
            λ more. no_arrow-behind rest b.0;
      }

  implying-ended : (room : ℕ) → EndsInside room → (scope : Scope) (ts after rest : List Token) (a b : Formula) → Begins schema either room scope ts a after
      → (is_next symbols.And after ≡ false) × (is_next symbols.Or after ≡ false)
      → Reading.implying schema end (Reading.inside schema end room) scope a after ≡ Ok (b, rest) → EndedSide room scope ts rest
  unfolding Reading.implying Reading.inside
  implying-ended room below scope ts [] rest a b begins ends h =
      moved (λ b rest. EndedSide room scope ts rest) (a, []) (b, rest) h (alone-ended room scope ts [] a begins ends refl)
  implying-ended zero below scope ts (t ∷ us) rest a b begins ends h = at (is_symbol symbols.Arrow t) refl
    where
      at : (e : Bool) → is_symbol symbols.Arrow t ≡ e → EndedSide zero scope ts rest
      at true e = let k = rw (e, Reading.implying) at h in absurd (cc)
      at false e = moved (λ b rest. EndedSide zero scope ts rest) (a, t ∷ us) (b, rest) (rw (e, Reading.implying) at h)
          (alone-ended zero scope ts (t ∷ us) a begins ends e)
  implying-ended (suc room) below scope ts (t ∷ us) rest a b begins ends h = at (is_symbol symbols.Arrow t) refl
    where
      at : (e : Bool) → is_symbol symbols.Arrow t ≡ e → EndedSide (suc room) scope ts rest
      at true e =
          let k = bind_ok (implied_reader schema end room scope us) _ (b, rest) (rw (e, Reading.implying) at h) in
          let right = below scope us k.0.1 k.0.0 k.1 in
          moved (λ b rest. EndedSide (suc room) scope ts rest) (implication a k.0.0, k.0.1) (b, rest) k.2
          (record {
            behind = arrow-edge schema begins (is_symbol-IsSymbol symbols.Arrow t e) right.behind;
            ends_side = right.ends_side;
            no_double_arrow =
                right.no_double_arrow;
          })
      at false e = moved (λ b rest. EndedSide (suc room) scope ts rest) (a, t ∷ us) (b, rest) (rw (e, Reading.implying) at h)
          (alone-ended (suc room) scope ts (t ∷ us) a begins ends e)

  conditional-ended : (room : ℕ) → EndsInside room → (scope : Scope) (ts rest : List Token) (a : Formula)
      → implied_reader schema end room scope ts ≡ Ok (a, rest)
      → EndedSide room scope ts rest
  unfolding Reading.conditional
  conditional-ended room below scope ts rest a h =
      let k = bind_ok (Reading.either (unary_reader schema end room scope) ts) _ (a, rest) h in
      implying-ended room below scope ts k.0.1 rest k.0.0 a (either-begins schema end room scope ts k.0.1 k.0.0 k.1)
      (either-ends schema end room scope ts k.0.1 k.0.0 k.1) k.2

  ends-inside : (room : ℕ) → EndsInside room
  ends-inside zero = tt
  ends-inside (suc room) = conditional-ended room (ends-inside room)

  side-ended : (room : ℕ) (scope : Scope) (ts rest : List Token) (a : Formula) → implied_reader schema end room scope ts ≡ Ok (a, rest)
      → EndedSide room scope ts rest
  side-ended room = conditional-ended room (ends-inside room)

  -- a sentence was read, and this is left
  pub record EndedSentence (room : ℕ) (scope : Scope) (ts rest : List Token) : Type 0 where
    pub front : List Token
    pub inner : ℕ
    pub more : Bool
    pub split : ts ≡ front ++ rest
    pub breaks_off : (double open_ : Bool) → BreaksOff schema double open_ whole room scope front (behind_operand inner more open_)
    pub ends_side : EndsSide rest
    pub no_double_arrow : more ≡ true → is_next symbols.DoubleArrow rest ≡ false

  abbrev pub sentence_reader : ℕ → Scope → Reader Formula
  sentence_reader room scope = Reading.sentence schema end (Reading.level_with schema end (Reading.inside schema end room)) scope

  one-sided : (room : ℕ) (scope : Scope) (ts rest : List Token) → EndedSide room scope ts rest → is_next symbols.DoubleArrow rest ≡ false
      → EndedSentence room scope ts rest
  one-sided room scope ts rest s none =
      record {
        front = s.behind.front;
        inner = s.behind.inner;
        more = s.behind.more true;
        split = s.behind.split;
        breaks_off =
            λ double open_. before_double_arrow (s.behind.breaks_off true open_);
        ends_side = s.ends_side;
        no_double_arrow = λ more. none;
      }

  equivalent-ended : (room : ℕ) (scope : Scope) (ts after rest : List Token) (a b : Formula) → implied_reader schema end room scope ts ≡ Ok (a, after)
      → Reading.equivalent_to schema end (Reading.level_with schema end (Reading.inside schema end room)) scope a after ≡ Ok (b, rest)
      → EndedSentence room scope ts rest
  unfolding Reading.equivalent_to
  equivalent-ended room scope ts [] rest a b read h =
      moved (λ b rest. EndedSentence room scope ts rest) (a, []) (b, rest) h (one-sided room scope ts [] (side-ended room scope ts [] a read) refl)
  equivalent-ended room scope ts (t ∷ us) rest a b read h = at (is_symbol symbols.DoubleArrow t) refl
    where
      at : (e : Bool) → is_symbol symbols.DoubleArrow t ≡ e → EndedSentence room scope ts rest
      at true e =
          let k = bind_ok (implied_reader schema end room scope us) _ (b, rest) (rw (e, Reading.equivalent_to) at h) in
          let right = side-ended room scope us k.0.1 k.0.0 k.1 in
          let left = begins-before schema right.behind.front k.0.1 ((sound schema end room).implied_sound scope ts (t ∷ us) a read) right.behind.split in
          moved (λ b rest. EndedSentence room scope ts rest) (biconditional a k.0.0, k.0.1) (b, rest) k.2
          (record {
            front = left.0;
            inner = right.behind.inner;
            more = right.behind.more false;
            split = left.1;
            breaks_off =
                λ double open_. behind_double_arrow left.2 (is_symbol-IsSymbol symbols.DoubleArrow t e) (right.behind.breaks_off false open_);
            ends_side =
                right.ends_side;
            no_double_arrow = right.no_double_arrow;
          })
      at false e = moved (λ b rest. EndedSentence room scope ts rest) (a, t ∷ us) (b, rest) (rw (e, Reading.equivalent_to) at h)
          (one-sided room scope ts (t ∷ us) (side-ended room scope ts (t ∷ us) a read) e)

  pub sentence-ended : (room : ℕ) (scope : Scope) (ts rest : List Token) (a : Formula) → sentence_reader room scope ts ≡ Ok (a, rest)
      → EndedSentence room scope ts rest
  unfolding Reading.sentence
  sentence-ended room scope ts rest a h =
      let k = bind_ok (implied_reader schema end room scope ts) _ (a, rest) h in
      equivalent-ended room scope ts k.0.1 rest k.0.0 a k.1 k.2

  -- what follows a sentence that was read, and isn't a `)` that closes it, is refused
  pub behind-refused : (room : ℕ) (scope : Scope) (ts us : List Token) (t : Token) (open_ : Bool) (e : Refusal) (s : EndedSentence room scope ts (t ∷ us))
      → (open_ ≡ true → is_symbol symbols.Close t ≡ false) → unexpected t.start ≡ e
      → Refuses schema end (behind_operand s.inner s.more open_) (t ∷ us) e
  behind-refused room scope ts us t open_ e s closed same = forbidden schema end (behind_operand s.inner s.more open_) t us e
      (operand-forbids s.inner s.more open_ (symbol_of t.text) s.ends_side.no_and s.ends_side.no_or s.ends_side.no_arrow s.no_double_arrow closed) same
