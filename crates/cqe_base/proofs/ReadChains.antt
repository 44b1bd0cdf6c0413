-- What follows the operands that one connective joins, and where such a chain is refused.
use Rattle.std.proofs.Common.{◌≡◌, ℕ, zero, suc, ◌<◌, ◌≤◌, Bool, true, false, List, [], ◌∷◌, length, Ok, Err, refl, arith}
use Rattle.cqe_base.specs.declared.text.Symbol.{Symbol}
use Rattle.cqe_base.specs.declared.text.Symbol.TheVariants as symbols
use Rattle.cqe_base.specs.Formula.{Formula, conjunction, disjunction}
use Rattle.cqe_base.specs.Schema.{DatabaseSchema}
use Rattle.cqe_base.specs.Tokens.{Token}
use Rattle.cqe_base.specs.Reading
use Rattle.cqe_base.specs.Reading.{Refusal, Reader, Scope, is_symbol, is_next, chain}
use Rattle.cqe_base.specs.Grammar.{unary, both, either, IsSymbol, Begins}
use Rattle.cqe_base.proofs.GrammarSound.{bind_ok, moved, is_symbol-IsSymbol, unary_reader, both-sound, either-sound, sound}
use Rattle.cqe_base.proofs.Cuts.{begins-shorter}
use Rattle.cqe_base.proofs.RefusedTokens.{by_step, never_ok}

module _ (s : Symbol) (join : Formula → Formula → Formula) (operand : Reader Formula) where
  -- no connective of the chain follows it
  chain-ends : (shorter : (us rest : List Token) (b : Formula) → operand us ≡ Ok (b, rest)
      → length rest < length us) (n : ℕ) (a b : Formula) (ts rest : List Token) → length ts ≤ n → chain s join operand n a ts ≡ Ok (b, rest)
      → is_next s rest ≡ false
  unfolding chain
  chain-ends shorter zero a b [] rest le h = moved (λ a rest. is_next s rest ≡ false) (a, []) (b, rest) h refl
  chain-ends shorter zero a b (t ∷ us) rest le h = absurd (omega arith)
  chain-ends shorter (suc n) a b [] rest le h = moved (λ a rest. is_next s rest ≡ false) (a, []) (b, rest) h refl
  chain-ends shorter (suc n) a b (t ∷ us) rest le h = at (is_symbol s t) refl (λ c ts le k. chain-ends shorter n c b ts rest le k)
    where
      at : (e : Bool) → is_symbol s t ≡ e
          → ((c : Formula) (ts : List Token) → length ts ≤ n → chain s join operand n c ts ≡ Ok (b, rest) → is_next s rest ≡ false) → is_next s rest ≡ false
      at true e others =
          let k = bind_ok (operand us) _ (b, rest) (rw (e, chain) at h) in
          others (join a k.0.0) k.0.1 (omega (arith, shorter us k.0.1 k.0.0 k.1, le)) k.2
      at false e others = moved (λ a rest. is_next s rest ≡ false) (a, t ∷ us) (b, rest) (rw (e, chain) at h) e

  -- what holds behind each operand holds behind the chain
  chain-keeps : (P : List Token → Type 0) (each : (us rest : List Token) (b : Formula) → operand us ≡ Ok (b, rest)
      → P rest) (n : ℕ) (a b : Formula) (ts rest : List Token) → P ts → chain s join operand n a ts ≡ Ok (b, rest) → P rest
  unfolding chain
  chain-keeps P each zero a b ts rest p h = moved (λ a rest. P rest) (a, ts) (b, rest) h p
  chain-keeps P each (suc n) a b [] rest p h = moved (λ a rest. P rest) (a, []) (b, rest) h p
  chain-keeps P each (suc n) a b (t ∷ us) rest p h = at (is_symbol s t) refl (λ c ts q k. chain-keeps P each n c b ts rest q k)
    where
      at : (e : Bool) → is_symbol s t ≡ e → ((c : Formula) (ts : List Token) → P ts → chain s join operand n c ts ≡ Ok (b, rest) → P rest) → P rest
      at true e others =
          let k = bind_ok (operand us) _ (b, rest) (rw (e, chain) at h) in
          others (join a k.0.0) k.0.1 (each us k.0.1 k.0.0 k.1) k.2
      at false e others = moved (λ a rest. P rest) (a, t ∷ us) (b, rest) (rw (e, chain) at h) p

  -- a chain is refused at one of its operands
  pub chain-stopped : (P : Formula → List Token → Type 0) (step : (a : Formula) (t : Token) (us : List Token) (b : Formula) (rest : List Token) → P a (t ∷ us)
      → IsSymbol s t → operand us ≡ Ok (b, rest) → P (join a b) rest)
      (Q : Type 0) (e : Refusal) (stop : (a : Formula) (t : Token) (us : List Token) → P a (t ∷ us) → IsSymbol s t → operand us ≡ Err e
      → Q) (n : ℕ) (a : Formula) (ts : List Token) → P a ts → chain s join operand n a ts ≡ Err e → Q
  unfolding chain
  chain-stopped P step Q e stop zero a ts p h = never_ok (a, ts) e h
  chain-stopped P step Q e stop (suc n) a [] p h = never_ok (a, []) e h
  chain-stopped P step Q e stop (suc n) a (t ∷ us) p h = at (is_symbol s t) refl (λ c ts q k. chain-stopped P step Q e stop n c ts q k)
    where
      at : (b : Bool) → is_symbol s t ≡ b → ((c : Formula) (ts : List Token) → P c ts → chain s join operand n c ts ≡ Err e → Q) → Q
      at true is others = by_step Q (operand us) _ e (stop a t us p (is_symbol-IsSymbol s t is))
          (λ x read k. others (join a x.0) x.1 (step a t us x.0 x.1 p (is_symbol-IsSymbol s t is) read) k) (rw (is, chain) at h)
      at false is others = never_ok (a, t ∷ us) e (rw (is, chain) at h)

module _ (schema : DatabaseSchema) (end : Refusal) where
  module _ (room : ℕ) (scope : Scope) where
    pub unary-begins : (ts rest : List Token) (a : Formula) → unary_reader schema end room scope ts ≡ Ok (a, rest) → Begins schema unary room scope ts a rest
    unary-begins = (sound schema end room).unary_sound scope

    pub both-begins : (ts rest : List Token) (a : Formula) → Reading.both (unary_reader schema end room scope) ts ≡ Ok (a, rest)
        → Begins schema both room scope ts a rest
    both-begins = both-sound schema end room scope unary-begins

    pub either-begins : (ts rest : List Token) (a : Formula) → Reading.either (unary_reader schema end room scope) ts ≡ Ok (a, rest)
        → Begins schema either room scope ts a rest
    either-begins = either-sound schema end room scope unary-begins

    both-no_and : (ts rest : List Token) (a : Formula) → Reading.both (unary_reader schema end room scope) ts ≡ Ok (a, rest) → is_next symbols.And rest ≡ false
    unfolding Reading.both
    both-no_and ts rest a h =
        let k = bind_ok (unary_reader schema end room scope ts) _ (a, rest) h in
        chain-ends symbols.And conjunction (unary_reader schema end room scope) (λ us rest b read. begins-shorter schema (unary-begins us rest b read))
        (length k.0.1) k.0.0 a k.0.1 rest (omega arith) k.2

    pub either-ends : (ts rest : List Token) (a : Formula) → Reading.either (unary_reader schema end room scope) ts ≡ Ok (a, rest)
        → (is_next symbols.And rest ≡ false) × (is_next symbols.Or rest ≡ false)
    unfolding Reading.either
    either-ends ts rest a h =
        let operands : Reader Formula = Reading.both (unary_reader schema end room scope) in
        let k = bind_ok (operands ts) _ (a, rest) h in (
          chain-keeps symbols.Or disjunction operands (λ rest. is_next symbols.And rest ≡ false) both-no_and (length k.0.1) k.0.0 a k.0.1 rest
              (both-no_and ts k.0.1 k.0.0 k.1) k.2,
          chain-ends symbols.Or disjunction operands (λ us rest b read. begins-shorter schema (both-begins us rest b read)) (length k.0.1) k.0.0 a k.0.1 rest
              (omega arith) k.2,
        )
