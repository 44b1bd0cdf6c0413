-- Joining operands to the left one after the other, as a loop does.
use Rattle.std.proofs.Common.{◌≡◌, ℕ, zero, suc, ◌<◌, ◌≤◌, true, false, List, [], ◌∷◌, length, drop, Result, Ok, Err, refl, sym, ◌∙◌, arith}
use Rattle.cqe_base.specs.declared.text.Symbol.{Symbol}
use Rattle.cqe_base.specs.declared.text.Symbol.TheVariants.{And, Or}
use Rattle.cqe_base.specs.Reading.{Refusal}
use Rattle.cqe_base.specs.Formula.{Formula, conjunction, disjunction}
use Rattle.cqe_base.specs.Tokens.{Token}
use Rattle.cqe_base.specs.Reading.{Reader, is_next, chain, both, either}

module _ (s : Symbol) (join : Formula → Formula → Formula) (operand : Reader Formula) where
  -- the operands so far are joined to a, and what follows in the tokens makes the total; the number bounds the operands
  pub record ChainGoesOn (a : Formula) (ts : List Token) (total : Result (Formula × List Token) Refusal) : Type 0 where
    pub bound : ℕ
    pub enough : length ts ≤ bound
    pub rest : chain s join operand bound a ts ≡ total

  module _ (a : Formula) (ts : List Token) (total : Result (Formula × List Token) Refusal) where
    -- no further connective stands there
    pub chain-done : is_next s ts ≡ false → ChainGoesOn a ts total → total ≡ Ok (a, ts)
    unfolding chain
    chain-done none c = at c.bound (sym c.rest)
      where
        at : (n : ℕ) → total ≡ chain s join operand n a ts → total ≡ Ok (a, ts)
        at zero e = e
        at (suc n) e = e ∙ rw (none, chain) refl

    -- a connective stands there, and an operand behind it
    module _ (next : is_next s ts ≡ true) where
      some : 0 < length ts
      some = at ts next
        where
          at : (ts : List Token) → is_next s ts ≡ true → 0 < length ts
          at [] h = cc
          at (t ∷ ts) h = omega arith

      pub chain-more : (b : Formula) (after : List Token) → operand (drop 1 ts) ≡ Ok (b, after) → length after < length ts → ChainGoesOn a ts total
          → ChainGoesOn (join a b) after total
      unfolding chain
      chain-more b after read shorter c = at c.bound c.enough c.rest
        where
          at : (n : ℕ) → length ts ≤ n → chain s join operand n a ts ≡ total → ChainGoesOn (join a b) after total
          at zero enough e = absurd (omega (arith, some))
          at (suc n) enough e =
              record {
                bound = n;
                enough = omega arith;
                rest =
                    (let one : chain s join operand (suc n) a ts ≡ chain s join operand n (join a b) after = rw (next, read, chain) refl in sym one ∙ e);
              }

      pub chain-stops : (e : Refusal) → operand (drop 1 ts) ≡ Err e → ChainGoesOn a ts total → total ≡ Err e
      unfolding chain
      chain-stops e refused c = at c.bound c.enough c.rest
        where
          at : (n : ℕ) → length ts ≤ n → chain s join operand n a ts ≡ total → total ≡ Err e
          at zero enough h = absurd (omega (arith, some))
          at (suc n) enough h = let one : chain s join operand (suc n) a ts ≡ Err e = rw (next, refused, chain) refl in sym h ∙ one

-- the first operand
pub both-begins : (unary : Reader Formula) (ts after : List Token) (a : Formula) → unary ts ≡ Ok (a, after)
    → ChainGoesOn And conjunction unary a after (both unary ts)
unfolding both
both-begins unary ts after a read = record { bound = length after; enough = omega arith; rest = rw read refl }

pub either-begins : (unary : Reader Formula) (ts after : List Token) (a : Formula) → both unary ts ≡ Ok (a, after)
    → ChainGoesOn Or disjunction (both unary) a after (either unary ts)
unfolding either
either-begins unary ts after a read = record { bound = length after; enough = omega arith; rest = rw read refl }
