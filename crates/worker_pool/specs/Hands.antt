-- What a drawer of numbers knows, and how the steps change it.
use Rattle.std.specs.Prelude.{ℕ, zero, suc, ◌+◌, ◌-◌, ◌*◌, ◌^◌, cond, ltb, [], ◌∷◌, ◌++◌}
use Rattle.worker_pool.specs.declared.hand.Hand.{Hand}

-- the sum of f over the numbers below n
abbrev pub sum_below : (ℕ → ℕ) → ℕ → ℕ
sum_below f zero = 0
sum_below f (suc n) = sum_below f n + f n

-- 1 for a number below n, and else 0
abbrev pub is_below : ℕ → ℕ → ℕ
is_below n x = cond (ltb x n) 1 0

-- the first hand: all 65 parts, and 2^31 turns for each
abbrev pub first_hand : Hand
first_hand = record { parts = 65; turns = 65 * 2 ^ 31; drawn = [] }

-- what is left of a hand that was joined to another
abbrev pub spent_hand : Hand
spent_hand = record { parts = 0; turns = 0; drawn = [] }

-- a turn fewer, and one more number
abbrev pub drawing_hand : Hand → ℕ → Hand
drawing_hand hand number = record hand { turns = hand.turns - 1; drawn = hand.drawn ++ number ∷ [] }

-- one part and its turns fewer
abbrev pub remaining_hand : Hand → Hand
remaining_hand hand = record hand { parts = hand.parts - 1; turns = hand.turns - 2 ^ 31 }

-- a new hand with the part and the turns
abbrev pub split_off_hand : Hand
split_off_hand = record { parts = 1; turns = 2 ^ 31; drawn = [] }

-- both together
abbrev pub joined_hand : Hand → Hand → Hand
joined_hand hand other =
    record {
      parts = hand.parts + other.parts;
      turns = hand.turns + other.turns;
      drawn =
          hand.drawn ++ other.drawn;
    }
