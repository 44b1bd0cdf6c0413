-- Sums over the hands of all drawers, and over the numbers below one.
use Rattle.std.proofs.Common.{◌≡◌, ℕ, zero, suc, cond, lt-ltb, min, Bool, List, [], ◌∷◌, sum_by, refl, ap, arith}
use Rattle.std.proofs.lemmas.List.Sums.{sum_by-cons}
use Rattle.std.proofs.lemmas.Bool.{le-ltb}
use mathlib.Core.Logic.{dite}
use native.Mathlib.Decide.{dec_le}
use mathlib.Core.Option.{some}
use lib.ListN.{get_elem?}
use Rattle.worker_pool.specs.declared.hand.Hand.{Hand}
use Rattle.worker_pool.specs.Hands.{sum_below, is_below}

-- where there are no parts, and a hand without a part weighs nothing, all weigh nothing
pub sum_idle : (f : Hand → ℕ) (hands : List Hand) → sum_by (λ hand. hand.parts) hands ≡ 0
    → ((k : ℕ) (hand : Hand) → get_elem? hands k ≡ some hand → hand.parts ≡ 0 → f hand ≡ 0) → sum_by f hands ≡ 0
sum_idle f [] none idle = refl
sum_idle f (hand ∷ hands) none idle =
    let parts = sum_by-cons (λ (h : Hand). h.parts) hand hands in
    let first = idle 0 hand refl (omega arith) in
    omega (arith, sum_by-cons f hand hands, sum_idle f hands (omega arith) (λ k other at. idle (suc k) other at))

-- of the numbers below k, as many are below n as the lesser of both says
pub below_min : (n k : ℕ) → sum_below (is_below n) k ≡ min n k
below_min n zero = omega arith
below_min n (suc k) = let so_far = below_min n k in dite (dec_le (suc k) n)
    (λ less. let here : is_below n k ≡ 1 = ap (λ (b : Bool). cond b 1 0) (lt-ltb k n less) in omega (arith, so_far, here))
    (λ more. let here : is_below n k ≡ 0 = ap (λ (b : Bool). cond b 1 0) (le-ltb k n (omega arith)) in omega (arith, so_far, here))
