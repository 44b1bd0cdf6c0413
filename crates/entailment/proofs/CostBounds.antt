-- The bound of the machine's cost grows with the variables, so a bound for more of them suffices too.
use Rattle.std.proofs.Common.{◌≡◌, ℕ, ◌+◌, ◌*◌, ◌^◌, ◌<◌, ◌≤◌, List, map, Some, None, refl, sym, ap, ◌∙◌, ◌↔◌, arith}
use Rattle.std.specs.Prelude.{nat_le, if◌then◌else◌}
use Rattle.std.proofs.lemmas.Bool.{lt-leb}
use Rattle.std.proofs.Math.Nat.{pow-le-pow_left, pow-le-pow_right}
use Rattle.cqe_base.specs.Schema.{DatabaseSchema}
use Rattle.cqe_base.specs.Entailment.{Signed}
use Rattle.cqe_base.specs.Outcome.{Outcome, Spent, outcome, grounded_signed}
use Rattle.cqe_base.specs.MachineLaws.{cost_bound, SpentIsCost, EnoughIsNeverSpent}
use Rattle.entailment.specs.Budgets.{CostsMore, NeverSpends}

times_grows : (a b c d : ℕ) → a ≤ c → b ≤ d → a * b ≤ c * d
times_grows a b c d h k = grind (arith)

pub cost_bound-grows : (m n : ℕ) → m ≤ n → cost_bound m ≤ cost_bound n
cost_bound-grows m n h =
    let base : (m + 1) ^ (m + 1) ≤ (n + 1) ^ (m + 1) = pow-le-pow_left (omega arith) (m + 1) in
    let exponent : (n + 1) ^ (m + 1) ≤ (n + 1) ^ (n + 1) = pow-le-pow_right (omega arith) (omega arith) in
    times_grows (2 * m + 1) ((m + 1) ^ (m + 1)) (2 * n + 1) ((n + 1) ^ (n + 1)) (omega arith) (omega arith)

-- from six variables on, the bound is above the highest budget
high : (n : ℕ) → 6 ≤ n → 4000000 < cost_bound n
high n h =
    let grows = cost_bound-grows 6 n h in
    let six : cost_bound 6 ≡ 10706059 = refl in
    omega arith

pub never-spends : EnoughIsNeverSpent → (variables : ℕ) → NeverSpends variables (cost_bound variables)
unfolding outcome
never-spends law variables schema premises goal budget few enough =
    let grows = cost_bound-grows _ variables few in
    law (map (grounded_signed schema) premises) (grounded_signed schema goal) budget (omega arith)

-- where an outcome is that of the probe, it is spent exactly where the search costs more than the budget
pub spent-by-cost : SpentIsCost → (schema : DatabaseSchema) (premises : List Signed) (goal : Signed) (budget : ℕ) (o : Outcome)
    → o ≡ outcome schema premises goal budget
    → (o ≡ Spent) ↔ CostsMore schema premises goal budget
unfolding outcome
spent-by-cost law schema premises goal budget o is =
    let both = law (map (grounded_signed schema) premises) (grounded_signed schema goal) budget in
    (λ h. both.0 (sym is ∙ h), λ h. is ∙ both.1 h)

-- so at a known number of variables, with its bound worked out
pub never-spends-at : EnoughIsNeverSpent → (variables known bound : ℕ) → variables ≡ known → cost_bound known ≡ bound → NeverSpends variables bound
never-spends-at law variables known bound is at schema premises goal budget few enough =
    never-spends law known schema premises goal budget (omega arith) (omega arith)

-- and from six variables on there is no such budget
pub none-above : (variables : ℕ) → 6 ≤ variables → None ≡ (if nat_le (cost_bound variables) 4000000 then Some (cost_bound variables) else None)
none-above variables h = ap (λ b. if b then Some (cost_bound variables) else None) (sym (lt-leb (cost_bound variables) 4000000 (high variables h)))
