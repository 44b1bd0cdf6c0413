-- What a step adds to the cost of a search.
use Rattle.std.proofs.Common.{◌≡◌, ℕ, suc, ◌+◌, ◌-◌, ◌<◌, ◌≤◌, cond, Option, Some, None, refl, ap, ◌∙◌, arith, leb}
use Rattle.std.proofs.lemmas.Bool.{le-leb, lt-leb}
use Rattle.std.proofs.lemmas.Bool.Decides.{nat_tests}
use Rattle.cqe_base.specs.Machine.{State, Continues, Ends, End, Ended, step, end_after, with_cost, end_within, end_within_cost}
use Rattle.clause_solver.specs.Costs.{cost_within}

-- the cost of the rest within what is left
pub rest_within : (cost left : ℕ) (o : Option Ended) → cost ≤ left → cost_within left (with_cost cost o) ≡ cost + cost_within (left - cost) o
rest_within cost left None h = let e : left ≡ cost + (left - cost) = omega arith in e
rest_within cost left (Some e) h = same_choice cost e.cost left h
  where
    same_choice : (a b c : ℕ) → a ≤ c → cond (leb (a + b) c) (a + b) c ≡ a + cond (leb b (c - a)) b (c - a)
    same_choice a b c h = grind (arith, nat_tests)

-- a step at too high a cost leaves what is left
all_within : (cost left : ℕ) (o : Option Ended) → left < cost → cost_within left (with_cost cost o) ≡ left
all_within cost left None h = refl
all_within cost left (Some e) h = let more : left < cost + e.cost = omega arith in ap (λ b. cond b (cost + e.cost) left) (lt-leb (cost + e.cost) left more)

-- a step that goes on adds its cost
pub cost_went_on : (n left cost k j : ℕ) (s s' : State) → k ≡ suc j → step n s ≡ Continues cost s' → cost ≤ left
    → cost_within left (end_within n k s) ≡ cost + cost_within (left - cost) (end_within n j s')
unfolding end_within
cost_went_on n left cost k j s s' e h le =
    ap (λ m. cost_within left (end_within n m s)) e
    ∙ ap (λ x. cost_within left (end_after x (end_within n j))) h
    ∙ rest_within cost left (end_within n j s') le

-- a step that goes on at too high a cost
pub cost_went_past : (n left cost k j : ℕ) (s s' : State) → k ≡ suc j → step n s ≡ Continues cost s' → left < cost → cost_within left (end_within n k s) ≡ left
unfolding end_within
cost_went_past n left cost k j s s' e h lt =
    ap (λ m. cost_within left (end_within n m s)) e
    ∙ ap (λ x. cost_within left (end_after x (end_within n j))) h
    ∙ all_within cost left (end_within n j s') lt

-- a step that ends within the budget
pub cost_ended_within : (n left cost k j : ℕ) (s : State) (end : End) → k ≡ suc j → step n s ≡ Ends cost end → cost ≤ left
    → cost_within left (end_within n k s) ≡ cost
unfolding end_within
cost_ended_within n left cost k j s end e h le =
    ap (λ m. cost_within left (end_within n m s)) e
    ∙ ap (λ x. cost_within left (end_after x (end_within n j))) h
    ∙ ap (λ b. cond b cost left) (le-leb cost left le)

-- a step that ends past the budget
pub cost_ended_past : (n left cost k j : ℕ) (s : State) (end : End) → k ≡ suc j → step n s ≡ Ends cost end → left < cost
    → cost_within left (end_within n k s) ≡ left
unfolding end_within
cost_ended_past n left cost k j s end e h lt =
    ap (λ m. cost_within left (end_within n m s)) e
    ∙ ap (λ x. cost_within left (end_after x (end_within n j))) h
    ∙ ap (λ b. cond b cost left) (lt-leb cost left lt)

-- no step is left
pub cost_no_step : (n left k : ℕ) (s : State) → k ≡ 0 → cost_within left (end_within n k s) ≡ left
unfolding end_within
cost_no_step n left k s e = ap (λ m. cost_within left (end_within n m s)) e

-- what is left is spent
pub spent_cost : (budget left rest whole : ℕ) → left ≤ budget → rest ≡ left → budget - left + rest ≡ whole → budget ≡ whole
spent_cost budget left rest whole room all so_far = let e : budget ≡ budget - left + rest = omega arith in e ∙ so_far

-- a cost is taken from what is left
pub added_cost : (budget left cost rest next whole : ℕ) → left ≤ budget → cost ≤ left → rest ≡ cost + next → budget - left + rest ≡ whole
    → budget - (left - cost) + next ≡ whole
added_cost budget left cost rest next whole room within all so_far = let e : budget - (left - cost) + next ≡ budget - left + rest = omega arith in e ∙ so_far

-- nothing is taken from a budget yet
module _ (n budget k : ℕ) (s s' : State) (all : k ≡ budget) (begun : s ≡ s') where
  pub end_from_start : end_within_cost budget (end_within n k s) ≡ end_within_cost budget (end_within n budget s')
  end_from_start = ap (λ m. end_within_cost budget (end_within n m s)) all ∙ ap (λ t. end_within_cost budget (end_within n budget t)) begun

  pub cost_from_start : budget - budget + cost_within budget (end_within n k s) ≡ cost_within budget (end_within n budget s')
  cost_from_start =
      none (cost_within budget (end_within n k s))
      ∙ ap (λ m. cost_within budget (end_within n m s)) all ∙ ap (λ t. cost_within budget (end_within n budget t)) begun
    where
      none : (rest : ℕ) → budget - budget + rest ≡ rest
      none rest = omega arith
