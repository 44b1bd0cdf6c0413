-- What a search costs.
use Rattle.std.specs.Prelude.{ℕ, nat_le, if◌then◌else◌, List, Option, Some, None}
use Rattle.cqe_base.specs.Literal.{Literal}
use Rattle.cqe_base.specs.Machine.{Ended, end_within, start}

-- the whole cost of an end, or the budget where that is less or there is no end
abbrev pub cost_within : ℕ → Option Ended → ℕ
cost_within budget None = budget
cost_within budget (Some e) = if nat_le e.cost budget then e.cost else budget

-- the machine's whole cost on the clauses, or the budget where that is less
abbrev pub cost_within_budget : List (List Literal) → ℕ → ℕ → ℕ
cost_within_budget clauses n budget = cost_within budget (end_within n budget (start clauses))
