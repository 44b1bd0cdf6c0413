use Rattle.std.proofs.Common.{refl, arith}
use Rattle.entailment.proofs.CostBounds.{none-above, never-spends-at}
use Rattle.entailment.proofs.budgets.enough.Goals as goal

pub returns-in-0-clause-never_spent : goal.returns-in-0-clause-never_spent
returns-in-0-clause-never_spent c = never-spends-at c.law_enough_is_never_spent.ensures c.args.variables 0 1 c.in-0.is refl

pub returns-in-1-clause-never_spent : goal.returns-in-1-clause-never_spent
returns-in-1-clause-never_spent c = never-spends-at c.law_enough_is_never_spent.ensures c.args.variables 1 12 c.in-1.is refl

pub returns-in-2-clause-never_spent : goal.returns-in-2-clause-never_spent
returns-in-2-clause-never_spent c = never-spends-at c.law_enough_is_never_spent.ensures c.args.variables 2 135 c.in-2.is refl

pub returns-in-3-clause-never_spent : goal.returns-in-3-clause-never_spent
returns-in-3-clause-never_spent c = never-spends-at c.law_enough_is_never_spent.ensures c.args.variables 3 1792 c.in-3.is refl

pub returns-in-4-clause-never_spent : goal.returns-in-4-clause-never_spent
returns-in-4-clause-never_spent c = never-spends-at c.law_enough_is_never_spent.ensures c.args.variables 4 28125 c.in-4.is refl

pub returns-in-5-clause-never_spent : goal.returns-in-5-clause-never_spent
returns-in-5-clause-never_spent c = never-spends-at c.law_enough_is_never_spent.ensures c.args.variables 5 513216 c.in-5.is refl

pub returns-in_default-clause-bound : goal.returns-in_default-clause-bound
returns-in_default-clause-bound c = none-above c.args.variables (omega arith)
