-- Signed ground formulas, and their truth where certain facts are.
use Rattle.std.specs.Prelude.{Bool, not, List}
use Rattle.std.specs.List.{list_all}
use Rattle.cqe_base.specs.declared.world.Fact.{Fact}
use Rattle.cqe_base.specs.Ground.{Ground, true_ground}
use Rattle.cqe_base.specs.Truth.{same_truth}

-- a ground formula, or with `false` beside it its negation
abbrev pub SignedGround : Type 0
SignedGround = Ground × Bool

-- whether a signed ground formula is true where these facts are
abbrev pub true_signed : (Fact → Bool) → SignedGround → Bool
true_signed facts signed = same_truth signed.1 (true_ground facts signed.0)

-- whether all of these signed ground formulas are true where certain facts are
abbrev pub all_signed_true : (Fact → Bool) → List SignedGround → Bool
all_signed_true facts formulas = list_all (true_signed facts) formulas

-- the same ground formula with the other sign
abbrev pub negated : SignedGround → SignedGround
negated signed = (signed.0, not signed.1)
