use Rattle.std.proofs.Common.{refl, sym, ◌∙◌, inl}
use Rattle.cqe_base.proofs.ClauseTruth.{same_literal-true}
use Rattle.clause_solver.proofs.watches.other_watched.Goals as goal

pub returns-then-is-clause-beside : goal.returns-then-is-clause-beside
returns-then-is-clause-beside c = inl (same_literal-true c.args.pair.now.first c.args.literal (sym c.is.ensures ∙ c.if-is.true), refl)
