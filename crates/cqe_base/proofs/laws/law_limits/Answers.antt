use Rattle.cqe_base.proofs.Limits.{limits_fit_probes, small_queries_fit}
use Rattle.cqe_base.proofs.laws.law_limits.Goals as goal

pub returns-clause-probes : goal.returns-clause-probes
returns-clause-probes c = limits_fit_probes

pub returns-clause-queries : goal.returns-clause-queries
returns-clause-queries c = small_queries_fit
