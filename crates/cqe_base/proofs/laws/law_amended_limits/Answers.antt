use Rattle.cqe_base.proofs.Limits.{amended_fit_probes, small_secrets_fit}
use Rattle.cqe_base.proofs.laws.law_amended_limits.Goals as goal

pub returns-clause-probes : goal.returns-clause-probes
returns-clause-probes c = amended_fit_probes

pub returns-clause-additions : goal.returns-clause-additions
returns-clause-additions c = small_secrets_fit
