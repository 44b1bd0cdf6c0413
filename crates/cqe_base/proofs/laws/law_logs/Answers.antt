use Rattle.cqe_base.proofs.Logs.{log-nil, log-push}
use Rattle.cqe_base.proofs.laws.law_logs.Goals as goal

pub returns-clause-empty : goal.returns-clause-empty
returns-clause-empty c = log-nil

pub returns-clause-grows : goal.returns-clause-grows
returns-clause-grows c = log-push
