use Rattle.cqe_base.proofs.Logs.{user_at-nil, secrets-push}
use Rattle.cqe_base.proofs.laws.law_added_secrets.Goals as goal

pub returns-clause-empty : goal.returns-clause-empty
returns-clause-empty c = user_at-nil

pub returns-clause-grows : goal.returns-clause-grows
returns-clause-grows c = secrets-push
