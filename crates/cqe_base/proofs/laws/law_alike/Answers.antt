use Rattle.cqe_base.proofs.Alike.{logs_keep_secrets, countermodel_alike, legal_entries_reply_alike}
use Rattle.cqe_base.proofs.Disjunctions.{disjunction_false}
use Rattle.cqe_base.proofs.laws.law_alike.Goals as goal

pub returns-clause-kept : goal.returns-clause-kept
returns-clause-kept c = logs_keep_secrets

pub returns-clause-alike : goal.returns-clause-alike
returns-clause-alike c = countermodel_alike

pub returns-clause-replies : goal.returns-clause-replies
returns-clause-replies c = legal_entries_reply_alike

pub returns-clause-disjunctions : goal.returns-clause-disjunctions
returns-clause-disjunctions c = disjunction_false
