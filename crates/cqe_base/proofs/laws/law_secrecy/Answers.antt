use Rattle.cqe_base.proofs.Secrecies.{secrecies_stay_open, liars_keep_no_secrecy}
use Rattle.cqe_base.proofs.laws.law_secrecy.Goals as goal

pub returns-clause-open : goal.returns-clause-open
returns-clause-open c = secrecies_stay_open

pub returns-clause-liars : goal.returns-clause-liars
returns-clause-liars c = liars_keep_no_secrecy
