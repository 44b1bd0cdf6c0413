use Rattle.cqe_base.proofs.Secrecies.{secrets_have_secrecies, pairs_are_protected, pairs_stay}
use Rattle.cqe_base.proofs.laws.law_pairs.Goals as goal

pub returns-clause-made : goal.returns-clause-made
returns-clause-made c = secrets_have_secrecies

pub returns-clause-protected : goal.returns-clause-protected
returns-clause-protected c = pairs_are_protected

pub returns-clause-stay : goal.returns-clause-stay
returns-clause-stay c = pairs_stay
