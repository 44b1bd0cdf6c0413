use Rattle.cqe_base.proofs.ViewSizes.{view_size-empty}
use Rattle.cqe_base.proofs.laws.law_views_without_entries.Goals as goal

pub returns : goal.returns
returns c = view_size-empty
