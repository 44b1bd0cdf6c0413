use Rattle.log_journal.proofs.Walks.{journals_are_walked}
use Rattle.log_journal.proofs.laws.law_journals_are_walked.Goals as goal

pub returns : goal.returns
returns c = journals_are_walked
