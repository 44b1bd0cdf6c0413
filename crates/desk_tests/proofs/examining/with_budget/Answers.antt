use Rattle.cqe_base.specs.History.{view_size, log, known}
use Rattle.desk_tests.proofs.examining.with_budget.Goals as goal

pub returns : goal.returns
unfolding view_size log known
returns c schema keeps = record {
  sentences = keeps.sentences;
  small_known = keeps.small_known;
  small_secrets = keeps.small_secrets;
  few_known = keeps.few_known;
  some_secret = keeps.some_secret;
  few_secrets = keeps.few_secrets;
  pairs = record { enough = keeps.pairs.enough; negated = keeps.pairs.negated };
  view = keeps.view;
  some_budget = c.requires.some;
  budget = c.requires.small;
}
