use Rattle.user_desk.proofs.Joining.{lives_reply_as_one, lives_end_as_one, lives_stay_hidden, calls_join, spans_join}
use Rattle.user_desk.proofs.laws.law_lives_join.Goals as goal

pub returns-clause-replies : goal.returns-clause-replies
returns-clause-replies c = lives_reply_as_one

pub returns-clause-ends : goal.returns-clause-ends
returns-clause-ends c = lives_end_as_one

pub returns-clause-hidden : goal.returns-clause-hidden
returns-clause-hidden c = lives_stay_hidden

pub returns-clause-calls : goal.returns-clause-calls
returns-clause-calls c = calls_join

pub returns-clause-spans : goal.returns-clause-spans
returns-clause-spans c = spans_join
