use Rattle.turnstile.proofs.Turns.{each_is_held, one_is_inside}
use Rattle.turnstile.proofs.laws.law_turns.Goals as goal

pub returns-clause-held : goal.returns-clause-held
returns-clause-held g c = each_is_held g.V.Recorded.entries g.V.Recorded.fixed

pub returns-clause-alone : goal.returns-clause-alone
returns-clause-alone g c = one_is_inside g.V.Recorded.entries g.V.Recorded.fixed
