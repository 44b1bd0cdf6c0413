use Rattle.std.proofs.Common.{◌∙◌}
use Rattle.session_core.proofs.Legality.{owners_are}
use Rattle.session_core.proofs.counters.CountersOf+TicketedDesk+D.new.Goals as goal

pub invariant_of-result : goal.invariant_of-result
invariant_of-result g c = record { owned = owners_are c.args.counters.items ∙ c.requires.desks }

pub returns-clause-at : goal.returns-clause-at
returns-clause-at g c = record { are = c.requires.passes; legal = c.requires.legal }
