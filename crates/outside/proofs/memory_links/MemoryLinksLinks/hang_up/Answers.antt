use Rattle.outside.specs.MemoryDials.{dial_name, dial_faults}
use Rattle.outside.proofs.Dials.{exchanged_more, own_more, others_same}
use Rattle.outside.proofs.memory_links.MemoryLinksLinks.hang_up.Goals as goal

pub returns-clause-exchanged : goal.returns-clause-exchanged
returns-clause-exchanged c told = exchanged_more c.args.self.now.dials_back.items c.push_reserved.new.self.items c.args.dial c.push_reserved.ensures.items

pub returns-clause-exchange_faults : goal.returns-clause-exchange_faults
returns-clause-exchange_faults c =
    own_more dial_name dial_faults c.args.self.now.dials_back.items c.push_reserved.new.self.items c.args.dial c.push_reserved.ensures.items

pub returns-clause-other_faults : goal.returns-clause-other_faults
returns-clause-other_faults c =
    others_same dial_name dial_faults c.args.self.now.dials_back.items c.push_reserved.new.self.items c.args.dial c.push_reserved.ensures.items
