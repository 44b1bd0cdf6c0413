use Rattle.outside.proofs.Dials.{own_more, others_same}
use Rattle.real_edge.specs.Counts.{dial_name, dial_faults}
use Rattle.real_edge.proofs.sockets.TcpLinksLinks.hang_up.Goals as goal

pub returns-clause-exchange_faults : goal.returns-clause-exchange_faults
returns-clause-exchange_faults g c =
    own_more dial_name dial_faults c.args.self.now.dials_back.items c.push_reserved.new.self.items c.args.dial c.push_reserved.ensures.items

pub returns-clause-other_faults : goal.returns-clause-other_faults
returns-clause-other_faults g c =
    others_same dial_name dial_faults c.args.self.now.dials_back.items c.push_reserved.new.self.items c.args.dial c.push_reserved.ensures.items
