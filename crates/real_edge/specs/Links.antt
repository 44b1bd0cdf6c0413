-- What the real links show: their doors, and the dials that were hung up.
use Rattle.std.specs.Prelude.{ℕ, List}
use Rattle.outside.specs.Dials.{faults_under}
use Rattle.real_edge.specs.declared.sockets.TcpLinks.{TcpLinks}
use Rattle.real_edge.specs.Counts.{dial_name, dial_faults}

-- how often opening sockets failed, and how many doors came back that had failed
abbrev pub links_faults : {R : Type 0} → TcpLinks R → ℕ
links_faults links = links.faults

-- how many doors aren't back
abbrev pub links_out : {R : Type 0} → TcpLinks R → ℕ
links_out links = links.out

-- how many dials aren't hung up
abbrev pub links_dialling : {R : Type 0} → TcpLinks R → ℕ
links_dialling links = links.dials_out

-- the faults of the dials that were hung up, by their names
abbrev pub links_exchange_faults : {R : Type 0} → TcpLinks R → List ℕ → ℕ
links_exchange_faults links = faults_under dial_name dial_faults links.dials_back.items
