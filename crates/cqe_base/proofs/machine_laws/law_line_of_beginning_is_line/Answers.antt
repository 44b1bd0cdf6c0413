use Rattle.cqe_base.proofs.KeptTrails.{line_of_beginning_is_line}
use Rattle.cqe_base.proofs.machine_laws.law_line_of_beginning_is_line.Goals as goal

pub returns : goal.returns
returns c = line_of_beginning_is_line
