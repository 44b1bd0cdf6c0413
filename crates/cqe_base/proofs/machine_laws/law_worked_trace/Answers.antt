use Rattle.cqe_base.proofs.TraceComputes.{worked_trace}
use Rattle.cqe_base.proofs.machine_laws.law_worked_trace.Goals as goal

pub returns : goal.returns
returns c = worked_trace
