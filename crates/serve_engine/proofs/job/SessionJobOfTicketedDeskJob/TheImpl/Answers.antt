-- A run asks what the trait does. Here the runtime's type has another number among the parameters.
use denote.Param.Send.{given_sync, param_sync}
use Rattle.serve_engine.proofs.job.SessionJobOfTicketedDeskJob.TheImpl.Goals as goal

pub run-asks : goal.run-asks
run-asks g c = record {
  room = c.requires.room;
  few = c.requires.few;
  sync = param_sync _ g.row.R (given_sync _ g.row.R c.requires.sync);
}
