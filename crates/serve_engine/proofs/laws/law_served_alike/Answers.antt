use Rattle.serve_engine.proofs.Alike.{bytes_come_again}
use Rattle.serve_engine.proofs.laws.law_served_alike.Goals as goal

pub returns : goal.returns
returns c = bytes_come_again c.law_replies_alike.ensures
