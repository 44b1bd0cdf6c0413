use Rattle.serve_engine.proofs.Growing.{served_later}
use Rattle.serve_engine.proofs.laws.law_served.Goals as goal

pub returns : goal.returns
returns c = λ schema world users before after visit marks all served. served_later schema world users before after visit marks all served
