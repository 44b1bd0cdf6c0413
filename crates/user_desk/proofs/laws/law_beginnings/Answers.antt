use Rattle.user_desk.proofs.Within.{opens_where_stands}
use Rattle.user_desk.proofs.laws.law_beginnings.Goals as goal

pub returns : goal.returns
returns c = opens_where_stands
