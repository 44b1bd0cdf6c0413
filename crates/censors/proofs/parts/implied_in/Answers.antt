use Rattle.std.proofs.lemmas.Result.{IfOk-weaker}
use Rattle.censors.proofs.parts.implied_in.Goals as goal

pub returns-then-part-eq0-clause-implied : goal.returns-then-part-eq0-clause-implied
returns-then-part-eq0-clause-implied c = IfOk-weaker c.ask_implied.result _ _ (λ implied is first. is) c.ask_implied.ensures.implied

pub returns-clause-implied : goal.returns-clause-implied
returns-clause-implied c = λ first. absurd (c.if-part-eq0.false first)
