use Rattle.desk_crew.specs.Shelved.{journals_on}
use Rattle.serve_engine.proofs.Joining.{servings_are_spans, cut_servings_are_spans}
use Rattle.serve_engine.proofs.laws.law_servings_join.Goals as goal

pub returns-clause-spans : goal.returns-clause-spans
returns-clause-spans g c = λ directory. servings_are_spans (journals_on g.F.Shelf g.F.D.Disk directory c.args.before.now c.args.behind.now)

pub returns-clause-cut : goal.returns-clause-cut
returns-clause-cut g c = λ directory. cut_servings_are_spans (journals_on g.F.Shelf g.F.D.Disk directory c.args.before.now c.args.behind.now)
