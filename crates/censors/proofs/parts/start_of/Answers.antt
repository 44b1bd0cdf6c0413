use Rattle.std.proofs.Common.{sym, ap}
use Rattle.censors.specs.Parts.{start_of}
use Rattle.censors.proofs.Parting.{start-far}
use Rattle.censors.proofs.parts.start_of.Goals as goal

pub returns-then-part-eq0 : goal.returns-then-part-eq0
returns-then-part-eq0 c = ap (start_of c.args.cut) (sym c.if-part-eq0.true)

pub returns-then-part-eq1 : goal.returns-then-part-eq1
returns-then-part-eq1 c = ap (start_of c.args.cut) (sym c.if-part-eq1.true)

pub returns-then-part-eq2 : goal.returns-then-part-eq2
returns-then-part-eq2 c = ap (start_of c.args.cut) (sym c.if-part-eq2.true)

pub returns-then-part-eq3 : goal.returns-then-part-eq3
returns-then-part-eq3 c = ap (start_of c.args.cut) (sym c.if-part-eq3.true)

pub returns : goal.returns
returns c = start-far c.args.cut c.args.part c.if-part-eq0.false c.if-part-eq1.false c.if-part-eq2.false c.if-part-eq3.false
