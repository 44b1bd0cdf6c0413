use Rattle.std.proofs.Common.{◌+◌, sym, ap}
use Rattle.censors.specs.Parts.{start_of}
use Rattle.censors.proofs.Parting.{end-far}
use Rattle.censors.proofs.parts.end_of.Goals as goal

pub returns-then-part-eq0 : goal.returns-then-part-eq0
returns-then-part-eq0 c = ap (λ n. start_of c.args.cut (n + 1)) (sym c.if-part-eq0.true)

pub returns-then-part-eq1 : goal.returns-then-part-eq1
returns-then-part-eq1 c = ap (λ n. start_of c.args.cut (n + 1)) (sym c.if-part-eq1.true)

pub returns-then-part-eq2 : goal.returns-then-part-eq2
returns-then-part-eq2 c = ap (λ n. start_of c.args.cut (n + 1)) (sym c.if-part-eq2.true)

pub returns : goal.returns
returns c = end-far c.args.cut c.args.part c.if-part-eq0.false c.if-part-eq1.false c.if-part-eq2.false
